-- `new` meets its contract.
use Rattle.std.proofs.Common.{rules}
use Prim.Native.Nat.{◌<◌}
use mathlib.Core.Bool.{true}
use mathlib.Core.Path.{◌≡◌}
use lib.ListN.{length}
use native.Mathlib.Omega.{arith}
use Rattle.std.proofs.lemmas.Bool.Decides.{nat_tests}
use Rattle.text.specs.Number.{leads}
use Rattle.text.proofs.Numbers.{cell_empty, cell_zero, leads_one, leads_other, cell_number, cell_other}
use Rattle.text.proofs.number.Cell.new.Goals.{in_default-via-then-s-lt2, in_default-via-else-s-lt2+in_default-1}
use Rattle.text.proofs.number.Cell.new.Goals as goal

pub returns-in-empty : goal.returns-in-empty
returns-in-empty c = cell_empty c.args.s.now (omega arith)

pub returns-in-48 : goal.returns-in-48
returns-in-48 c = cell_zero c.args.s.now c.in-48.len_at_least (search rules)

pub returns-in-Some : goal.returns-in-Some
returns-in-Some c =
    let n : 0 < length c.args.s.now = grind (arith, nat_tests) in
    let l : leads c.args.s.now ≡ true = elim c.in_default.branch [
      | in_default-via-then-s-lt2 w ↦ leads_one c.args.s.now (grind (arith, nat_tests))
      | in_default-via-else-s-lt2+in_default-1 w ↦ leads_other c.args.s.now (λ z. omega arith) (search rules)
    ] in cell_number c.args.s.now c.in-Some.n n l (search rules)

pub returns-in-None : goal.returns-in-None
returns-in-None c = cell_other c.args.s.now (grind (arith, nat_tests)) (search rules)
