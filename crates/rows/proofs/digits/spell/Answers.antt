-- `spell` meets its contract: the digits still to come, and those that stand.
use Rattle.std.proofs.Common.{◌≡◌, arith, ◌+◌, ◌-◌, ◌∙◌, sym}
use Rattle.rows.specs.Digits.{digits_of}
use Rattle.rows.proofs.Decimals.{spell_next}
use lib.ListN.{length-set}
use Rattle.rows.proofs.digits.spell.Goals as goal

pub loop-i-preserved : goal.loop-i-preserved
loop-i-preserved c =
    let l = c.loop-i in
    let q : l.i - 1 + 1 ≡ l.i = omega arith in
    (simp length-set l.invariant.0, rw (← q) at l.invariant.1 ∙ spell_next l.out (l.i - 1) l.rest (omega arith))

pub returns : goal.returns
unfolding digits_of
returns c = let q : c.loop-i.i ≡ 0 = omega arith in sym (rw q at c.loop-i.invariant.1)
