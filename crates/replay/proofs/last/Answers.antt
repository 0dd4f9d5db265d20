-- `last` meets its contract.
use Rattle.std.proofs.Common.{rules}
use native.Mathlib.Omega.{arith}
use lib.Seq.{length-take-le}
use mathlib.Core.Path.{sym, ap}
use Rattle.std.specs.Prelude.{Result, Ok, Err, OnOk}
use Rattle.trace.specs.declared.replay.Stepped.{Stepped}
use Rattle.trace.proofs.Answers.{last_none, last_some}
use Rattle.rows.proofs.Rows.{row_few}
use Rattle.replay.proofs.last.Goals as goal

on_ok : {T E P : Type 0} (r : Result T E) → P → OnOk r P
on_ok (Ok x) p = p
on_ok (Err e) p = tt

pub returns-then-is_empty : goal.returns-then-is_empty
returns-then-is_empty g c = last_none _ _ (search rules)

pub slice_bounds-write_all-end : goal.slice_bounds-write_all-end
slice_bounds-write_all-end g c = omega (arith, c.requires, c.put_row-n.ensures.next, c.put_row-n.ensures.kept, row_few c.step-stepped.result.row)

pub slice_bounds-write_all-end-2 : goal.slice_bounds-write_all-end-2
slice_bounds-write_all-end-2 g c = sym (length-take-le _ _ (slice_bounds-write_all-end g c))

pub returns : goal.returns
returns g c = on_ok c.write_all.result (last_some _ _ _ (search rules) (ap (λ (x : Stepped). x.replay) c.step-stepped.ensures))
