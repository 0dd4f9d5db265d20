-- `last` meets its contract.
use Rattle.std.proofs.Common.{rules}
use native.Mathlib.Omega.{arith}
use lib.Seq.{length-take-le}
use mathlib.Core.Path.{sym}
use Rattle.std.specs.Prelude.{Result, Ok, Err, OnOk}
use Rattle.mending.proofs.Answers.{last_none, last_some}
use Rattle.mending.proofs.Lines.{kept_few, kept_text_few, list_text_few}
use Rattle.mend.proofs.last.Goals as goal

on_ok : {T E P : Type 0} (r : Result T E) → P → OnOk r P
on_ok (Ok x) p = p
on_ok (Err e) p = tt

pub returns-then-is_empty : goal.returns-then-is_empty
returns-then-is_empty g c = last_none _ _ (search rules)

pub put_sorted-ends-requires : goal.put_sorted-ends-requires
put_sorted-ends-requires g c =
    (kept_few c.args.mend.now _ c.take-sorted.result c.take-sorted.ensures, omega (arith, c.requires.0), omega (arith, c.requires.1))

pub slice_bounds-write_both-end : goal.slice_bounds-write_both-end
slice_bounds-write_both-end g c =
    omega (
      arith,
      c.put_sorted-ends.ensures.keeps.next,
      c.put_sorted-ends.ensures.keeps.kept,
      kept_text_few c.args.mend.now c.args.s.now c.take-sorted.result c.take-sorted.ensures,
      c.requires.0,
    )

pub slice_bounds-write_both-end-2 : goal.slice_bounds-write_both-end-2
slice_bounds-write_both-end-2 g c = sym (length-take-le _ _ (slice_bounds-write_both-end g c))

pub slice_bounds-write_both-end-3 : goal.slice_bounds-write_both-end-3
slice_bounds-write_both-end-3 g c =
    omega
    (arith, c.put_sorted-ends.ensures.lists.next, c.put_sorted-ends.ensures.lists.kept, list_text_few c.take-sorted.result, c.requires.1)

pub slice_bounds-write_both-end-4 : goal.slice_bounds-write_both-end-4
slice_bounds-write_both-end-4 g c = sym (length-take-le _ _ (slice_bounds-write_both-end-3 g c))

pub returns : goal.returns
returns g c = on_ok c.write_both.result (last_some _ _ _ (search rules) c.take-sorted.ensures)
