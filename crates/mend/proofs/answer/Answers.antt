-- `answer` meets its contract: what is left to sift gives the same as all.
use native.Mathlib.Omega.{arith}
use lib.Seq.{length-take-le}
use mathlib.Core.Path.{sym, ◌∙◌}
use Rattle.mending.proofs.Answers.{run_kept_fits, run_listed_fits, run_out_same, run_list_same, going_more, gone_over, gone_past}
use Rattle.mend.proofs.answer.Goals as goal

pub returns-then-sifted-at : goal.returns-then-sifted-at
returns-then-sifted-at g c =
    gone_over
    c.args.mend.now
    c.args.s.now
    c.loop-at.mend
    c.loop-at.at
    c.sift-sifted.result
    c.loop-at.out
    _
    c.loop-at.entries
    _
    c.sift-sifted.ensures
    c.loop-at.invariant.2
    (omega (arith, c.requires.0, c.loop-at.invariant.0))
    (omega (arith, c.requires.1, c.loop-at.invariant.1))
    c.if-sifted-at.true

pub slice_bounds-write_both-end : goal.slice_bounds-write_both-end
slice_bounds-write_both-end g c =
    omega (
      arith,
      run_kept_fits c.loop-at.mend c.args.s.now c.loop-at.at c.sift-sifted.result c.loop-at.out _ c.loop-at.entries _ c.sift-sifted.ensures,
      run_out_same c.loop-at.mend c.args.s.now c.loop-at.at c.sift-sifted.result c.loop-at.out _ c.loop-at.entries _ c.sift-sifted.ensures,
    )

pub slice_bounds-write_both-end-in-loop-at : goal.slice_bounds-write_both-end-in-loop-at
slice_bounds-write_both-end-in-loop-at g c = sym (length-take-le _ _ (slice_bounds-write_both-end g c))

pub slice_bounds-write_both-end-in-loop-at-2 : goal.slice_bounds-write_both-end-in-loop-at-2
slice_bounds-write_both-end-in-loop-at-2 g c =
    omega (
      arith,
      run_listed_fits c.loop-at.mend c.args.s.now c.loop-at.at c.sift-sifted.result c.loop-at.out _ c.loop-at.entries _ c.sift-sifted.ensures,
      run_list_same c.loop-at.mend c.args.s.now c.loop-at.at c.sift-sifted.result c.loop-at.out _ c.loop-at.entries _ c.sift-sifted.ensures,
    )

pub slice_bounds-write_both-end-in-loop-at-3 : goal.slice_bounds-write_both-end-in-loop-at-3
slice_bounds-write_both-end-in-loop-at-3 g c = sym (length-take-le _ _ (slice_bounds-write_both-end-in-loop-at-2 g c))

pub loop-at-preserved : goal.loop-at-preserved
loop-at-preserved g c = (
  run_out_same c.loop-at.mend c.args.s.now c.loop-at.at c.sift-sifted.result c.loop-at.out _ c.loop-at.entries _ c.sift-sifted.ensures ∙ c.loop-at.invariant.0,
  run_list_same c.loop-at.mend c.args.s.now c.loop-at.at c.sift-sifted.result c.loop-at.out _ c.loop-at.entries _ c.sift-sifted.ensures ∙ c.loop-at.invariant.1,
  going_more
      c.args.mend.now
      c.args.s.now
      c.loop-at.mend
      c.loop-at.at
      c.sift-sifted.result
      c.loop-at.out
      _
      c.loop-at.entries
      _
      c.sift-sifted.ensures
      c.loop-at.invariant.2,
)

pub returns-after-loop-at : goal.returns-after-loop-at
returns-after-loop-at g c = gone_past c.args.mend.now c.args.s.now c.loop-at.mend c.loop-at.at c.loop-at.invariant.2 c.loop-at-test.false
