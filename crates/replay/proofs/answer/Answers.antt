-- `answer` meets its contract.
use native.Mathlib.Omega.{arith}
use lib.ListN.{length, drop}
use lib.Seq.{length-take-le}
use mathlib.Core.List.{[]}
use mathlib.Core.Path.{sym, ◌∙◌}
use Rattle.trace.specs.Stream.{lines_from, ran_text}
use Rattle.trace.proofs.Ran.{run_fits, run_kept}
use Rattle.trace.proofs.Answers.{run_room, completes_more, completes_over, completes_past}
use Rattle.replay.proofs.answer.Goals as goal

pub returns-then-ran-at : goal.returns-then-ran-at
returns-then-ran-at g c =
    completes_over
    c.args.s.now
    (length c.args.out.now)
    c.args.replay.now
    c.loop-at.replay
    c.loop-at.at
    c.run-ran.result
    (run_room c.run-ran.result c.loop-at.replay c.args.s.now c.loop-at.at _ _ c.loop-at.invariant.0 c.run-ran.ensures.answers)
    c.if-ran-at.true
    c.loop-at.invariant.1

pub slice_bounds-write_all-end : goal.slice_bounds-write_all-end
slice_bounds-write_all-end g c =
    omega (
      arith,
      run_fits c.run-ran.result c.loop-at.replay (lines_from [] (drop c.loop-at.at c.args.s.now)) c.loop-at.at (length c.loop-at.out) c.run-ran.ensures.answers,
      run_kept c.loop-at.out _ (ran_text c.loop-at.replay (lines_from [] (drop c.loop-at.at c.args.s.now)) 0 (length c.loop-at.out)) c.run-ran.ensures.writes,
    )

pub slice_bounds-write_all-end-in-loop-at : goal.slice_bounds-write_all-end-in-loop-at
slice_bounds-write_all-end-in-loop-at g c = sym (length-take-le _ _ (slice_bounds-write_all-end g c))

pub loop-at-preserved : goal.loop-at-preserved
loop-at-preserved g c = (
  run_kept c.loop-at.out _ (ran_text c.loop-at.replay (lines_from [] (drop c.loop-at.at c.args.s.now)) 0 (length c.loop-at.out)) c.run-ran.ensures.writes ∙ c.loop-at.invariant.0,
  completes_more
      c.args.s.now
      (length c.args.out.now)
      c.args.replay.now
      c.loop-at.replay
      c.loop-at.at
      c.run-ran.result
      (run_room c.run-ran.result c.loop-at.replay c.args.s.now c.loop-at.at _ _ c.loop-at.invariant.0 c.run-ran.ensures.answers)
      c.if-ran-at.false
      c.loop-at.invariant.1,
)

pub returns-after-loop-at : goal.returns-after-loop-at
returns-after-loop-at g c =
    completes_past
    c.args.s.now
    (length c.args.out.now)
    c.args.replay.now
    c.loop-at.replay
    c.loop-at.at
    c.loop-at-test.false
    c.loop-at.invariant.1
