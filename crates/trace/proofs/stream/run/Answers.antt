-- `run` meets its contract: what is left to answer gives the same as all (proofs/Streams.antt).
use Rattle.std.proofs.Common.{arith}
use Rattle.rows.proofs.Rows.{row_few}
use Rattle.trace.proofs.Streams.{run_past, run_full, run_over, done_next}
use Rattle.trace.proofs.stream.run.Goals as goal

pub loop-ran-preserved : goal.loop-ran-preserved
loop-ran-preserved c =
    let d = c.loop-ran.invariant.0 in
    (done_next _ _ _ _ _ _ _ _ d c.end_of-end.result c.end_of-end.ensures (omega arith) (omega arith) c.step-stepped.result c.step-stepped.ensures _ c.put_row.result c.put_row.ensures, omega (arith, row_few c.step-stepped.result.row))

pub returns-else-out-ran-ge148-clause-answers : goal.returns-else-out-ran-ge148-clause-answers
returns-else-out-ran-ge148-clause-answers c = (run_full _ _ _ _ _ _ _ _ c.loop-ran.invariant.0 (omega (arith, c.loop-ran.invariant.0.same))).0

pub returns-else-out-ran-ge148-clause-writes : goal.returns-else-out-ran-ge148-clause-writes
returns-else-out-ran-ge148-clause-writes c = (run_full _ _ _ _ _ _ _ _ c.loop-ran.invariant.0 (omega (arith, c.loop-ran.invariant.0.same))).1

pub returns-after-loop-ran-clause-answers : goal.returns-after-loop-ran-clause-answers
returns-after-loop-ran-clause-answers c = (run_past _ _ _ _ _ _ _ _ c.loop-ran.invariant.0 (omega arith)).0

pub returns-after-loop-ran-clause-writes : goal.returns-after-loop-ran-clause-writes
returns-after-loop-ran-clause-writes c = (run_past _ _ _ _ _ _ _ _ c.loop-ran.invariant.0 (omega arith)).1

pub returns-then-s-end-clause-answers : goal.returns-then-s-end-clause-answers
returns-then-s-end-clause-answers c = (run_over _ _ _ _ _ _ _ _ c.loop-ran.invariant.0 c.end_of-end.result c.end_of-end.ensures (omega arith)).0

pub returns-then-s-end-clause-writes : goal.returns-then-s-end-clause-writes
returns-then-s-end-clause-writes c = (run_over _ _ _ _ _ _ _ _ c.loop-ran.invariant.0 c.end_of-end.result c.end_of-end.ensures (omega arith)).1
