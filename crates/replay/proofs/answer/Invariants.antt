-- The loop of `answer`: what is answered from here on completes what was answered.
use Rattle.std.proofs.Common.{length, ◌-◌, ◌≡◌}
use Rattle.trace.proofs.Answers.{Completes}
use Rattle.replay.proofs.answer.Given as goal

abbrev pub invariant-loop-at : goal.invariant-loop-at
invariant-loop-at g l = (length l.out ≡ length l.fn.out) × Completes l.s (length l.fn.out) l.fn.replay l.replay l.at

abbrev pub decreases-loop-at : goal.decreases-loop-at
decreases-loop-at g l = length l.s - l.at
