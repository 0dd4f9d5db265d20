-- The loop of `answer`: what is left to sift gives the same as all.
use Rattle.std.proofs.Common.{length, ◌-◌, ◌≡◌}
use Rattle.mending.proofs.Answers.{Going}
use Rattle.mend.proofs.answer.Given as goal

abbrev pub invariant-loop-at : goal.invariant-loop-at
invariant-loop-at g l =
    (length l.out ≡ length l.fn.out) × (length l.entries ≡ length l.fn.entries) × Going l.fn.mend l.s l.mend l.at

abbrev pub decreases-loop-at : goal.decreases-loop-at
decreases-loop-at g l = length l.s - l.at
