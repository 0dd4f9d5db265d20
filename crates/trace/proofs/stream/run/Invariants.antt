-- `run` meets its contract: what is left to answer gives the same as all (proofs/Streams.antt).
use Rattle.trace.proofs.Streams.{Done}
use Rattle.std.proofs.Common.{length, ◌-◌, ◌≤◌}
use Rattle.trace.proofs.stream.run.Given as goal

abbrev pub invariant-loop-ran : goal.invariant-loop-ran
invariant-loop-ran l =
    (Done l.initial.ran.replay l.s l.from l.initial.out l.out l.ran.replay l.ran.at l.ran.written)
    × (l.ran.written ≤ length l.initial.out)

abbrev pub decreases-loop-ran : goal.decreases-loop-ran
decreases-loop-ran l = length l.s - l.ran.at
