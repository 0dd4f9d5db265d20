-- The loop of `read_line`: the number that is read is always one of 16.
use Rattle.std.proofs.Common.{◌<◌}
use Rattle.answers.proofs.list.read_line.Given as goal

abbrev pub invariant-loop-b : goal.invariant-loop-b
invariant-loop-b l = l.last < 16
