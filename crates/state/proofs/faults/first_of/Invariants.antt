-- `first_of` goes past what is no fault: the first of what is left is the first of all.
use Rattle.std.proofs.Common.{◌≡◌, drop}
use Rattle.state.specs.Faults.{first}
use Rattle.state.proofs.faults.first_of.Given as goal

abbrev pub invariant-loop-fault : goal.invariant-loop-fault
invariant-loop-fault l = first (drop l.fault-index l.faults) ≡ first l.faults
