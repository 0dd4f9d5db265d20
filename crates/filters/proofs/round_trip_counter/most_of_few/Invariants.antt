-- `most_of_few` is a fold. The invariant: the fold of what is left, from the greatest so far, is the fold of all.
use Rattle.std.proofs.Common.{◌≡◌, drop}
use Rattle.filters.specs.RoundTripCounter.{most_of}
use Rattle.filters.proofs.round_trip_counter.most_of_few.Given as goal

abbrev pub invariant-loop-number : goal.invariant-loop-number
invariant-loop-number l = most_of l.most (drop l.number-index l.numbers) ≡ most_of l.first l.numbers
