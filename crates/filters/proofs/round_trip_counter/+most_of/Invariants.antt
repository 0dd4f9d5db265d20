-- `most_of`, which calls itself, meets its contract: the fold of a half, then of the other from there. The measure is the length.
use Rattle.std.proofs.Common.{length}
use Rattle.filters.proofs.round_trip_counter.+most_of.Given as goal

abbrev pub decreases-most_of : goal.decreases-most_of
decreases-most_of l = length l.numbers.now
