-- `RoundTripCounter::restart_round` sets the end: as it stands.
use mathlib.Core.Path.{refl}
use Rattle.filters.specs.RoundTripCounter.{rounds_restart}
use Rattle.filters.proofs.round_trip_counter.RoundTripCounter.restart_round.Goals as goal

pub returns : goal.returns
unfolding rounds_restart
returns c = refl
