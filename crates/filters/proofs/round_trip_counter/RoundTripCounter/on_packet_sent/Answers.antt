-- `RoundTripCounter::on_packet_sent` stores the number: as it stands.
use mathlib.Core.Path.{refl}
use Rattle.filters.specs.RoundTripCounter.{rounds_sent}
use Rattle.filters.proofs.round_trip_counter.RoundTripCounter.on_packet_sent.Goals as goal

pub returns : goal.returns
unfolding rounds_sent
returns c = refl
