-- An event's record and what the sampler says to it (src/congestion_event.rt): document 01, "Replies and bounds", the
-- bounds of what is handed in. All numbers are tested, those of a send state that is not valid too.
use Rattle.std.specs.Prelude.{Bool, true, ◌&&◌, List, [], ◌∷◌, Option, None, Some}
use Rattle.units.specs.declared.time.Duration.{Duration}
use Rattle.state.specs.Bounds.{all, bytes_ok, total_ok, moment_ok, length_ok, maybe_ok}
use Rattle.state.specs.Parts.{totals_ok}
use Rattle.state.specs.declared.congestion_event.CongestionEvent.{CongestionEvent}
use Rattle.state.specs.declared.congestion_event.CongestionEventSample.{CongestionEventSample}
use Rattle.state.specs.declared.congestion_event.SendTimeState.{SendTimeState}

abbrev pub maybe_length_ok : Option Duration → Bool
maybe_length_ok None = true
maybe_length_ok (Some d) = length_ok d

abbrev pub state_ok : SendTimeState → Bool
state_ok t = total_ok t.acked && bytes_ok t.inflight

unfoldable pub event_tests : CongestionEvent → List Bool
event_tests e =
    moment_ok e.time
    ∷ bytes_ok e.window
    ∷ bytes_ok e.prior
    ∷ bytes_ok e.inflight
    ∷ total_ok e.acked
    ∷ total_ok e.lost
    ∷ maybe_ok e.bandwidth
    ∷ maybe_length_ok e.rtt
    ∷ state_ok e.state
    ∷ []

abbrev pub event_ok : CongestionEvent → Bool
event_ok e = all (event_tests e)

unfoldable pub sample_tests : CongestionEventSample → List Bool
sample_tests s =
    maybe_ok s.bandwidth
    ∷ maybe_ok s.send
    ∷ maybe_ok s.ack
    ∷ maybe_length_ok s.rtt
    ∷ bytes_ok s.inflight
    ∷ bytes_ok s.extra
    ∷ state_ok s.state
    ∷ totals_ok s.totals
    ∷ []

abbrev pub sample_ok : CongestionEventSample → Bool
sample_ok s = all (sample_tests s)
