-- The call that a line of a trace makes: document 02, request j. Start: `BBRv2NetworkModel::new`. Send:
-- `on_packet_sent`. Event: `on_congestion_event_start` and, "An accepted event is followed by its finish",
-- `on_congestion_event_finish`, with the record as it came back.
use Rattle.std.specs.Prelude.{ℕ, Bool, true, false, List, [], ◌∷◌, eqb, Option, None, Some}
use Rattle.units.specs.declared.bandwidth.Bandwidth.{Bandwidth}
use Rattle.std.specs.Float.{binary32}
use Rattle.std.specs.Float.Ieee.{of_bits}
use Rattle.units.specs.declared.time.Duration.{Duration}
use Rattle.units.specs.declared.time.Moment.{Moment}
use Rattle.state.specs.declared.network_model.NetworkModel.{NetworkModel}
use Rattle.state.specs.declared.params.Params.{Params}
use Rattle.state.specs.declared.congestion_event.CongestionEvent.{CongestionEvent}
use Rattle.state.specs.declared.congestion_event.CongestionEventSample.{CongestionEventSample}
use Rattle.state.specs.declared.congestion_event.SendTimeState.{SendTimeState}
use Rattle.state.specs.Answers.{settled}
use Rattle.state.specs.NetworkModel.{start_number}
use Rattle.events.specs.Event.{event_number, event_next, model_next, finish_next}
use Rattle.text.specs.declared.line.Event.{Event}

-- "Whole output, at beta 0.3": the original's own parameters, its `DEFAULT_PARAMS`
abbrev pub params : Params
params =
    record {
      -- 0.3, 0.015, 0.15, 1.25, 2.0 and 2.773, as an f32 each
      beta = of_bits binary32 0x3e99_999a;
      loss = of_bits binary32 0x3c75_c28f;
      headroom = of_bits binary32 0x3e19_999a;
      growth = of_bits binary32 0x3fa0_0000;
      cwnd = of_bits binary32 0x4000_0000;
      pacing = of_bits binary32 0x4031_78d5;
      rounds = 3;
      queueing = 0;
      -- 10 s and 2 s
      period = record { 0 = 10_000_000_000 };
      base = record { 0 = 2_000_000_000 };
      ignore = true;
    }

abbrev pub moment : ℕ → Moment
moment n = record { 0 = n }

abbrev pub duration : ℕ → Duration
duration n = record { 0 = n }

-- whether a start is accepted
unfoldable pub begins : (time rtt : ℕ) → Bool
begins time rtt = eqb (start_number params (duration rtt) (moment time)) 0

-- "empty for none"
abbrev pub rate_of : Option ℕ → Option Bandwidth
rate_of None = None
rate_of (Some n) = Some (record { 0 = n })

abbrev pub length_of : Option ℕ → Option Duration
length_of None = None
length_of (Some n) = Some (duration n)

-- "the one number acked"
abbrev pub acked_by : Option ℕ → List ℕ
acked_by None = []
acked_by (Some n) = n ∷ []

-- "send state not valid"
abbrev pub no_state : SendTimeState
no_state = record { valid = false; applimited = false; acked = 0; inflight = 0 }

-- the event's record before the call: its moment, the window, the bytes in flight before it, and whether it probes.
-- All else is 0, no or unset: the call fills it in
unfoldable pub record_of : Event → CongestionEvent
record_of e =
    record {
      time = moment e.time;
      window = e.cwnd;
      prior = e.inflight;
      inflight = 0;
      acked = 0;
      lost = 0;
      ended = false;
      probing = e.probing;
      bandwidth = None;
      rtt = None;
      state = no_state;
    }

-- "acked and lost are totals"; "An event's other inputs: extra acked and largest inflight 0, no rates, send state not
-- valid, not app-limited"
unfoldable pub sample_of : Event → CongestionEventSample
sample_of e =
    record {
      bandwidth = rate_of e.bw;
      send = None;
      ack = None;
      applimited = false;
      rtt = length_of e.rtt;
      inflight = 0;
      extra = 0;
      state = no_state;
      totals = record { acked = e.acked; lost = e.lost };
    }

-- ---- an event on a model: the number of its reply, the record and the model after it, and the model after its
-- finish
unfoldable pub occurs_number : NetworkModel → Event → ℕ
occurs_number m e = event_number m params (record_of e) (sample_of e) (acked_by e.number)

unfoldable pub record_after : NetworkModel → Event → CongestionEvent
record_after m e = event_next m (record_of e) (sample_of e) (acked_by e.number)

unfoldable pub started_model : NetworkModel → Event → NetworkModel
started_model m e = model_next m params (record_of e) (sample_of e) (acked_by e.number)

unfoldable pub occurs_next : NetworkModel → Event → NetworkModel
occurs_next m e = finish_next (started_model m e) (record_after m e)

-- whether it is done and a round ended with it
unfoldable pub ends_round : NetworkModel → Event → Bool
ends_round m e = settled (occurs_number m e) (record_after m e).ended false
