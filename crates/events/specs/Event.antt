-- One event, in order: document 01, "One event, in order"; network_model.rs, on_congestion_event_start and
-- adapt_lower_bounds in BwLoMode::Default. Document 02, request i: the Rust decides over events that pass row 10. m is
-- the model before the event, e the event as handed in, s what the sampler says to it, and `acked` the packet numbers
-- acked.
--
-- The way of an event. Check: the table's rows (`event_rows`). Round: whether one ends (`rounds_ended`,
-- `rounds_acked`). Sample: the event itself, the filters and the round's sums (`event_after`, `maxbw_next`,
-- `minrtt_after`, `round_next`). Bounds: the lower ones, then the latest (`adapt_lower_bounds`, `latest_after`).
-- Settle: all is stored (`model_after`). Last on the page three events are worked out, step by step.
use Rattle.std.specs.Prelude.{ℕ, min, max, ◌+◌, ◌-◌, ◌*◌, ◌^◌, Bool, true, false, cond, not, ◌&&◌, ◌||◌, List, [], ◌∷◌, ltb, leb, eqb, Float, Option, None, Some}
use Rattle.units.specs.declared.time.Duration.{Duration}
use Rattle.std.specs.Float.{binary32}
use Rattle.std.specs.Float.Ieee.{of_bits}
use Rattle.units.specs.declared.bandwidth.Bandwidth.{Bandwidth}
use Rattle.filters.specs.declared.max_bandwidth_filter.MaxBandwidthFilter.{MaxBandwidthFilter}
use Rattle.filters.specs.declared.min_rtt_filter.MinRttFilter.{MinRttFilter}
use Rattle.filters.specs.declared.round_trip_counter.RoundTripCounter.{RoundTripCounter}
use Rattle.units.specs.declared.time.Moment.{Moment}
use Rattle.units.specs.Bandwidth.{larger_of, times_f32}
use Rattle.filters.specs.MaxBandwidthFilter.{max_get, max_update}
use Rattle.filters.specs.MinRttFilter.{min_update}
use Rattle.filters.specs.RoundTripCounter.{rounds_sent, rounds_acked, rounds_ended, rounds_full}
use Rattle.units.specs.Time.{is_before}
use Rattle.numbers.specs.Scaling.{scaled, complement}
use Rattle.state.specs.declared.network_model.NetworkModel.{NetworkModel}
use Rattle.state.specs.declared.params.Params.{Params}
use Rattle.state.specs.declared.parts.Latest.{Latest}
use Rattle.state.specs.declared.parts.Lower.{Lower}
use Rattle.state.specs.declared.parts.Round.{Round}
use Rattle.state.specs.declared.refusals.Rows.{Rows}
use Rattle.state.specs.NetworkModel.{model_ok, with_rounds, with_round, with_begun, one, start_model, given_rows}
use Rattle.state.specs.Params.{params_ok}
use Rattle.state.specs.declared.congestion_event.CongestionEvent.{CongestionEvent}
use Rattle.state.specs.declared.congestion_event.CongestionEventSample.{CongestionEventSample}
use Rattle.state.specs.declared.congestion_event.SendTimeState.{SendTimeState}
use Rattle.state.specs.CongestionEvent.{event_ok, sample_ok}
use Rattle.state.specs.Parts.{round_new}
use Rattle.state.specs.Refusals.{no_rows, stored, argument, earlier, lower, unsent, full, is_full_counter, first_of}

-- "bytes acked and lost"
abbrev pub bytes_acked : NetworkModel → CongestionEventSample → ℕ
bytes_acked m s = s.totals.acked - m.totals.acked

abbrev pub bytes_lost : NetworkModel → CongestionEventSample → ℕ
bytes_lost m s = s.totals.lost - m.totals.lost

-- "cwnd-limited flag if extra acked is 0 (prior inflight >= prior window)"
unfoldable pub cwndlimited_after : Bool → ℕ → ℕ → ℕ → Bool
cwndlimited_after was extra prior window = cond (eqb extra 0) (leb window prior) was

-- "last send state if valid"
unfoldable pub state_after : SendTimeState → SendTimeState → SendTimeState
state_after was new = cond new.valid new was

-- "only if total acked changed"
abbrev pub is_changed : NetworkModel → CongestionEventSample → Bool
is_changed m s = not (eqb m.totals.acked s.totals.acked)

-- "max filter (only if total acked changed, and only if not app-limited or the sample is above the present maximum)"
abbrev pub maxbw_after : MaxBandwidthFilter → Option Bandwidth → Bool → Bool → MaxBandwidthFilter
maxbw_after f None changed limited = f
maxbw_after f (Some b) changed limited = cond (changed && (not limited || ltb (max_get f).0 b.0)) (max_update f b) f

-- the record takes the sample if total acked changed
abbrev pub bandwidth_after : Option Bandwidth → Option Bandwidth → Bool → Option Bandwidth
bandwidth_after was None changed = was
bandwidth_after was (Some b) changed = cond changed (Some b) was

-- "min RTT"; the record takes the sample
abbrev pub minrtt_after : MinRttFilter → Option Duration → Moment → MinRttFilter
minrtt_after f None now = f
minrtt_after f (Some d) now = min_update f d now

abbrev pub rtt_after : Option Duration → Option Duration → Option Duration
rtt_after was None = was
rtt_after was (Some d) = Some d

-- "loss sums (event count +1 if bytes lost > 0); delivered maximum; minimum inflight"
unfoldable pub delivered_by : SendTimeState → ℕ → ℕ → ℕ
delivered_by t acked total = cond (ltb 0 acked && t.valid && ltb t.acked total) (total - t.acked) 0

unfoldable pub round_after : Round → ℕ → ℕ → ℕ → Round
round_after r lost delivered inflight =
    record {
      lost = cond (ltb 0 lost) (r.lost + lost) r.lost;
      losses = cond (ltb 0 lost) (r.losses + 1) r.losses;
      delivered = max r.delivered delivered;
      mininflight = min r.mininflight inflight;
      hilimited = r.hilimited;
    }

-- "raise the latest bandwidth and inflight"
abbrev pub raised_bandwidth : Bandwidth → Option Bandwidth → Bandwidth
raised_bandwidth was None = was
raised_bandwidth was (Some b) = larger_of was b

unfoldable pub latest_raised : Latest → CongestionEventSample → Latest
latest_raised l s =
    record {
      bandwidth = raised_bandwidth l.bandwidth s.bandwidth;
      inflight = max l.inflight s.inflight;
    }

-- "Lower bounds act only at a round's end, when not probing, with bytes lost in the round above 0"
abbrev pub acts : Bool → Bool → ℕ → Bool
acts ended probing lost = ended && not probing && ltb 0 lost

-- "unset, it takes the maximum"
abbrev pub seed_of : Option Bandwidth → Bandwidth → Bandwidth
seed_of None most = most
seed_of (Some lo) most = lo

-- "inflight_lo: unset, it takes the prior window"
abbrev pub start_of : ℕ → ℕ → ℕ
start_of lo window = cond (eqb lo (2 ^ 64 - 1)) window lo

-- "then it becomes max(latest, lo x b)"; of inflight_lo, "then max(latest, scale(lo, b))". b is the f32 1 - beta
unfoldable pub lower_reduced : Lower → Bandwidth → Latest → ℕ → Float → Lower
lower_reduced l most latest window b =
    record {
      bandwidth = Some (larger_of latest.bandwidth (times_f32 (seed_of l.bandwidth most) b));
      inflight = max latest.inflight (scaled (start_of l.inflight window) b);
    }

unfoldable pub lower_after : Lower → Bool → Bandwidth → Latest → ℕ → Float → Lower
lower_after l reduces most latest window beta = cond reduces (lower_reduced l most latest window (complement beta)) l

abbrev pub newest_of : ℕ → ℕ → ℕ
newest_of was sample = cond (ltb 0 sample) sample was

-- "then, at a round's end only, latest bandwidth takes the sample if there is one and latest inflight the sample if
-- above 0"
unfoldable pub latest_after : Latest → Bool → CongestionEventSample → Latest
latest_after l ended s =
    cond ended
    (record { bandwidth = seed_of s.bandwidth l.bandwidth; inflight = newest_of l.inflight s.inflight })
    l

-- ---- the record after the event; `ended` says whether a round ended
unfoldable pub event_after : NetworkModel → CongestionEvent → CongestionEventSample → Bool → CongestionEvent
event_after m e s ended =
    record {
      time = e.time;
      window = e.window;
      prior = e.prior;
      inflight = e.prior - bytes_acked m s - bytes_lost m s;
      acked = bytes_acked m s;
      lost = bytes_lost m s;
      ended = ended;
      probing = e.probing;
      bandwidth = bandwidth_after e.bandwidth s.bandwidth (is_changed m s);
      rtt = rtt_after e.rtt s.rtt;
      state = state_after e.state s.state;
    }

unfoldable pub event_next : NetworkModel → CongestionEvent → CongestionEventSample → List ℕ → CongestionEvent
event_next m e s acked = event_after m e s (rounds_ended m.rounds acked)

-- ---- the model after the event, from the record after it: the round's count and end first
unfoldable pub maxbw_next : NetworkModel → CongestionEventSample → MaxBandwidthFilter
maxbw_next m s = maxbw_after m.maxbw s.bandwidth (is_changed m s) s.applimited

unfoldable pub round_next : NetworkModel → CongestionEvent → CongestionEventSample → Round
round_next m after s =
    let delivered = delivered_by after.state after.acked s.totals.acked in
    round_after m.round after.lost delivered after.inflight

unfoldable pub adapt_lower_bounds : NetworkModel → Params → (after : CongestionEvent) → CongestionEventSample →
    MaxBandwidthFilter → (lost : ℕ) → Lower
adapt_lower_bounds m p after s most lost =
    let reduces = acts after.ended after.probing lost in
    lower_after m.lower reduces (max_get most) (latest_raised m.latest s) after.window p.beta

unfoldable pub model_after : NetworkModel → Params → (after : CongestionEvent) → CongestionEventSample →
    RoundTripCounter → NetworkModel
model_after m p after s counter =
    record {
      rounds = counter;
      maxbw = maxbw_next m s;
      minrtt = minrtt_after m.minrtt s.rtt after.time;
      round = round_next m after s;
      latest = latest_after (latest_raised m.latest s) after.ended s;
      lower = adapt_lower_bounds m p after s (maxbw_next m s) (round_next m after s).lost;
      high = m.high;
      gains = m.gains;
      cwndlimited = cwndlimited_after m.cwndlimited s.extra after.prior after.window;
      growth = m.growth;
      rates = record { send = s.send; ack = s.ack };
      totals = s.totals;
      moment = after.time;
      begun = m.begun;
    }

unfoldable pub model_next : NetworkModel → Params → CongestionEvent → CongestionEventSample → List ℕ → NetworkModel
model_next m p e s acked = model_after m p (event_next m e s acked) s (rounds_acked m.rounds acked)

-- ---- the refusals. Row 4: "the total acked or the total lost is lower than the one stored"
abbrev pub is_lower : NetworkModel → CongestionEventSample → Bool
is_lower m s = ltb s.totals.acked m.totals.acked || ltb s.totals.lost m.totals.lost

-- row 10, document 02, request i: "An event whose acked list holds a number above the last sent one, or any number
-- before the first send". The last sent one is the number of the last send, also where the numbers went down
abbrev pub never_sent : NetworkModel → ℕ → Bool
never_sent m n = not m.begun || ltb m.rounds.sent n

unfoldable pub is_unsent : NetworkModel → List ℕ → Bool
is_unsent m [] = false
is_unsent m (n ∷ acked) = never_sent m n || is_unsent m acked

-- row 5: a round ends and the count of rounds is full, or bytes were lost and the count of loss events is
unfoldable pub is_full : NetworkModel → CongestionEventSample → List ℕ → Bool
is_full m s acked = rounds_full m.rounds acked || (ltb 0 (bytes_lost m s) && is_full_counter m.round.losses)

abbrev pub event_rows : NetworkModel → Params → CongestionEvent → CongestionEventSample → (acked : List ℕ) → Rows
event_rows m p e s acked =
    stored (not (model_ok m && params_ok p))
    (argument (not (event_ok e && sample_ok s))
    (earlier (is_before e.time m.moment)
    (lower (is_lower m s)
    (unsent (is_unsent m acked)
    (full (is_full m s acked)
    no_rows)))))

unfoldable pub event_number : NetworkModel → Params → CongestionEvent → CongestionEventSample → List ℕ → ℕ
event_number m p e s acked = first_of (event_rows m p e s acked)

-- ---- on_congestion_event_finish: "The finish call clears the round's sums if the round ended"
unfoldable pub finish_number : NetworkModel → CongestionEvent → ℕ
finish_number m e = first_of (given_rows m (event_ok e))

unfoldable pub finish_next : NetworkModel → CongestionEvent → NetworkModel
finish_next m e = cond e.ended (with_round m round_new) m

-- ---- worked out: three lossy rounds at beta 0.3, as in document 01's example 8. In each a packet is sent with 1300
-- bytes in flight in a window of 1300, and an event, 100 ms after the one before, acks 1000 bytes and loses 100
abbrev pub usual : Params
usual =
    record {
      beta = of_bits binary32 0x3e99_999a;
      loss = one;
      headroom = one;
      growth = one;
      cwnd = one;
      pacing = one;
      rounds = 3;
      queueing = 0;
      period = record { 0 = 0 };
      base = record { 0 = 0 };
      ignore = false;
    }

-- a fresh model with a round trip of 200 ms
abbrev pub fresh : NetworkModel
fresh = start_model usual (record { 0 = 200_000_000 }) (record { 0 = 0 })

-- packet n is sent: of that an event reads the last number alone, and that there is one
abbrev pub sends : (n : ℕ) → NetworkModel → NetworkModel
sends n m = with_begun (with_rounds m (rounds_sent m.rounds n)) true

-- the record of round n as handed in: nothing is known yet but the moment, the window and the bytes in flight
abbrev pub told : (n : ℕ) → CongestionEvent
told n =
    record {
      time = record { 0 = n * 100_000_000 };
      window = 1300;
      prior = 1300;
      inflight = 0;
      acked = 0;
      lost = 0;
      ended = false;
      probing = false;
      bandwidth = None;
      rtt = None;
      state = record { valid = false; applimited = false; acked = 0; inflight = 0 };
    }

-- what the sampler says in round n: 1000 bytes in 100 ms are 80,000 bits per second
abbrev pub heard : (n : ℕ) → CongestionEventSample
heard n =
    record {
      bandwidth = Some (record { 0 = 80_000 });
      send = None;
      ack = None;
      applimited = false;
      rtt = Some (record { 0 = 100_000_000 });
      inflight = 400;
      extra = 0;
      state = record { valid = true; applimited = false; acked = n * 1000 - 1000; inflight = 1300 };
      totals = record { acked = n * 1000; lost = n * 100 };
    }

-- packet n is sent and acked: the reply's number, and the record and the model after the start of the event
abbrev round_reply : (n : ℕ) → NetworkModel → ℕ
round_reply n m = event_number (sends n m) usual (told n) (heard n) (n ∷ [])

abbrev round_record : (n : ℕ) → NetworkModel → CongestionEvent
round_record n m = event_next (sends n m) (told n) (heard n) (n ∷ [])

abbrev pub round_model : (n : ℕ) → NetworkModel → NetworkModel
round_model n m = model_next (sends n m) usual (told n) (heard n) (n ∷ [])

-- the model after its finish
abbrev round_over : (n : ℕ) → NetworkModel → NetworkModel
round_over n m = finish_next (round_model n m) (round_record n m)

unfoldable pub worked_events : List Bool
worked_events =
    let e = round_record 1 fresh in
    let m = round_model 1 fresh in
    -- check: no row of the table holds
    eqb (round_reply 1 fresh) 0
    -- round: no end was set, so that packet 1 ends the first round
    ∷ e.ended
    ∷ eqb m.rounds.count 1
    -- sample: the record has what was acked, lost and left in flight
    ∷ eqb e.acked 1000
    ∷ eqb e.lost 100
    ∷ eqb e.inflight 200
    -- the filters have the new maximum and the shorter round trip
    ∷ eqb (max_get m.maxbw).0 80_000
    ∷ eqb m.minrtt.rtt.0 100_000_000
    -- the round's sums have the loss, what was delivered since the send and the least in flight
    ∷ eqb m.round.lost 100
    ∷ eqb m.round.losses 1
    ∷ eqb m.round.delivered 1000
    ∷ eqb m.round.mininflight 200
    -- bounds: inflight_lo was unset, takes the window 1300, and is cut: 910 is more than the latest 400. bandwidth_lo
    -- takes the maximum; cut it would be 56,000, less than the latest 80,000
    ∷ eqb m.lower.inflight 910
    ∷ eqb (seed_of m.lower.bandwidth (record { 0 = 0 })).0 80_000
    ∷ eqb m.latest.inflight 400
    -- settle: the totals and the moment are the last accepted ones; the finish clears the round's sums
    ∷ eqb m.totals.lost 100
    ∷ eqb m.moment.0 100_000_000
    ∷ eqb (round_over 1 fresh).round.losses 0
    -- the second and the third round: 637, 445
    ∷ eqb (round_reply 2 (round_over 1 fresh)) 0
    ∷ eqb (round_model 2 (round_over 1 fresh)).lower.inflight 637
    ∷ eqb (round_reply 3 (round_over 2 (round_over 1 fresh))) 0
    ∷ eqb (round_model 3 (round_over 2 (round_over 1 fresh))).lower.inflight 445
    ∷ []
