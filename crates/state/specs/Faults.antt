-- Which number was out of range: document 02, request b. A refusal 2 names the kind of the bound that was passed and
-- the place of the argument that passed it: "If several are out of range the first in argument order, then field order,
-- is named." Below stands, for each call that can give 2, its arguments in the order of their places, each with its
-- fields in the order of the record: a test, the place, the kind. The first test that fails is named. Whether there is
-- one is what the call's row 2 asks: crates/laws proves that these tests and that row are the same. A call of a run is
-- given words, of which some can be no writer's (docs/LAYOUT.md): its flags, its pairs, its floats and the count of its
-- acked numbers. They have a test beside the others' (`..fits`), in the order of the words. A call that is given values
-- has none such: these tests hold (`true`, `whole_record`, `whole_sample`).
use Rattle.std.specs.Prelude.{ℕ, ◌+◌, ◌*◌, Bool, true, cond, List, [], ◌∷◌, eqb, Float}
use Rattle.units.specs.declared.bandwidth.Bandwidth.{Bandwidth}
use Rattle.units.specs.declared.time.Duration.{Duration}
use Rattle.units.specs.declared.time.Moment.{Moment}
use Rattle.state.specs.declared.faults.Kind.{Kind}
use Rattle.state.specs.declared.faults.Kind.TheVariants.{Window, ByteCount, Length, Total, ProbeRounds, Gain, ListLength}
use Rattle.state.specs.declared.faults.Kind.TheVariants as Kind
use Rattle.units.specs.Reply.{reply_word}
use Rattle.state.specs.Bounds.{bytes_ok, bytes_or_unset_ok, total_ok, moment_ok, length_ok, bandwidth_ok, maybe_ok, gain_ok}
use Rattle.state.specs.CongestionEvent.{maybe_length_ok}
use Rattle.state.specs.Cycle.{rounds_ok}
use Rattle.state.specs.declared.congestion_event.CongestionEvent.{CongestionEvent}
use Rattle.state.specs.declared.congestion_event.CongestionEventSample.{CongestionEventSample}
use Rattle.state.specs.declared.faults.RecordFits.{RecordFits}
use Rattle.state.specs.declared.faults.SampleFits.{SampleFits}

-- ---- the kinds: "window, any other byte count, bandwidth, length of time, total, probe rounds, gain, list length, or
-- moment"; "2 becomes 2.1 to 2.9 in this order". An event's bytes acked and lost are bounded as totals are, and so are
-- 2.5; a word that no writer writes is 2.8
abbrev pub a_window : ℕ
a_window = 1

abbrev pub a_byte_count : ℕ
a_byte_count = 2

abbrev pub a_bandwidth : ℕ
a_bandwidth = 3

abbrev pub a_length : ℕ
a_length = 4

abbrev pub a_total : ℕ
a_total = 5

abbrev pub probe_rounds : ℕ
probe_rounds = 6

abbrev pub a_gain : ℕ
a_gain = 7

abbrev pub list_length : ℕ
list_length = 8

abbrev pub a_moment : ℕ
a_moment = 9

-- the names that the code has for them
abbrev pub kind_number : Kind → ℕ
kind_number Window = a_window
kind_number ByteCount = a_byte_count
kind_number Kind.Bandwidth = a_bandwidth
kind_number Length = a_length
kind_number Total = a_total
kind_number ProbeRounds = probe_rounds
kind_number Gain = a_gain
kind_number ListLength = list_length
kind_number Kind.Moment = a_moment

-- ---- a fault: 0 where the test holds, else the kind, and 256 times the place
abbrev pub unless : (test : Bool) (place kind : ℕ) → ℕ
unless test place kind = cond test 0 (kind + 256 * place)

-- the first of faults, 0 where there is none
unfoldable pub first : List ℕ → ℕ
first [] = 0
first (f ∷ faults) = cond (eqb f 0) (first faults) f

-- the fault that a reply of this row names: only a refusal 2 names one
unfoldable pub named : (row fault : ℕ) → ℕ
named row fault = cond (eqb row 2) fault 0

-- the word by which a reply of this row crosses, where this fault is the first
abbrev pub replied : (row fault : ℕ) → ℕ
replied row fault = reply_word row (named row fault)

-- ---- arguments that are records, by their fields
-- an event's record, at a place. All numbers are tested, those of a send state that is not valid too
unfoldable pub record_faults : (place : ℕ) → RecordFits → CongestionEvent → List ℕ
record_faults place fits e =
    unless (moment_ok e.time) place a_moment
    ∷ unless (bytes_ok e.window) place a_window
    ∷ unless (bytes_ok e.prior) place a_byte_count
    ∷ unless (bytes_ok e.inflight) place a_byte_count
    ∷ unless (total_ok e.acked) place a_total
    ∷ unless (total_ok e.lost) place a_total
    ∷ unless fits.ended place list_length
    ∷ unless fits.probing place list_length
    ∷ unless fits.bandwidth place list_length
    ∷ unless (maybe_ok e.bandwidth) place a_bandwidth
    ∷ unless fits.rtt place list_length
    ∷ unless (maybe_length_ok e.rtt) place a_length
    ∷ unless fits.valid place list_length
    ∷ unless fits.applimited place list_length
    ∷ unless (total_ok e.state.acked) place a_total
    ∷ unless (bytes_ok e.state.inflight) place a_byte_count
    ∷ []

abbrev pub whole_record : RecordFits
whole_record = record { ended = true; probing = true; bandwidth = true; rtt = true; valid = true; applimited = true }

-- what the sampler says, at place 3 of an event's start
unfoldable pub sample_faults : SampleFits → CongestionEventSample → List ℕ
sample_faults fits s =
    unless fits.bandwidth 3 list_length
    ∷ unless (maybe_ok s.bandwidth) 3 a_bandwidth
    ∷ unless fits.send 3 list_length
    ∷ unless (maybe_ok s.send) 3 a_bandwidth
    ∷ unless fits.ack 3 list_length
    ∷ unless (maybe_ok s.ack) 3 a_bandwidth
    ∷ unless fits.applimited 3 list_length
    ∷ unless fits.rtt 3 list_length
    ∷ unless (maybe_length_ok s.rtt) 3 a_length
    ∷ unless (bytes_ok s.inflight) 3 a_byte_count
    ∷ unless (bytes_ok s.extra) 3 a_byte_count
    ∷ unless fits.valid 3 list_length
    ∷ unless fits.limited 3 list_length
    ∷ unless (total_ok s.state.acked) 3 a_total
    ∷ unless (bytes_ok s.state.inflight) 3 a_byte_count
    ∷ unless (total_ok s.totals.acked) 3 a_total
    ∷ unless (total_ok s.totals.lost) 3 a_total
    ∷ []

abbrev pub whole_sample : SampleFits
whole_sample =
    record { bandwidth = true; send = true; ack = true; applimited = true; rtt = true; valid = true; limited = true }

-- ---- the calls, by their arguments
-- start: initial_rtt, now
unfoldable pub start_faults : Duration → Moment → List ℕ
start_faults rtt now = unless (length_ok rtt) 1 a_length ∷ unless (moment_ok now) 2 a_moment ∷ []

-- on_packet_sent: sent_time, bytes_in_flight, packet_number, bytes. A packet's number is free
unfoldable pub sent_faults : Moment → (inflight bytes : ℕ) → List ℕ
sent_faults now inflight bytes =
    unless (moment_ok now) 1 a_moment
    ∷ unless (bytes_ok inflight) 2 a_byte_count
    ∷ unless (bytes_ok bytes) 4 a_byte_count
    ∷ []

-- on_congestion_event_start: acked, event, sample. The acked numbers are free
unfoldable pub started_faults :
    (acked : Bool) → RecordFits → CongestionEvent → SampleFits → CongestionEventSample → List ℕ
started_faults acked whole e complete s =
    unless acked 1 list_length ∷ first (record_faults 2 whole e) ∷ first (sample_faults complete s) ∷ []

-- on_congestion_event_finish, maybe_expire_min_rtt, has_bandwidth_growth: event. is_inflight_too_high: event, and
-- max_loss_events, which is free
abbrev pub event_faults : RecordFits → CongestionEvent → List ℕ
event_faults fits e = record_faults 1 fits e

-- check_persistent_queue: target_gain. set_pacing_gain, set_cwnd_gain: gain
unfoldable pub gain_faults : (fits : Bool) → Float → List ℕ
gain_faults fits gain = unless fits 1 list_length ∷ unless (gain_ok gain) 1 a_gain ∷ []

-- bdp: bandwidth, gain. bdp1: bandwidth
unfoldable pub bdp_faults : Bandwidth → (fits : Bool) → Float → List ℕ
bdp_faults b fits gain =
    unless (bandwidth_ok b) 1 a_bandwidth
    ∷ unless fits 2 list_length
    ∷ unless (gain_ok gain) 2 a_gain
    ∷ []

unfoldable pub bdp1_faults : Bandwidth → List ℕ
bdp1_faults b = unless (bandwidth_ok b) 1 a_bandwidth ∷ []

-- set_inflight_hi, cap_inflight_lo: bytes, which may be unset
unfoldable pub limit_faults : ℕ → List ℕ
limit_faults bytes = unless (bytes_or_unset_ok bytes) 1 a_byte_count ∷ []

-- postpone_min_rtt_timestamp: length. "a postponed moment has the length's place, and a length itself out of bounds is
-- named as a length"
unfoldable pub postpone_faults : (length : Duration) (postponed : Moment) → List ℕ
postpone_faults length postponed = unless (length_ok length) 1 a_length ∷ unless (moment_ok postponed) 1 a_moment ∷ []

-- enter_probe_down: last_cycle_probed_too_high, last_cycle_stopped_risky_probe, now
unfoldable pub down_faults : (high risky : Bool) → Moment → List ℕ
down_faults high risky now =
    unless high 1 list_length ∷ unless risky 2 list_length ∷ unless (moment_ok now) 3 a_moment ∷ []

-- enter_probe_cruise, and a fresh cycle: now
unfoldable pub now_faults : Moment → List ℕ
now_faults now = unless (moment_ok now) 1 a_moment ∷ []

-- enter_probe_refill: probe_up_rounds, now
unfoldable pub refill_faults : ℕ → Moment → List ℕ
refill_faults rounds now = unless (rounds_ok rounds) 1 probe_rounds ∷ unless (moment_ok now) 2 a_moment ∷ []

-- enter_probe_up: now, cwnd
unfoldable pub up_faults : Moment → ℕ → List ℕ
up_faults now window = unless (moment_ok now) 1 a_moment ∷ unless (bytes_ok window) 2 a_window ∷ []

-- raise_inflight_high_slope: cwnd
unfoldable pub slope_faults : ℕ → List ℕ
slope_faults window = unless (bytes_ok window) 1 a_window ∷ []
