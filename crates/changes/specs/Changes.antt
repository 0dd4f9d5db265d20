-- The calls that send, set or put off: network_model.rs, with document 01's refusals. For each, the number of its reply
-- and the model that it leaves; those that cap, clear, restart or advance are in crates/state/specs/NetworkModel.antt.
use Rattle.std.specs.Prelude.{ℕ, ◌+◌, true, not, ◌&&◌, leb, Float}
use Rattle.units.specs.declared.time.Duration.{Duration}
use Rattle.units.specs.declared.time.Moment.{Moment}
use Rattle.filters.specs.MinRttFilter.{min_force}
use Rattle.filters.specs.RoundTripCounter.{rounds_sent}
use Rattle.units.specs.Time.{plus, is_before}
use Rattle.state.specs.declared.network_model.NetworkModel.{NetworkModel}
use Rattle.state.specs.declared.refusals.Rows.{Rows}
use Rattle.state.specs.Bounds.{bytes_ok, length_ok, moment_ok}
use Rattle.state.specs.NetworkModel.{model_ok, with_rounds, with_minrtt, with_round, with_gains, with_growth, with_moment, with_begun, given_number}
use Rattle.state.specs.Parts.{round_sent}
use Rattle.state.specs.Refusals.{no_rows, stored, argument, earlier, first_of}

-- ---- on_packet_sent; document 02, request i: "a note of whether anything was sent"
abbrev pub sent_rows : NetworkModel → Moment → (inflight bytes : ℕ) → Rows
sent_rows m now inflight bytes =
    stored (not (model_ok m))
    (argument (not (moment_ok now && bytes_ok inflight && bytes_ok bytes))
    (earlier (is_before now m.moment)
    no_rows))

unfoldable pub sent_number : NetworkModel → Moment → ℕ → ℕ → ℕ
sent_number m now inflight bytes = first_of (sent_rows m now inflight bytes)

unfoldable pub sent_next : NetworkModel → Moment → ℕ → ℕ → ℕ → NetworkModel
sent_next m now inflight packet bytes =
    let reaches = leb m.high (inflight + bytes) in
    let numbered = with_rounds (with_round m (round_sent m.round inflight reaches)) (rounds_sent m.rounds packet) in
    with_begun (with_moment numbered now) true

-- ---- setters, caps and clears
unfoldable pub reached_next : NetworkModel → NetworkModel
reached_next m =
    with_growth m
    (record {
      reached = true;
      baseline = m.growth.baseline;
      flat = m.growth.flat;
      queueing = m.growth.queueing;
      ignore = m.growth.ignore;
    })

unfoldable pub pacing_next : NetworkModel → Float → NetworkModel
pacing_next m g = with_gains m (record { cwnd = m.gains.cwnd; pacing = g })

unfoldable pub cwnd_next : NetworkModel → Float → NetworkModel
cwnd_next m g = with_gains m (record { cwnd = g; pacing = m.gains.pacing })

-- ---- postpone_min_rtt_timestamp: "a postponed moment would exceed 2^62" is 2
unfoldable pub postponed : NetworkModel → Duration → Moment
postponed m d = plus m.minrtt.timestamp d

unfoldable pub postpone_number : NetworkModel → Duration → ℕ
postpone_number m d = given_number m (length_ok d && moment_ok (postponed m d))

unfoldable pub postpone_next : NetworkModel → Duration → NetworkModel
postpone_next m d = with_minrtt m (min_force m.minrtt.rtt (postponed m d))
