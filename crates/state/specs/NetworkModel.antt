-- The network model: network_model.rs, BBRv2NetworkModel in BwLoMode::Default, with document 01's bounds and refusals.
-- Which models are within their bounds, what a fresh one is (`new`), which rows of the table the calls share, and what
-- those calls leave that several others make use of.
use Rattle.std.specs.Prelude.{ℕ, ◌-◌, ◌^◌, Bool, true, false, ◌&&◌, not, List, [], ◌∷◌, Float, None}
use Rattle.std.specs.Float.{binary32}
use Rattle.std.specs.Float.Ieee.{of_bits}
use Rattle.units.specs.declared.bandwidth.Bandwidth.{Bandwidth}
use Rattle.units.specs.declared.time.Duration.{Duration}
use Rattle.units.specs.declared.time.Moment.{Moment}
use Rattle.filters.specs.declared.max_bandwidth_filter.MaxBandwidthFilter.{MaxBandwidthFilter}
use Rattle.filters.specs.declared.min_rtt_filter.MinRttFilter.{MinRttFilter}
use Rattle.state.specs.declared.network_model.NetworkModel.{NetworkModel}
use Rattle.state.specs.declared.params.Params.{Params}
use Rattle.state.specs.declared.parts.Gains.{Gains}
use Rattle.state.specs.declared.parts.Growth.{Growth}
use Rattle.state.specs.declared.parts.Lower.{Lower}
use Rattle.state.specs.declared.parts.Round.{Round}
use Rattle.state.specs.declared.refusals.Rows.{Rows}
use Rattle.state.specs.Bounds.{bytes_or_unset_ok, moment_ok, length_ok, bandwidth_ok, all}
use Rattle.state.specs.Refusals.{no_rows, stored, argument, full, first_of}
use Rattle.state.specs.Params.{params_ok}
use Rattle.state.specs.Parts.{round_ok, latest_ok, lower_ok, gains_ok, growth_ok, rates_ok, totals_ok, round_new, lower_capped}
use Rattle.filters.specs.declared.round_trip_counter.RoundTripCounter.{RoundTripCounter}
use Rattle.units.specs.Bandwidth.{times_f32, bytes_per_period}
use Rattle.filters.specs.MaxBandwidthFilter.{max_new, max_advance}
use Rattle.filters.specs.MinRttFilter.{min_force}
use Rattle.filters.specs.RoundTripCounter.{rounds_new, rounds_restart}
use Rattle.state.specs.Answers.{settled, zero_length, zero_moment}

-- ---- the bounds, part by part. "Counters and packet numbers are free"
abbrev pub maxbw_ok : MaxBandwidthFilter → Bool
maxbw_ok f = bandwidth_ok f.slot0 && bandwidth_ok f.slot1

abbrev pub minrtt_ok : MinRttFilter → Bool
minrtt_ok f = length_ok f.rtt && moment_ok f.timestamp

unfoldable pub model_tests : NetworkModel → List Bool
model_tests m =
    maxbw_ok m.maxbw
    ∷ minrtt_ok m.minrtt
    ∷ round_ok m.round m.totals
    ∷ latest_ok m.latest
    ∷ lower_ok m.lower
    ∷ bytes_or_unset_ok m.high
    ∷ gains_ok m.gains
    ∷ growth_ok m.growth
    ∷ rates_ok m.rates
    ∷ totals_ok m.totals
    ∷ moment_ok m.moment
    ∷ []

abbrev pub model_ok : NetworkModel → Bool
model_ok m = all (model_tests m)

-- ---- the model with one part put anew
unfoldable pub with_rounds : NetworkModel → RoundTripCounter → NetworkModel
with_rounds m x =
    record {
      rounds = x;
      maxbw = m.maxbw;
      minrtt = m.minrtt;
      round = m.round;
      latest = m.latest;
      lower = m.lower;
      high = m.high;
      gains = m.gains;
      cwndlimited = m.cwndlimited;
      growth = m.growth;
      rates = m.rates;
      totals = m.totals;
      moment = m.moment;
      begun = m.begun;
    }

unfoldable pub with_maxbw : NetworkModel → MaxBandwidthFilter → NetworkModel
with_maxbw m x =
    record {
      rounds = m.rounds;
      maxbw = x;
      minrtt = m.minrtt;
      round = m.round;
      latest = m.latest;
      lower = m.lower;
      high = m.high;
      gains = m.gains;
      cwndlimited = m.cwndlimited;
      growth = m.growth;
      rates = m.rates;
      totals = m.totals;
      moment = m.moment;
      begun = m.begun;
    }

unfoldable pub with_minrtt : NetworkModel → MinRttFilter → NetworkModel
with_minrtt m x =
    record {
      rounds = m.rounds;
      maxbw = m.maxbw;
      minrtt = x;
      round = m.round;
      latest = m.latest;
      lower = m.lower;
      high = m.high;
      gains = m.gains;
      cwndlimited = m.cwndlimited;
      growth = m.growth;
      rates = m.rates;
      totals = m.totals;
      moment = m.moment;
      begun = m.begun;
    }

unfoldable pub with_round : NetworkModel → Round → NetworkModel
with_round m x =
    record {
      rounds = m.rounds;
      maxbw = m.maxbw;
      minrtt = m.minrtt;
      round = x;
      latest = m.latest;
      lower = m.lower;
      high = m.high;
      gains = m.gains;
      cwndlimited = m.cwndlimited;
      growth = m.growth;
      rates = m.rates;
      totals = m.totals;
      moment = m.moment;
      begun = m.begun;
    }

unfoldable pub with_lower : NetworkModel → Lower → NetworkModel
with_lower m x =
    record {
      rounds = m.rounds;
      maxbw = m.maxbw;
      minrtt = m.minrtt;
      round = m.round;
      latest = m.latest;
      lower = x;
      high = m.high;
      gains = m.gains;
      cwndlimited = m.cwndlimited;
      growth = m.growth;
      rates = m.rates;
      totals = m.totals;
      moment = m.moment;
      begun = m.begun;
    }

unfoldable pub with_high : NetworkModel → ℕ → NetworkModel
with_high m x =
    record {
      rounds = m.rounds;
      maxbw = m.maxbw;
      minrtt = m.minrtt;
      round = m.round;
      latest = m.latest;
      lower = m.lower;
      high = x;
      gains = m.gains;
      cwndlimited = m.cwndlimited;
      growth = m.growth;
      rates = m.rates;
      totals = m.totals;
      moment = m.moment;
      begun = m.begun;
    }

unfoldable pub with_gains : NetworkModel → Gains → NetworkModel
with_gains m x =
    record {
      rounds = m.rounds;
      maxbw = m.maxbw;
      minrtt = m.minrtt;
      round = m.round;
      latest = m.latest;
      lower = m.lower;
      high = m.high;
      gains = x;
      cwndlimited = m.cwndlimited;
      growth = m.growth;
      rates = m.rates;
      totals = m.totals;
      moment = m.moment;
      begun = m.begun;
    }

unfoldable pub with_growth : NetworkModel → Growth → NetworkModel
with_growth m x =
    record {
      rounds = m.rounds;
      maxbw = m.maxbw;
      minrtt = m.minrtt;
      round = m.round;
      latest = m.latest;
      lower = m.lower;
      high = m.high;
      gains = m.gains;
      cwndlimited = m.cwndlimited;
      growth = x;
      rates = m.rates;
      totals = m.totals;
      moment = m.moment;
      begun = m.begun;
    }

unfoldable pub with_moment : NetworkModel → Moment → NetworkModel
with_moment m x =
    record {
      rounds = m.rounds;
      maxbw = m.maxbw;
      minrtt = m.minrtt;
      round = m.round;
      latest = m.latest;
      lower = m.lower;
      high = m.high;
      gains = m.gains;
      cwndlimited = m.cwndlimited;
      growth = m.growth;
      rates = m.rates;
      totals = m.totals;
      moment = x;
      begun = m.begun;
    }

unfoldable pub with_begun : NetworkModel → Bool → NetworkModel
with_begun m x =
    record {
      rounds = m.rounds;
      maxbw = m.maxbw;
      minrtt = m.minrtt;
      round = m.round;
      latest = m.latest;
      lower = m.lower;
      high = m.high;
      gains = m.gains;
      cwndlimited = m.cwndlimited;
      growth = m.growth;
      rates = m.rates;
      totals = m.totals;
      moment = m.moment;
      begun = x;
    }

-- ---- start: BBRv2NetworkModel::new. Nothing was sent yet
unfoldable pub model_new : Float → Float → Bool → Duration → Moment → NetworkModel
model_new cwnd pacing ignore rtt now =
    record {
      rounds = rounds_new;
      maxbw = max_new;
      minrtt = min_force rtt now;
      round = round_new;
      latest = record { bandwidth = record { 0 = 0 }; inflight = 0 };
      lower = record { bandwidth = None; inflight = 2 ^ 64 - 1 };
      high = 2 ^ 64 - 1;
      gains = record { cwnd = cwnd; pacing = pacing };
      cwndlimited = false;
      growth = record { reached = false; baseline = record { 0 = 0 }; flat = 0; queueing = 0; ignore = ignore };
      rates = record { send = None; ack = None };
      totals = record { acked = 0; lost = 0 };
      moment = now;
      begun = false;
    }

abbrev pub start_rows : Params → Duration → Moment → Rows
start_rows p rtt now = stored (not (params_ok p)) (argument (not (length_ok rtt && moment_ok now)) no_rows)

unfoldable pub start_number : Params → Duration → Moment → ℕ
start_number p rtt now = first_of (start_rows p rtt now)

-- "it returns a fresh one at moment 0 with round trip 0, both gains 1 and the app-limited option off"
abbrev pub one : Float
one = of_bits binary32 0x3f80_0000

unfoldable pub start_model : Params → Duration → Moment → NetworkModel
start_model p rtt now =
    settled (start_number p rtt now)
    (model_new p.cwnd p.pacing p.ignore rtt now)
    (model_new one one false zero_length zero_moment)

-- ---- a call that is given nothing: the stored numbers alone are tested
abbrev pub stored_rows : NetworkModel → Rows
stored_rows m = stored (not (model_ok m)) no_rows

unfoldable pub stored_number : NetworkModel → ℕ
stored_number m = first_of (stored_rows m)

-- one that is given something, of which `fine` says whether it is within its bounds
abbrev pub given_rows : NetworkModel → (fine : Bool) → Rows
given_rows m fine = stored (not (model_ok m)) (argument (not fine) no_rows)

unfoldable pub given_number : NetworkModel → Bool → ℕ
given_number m fine = first_of (given_rows m fine)

-- one that takes the parameters; `rises` says whether its rule adds 1 to a counter that is 2^64 - 1
abbrev pub judged_rows : NetworkModel → Params → (fine rises : Bool) → Rows
judged_rows m p fine rises = stored (not (model_ok m && params_ok p)) (argument (not fine) (full rises no_rows))

-- inflight_hi_with_headroom, which takes the parameters alone
unfoldable pub headroom_number : NetworkModel → Params → ℕ
headroom_number m p = first_of (judged_rows m p true false)

-- ---- restart_round_early: the round's sums begin anew, its end is the last sent number, rounds_with_queueing is 0
unfoldable pub growth_restarted : Growth → Growth
growth_restarted g =
    record {
      reached = g.reached;
      baseline = g.baseline;
      flat = g.flat;
      queueing = 0;
      ignore = g.ignore;
    }

unfoldable pub restart_next : NetworkModel → NetworkModel
restart_next m =
    with_growth (with_rounds (with_round m round_new) (rounds_restart m.rounds)) (growth_restarted m.growth)

-- ---- cap_inflight_lo, clear_inflight_lo, clear_bandwidth_lo, advance_max_bandwidth_filter
unfoldable pub cap_next : NetworkModel → ℕ → NetworkModel
cap_next m cap = with_lower m (lower_capped m.lower cap)

unfoldable pub clear_inflight_next : NetworkModel → NetworkModel
clear_inflight_next m = with_lower m (record { bandwidth = m.lower.bandwidth; inflight = 2 ^ 64 - 1 })

unfoldable pub clear_bandwidth_next : NetworkModel → NetworkModel
clear_bandwidth_next m = with_lower m (record { bandwidth = None; inflight = m.lower.inflight })

unfoldable pub advance_next : NetworkModel → NetworkModel
advance_next m = with_maxbw m (max_advance m.maxbw)

-- ---- bdp: (bandwidth * gain).to_bytes_per_period(min_rtt)
unfoldable pub bdp_of : NetworkModel → Bandwidth → Float → ℕ
bdp_of m b g = bytes_per_period (times_f32 b g) m.minrtt.rtt
