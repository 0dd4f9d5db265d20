-- The worked runs: one list of facts, computed. Assumes nothing.
use mathlib.Core.Bool.{true}
use mathlib.Core.Path.{◌≡◌, refl}
use Prim.Native.Nat.{ℕ, ◌+◌, ◌*◌, ◌^◌}
use lib.Dec.{T, ltb, lit<}
use lib.Ieee as Ieee
use Rattle.numbers.specs.Scaling.{scaled, scaled_f64}
use Rattle.numbers.specs.FloatToInt.{round_away}
use Rattle.units.specs.Bandwidth.{times_f32}
use Rattle.filters.specs.MaxBandwidthFilter.{max_get, max_update}
use Rattle.filters.specs.RoundTripCounter.{rounds_sent, ends_round, rounds_full, rounds_ended, rounds_acked}
use Rattle.state.specs.Answers.{settled}
use Rattle.state.specs.Bounds.{all, within}
use Rattle.state.specs.Refusals.{row_of, up_to_four}
use Rattle.state.specs.Params.{params_ok}
use Rattle.state.specs.Parts.{round_ok, round_sent, lower_capped}
use Rattle.state.specs.NetworkModel.{model_tests, with_rounds, with_round, with_lower, with_moment, with_begun, model_new, start_number, start_model, stored_number, given_number, cap_next, clear_inflight_next, clear_bandwidth_next, with_growth, growth_restarted, restart_next}
use Rattle.changes.specs.Changes.{sent_number, sent_next}
use Rattle.state.specs.CongestionEvent.{event_tests, sample_tests}
use Rattle.events.specs.Event.{state_after, delivered_by, round_after, latest_raised, lower_reduced, lower_after, latest_after, event_after, event_next, maxbw_next, round_next, adapt_lower_bounds, model_after, model_next, is_unsent, is_full, event_number, finish_number, finish_next}
use Rattle.state.specs.Cycle.{cycle_new, stay_from, fresh_number, fresh_cycle, cycle_tests}
use Rattle.phases.specs.Phases.{entry_number, restarted_at, exit_model, left_model, left_cycle, cycle_in, cruise_model, cruise_cycle, refill_model, refilled, refill_cycle}
use Rattle.drift.specs.Calls.{other_number, number_of, other_next, next_of, after, run, started}
use Rattle.drift.specs.Exact.{is_reduced, inflight_effect, bandwidth_effect, exactly, exact_run}
use Rattle.drift.specs.Drift.{inflight_low, bandwidth_low, Nearer}
use Rattle.drift.specs.Examples.{drift_examples, EpisodeFollows}

pub drift_examples_lem : all drift_examples ≡ true
unfolding drift_examples scaled scaled_f64 round_away times_f32 Ieee.round Ieee.of_bits Ieee.sub Ieee.mul Ieee.of_int Ieee.to_unsigned Ieee.eq Ieee.le max_get max_update rounds_sent ends_round rounds_full rounds_ended rounds_acked settled within params_ok round_ok model_tests row_of up_to_four with_rounds with_round with_lower with_moment with_begun model_new start_number start_model stored_number given_number sent_number sent_next cap_next clear_inflight_next clear_bandwidth_next with_growth growth_restarted restart_next lower_capped round_sent event_tests sample_tests state_after delivered_by round_after latest_raised lower_reduced lower_after latest_after event_after event_next maxbw_next round_next adapt_lower_bounds model_after model_next is_unsent is_full event_number finish_number finish_next cycle_new stay_from fresh_number fresh_cycle cycle_tests entry_number restarted_at exit_model left_model left_cycle cycle_in cruise_model cruise_cycle refill_model refilled refill_cycle other_number number_of other_next next_of after run started is_reduced inflight_effect bandwidth_effect exactly exact_run inflight_low bandwidth_low
drift_examples_lem = refl

-- the loss episode: both bounds on each of its three numbers, computed
nearer : {n num exponent times u v : ℕ} →
    T (ltb (n * 2 ^ exponent * v) (num * v + times * u * 2 ^ exponent)) →
    T (ltb (num * v) (n * 2 ^ exponent * v + times * u * 2 ^ exponent)) → Nearer n num exponent times u v
nearer over short = record { not_over = lit< over; not_short = lit< short }

pub episode_follows : EpisodeFollows
episode_follows =
    record {
      first = (record { counted = lit< tt; by_count = nearer tt tt; by_rate = nearer tt tt }, nearer tt tt);
      second = (record { counted = lit< tt; by_count = nearer tt tt; by_rate = nearer tt tt }, nearer tt tt);
      third = (record { counted = lit< tt; by_count = nearer tt tt; by_rate = nearer tt tt }, nearer tt tt);
    }
