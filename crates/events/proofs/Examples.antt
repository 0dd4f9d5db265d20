-- The events worked out in specs/Event.antt and specs/NeverSent.antt: two lists of facts, computed. Assumes nothing.
use mathlib.Core.Bool.{true}
use mathlib.Core.Path.{◌≡◌, refl}
use lib.Ieee as Ieee
use Rattle.numbers.specs.Examples.{all}
use Rattle.numbers.specs.Scaling.{scaled, scaled_f64}
use Rattle.numbers.specs.FloatToInt.{round_away}
use Rattle.units.specs.Bandwidth.{times_f32}
use Rattle.filters.specs.MaxBandwidthFilter.{max_get, max_update}
use Rattle.filters.specs.MinRttFilter.{min_update}
use Rattle.filters.specs.RoundTripCounter.{rounds_sent, ends_round, rounds_full, rounds_ended, rounds_acked}
use Rattle.state.specs.Answers.{settled}
use Rattle.state.specs.Bounds.{within}
use Rattle.state.specs.Bounds as Bounds
use Rattle.state.specs.Refusals.{row_of, up_to_four}
use Rattle.state.specs.Params.{params_ok}
use Rattle.state.specs.Parts.{round_ok}
use Rattle.state.specs.NetworkModel.{model_tests, with_rounds, with_round, with_begun, model_new, start_number, start_model}
use Rattle.state.specs.CongestionEvent.{event_tests, sample_tests}
use Rattle.events.specs.Event.{cwndlimited_after, state_after, delivered_by, round_after, latest_raised, lower_reduced, lower_after, latest_after, event_after, event_next, maxbw_next, round_next, adapt_lower_bounds, model_after, model_next, is_unsent, is_full, event_number, finish_next, worked_events}
use Rattle.events.specs.NeverSent.{unsent_events}

pub worked_events_lem : Bounds.all worked_events ≡ true
unfolding worked_events scaled scaled_f64 round_away times_f32 Ieee.round Ieee.of_bits Ieee.sub Ieee.mul Ieee.of_int Ieee.to_unsigned Ieee.eq Ieee.le max_get max_update min_update rounds_sent ends_round rounds_full rounds_ended rounds_acked settled within params_ok round_ok model_tests row_of up_to_four with_rounds with_round with_begun model_new start_number start_model event_tests sample_tests cwndlimited_after state_after delivered_by round_after latest_raised lower_reduced lower_after latest_after event_after event_next maxbw_next round_next adapt_lower_bounds model_after model_next is_unsent is_full event_number finish_next
worked_events_lem = refl

pub unsent_events_lem : all unsent_events ≡ true
unfolding all unsent_events scaled scaled_f64 round_away times_f32 Ieee.round Ieee.of_bits Ieee.sub Ieee.mul Ieee.of_int Ieee.to_unsigned Ieee.eq Ieee.le max_get max_update min_update rounds_sent ends_round rounds_full rounds_ended rounds_acked settled within params_ok round_ok model_tests row_of up_to_four with_rounds with_round with_begun model_new start_number start_model event_tests sample_tests cwndlimited_after state_after delivered_by round_after latest_raised lower_reduced lower_after latest_after event_after event_next maxbw_next round_next adapt_lower_bounds model_after model_next is_unsent is_full event_number finish_next
unsent_events_lem = refl
