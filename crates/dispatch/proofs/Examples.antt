-- The worked calls hold of the definitions: one list of facts, one proof, which antt computes.
use mathlib.Core.Bool.{true}
use mathlib.Core.Path.{◌≡◌, refl}
use lib.Ieee as Ieee
use Rattle.numbers.specs.Examples.{all}
use Rattle.filters.specs.MaxBandwidthFilter.{max_get, max_update}
use Rattle.filters.specs.RoundTripCounter.{ends_round, rounds_full, rounds_ended, rounds_acked}
use Rattle.state.specs.Answers.{settled}
use Rattle.state.specs.Bounds.{within}
use Rattle.state.specs.Refusals.{row_of, up_to_four}
use Rattle.state.specs.Params.{params_ok}
use Rattle.state.specs.Parts.{round_ok}
use Rattle.state.specs.NetworkModel.{model_tests, stored_number, given_number}
use Rattle.events.specs.Event as E
use Rattle.state.specs.CongestionEvent as H
use Rattle.events.specs.Event.{finish_number}
use Rattle.state.specs.Cycle.{cycle_tests}
use Rattle.phases.specs.Phases.{entry_number}
use Rattle.layout.specs.NetworkModel.{model_from}
use Rattle.layout.specs.Cycle.{cycle_from}
use Rattle.arguments.specs.Params.{params_from}
use Rattle.arguments.specs.CongestionEvent.{event_fits, event_from_word, words_from, event_words}
use Rattle.arguments.specs.Sample.{acked_fits, sample_fits, sample_from, acked_of}
use Rattle.calls.specs.Change.{change_of, change_more}
use Rattle.calls.specs.Enter.{enter_of}
use Rattle.dispatch.specs.Outcome.{event_outcome, finish_outcome, enter_outcome, change_outcome, outcome_of}
use Rattle.dispatch.specs.Examples.{outcome_examples}

pub outcome_examples_lem : all outcome_examples ≡ true
unfolding all outcome_examples Ieee.of_bits Ieee.le max_get max_update ends_round rounds_full rounds_ended rounds_acked settled within params_ok round_ok model_tests row_of up_to_four stored_number given_number H.event_tests H.sample_tests E.state_after E.is_unsent E.is_full E.event_number E.event_after E.event_next E.round_next E.round_after E.delivered_by finish_number cycle_tests entry_number model_from cycle_from params_from event_fits event_from_word words_from event_words acked_fits sample_fits sample_from acked_of change_of change_more enter_of event_outcome finish_outcome enter_outcome change_outcome outcome_of
outcome_examples_lem = refl
