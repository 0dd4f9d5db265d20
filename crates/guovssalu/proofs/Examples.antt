-- The worked calls hold of the definitions: three lists of facts, which antt computes.
use mathlib.Core.Bool.{true}
use mathlib.Core.Path.{◌≡◌, refl}
use Rattle.numbers.specs.Examples.{all}
use Rattle.filters.specs.Reason.{raised_reason, shifted_reason, renewed_reason, aged_reason, windowed_reason}
use Rattle.filters.specs.WindowedFilter.{is_replaced, raised, shifted, lingers, renewed, aged, windowed_number, windowed_update}
use Rattle.filters.specs.RoundTripCounter.{rounds_sent}
use Rattle.state.specs.Answers.{settled}
use Rattle.state.specs.Bounds.{within}
use Rattle.state.specs.Faults.{named}
use Rattle.state.specs.Params.{params_ok}
use Rattle.state.specs.Parts.{round_ok, round_sent}
use Rattle.state.specs.NetworkModel.{model_tests, with_rounds, with_round, with_moment, with_begun, model_new, start_number, start_model}
use Rattle.state.specs.Cycle.{cycle_new, stay_from, fresh_number, fresh_cycle}
use Rattle.changes.specs.Changes.{sent_number, sent_next}
use lib.Ieee as Ieee
use Rattle.state.specs.Refusals.{row_of, or_short}
use lib.Ieee.{to_bits, of_bits}
use Rattle.words.specs.Words.{number_at, low_bytes, words_at, all_bytes}
use Rattle.layout.specs.NetworkModel.{model_from, model_words}
use Rattle.layout.specs.Cycle.{cycle_from, cycle_words}
use Rattle.arguments.specs.Params.{params_from}
use Rattle.dispatch.specs.OneCall.{call_word, answer_words}
use Rattle.dispatch.specs.Outcome.{start_outcome, send_outcome, outcome_of}
use Rattle.guovssalu.specs.Examples.{export_examples, start_examples, trip_examples}
use Rattle.pairs.specs.Pairs.{after_pair, refuses, samples, pair_words, run_words, run_row}
use Rattle.guovssalu.specs.FilterRun.{run_out}
use Rattle.layout.specs.StateWords.{same_words, is_state}
use Rattle.guovssalu.specs.ModelRun.{encodes_none, outcome_at, answers_to, left_by, answers_from, words_left, model_row, answers_out, state_out}
use Rattle.guovssalu.specs.Reply.{answered}
use Rattle.guovssalu.specs.RttRun.{rtt_reply, rtt_answers, rtt_left, rtt_answers_out, rtt_state_out}
use Rattle.guovssalu.specs.Slope.{slope_row, slope_words, slope_out}
use Rattle.rtt.specs.Rtt.{stats_tests, given_number, new_faults, new_number, stats_new, new_left, update_faults, update_number, first_sample, delay_taken, plausible, adjusted, later_sample, update_next, update_left, minimum_shown}
use Rattle.state.specs.Faults.{first}
use Rattle.trips.specs.Trips as Trips

pub export_examples_lem : all export_examples ≡ true
unfolding all export_examples is_replaced raised shifted lingers renewed aged windowed_number windowed_update raised_reason shifted_reason renewed_reason aged_reason windowed_reason number_at low_bytes all_bytes after_pair refuses samples pair_words run_words run_row run_out row_of or_short answered slope_row slope_words slope_out model_row encodes_none is_state same_words words_at model_from model_words cycle_from cycle_words left_by words_left answers_to answers_from state_out answers_out to_bits of_bits
export_examples_lem = refl

pub start_examples_lem : all start_examples ≡ true
unfolding all start_examples Ieee.of_bits Ieee.to_bits Ieee.le rounds_sent settled within row_of params_ok round_ok round_sent model_tests with_rounds with_round with_moment with_begun model_new start_number start_model cycle_new stay_from fresh_number fresh_cycle sent_number sent_next number_at low_bytes words_at all_bytes model_from model_words cycle_from cycle_words params_from call_word named answer_words start_outcome send_outcome outcome_of same_words is_state encodes_none outcome_at answers_to left_by answers_from words_left model_row answers_out state_out or_short answered
start_examples_lem = refl

pub trip_examples_lem : all trip_examples ≡ true
unfolding all trip_examples settled row_of or_short named first answered number_at low_bytes words_at all_bytes stats_tests given_number new_faults new_number stats_new new_left update_faults update_number first_sample delay_taken plausible adjusted later_sample update_next update_left minimum_shown Trips.stats_words Trips.stats_from Trips.encodes_none Trips.call_row Trips.call_faults Trips.call_left Trips.shown Trips.answer_words Trips.answer_at Trips.left_at Trips.answers_to Trips.left_by Trips.rtt_row Trips.rtt_faults rtt_reply rtt_answers rtt_left rtt_answers_out rtt_state_out
trip_examples_lem = refl
