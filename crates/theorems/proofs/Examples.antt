-- The runs worked out in bytes: one list of facts, which antt computes. Assumes nothing.
use mathlib.Core.Bool.{true}
use mathlib.Core.Path.{◌≡◌, refl}
use lib.Ieee as Ieee
use Rattle.numbers.specs.Scaling.{scaled, scaled_f64}
use Rattle.numbers.specs.FloatToInt.{round_away}
use Rattle.units.specs.Bandwidth.{times_f32}
use Rattle.filters.specs.MaxBandwidthFilter.{max_get, max_update}
use Rattle.filters.specs.RoundTripCounter.{rounds_sent, ends_round, rounds_full, rounds_ended, rounds_acked}
use Rattle.state.specs.Answers.{settled}
use Rattle.state.specs.Bounds.{all, within}
use Rattle.state.specs.Refusals.{row_of, up_to_four, or_short}
use Rattle.state.specs.Params.{params_ok}
use Rattle.state.specs.Parts.{round_ok, round_sent, lower_capped}
use Rattle.state.specs.NetworkModel.{model_tests, with_rounds, with_round, with_lower, with_moment, with_begun, model_new, start_number, start_model, stored_number, given_number}
use Rattle.changes.specs.Changes.{sent_number, sent_next}
use Rattle.state.specs.CongestionEvent.{event_tests, sample_tests}
use Rattle.events.specs.Event.{state_after, delivered_by, round_after, latest_raised, lower_reduced, lower_after, latest_after, event_after, event_next, maxbw_next, round_next, adapt_lower_bounds, model_after, model_next, is_unsent, is_full, event_number, cwndlimited_after}
use Rattle.state.specs.Faults.{first, named, sent_faults, record_faults, sample_faults, started_faults}
use Rattle.places.specs.Places.{record_fits, record_in, sample_fits_in, sample_in, entry_faults, number_faults, other_faults, faults_of}
use Rattle.state.specs.Cycle.{cycle_new, stay_from, fresh_number, fresh_cycle, cycle_tests}
use Rattle.words.specs.Words.{number_at, low_bytes, words_at, all_bytes}
use Rattle.layout.specs.NetworkModel as N
use Rattle.layout.specs.Cycle.{cycle_from, cycle_words}
use Rattle.arguments.specs.Params.{params_from}
use Rattle.arguments.specs.CongestionEvent.{event_fits, event_from_word, words_from, event_words}
use Rattle.arguments.specs.Sample.{acked_fits, sample_fits, sample_from, acked_of}
use Rattle.calls.specs.Ask.{ask_of, read_of, read_more}
use Rattle.calls.specs.Enter.{enter_of}
use Rattle.dispatch.specs.Outcome.{start_outcome, send_outcome, event_outcome, finish_outcome, judge_outcome, ask_outcome, enter_outcome, change_outcome, outcome_of}
use Rattle.layout.specs.StateWords.{same_words, is_state}
use Rattle.guovssalu.specs.ModelRun.{encodes_none, outcome_at, answers_to, left_by, answers_from, words_left, model_row, length_faults, model_reply, answers_out, state_out}
use Rattle.dispatch.specs.OneCall.{call_word, answer_words}
use Rattle.guovssalu.specs.Reply.{answered}
use Rattle.drift.specs.Calls.{other_number, number_of, other_next, next_of, after}
use Rattle.drift.specs.Exact.{is_reduced, inflight_effect, exactly}
use Rattle.theorems.specs.Steps.{judge_step, enter_step, change_step, step_of, after_start, after_step, steps_from, walk, exact_step, exact_walk}
use Rattle.theorems.specs.Runs.{state_from, exact_after, exact_runs, low_word}
use Rattle.theorems.specs.Examples.{first_examples, second_examples, descending_examples, unsent_examples, third_examples}

pub first_examples_lem : all first_examples ≡ true
unfolding first_examples scaled scaled_f64 round_away times_f32 Ieee.round Ieee.of_bits Ieee.to_bits Ieee.sub Ieee.mul Ieee.of_int Ieee.to_unsigned Ieee.eq Ieee.le max_get max_update rounds_sent ends_round rounds_full rounds_ended rounds_acked settled within params_ok round_ok model_tests row_of up_to_four with_rounds with_round with_lower with_moment with_begun model_new start_number start_model stored_number given_number sent_number sent_next lower_capped round_sent event_tests sample_tests state_after delivered_by round_after latest_raised lower_reduced lower_after latest_after event_after event_next maxbw_next round_next adapt_lower_bounds model_after model_next is_unsent is_full event_number cwndlimited_after cycle_new stay_from fresh_number fresh_cycle cycle_tests number_at low_bytes words_at all_bytes N.model_from N.model_words cycle_from cycle_words params_from event_fits event_from_word words_from event_words acked_fits sample_fits sample_from acked_of ask_of read_of read_more enter_of start_outcome send_outcome event_outcome finish_outcome judge_outcome ask_outcome enter_outcome change_outcome outcome_of same_words is_state encodes_none outcome_at call_word named answer_words answers_to left_by answers_from words_left model_row length_faults model_reply first answers_out state_out or_short answered other_number number_of other_next next_of after is_reduced inflight_effect exactly judge_step enter_step change_step sent_faults record_faults sample_faults started_faults record_fits record_in sample_fits_in sample_in entry_faults number_faults other_faults faults_of step_of after_start after_step state_from steps_from walk exact_step exact_walk exact_after exact_runs low_word
first_examples_lem = refl

pub second_examples_lem : all second_examples ≡ true
unfolding second_examples scaled scaled_f64 round_away times_f32 Ieee.round Ieee.of_bits Ieee.to_bits Ieee.sub Ieee.mul Ieee.of_int Ieee.to_unsigned Ieee.eq Ieee.le max_get max_update rounds_sent ends_round rounds_full rounds_ended rounds_acked settled within params_ok round_ok model_tests row_of up_to_four with_rounds with_round with_lower with_moment with_begun model_new start_number start_model stored_number given_number sent_number sent_next lower_capped round_sent event_tests sample_tests state_after delivered_by round_after latest_raised lower_reduced lower_after latest_after event_after event_next maxbw_next round_next adapt_lower_bounds model_after model_next is_unsent is_full event_number cwndlimited_after cycle_new stay_from fresh_number fresh_cycle cycle_tests number_at low_bytes words_at all_bytes N.model_from N.model_words cycle_from cycle_words params_from event_fits event_from_word words_from event_words acked_fits sample_fits sample_from acked_of ask_of read_of read_more enter_of start_outcome send_outcome event_outcome finish_outcome judge_outcome ask_outcome enter_outcome change_outcome outcome_of same_words is_state encodes_none outcome_at call_word named answer_words answers_to left_by answers_from words_left model_row length_faults model_reply first answers_out state_out or_short answered other_number number_of other_next next_of after is_reduced inflight_effect exactly judge_step enter_step change_step sent_faults record_faults sample_faults started_faults record_fits record_in sample_fits_in sample_in entry_faults number_faults other_faults faults_of step_of after_start after_step state_from steps_from walk exact_step exact_walk exact_after exact_runs low_word
second_examples_lem = refl

pub descending_examples_lem : all descending_examples ≡ true
unfolding descending_examples scaled scaled_f64 round_away times_f32 Ieee.round Ieee.of_bits Ieee.to_bits Ieee.sub Ieee.mul Ieee.of_int Ieee.to_unsigned Ieee.eq Ieee.le max_get max_update rounds_sent ends_round rounds_full rounds_ended rounds_acked settled within params_ok round_ok model_tests row_of up_to_four with_rounds with_round with_lower with_moment with_begun model_new start_number start_model stored_number given_number sent_number sent_next lower_capped round_sent event_tests sample_tests state_after delivered_by round_after latest_raised lower_reduced lower_after latest_after event_after event_next maxbw_next round_next adapt_lower_bounds model_after model_next is_unsent is_full event_number cwndlimited_after cycle_new stay_from fresh_number fresh_cycle cycle_tests number_at low_bytes words_at all_bytes N.model_from N.model_words cycle_from cycle_words params_from event_fits event_from_word words_from event_words acked_fits sample_fits sample_from acked_of ask_of read_of read_more enter_of start_outcome send_outcome event_outcome finish_outcome judge_outcome ask_outcome enter_outcome change_outcome outcome_of same_words is_state encodes_none outcome_at call_word named answer_words answers_to left_by answers_from words_left model_row length_faults model_reply first answers_out state_out or_short answered other_number number_of other_next next_of after is_reduced inflight_effect exactly judge_step enter_step change_step sent_faults record_faults sample_faults started_faults record_fits record_in sample_fits_in sample_in entry_faults number_faults other_faults faults_of step_of after_start after_step state_from steps_from walk exact_step exact_walk exact_after exact_runs low_word
descending_examples_lem = refl

pub unsent_examples_lem : all unsent_examples ≡ true
unfolding unsent_examples scaled scaled_f64 round_away times_f32 Ieee.round Ieee.of_bits Ieee.to_bits Ieee.sub Ieee.mul Ieee.of_int Ieee.to_unsigned Ieee.eq Ieee.le max_get max_update rounds_sent ends_round rounds_full rounds_ended rounds_acked settled within params_ok round_ok model_tests row_of up_to_four with_rounds with_round with_lower with_moment with_begun model_new start_number start_model stored_number given_number sent_number sent_next lower_capped round_sent event_tests sample_tests state_after delivered_by round_after latest_raised lower_reduced lower_after latest_after event_after event_next maxbw_next round_next adapt_lower_bounds model_after model_next is_unsent is_full event_number cwndlimited_after cycle_new stay_from fresh_number fresh_cycle cycle_tests number_at low_bytes words_at all_bytes N.model_from N.model_words cycle_from cycle_words params_from event_fits event_from_word words_from event_words acked_fits sample_fits sample_from acked_of ask_of read_of read_more enter_of start_outcome send_outcome event_outcome finish_outcome judge_outcome ask_outcome enter_outcome change_outcome outcome_of same_words is_state encodes_none outcome_at call_word named answer_words answers_to left_by answers_from words_left model_row length_faults model_reply first answers_out state_out or_short answered other_number number_of other_next next_of after is_reduced inflight_effect exactly judge_step enter_step change_step sent_faults record_faults sample_faults started_faults record_fits record_in sample_fits_in sample_in entry_faults number_faults other_faults faults_of step_of after_start after_step state_from steps_from walk exact_step exact_walk exact_after exact_runs low_word
unsent_examples_lem = refl

pub third_examples_lem : all third_examples ≡ true
unfolding third_examples scaled scaled_f64 round_away times_f32 Ieee.round Ieee.of_bits Ieee.to_bits Ieee.sub Ieee.mul Ieee.of_int Ieee.to_unsigned Ieee.eq Ieee.le max_get max_update rounds_sent ends_round rounds_full rounds_ended rounds_acked settled within params_ok round_ok model_tests row_of up_to_four with_rounds with_round with_lower with_moment with_begun model_new start_number start_model stored_number given_number sent_number sent_next lower_capped round_sent event_tests sample_tests state_after delivered_by round_after latest_raised lower_reduced lower_after latest_after event_after event_next maxbw_next round_next adapt_lower_bounds model_after model_next is_unsent is_full event_number cwndlimited_after cycle_new stay_from fresh_number fresh_cycle cycle_tests number_at low_bytes words_at all_bytes N.model_from N.model_words cycle_from cycle_words params_from event_fits event_from_word words_from event_words acked_fits sample_fits sample_from acked_of ask_of read_of read_more enter_of start_outcome send_outcome event_outcome finish_outcome judge_outcome ask_outcome enter_outcome change_outcome outcome_of same_words is_state encodes_none outcome_at call_word named answer_words answers_to left_by answers_from words_left model_row length_faults model_reply first answers_out state_out or_short answered other_number number_of other_next next_of after is_reduced inflight_effect exactly judge_step enter_step change_step sent_faults record_faults sample_faults started_faults record_fits record_in sample_fits_in sample_in entry_faults number_faults other_faults faults_of step_of after_start after_step state_from steps_from walk exact_step exact_walk exact_after exact_runs low_word
third_examples_lem = refl
