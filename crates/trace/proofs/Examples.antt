-- The inputs of specs/Examples.antt: computed. Assumes nothing.
use mathlib.Core.Path.{refl}
use lib.Ieee as Ieee
use Rattle.numbers.specs.Scaling.{scaled, scaled_f64}
use Rattle.numbers.specs.FloatToInt.{round_away}
use Rattle.units.specs.Bandwidth.{times_f32}
use Rattle.filters.specs.MaxBandwidthFilter.{max_get, max_update}
use Rattle.filters.specs.MinRttFilter.{min_update}
use Rattle.filters.specs.RoundTripCounter.{rounds_sent, ends_round, rounds_full, rounds_ended, rounds_acked}
use Rattle.state.specs.Answers.{settled}
use Rattle.state.specs.Bounds.{within}
use Rattle.state.specs.Faults as Faults
use Rattle.state.specs.Refusals.{row_of, up_to_four}
use Rattle.state.specs.Params.{params_ok}
use Rattle.state.specs.Parts.{round_ok, round_sent}
use Rattle.state.specs.NetworkModel.{model_tests, with_rounds, with_round, with_moment, with_begun, model_new, start_number, start_model}
use Rattle.state.specs.CongestionEvent.{event_tests, sample_tests}
use Rattle.changes.specs.Changes.{sent_number, sent_next}
use Rattle.events.specs.Event.{cwndlimited_after, state_after, delivered_by, round_after, latest_raised, lower_reduced, lower_after, latest_after, event_after, event_next, maxbw_next, round_next, adapt_lower_bounds, model_after, model_next, is_unsent, is_full, event_number, finish_next}
use Rattle.text.specs.Text.{bytes}
use Rattle.text.specs.Number.{digits_only, value_from, leads, plain, cell_of}
use Rattle.text.specs.Word.{same}
use Rattle.text.specs.Fields.{fields, fault_from}
use Rattle.text.specs.Line as Line
use Rattle.rows.specs.Digits.{places_from, places_of, digits_of, decimal}
use Rattle.rows.specs.Row.{given_text, refusal_text, head_text, state_text, row_text}
use Rattle.trace.specs.Made.{record_of, sample_of, occurs_number, record_after, started_model, occurs_next}
use Rattle.trace.specs.Made as Made
use Rattle.trace.specs.Tally.{one_more, grown, tallied}
use Rattle.trace.specs.Replay as Replay
use Rattle.trace.specs.Replay.{begin, bound, state_of, answered, answered_by, counted, start_read, sent_read, event_read, read_line, stepped}
use Rattle.trace.specs.Stream.{lines_from, rest_from, after, rows_of}
use Rattle.trace.specs.Output.{last_row, rows_after, output_of}
use Rattle.trace.specs.Examples.{TracesWorked}

pub traces_worked : TracesWorked
unfolding scaled scaled_f64 round_away times_f32 Ieee.round Ieee.of_bits Ieee.sub Ieee.mul Ieee.of_int Ieee.to_unsigned Ieee.eq Ieee.le max_get max_update min_update rounds_sent ends_round rounds_full rounds_ended rounds_acked settled within Faults.first Faults.named Faults.record_faults Faults.sample_faults Faults.start_faults Faults.sent_faults Faults.started_faults params_ok round_ok round_sent model_tests row_of up_to_four with_rounds with_round with_moment with_begun model_new start_number start_model event_tests sample_tests sent_number sent_next cwndlimited_after state_after delivered_by round_after latest_raised lower_reduced lower_after latest_after event_after event_next maxbw_next round_next adapt_lower_bounds model_after model_next is_unsent is_full event_number finish_next bytes digits_only value_from leads plain cell_of same fields fault_from Line.rest_of Line.fields_line Line.body_of Line.ended Line.line_of places_from places_of digits_of decimal given_text refusal_text head_text state_text row_text record_of sample_of occurs_number record_after started_model occurs_next Made.ends_round one_more grown tallied begin bound state_of Replay.row_of answered answered_by counted start_read sent_read event_read read_line stepped lines_from rest_from after rows_of last_row rows_after output_of
traces_worked =
    record {
      whole = refl;
      missing = refl;
      cut_header = refl;
      capitals = refl;
      header_alone = refl;
      before_start = refl;
      goes_on = refl;
      afresh = refl;
      first_asked = refl;
    }
