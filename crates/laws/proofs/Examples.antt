-- document 01's twelve marked examples hold of the definitions: one list of facts, one proof, which antt computes. So do
-- the worked reasons of a windowed filter.
use mathlib.Core.Bool.{true}
use mathlib.Core.Path.{◌≡◌, refl}
use lib.Ieee as Ieee
use Rattle.numbers.specs.FloatToInt.{round_away}
use Rattle.numbers.specs.Scaling.{scaled, scaled_f64}
use Rattle.numbers.specs.Examples.{all, conversions}
use Rattle.units.specs.Bandwidth.{times_f32}
use Rattle.filters.specs.Examples.{filter_examples, reason_examples, round_examples}
use Rattle.filters.specs.MaxBandwidthFilter.{max_get, max_advance}
use Rattle.filters.specs.RoundTripCounter.{ends_round, rounds_full, rounds_ended, rounds_acked}
use Rattle.filters.specs.Reason.{raised_reason, shifted_reason, renewed_reason, aged_reason, windowed_reason}
use Rattle.filters.specs.WindowedFilter.{is_replaced, raised, shifted, lingers, renewed, aged, windowed_reset, windowed_number, windowed_update}
use Rattle.state.specs.Answers.{settled}
use Rattle.state.specs.Bounds.{within}
use Rattle.state.specs.Refusals.{row_of}
use Rattle.state.specs.Params.{params_ok}
use Rattle.state.specs.Parts.{round_ok}
use Rattle.state.specs.NetworkModel.{model_tests, model_new, start_number, start_model}
use Rattle.events.specs.Event.{lower_after, lower_reduced}
use Rattle.state.specs.CongestionEvent.{event_tests}
use Rattle.events.specs.Examples.{event_examples}
use Rattle.judge.specs.Judge.{has_grown, counts_flat, growth_full, judged_number}
use Rattle.phases.specs.Slope.{slope_raised}
use Rattle.judge.specs.Examples.{growth_examples}
use Rattle.phases.specs.Examples.{slope_examples}
use Rattle.laws.specs.Examples.{marked_examples}

pub marked_examples_lem : all marked_examples ≡ true
unfolding all marked_examples conversions filter_examples event_examples slope_examples growth_examples scaled scaled_f64 round_away times_f32 Ieee.round Ieee.of_bits Ieee.sub Ieee.mul Ieee.of_int Ieee.to_unsigned Ieee.eq max_get max_advance windowed_reset is_replaced raised shifted lingers renewed aged windowed_number windowed_update settled within params_ok round_ok model_tests row_of model_new start_number start_model lower_after lower_reduced event_tests has_grown counts_flat growth_full judged_number slope_raised Ieee.le
marked_examples_lem = refl

pub reason_examples_lem : all reason_examples ≡ true
unfolding all reason_examples windowed_reset is_replaced raised shifted lingers renewed aged windowed_update raised_reason shifted_reason renewed_reason aged_reason windowed_reason
reason_examples_lem = refl

pub round_examples_lem : all round_examples ≡ true
unfolding all round_examples ends_round rounds_full rounds_ended rounds_acked
round_examples_lem = refl
