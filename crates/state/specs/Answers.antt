-- document 01, "Replies and bounds": "Every refusal returns the state unchanged, 0 for a number, no for a yes or no".
use Rattle.std.specs.Prelude.{ℕ, cond, eqb, Float}
use Rattle.std.specs.Float.{binary32}
use Rattle.std.specs.Float.Ieee.{of_bits}
use Rattle.units.specs.declared.bandwidth.Bandwidth.{Bandwidth}
use Rattle.units.specs.declared.time.Duration.{Duration}
use Rattle.units.specs.declared.time.Moment.{Moment}

-- what a call with the reply's number n leaves or answers: `next` where it is done, `old` where it is refused
unfoldable pub settled : {A : Type 0} → ℕ → A → A → A
settled n next old = cond (eqb n 0) next old

abbrev pub zero_bandwidth : Bandwidth
zero_bandwidth = record { 0 = 0 }

abbrev pub zero_length : Duration
zero_length = record { 0 = 0 }

abbrev pub zero_moment : Moment
zero_moment = record { 0 = 0 }

abbrev pub zero_gain : Float
zero_gain = of_bits binary32 0
