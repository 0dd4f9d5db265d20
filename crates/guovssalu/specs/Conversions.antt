-- The exported conversions: those of the crates below, with floats as their bits. `of_bits` reads every pattern of a
-- NaN as a NaN. A whole number's float is none.
use Rattle.std.specs.Prelude.{ℕ}
use Rattle.std.specs.Float.{binary32, binary64}
use Rattle.std.specs.Float.Ieee.{of_bits, to_bits}
use Rattle.numbers.specs.IntToFloat.{int_to_float}
use Rattle.numbers.specs.FloatToInt.{float_to_int, round_away}
use Rattle.numbers.specs.Scaling.{scaled}
use Rattle.units.specs.Bandwidth.{times_f32, bytes_per_period}

-- "u64 to f32: nearest, ties to even"
abbrev pub f32_bits : ℕ → ℕ
f32_bits n = to_bits binary32 (int_to_float binary32 n)

abbrev pub f64_bits : ℕ → ℕ
f64_bits n = to_bits binary64 (int_to_float binary64 n)

-- "f32 to u64: toward zero; NaN and negatives give 0; too large gives 2^64 - 1"
abbrev pub f32_to_u64 : ℕ → ℕ
f32_to_u64 bits = float_to_int 64 (of_bits binary32 bits)

abbrev pub f64_round_to_u64 : ℕ → ℕ
f64_round_to_u64 bits = float_to_int 64 (round_away binary64 (of_bits binary64 bits))

-- "scale(n, g): convert n, one f32 product, convert back"
abbrev pub scaled_by : ℕ → ℕ → ℕ
scaled_by n gain = scaled n (of_bits binary32 gain)

-- `Bandwidth`: "Its product with an f32, its order and `to_bytes_per_period` are written down from `bandwidth.rs`."
abbrev pub bandwidth_by : ℕ → ℕ → ℕ
bandwidth_by bandwidth gain = (times_f32 (record { 0 = bandwidth }) (of_bits binary32 gain)).0

abbrev pub bytes_in : ℕ → ℕ → ℕ
bytes_in bandwidth nanos = bytes_per_period (record { 0 = bandwidth }) (record { 0 = nanos })
