-- A whole number times a float, by way of a float, and the laws that the floors above cite. The laws are stated here
-- and proved in proofs/ScaleLaws.antt and proofs/Complement.antt.
use Rattle.std.specs.Prelude.{◌≡◌, ℕ, ◌+◌, ◌-◌, ◌*◌, ◌/◌, ◌^◌, ◌<◌, ◌≤◌, Bool, true, false, T, ◌⊎◌, ℤ, pos, negsuc, Float}
use Rattle.std.specs.Float.{nan, inf, fin, binary32, binary64}
use Rattle.std.specs.Float.Ieee.{up, down, mul, sub, le, fits}
use Rattle.std.specs.Float.Ieee.Exact.{HasValue}
use Rattle.numbers.specs.IntToFloat.{int_to_float}
use Rattle.numbers.specs.FloatToInt.{float_to_int, round_away}

-- document 01, "Conversions and scaling": "scale(n, g): convert n, one f32 product, convert back"; network_model.rs,
-- `(self.inflight_lo as f32 * (1.0 - params.beta)) as usize`, and so with the loss threshold and the headroom
unfoldable pub scaled : ℕ → Float → ℕ
scaled n g = float_to_int 64 (mul binary32 (int_to_float binary32 n) g)

-- bandwidth.rs, `Mul<f64>`: `(self.bits_per_second as f64 * rhs).round() as u64`
unfoldable pub scaled_f64 : ℕ → Float → ℕ
scaled_f64 n g = float_to_int 64 (round_away binary64 (mul binary64 (int_to_float binary64 n) g))

-- ---- laws. A factor g from 0 to 1, but for -0.0, is given as a fraction a / c that it equals

-- r is the floor of a / c or its ceiling, so it differs from a / c by less than 1
pub record FloorOrCeiling (a c r : ℕ) : Type 0 where
  pub either : (r ≡ a / c) ⊎ (r ≡ (a + (c - 1)) / c)
  pub not_over : r * c < a + c
  pub not_short : a < r * c + c

-- document 01: "For n at most 2^24 and g from 0 to 1 the result is the floor or the ceiling of the exact product."
abbrev pub ScaleLaw : Type 0
ScaleLaw =
    (n a c : ℕ) (g : Float) → n ≤ 2 ^ 24 → 0 < c → a ≤ c → HasValue g false a c → FloorOrCeiling (n * a) c (scaled n g)

-- the same of every g from 0 to 1 as Rust compares floats: `fin s m e` has the size m * up e / down e, and is negative
-- where s is `true`. So -0.0 is one of them
abbrev pub ScaleFraction : Type 0
ScaleFraction =
    (n m : ℕ) (s : Bool) (e : ℤ) → n ≤ 2 ^ 24
    → T (le (fin false 0 (pos 0)) (fin s m e)) → T (le (fin s m e) (fin false 1 (pos 0)))
    → FloorOrCeiling (n * (m * up e)) (down e) (scaled n (fin s m e))

-- document 01: "Negative zero counts as zero". Whatever n is, the result is 0
abbrev pub minus_zero : Float
minus_zero = fin true 0 (pos 0)

abbrev pub MinusZeroLaw : Type 0
MinusZeroLaw = (n : ℕ) → (scaled n minus_zero ≡ 0) × (scaled_f64 n minus_zero ≡ 0)

-- past 2 ^ 24 the product may be off by more, but a byte count within document 01's bound stays within it
abbrev pub ScaleBound : Type 0
ScaleBound = (n a c : ℕ) (g : Float) → n ≤ 2 ^ 40 → 0 < c → a ≤ c → HasValue g false a c → scaled n g ≤ 2 ^ 40

-- r differs from a / c by less than 1/2 + 2 ^ -13, which is 4097 / 8192
pub record WithinHalf (a c r : ℕ) : Type 0 where
  pub not_over : r * c * 8192 < a * 8192 + c * 4097
  pub not_short : a * 8192 < r * c * 8192 + c * 4097

-- n up to 2 ^ 40 is what document 01 lets a bandwidth be
abbrev pub ScaleF64Law : Type 0
ScaleF64Law =
    (n a c : ℕ) (g : Float) → n ≤ 2 ^ 40 → 0 < c → a ≤ c → HasValue g false a c
    → WithinHalf (n * a) c (scaled_f64 n g) × (scaled_f64 n g ≤ n)

-- ---- b, the f32 1 - beta; network_model.rs, `1.0 - params.beta`

abbrev pub complement : Float → Float
complement beta = sub binary32 (fin false 1 (pos 0)) beta

-- 2 ^ 24 times the size of a float, without its fraction. `up e / down e` is 2 ^ e, so `fin s m e` has the size
-- m * up e / down e. A NaN and an infinity have no size, and 0 stands for it
abbrev pub parts_of : Float → ℕ
parts_of nan = 0
parts_of (inf s) = 0
parts_of (fin s m e) = m * up e * 2 ^ 24 / down e

-- b is exactly so many parts of 2 ^ -24: more than none, and less than all. It is at least 1/1024 and at most 1023/1024
pub record Parts (b : Float) : Type 0 where
  pub value : HasValue b false (parts_of b) (2 ^ 24)
  pub some : 0 < parts_of b
  pub not_all : parts_of b < 2 ^ 24
  pub at_least : 2 ^ 24 ≤ parts_of b * 1024
  pub at_most : parts_of b * 1024 ≤ 1023 * 2 ^ 24

-- for every f32 beta from 1/1024, `fin false 1 (negsuc 9)`, to 1023/1024
abbrev pub ComplementLaw : Type 0
ComplementLaw =
    (beta : Float) → T (fits binary32 beta) → T (le (fin false 1 (negsuc 9)) beta) →
    T (le beta (fin false 1023 (negsuc 9))) → Parts (complement beta)
