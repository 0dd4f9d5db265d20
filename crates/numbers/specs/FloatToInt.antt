-- A float as a whole number.
use Rattle.std.specs.Prelude.{◌≡◌, ℕ, ◌+◌, ◌-◌, ◌*◌, ◌/◌, ◌^◌, ◌<◌, ◌≤◌, true, false, ◌⊎◌, Float}
use Rattle.std.specs.Float.{nan, inf, fin, Format}
use Rattle.std.specs.Float.Ieee.{up, down, round, to_unsigned}
use Rattle.std.specs.Float.Ieee.Exact.{HasValue}

-- ---- the cast. The Rust Reference, "Numeric cast": "Casting from a float to an integer will round the float towards
-- zero"; "`NaN` will return `0`"; "Values larger than the maximum integer value, including `INFINITY`, will saturate
-- to the maximum value of the integer type"; "Values smaller than the minimum integer value, including
-- `NEG_INFINITY`, will saturate to the minimum value of the integer type"

-- r is a / c without its fraction, or `most` where that is more
pub record TowardZero (most a c r : ℕ) : Type 0 where
  pub in_range : r ≤ most
  pub not_over : r * c ≤ a
  pub not_short : (r ≡ most) ⊎ (a < (r + 1) * c)

-- r is the cast of x to an unsigned integer of w bits: its least value is 0, its largest 2 ^ w - 1. `fin s m e` is
-- m * up e / down e, negative where s is true.
abbrev pub FloatToInt : ℕ → Float → ℕ → Type 0
FloatToInt w nan r = r ≡ 0
FloatToInt w (inf true) r = r ≡ 0
FloatToInt w (inf false) r = r ≡ 2 ^ w - 1
FloatToInt w (fin true m e) r = r ≡ 0
FloatToInt w (fin false m e) r = TowardZero (2 ^ w - 1) (m * up e) (down e) r

-- what the contracts cite: the kit's account, the one number that the sentences allow (proofs/Reference.antt)
abbrev pub float_to_int : ℕ → Float → ℕ
float_to_int w x = to_unsigned w x

-- ---- Rust's documentation of `f64::round`: "Returns the nearest integer to `self`. If a value is half-way between two
-- integers, round away from `0.0`."; "This function always returns the precise result."

-- w is a / c to the nearest whole number, a half up: w - 1/2 ≤ a / c < w + 1/2
pub record HalfUp (a c w : ℕ) : Type 0 where
  pub not_over : w * 2 * c ≤ a * 2 + c
  pub not_short : a * 2 < (w * 2 + 1) * c

-- y is x rounded so: its size is the size of x with a half up, so away from zero, and it keeps the sign
abbrev pub Rounded : Float → Float → Type 0
Rounded nan y = y ≡ nan
Rounded (inf s) y = y ≡ inf s
Rounded (fin s m e) y = (w : ℕ) × HalfUp (m * up e) (down e) w × HasValue y s w 1

-- what the contracts cite
unfoldable pub round_away : Format → Float → Float
round_away f nan = nan
round_away f (inf s) = inf s
round_away f (fin s m e) = round f s ((m * up e * 2 + down e) / (down e * 2)) 1
