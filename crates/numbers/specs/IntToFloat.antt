-- A whole number as a float. The Rust Reference, "Numeric cast": "Casting from an integer to float will produce the
-- closest possible float"; "if necessary, rounding is according to `roundTiesToEven` mode". (On overflow it gives an
-- infinity; it notes that this can only happen for `u128 as f32`.)
-- The sentence is `IntToFloat`. The contracts cite `int_to_float`, the kit's account of the cast. It is the one float
-- that the sentence allows (proofs/Reference.antt).
use Rattle.std.specs.Prelude.{◌≡◌, ℕ, ◌+◌, ◌-◌, ◌*◌, ◌^◌, ◌<◌, ◌≤◌, false, ◌⊎◌, pos, Float}
use Rattle.std.specs.Float.{Format}
use Rattle.std.specs.Float.Ieee.{prec, of_int}
use Rattle.std.specs.Float.Ieee.Exact.{HasValue}

-- ---- the sentence

-- A whole number that a float of p significant digits can be: a multiple of a power of two, with fewer than 2 ^ p as
-- the factor.
pub record Possible (p w : ℕ) : Type 0 where
  pub digits : ℕ
  pub places : ℕ
  pub few : digits < 2 ^ p
  pub is : w ≡ digits * 2 ^ places

-- How far apart two numbers are. `-` gives 0 where it would go below 0.
abbrev pub apart : ℕ → ℕ → ℕ
apart a b = (a - b) + (b - a)

-- w is the closest of the possible numbers to n. Where another is as close, w's last digit is even: w could be
-- written with one digit less.
pub record Closest (p n w : ℕ) : Type 0 where
  pub possible : Possible p w
  pub nearest : (v : ℕ) → Possible p v → apart n w ≤ apart n v
  pub even : (v : ℕ) → Possible p v → apart n v ≡ apart n w → (v ≡ w) ⊎ Possible (p - 1) w

-- x is the cast of n to the format f. `HasValue x false w 1`, of the kit: x is finite, not negative, and its value is
-- w.
pub record IntToFloat (f : Format) (n : ℕ) (x : Float) : Type 0 where
  pub whole : ℕ
  pub closest : Closest (prec f) n whole
  pub is : HasValue x false whole 1

-- ---- what the contracts cite

abbrev pub int_to_float : Format → ℕ → Float
int_to_float f n = of_int f (pos n)
