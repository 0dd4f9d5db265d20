-- The casts of the definitions are Rust's: each is the one answer that the sentence of the Rust Reference, or of Rust's
-- documentation, allows. Statements only.
use Rattle.std.specs.Prelude.{ℕ, ◌^◌, ◌<◌, ◌≡◌, T, Float}
use Rattle.std.specs.Float.{binary32, binary64}
use Rattle.std.specs.Float.Ieee.{fits}
use Rattle.numbers.specs.IntToFloat.{IntToFloat, int_to_float}
use Rattle.numbers.specs.FloatToFloat.{F32ToF64, f32_to_f64}
use Rattle.numbers.specs.FloatToInt.{FloatToInt, float_to_int, Rounded, round_away}

-- of all that Is holds of, y alone is what P allows
abbrev pub Only : {A : Type 0} (Is P : A → Type 0) (y : A) → Type 0
Only {A} Is P y = P y × ((x : A) → Is x → P x → x ≡ y)

-- an f32, an f64: a float that the format holds
abbrev pub IsF32 : Float → Type 0
IsF32 x = T (fits binary32 x)

abbrev pub IsF64 : Float → Type 0
IsF64 x = T (fits binary64 x)

abbrev pub IsNumber : ℕ → Type 0
IsNumber n = Unit {0}

-- the sentences stand in crates/numbers/specs: IntToFloat.antt, FloatToInt.antt (`f64::round` too), FloatToFloat.antt
pub record Casts : Type 0 where
  pub u64_to_f32 : (n : ℕ) → n < 2 ^ 64 → Only IsF32 (IntToFloat binary32 n) (int_to_float binary32 n)
  pub u64_to_f64 : (n : ℕ) → n < 2 ^ 64 → Only IsF64 (IntToFloat binary64 n) (int_to_float binary64 n)
  pub to_u64 : (x : Float) → Only IsNumber (FloatToInt 64 x) (float_to_int 64 x)
  pub f64_round : (x : Float) → IsF64 x → Only IsF64 (Rounded x) (round_away binary64 x)
  pub f32_to_f64_lem : (x : Float) → IsF32 x → Only IsF64 (F32ToF64 x) (f32_to_f64 x)
