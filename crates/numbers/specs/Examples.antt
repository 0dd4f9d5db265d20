-- document 01, "Marked examples": those about the conversions. All twelve, in one list with one proof, are in
-- crates/laws/specs/Examples.antt.
use Rattle.std.specs.Prelude.{ℕ, ◌-◌, ◌*◌, ◌^◌, Bool, true, false, ◌&&◌, List, [], ◌∷◌, pos, negsuc, ◌==◌, from_bits, nat_lt, Float}
use Rattle.std.specs.Float.{nan, inf, fin, binary32}
use Rattle.std.specs.Float.Ieee.{eq}
use Rattle.numbers.specs.IntToFloat.{int_to_float}
use Rattle.numbers.specs.FloatToInt.{float_to_int}
use Rattle.numbers.specs.Scaling.{scaled, complement}

-- every fact of a list holds
unfoldable pub all : List Bool → Bool
all [] = true
all (fact ∷ facts) = fact && all facts

-- a float is written without a sign. `eq` takes -0 for 0, this doesn't
abbrev pub is_unsigned : Float → Bool
is_unsigned nan = false
is_unsigned (inf true) = false
is_unsigned (inf false) = true
is_unsigned (fin true m e) = false
is_unsigned (fin false m e) = true

-- n converts to the float w, which has no sign
abbrev pub converts : ℕ → ℕ → Bool
converts n w = eq (int_to_float binary32 n) (fin false w (pos 0)) && is_unsigned (int_to_float binary32 n)

-- b at beta 0.3, whose bits are 3E99999A
abbrev pub b : Float
b = complement (from_bits binary32 0x3e99_999a)

unfoldable pub conversions : List Bool
conversions =
    -- 1. 0 converts to 0, and not to -0
    converts 0 0
    -- 2. 16,777,217 converts to 16,777,216
    ∷ converts 16777217 16777216
    -- 3. 16,777,219 converts to 16,777,220
    ∷ converts 16777219 16777220
    -- 4. 2^64 - 1 converts to 2^64, and back to 2^64 - 1
    ∷ converts (2 ^ 64 - 1) (2 ^ 64)
    ∷ (float_to_int 64 (int_to_float binary32 (2 ^ 64 - 1)) == 2 ^ 64 - 1)
    -- 5. beta 0.3 gives b = 11,744,051 / 2^24
    ∷ eq b (fin false 11744051 (negsuc 23))
    -- 6. scale(1300, b) = 910, though the exact product is below 910
    ∷ (scaled 1300 b == 910)
    ∷ nat_lt (1300 * 11744051) (910 * 2 ^ 24)
    -- 7. scale(10, b) = 7; scale(1, b) = 0
    ∷ (scaled 10 b == 7)
    ∷ (scaled 1 b == 0)
    ∷ []
