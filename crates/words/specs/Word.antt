-- One word, a number of 64 bits: a flag, an f32. Definitions only.
-- Every word is read as something. Of a call's words, what no writer writes, a malformed word, is read as something
-- out of bounds, so that the call refuses it: a float as the NaN, a pair as the number `outside`; a flag has no bounds,
-- so a number that is given with it is read as `outside` (`or_outside`). A state's words are tested whole by the run.
use Rattle.std.specs.Prelude.{ℕ, ◌-◌, ◌^◌, Bool, cond, List, ltb, leb, eqb, get_or, Float}
use Rattle.std.specs.Float.{nan, binary32}
use Rattle.std.specs.Float.Ieee.{of_bits, to_bits}

-- word i
abbrev pub word : List ℕ → ℕ → ℕ
word l i = get_or l i 0

-- a number that document 01 lets no moment, length of time, bandwidth or byte count be, where it can't be "unset"
abbrev pub outside : ℕ
outside = 2 ^ 64 - 1

-- a number that is given with words of which `fits` says whether a writer writes them
abbrev pub or_outside : (fits : Bool) → ℕ → ℕ
or_outside fits n = cond fits n outside

-- a flag: 1 for yes, 0 for no. No writer writes anything else
abbrev pub flag_word : Bool → ℕ
flag_word b = cond b 1 0

abbrev pub flag_of : ℕ → Bool
flag_of w = eqb w 1

abbrev pub flag_fits : ℕ → Bool
flag_fits w = leb w 1

-- an f32: its pattern of 32 bits. Every NaN's pattern is read as the one NaN, which is written 0x7fc0_0000; so is a
-- word with bits above the 32nd, which no writer writes
abbrev pub float_word : Float → ℕ
float_word x = to_bits binary32 x

abbrev pub float_of : ℕ → Float
float_of w = cond (ltb w (2 ^ 32)) (of_bits binary32 w) nan

-- a writer writes 32 bits
abbrev pub float_fits : ℕ → Bool
float_fits w = ltb w (2 ^ 32)
