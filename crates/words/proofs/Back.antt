-- What is written for a flag, an f32 or a thing that may be unset is read back as it was. Assumes nothing.
use Rattle.std.specs.Prelude.{Option, None, Some}
use Rattle.std.specs.Int.{from_bool}
use Prim.Native.Nat.{ℕ, ◌^◌}
use Rattle.units.specs.declared.time.Duration.{Duration}
use Rattle.units.specs.declared.bandwidth.Bandwidth.{Bandwidth}
use mathlib.Core.Path.{◌≡◌, refl}
use mathlib.Core.Bool.{Bool, true, false, cond}
use lib.Dec.{T, ltb}
use lib.Ieee.{Float, nan, binary32, of_bits, to_bits, fits}
use lib.Ieee.Bits.{of_bits-to_bits, of_bits-fits, to_bits-lt}
use borrow.Author.Tests.{lt-ltb}
use Rattle.words.specs.Word.{flag_word, flag_of, flag_fits, float_word, float_of}
use Rattle.words.specs.Maybe.{bandwidth_maybe, bandwidth_of, length_maybe, length_of, plain_maybe, plain_of}

pub flag_written : (yes : Bool) → flag_fits (flag_word yes) ≡ true
flag_written true = refl
flag_written false = refl

-- std's number of a flag is its word
pub flag_number : (yes : Bool) → from_bool yes ≡ flag_word yes
flag_number true = refl
flag_number false = refl

pub flag_back : (yes : Bool) → flag_of (flag_word yes) ≡ yes
flag_back true = refl
flag_back false = refl

pub float_back : (x : Float) → T (fits binary32 x) → float_of (float_word x) ≡ x
float_back x h = rw (lt-ltb (to_bits binary32 x) (2 ^ 32) (to_bits-lt binary32 x h)) (of_bits-to_bits binary32 x h)

-- what is read from a word is an f32
pub float_fits_lem : (w : ℕ) → T (fits binary32 (float_of w))
unfolding fits
float_fits_lem w = go (ltb w (2 ^ 32))
  where
    go : (t : Bool) → T (fits binary32 (cond t (of_bits binary32 w) nan))
    go true = of_bits-fits binary32 w
    go false = tt

pub bandwidth_back : (x : Option Bandwidth) → bandwidth_of (bandwidth_maybe x).0 (bandwidth_maybe x).1 ≡ x
bandwidth_back None = refl
bandwidth_back (Some b) = refl

pub length_back : (x : Option Duration) → length_of (length_maybe x).0 (length_maybe x).1 ≡ x
length_back None = refl
length_back (Some d) = refl

pub plain_back : (x : Option ℕ) → plain_of (plain_maybe x).0 (plain_maybe x).1 ≡ x
plain_back None = refl
plain_back (Some n) = refl
