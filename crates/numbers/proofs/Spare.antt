-- What a float is made of, once the digits beyond the format's are counted (`of_spare`): those that are kept, rounded, times the place of the last of them, 2 ^ k. The place is
-- taken in two steps, since a number beyond those that a float holds without a gap can't be cast. Assumes nothing.
use Rattle.std.proofs.Common.{◌≡◌, ℕ, ◌+◌, ◌*◌, ◌^◌, ◌<◌, ◌≤◌, false, T, pos, refl, lt_of_le_of_lt, div-lt_iff_lt-mul, zero-add, mul-one, arith, le→leb, pow_pos, pow_mono, pow-add}
use lib.Ieee.{Float, fin, Format, binary32, prec, emax, of_int, of_bits, mul, in_float}
use lib.Ieee.Exact.{HasValue}
use lib.Ieee.Fits.{mul-fits}
use lib.Ieee.Nearest.{closest}
use Rattle.numbers.specs.Inner.{Spare}
use Rattle.numbers.proofs.Closest.{closest_le, lt_of_pow_lt}
use Rattle.numbers.proofs.Rounding.{sizes, whole_value, times_power, of_cut}

-- a number that the format holds counts as a float without a gap
pub whole_in_float : (f : Format) (n : ℕ) → n ≤ 2 ^ prec f → T (in_float f (pos n))
unfolding in_float
whole_in_float f n h = le→leb n (2 ^ prec f) h

-- 2 ^ 24 as the machine has it, by its pattern
pub two_to_24 : of_bits binary32 0x4b80_0000 ≡ fin false 1 (pos 24)
unfolding of_bits
two_to_24 = refl

-- a number of more than p + j digits has more than j beyond p
pub spare_more : (p j : ℕ) {n k : ℕ} → Spare p n k → 2 ^ (p + j) ≤ n → j < k
spare_more p j {n} {k} s h =
    omega (arith, lt_of_pow_lt (p + j) (p + k) (lt_of_le_of_lt h (rw (pow-add 2 p k) ((div-lt_iff_lt-mul (pow_pos k)).0 s.cut.0))))

module _ (f : Format) {n k m : ℕ} (s : Spare (prec f) n k) (e : m ≡ closest n (2 ^ k)) where
  few : m ≤ 2 ^ prec f
  few = rw e (closest_le n (2 ^ k) (2 ^ prec f) s.cut.0)

  reach : prec f + k ≤ emax f
  reach = omega (arith, s.few, sizes f)

  pub kept_in_float : T (in_float f (pos m))
  kept_in_float = whole_in_float f m few

  -- the digits, times a power of two that the format holds
  placed : (i : ℕ) → i ≤ k → i ≤ prec f → HasValue (mul f (of_int f (pos m)) (of_int f (pos (2 ^ i)))) false (m * 2 ^ i) 1
  placed i h g =
      rw zero-add at (times_power f (of_int f (pos m)) (of_int f (pos (2 ^ i))) m 0 i few (omega (arith, reach)) (rw mul-one (whole_value f m few)) (whole_value f (2 ^ i) (pow_mono g)))

  pub of_spare : (i j : ℕ) (y : Float) → i + j ≡ k → i ≤ prec f → HasValue y false (2 ^ j) 1
      → mul f (mul f (of_int f (pos m)) (of_int f (pos (2 ^ i)))) y ≡ of_int f (pos n)
  of_spare i j y h g v =
      of_cut f n k _ s.cut reach (mul-fits f _ _) (rw (← e, ← h) (times_power f _ y m i j few (omega (arith, reach)) (placed i (omega arith) g) v))
