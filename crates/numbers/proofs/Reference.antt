-- The kit's account of the casts, which the contracts cite, is what the Rust Reference and Rust's documentation say, and nothing else is: for each, that it meets the sentence
-- (`..-agrees`), and that whatever meets the sentence is it (`..-only`). Assumes nothing.
use Rattle.std.proofs.Common.{◌≡◌, ℕ, zero, suc, ◌+◌, ◌-◌, ◌*◌, ◌/◌, ◌%◌, ◌^◌, ◌<◌, ◌≤◌, min, Bool, true, false, ◌&&◌, T, eqb, ltb, leb, ℤ, pos, negsuc, sym, refl, ap, ◌∙◌, subst, inl, inr, le_trans, mul-le-mul_right, zero-lt-suc, mul_assoc, mul-pos, one-mul, le-div_iff_mul-le, zero-mul, mul-one, div-mul-le_self, mul_left_comm, arith, eqb→eq, pow_pos, pow-add}
use native.Mathlib.Nat.{pow-succ', div-eq_of_lt-le, lt-div-mul-add, min-le_left, min-le_right, min-eq_left}
use lib.Ieee.{Float, nan, inf, fin, Format, binary32, binary64, prec, emax, low, up, down, size, round, fits, to_unsigned}
use lib.Ieee.Digits.{size-le}
use lib.Ieee.Fits.{up_pos, down_pos, and_l, of_int-fits, round-fits, fits_widens}
use lib.Ieee.Exact.{HasValue}
use lib.Ieee.Nearest.{closest}
use lib.Ieee.Back.{whole_unique}
use Rattle.numbers.specs.IntToFloat.{IntToFloat, int_to_float}
use Rattle.std.proofs.num.f32_to_f64_with_nan as widening
use Rattle.numbers.specs.Inner.{Cut}
use Rattle.numbers.specs.FloatToFloat.{F32ToF64, f32_to_f64}
use Rattle.numbers.specs.FloatToInt.{TowardZero, FloatToInt, float_to_int, HalfUp, Rounded, round_away}
use Rattle.numbers.proofs.Closest.{le_or_lt, cut_of, cut_closest, only_closest}
use Rattle.numbers.proofs.Rounding.{sizes, round_cut, of_int_is}
use Rattle.numbers.proofs.Away.{away_value}

-- ---- an integer to a float
module _ (f : Format) (n : ℕ) (N : n < 2 ^ 64) where
  abbrev k : ℕ
  k = size n - prec f

  cut : Cut (prec f) n k
  cut = cut_of (prec f) n (omega (arith, sizes f))

  value : HasValue (int_to_float f n) false (closest n (2 ^ k) * 2 ^ k) 1
  value = rw of_int_is (round_cut f n k cut (omega (arith, size-le n 64 N, sizes f)))

  pub int_to_float_agrees : IntToFloat f n (int_to_float f n)
  int_to_float_agrees = record { whole = closest n (2 ^ k) * 2 ^ k; closest = cut_closest (prec f) n k (sizes f).0 cut; is = value }

  pub int_to_float_only : (x : Float) → T (fits f x) → IntToFloat f n x → x ≡ int_to_float f n
  int_to_float_only x F h =
      whole_unique f x (int_to_float f n) false (closest n (2 ^ k) * 2 ^ k) F (of_int-fits f (pos n))
      (rw (only_closest (prec f) n k (sizes f).0 cut h.whole h.closest) at h.is) value

-- ---- a float to an integer
toward_zero : (most a c : ℕ) → 0 < c → TowardZero most a c (min (a / c) most)
toward_zero most a c C = record {
  in_range = min-le_right (a / c) most;
  not_over = le_trans (mul-le-mul_right c (min-le_left (a / c) most)) (div-mul-le_self a c);
  not_short = elim (le_or_lt (a / c) most) [ inl h ↦ inr (rw (min-eq_left h) (omega (arith, lt-div-mul-add {a = a} C))) | inr h ↦ inl (omega arith) ];
}

toward_zero_only : (most a c r : ℕ) → 0 < c → TowardZero most a c r → r ≡ min (a / c) most
toward_zero_only most a c r C h =
    let under : r ≤ a / c = (le-div_iff_mul-le C).1 h.not_over in
    elim h.not_short [ inl e ↦ omega arith | inr l ↦ omega (arith, div-eq_of_lt-le c h.not_over l, h.in_range) ]

module _ (w : ℕ) where
  pub float_to_int_agrees : (x : Float) → FloatToInt w x (float_to_int w x)
  unfolding to_unsigned
  float_to_int_agrees nan = refl
  float_to_int_agrees (inf true) = refl
  float_to_int_agrees (inf false) = refl
  float_to_int_agrees (fin true m e) = refl
  float_to_int_agrees (fin false m e) = toward_zero (2 ^ w - 1) (m * up e) (down e) (down_pos e)

  pub float_to_int_only : (x : Float) (r : ℕ) → FloatToInt w x r → r ≡ float_to_int w x
  unfolding to_unsigned
  float_to_int_only nan r h = h
  float_to_int_only (inf true) r h = h
  float_to_int_only (inf false) r h = h
  float_to_int_only (fin true m e) r h = h
  float_to_int_only (fin false m e) r h = toward_zero_only (2 ^ w - 1) (m * up e) (down e) r (down_pos e) h

-- ---- `round`
half_up : (a c : ℕ) → 0 < c → HalfUp a c ((a * 2 + c) / (c * 2))
half_up a c C = record { not_over = omega (arith, div-mul-le_self (a * 2 + c) (c * 2)); not_short = omega (arith, lt-div-mul-add {a = a * 2 + c} (mul-pos C (pow_pos 1))) }

half_up_only : (a c w : ℕ) → 0 < c → HalfUp a c w → w ≡ (a * 2 + c) / (c * 2)
half_up_only a c w C h = sym (div-eq_of_lt-le (c * 2) (omega (arith, h.not_over)) (omega (arith, h.not_short)))

module _ (f : Format) where
  pub round_agrees : (x : Float) → T (fits f x) → Rounded x (round_away f x)
  unfolding round_away
  round_agrees nan F = refl
  round_agrees (inf s) F = refl
  round_agrees (fin s m e) F = ((m * up e * 2 + down e) / (down e * 2), half_up (m * up e) (down e) (down_pos e), away_value f s m e F)

  pub round_only : (x y : Float) → T (fits f x) → T (fits f y) → Rounded x y → y ≡ round_away f x
  unfolding round_away
  round_only nan y F G h = h
  round_only (inf s) y F G h = h
  round_only (fin s m e) y F G h =
      let w = (m * up e * 2 + down e) / (down e * 2) in
      whole_unique f y (round f s w 1) s w G (round-fits f s w 1) (rw (half_up_only (m * up e) (down e) h.0 (down_pos e) h.1) at h.2) (away_value f s m e F)

-- ---- an f32 to an f64. A number is an odd one times a power of two in one way
even_odd : (m t : ℕ) → m % 2 ≡ 1 → m ≡ 2 * t → ⊥
even_odd m t o h = omega arith

two_more : (n b : ℕ) → n * 2 ^ suc b ≡ 2 * (n * 2 ^ b)
two_more n b = rw (pow-succ' 2 b) (mul_left_comm n 2 (2 ^ b))

odd_once : (m n a b : ℕ) → m % 2 ≡ 1 → n % 2 ≡ 1 → m * 2 ^ a ≡ n * 2 ^ b → (m ≡ n) × (a ≡ b)
odd_once m n zero zero o p h = (omega arith, refl)
odd_once m n zero (suc b) o p h = absurd (even_odd m (n * 2 ^ b) o (sym (mul-one m) ∙ h ∙ two_more n b))
odd_once m n (suc a) zero o p h = absurd (even_odd n (m * 2 ^ a) p (sym (mul-one n) ∙ sym h ∙ two_more m a))
odd_once m n (suc a) (suc b) o p h = let r = odd_once m n a b o p (omega (arith, two_more m a, two_more n b)) in (r.0, ap suc r.1)

odd_fraction : (m n : ℕ) (e g : ℤ) → m % 2 ≡ 1 → n % 2 ≡ 1 → n * up g * down e ≡ m * up e * down g → (n ≡ m) × (g ≡ e)
odd_fraction m n (pos a) (pos b) o p h = let r = odd_once n m b a p o (omega arith) in (r.0, ap pos r.1)
odd_fraction m n (pos a) (negsuc b) o p h = let r = odd_once n m 0 (a + suc b) p o (omega (arith, mul_assoc m (2 ^ a) (2 ^ suc b)) ∙ ap (λ (x : ℕ). m * x) (sym (pow-add 2 a (suc b)))) in absurd (omega (arith, r.1))
odd_fraction m n (negsuc a) (pos b) o p h = let r = odd_once n m (b + suc a) 0 p o (ap (λ (x : ℕ). n * x) (pow-add 2 b (suc a)) ∙ omega (arith, mul_assoc n (2 ^ b) (2 ^ suc a))) in absurd (omega (arith, r.1))
odd_fraction m n (negsuc a) (negsuc b) o p h = let r = odd_once n m (suc a) (suc b) p o (simp mul-one at h) in (r.0, ap negsuc (omega (arith, r.1)))

fits_odd : (f : Format) (s : Bool) (m : ℕ) (e : ℤ) → T (fits f (fin s (suc m) e)) → suc m % 2 ≡ 1
unfolding fits
fits_odd f s m e t =
    eqb→eq (suc m % 2) 1 (and_l (eqb (suc m % 2) 1) (ltb (suc m) (2 ^ prec f)) (and_l (eqb (suc m % 2) 1 && ltb (suc m) (2 ^ prec f)) (leb (down e) (2 ^ low f))
    (and_l (eqb (suc m % 2) 1 && ltb (suc m) (2 ^ prec f) && leb (down e) (2 ^ low f)) (ltb (suc m * up e) (2 ^ suc (emax f) * down e)) t)))

-- and 0 is written in one way
fits_zero : (f : Format) (s : Bool) (e : ℤ) → T (fits f (fin s zero e)) → e ≡ pos 0
unfolding fits
fits_zero f s (pos zero) t = refl
fits_zero f s (pos (suc k)) t = absurd (even_odd 1 (2 ^ k) refl (sym (eqb→eq (2 ^ suc k * 1) 1 t) ∙ mul-one (2 ^ suc k) ∙ pow-succ' 2 k))
fits_zero f s (negsuc k) t = absurd (even_odd 1 (2 ^ k) refl (sym (eqb→eq (1 * 2 ^ suc k) 1 t) ∙ one-mul (2 ^ suc k) ∙ pow-succ' 2 k))

positive : (m : ℕ) (e g : ℤ) → suc m * up e * down g ≡ zero → ⊥
positive m e g h = omega (arith, mul-pos (mul-pos (zero-lt-suc m) (up_pos e)) (down_pos g))

-- two floats that a format holds, of one sign and size
same_float : (f : Format) (s : Bool) (m : ℕ) (e : ℤ) (y : Float) → T (fits f (fin s m e)) → T (fits f y) → HasValue y s (m * up e) (down e) → y ≡ fin s m e
same_float f s m e nan F G h = absurd h
same_float f s m e (inf t) F G h = absurd h
same_float f s zero e (fin t zero g) F G h = λ i. fin (h.0 i) zero ((fits_zero f t g G ∙ sym (fits_zero f s e F)) i)
same_float f s zero e (fin t (suc n) g) F G h = absurd (positive n g e (h.1 ∙ simp zero-mul))
same_float f s (suc m) e (fin t zero g) F G h = absurd (positive m e g (sym h.1 ∙ simp zero-mul))
same_float f s (suc m) e (fin t (suc n) g) F G h =
    let r = odd_fraction (suc m) (suc n) e g (fits_odd f s m e F) (fits_odd f t n g G) h.1 in λ i. fin (h.0 i) (r.0 i) (r.1 i)

-- an f64 holds it, it meets the sentence, and no other f64 does
pub f32_to_f64_held : (x : Float) → T (fits binary32 x) → T (fits binary64 (f32_to_f64 x))
f32_to_f64_held x F = fits_widens x F

pub f32_to_f64_agrees : (x : Float) → F32ToF64 x (f32_to_f64 x)
f32_to_f64_agrees nan = refl
f32_to_f64_agrees (inf s) = refl
f32_to_f64_agrees (fin s m e) = (refl, refl)

pub f32_to_f64_only : (x y : Float) → T (fits binary32 x) → T (fits binary64 y) → F32ToF64 x y → y ≡ f32_to_f64 x
f32_to_f64_only nan y F G h = h
f32_to_f64_only (inf s) y F G h = h
f32_to_f64_only (fin s m e) y F G h = same_float binary64 s m e y (fits_widens (fin s m e) F) G h

-- so what the kit's widening function answers meets the sentence: its contract says that it answers what it is given
pub f32_to_f64_widened : (κ : _) (a : _) (x : Float) (s : _) → widening.Reads.Learnt κ a x s → F32ToF64 a.0 x
f32_to_f64_widened κ a x s p = subst (F32ToF64 a.0) (sym p) (f32_to_f64_agrees a.0)
