-- Rounding to a float, for either format at once. A whole number is cut to `prec` leading digits (`round_cut`); a fraction that the format holds is kept (`round_kept`); the
-- digits that are kept, times the place of the last of them, are the number's float (`of_cut`). Assumes nothing.
use Rattle.std.proofs.Common.{◌≡◌, ℕ, suc, ◌+◌, ◌-◌, ◌*◌, ◌/◌, ◌%◌, ◌^◌, ◌<◌, ◌≤◌, Bool, true, false, ◌&&◌, T, eqb, ltb, leb, ℤ, pos, sym, refl, ap, ◌∙◌, inl, inr, true≢false, lt_of_le_of_lt, le_of_lt, mul-le-mul_right, mul_assoc, div-lt_iff_lt-mul, eq-or-lt_of_le, mul-lt-mul_of_pos_right, mul-pos, one-mul, le-div_iff_mul-le, mul-one, div-one, arith, ltb→lt, pow_pos, pow-add}
use native.Mathlib.Nat.{mul-mul-mul_comm, eq_of_mul-eq-mul_right}
use lib.Pow.{pow-lt}
use lib.Ieee.{Float, nan, inf, fin, Format, binary32, binary64, prec, emax, low, up, down, size, round, mul, of_int, fits}
use lib.Ieee.Digits.{size-lt, size-le}
use lib.Ieee.Fits.{and_l, and_r, down_pos, of_int-fits}
use lib.Ieee.Exact.{HasValue, round_exact}
use lib.Ieee.Nearest.{closest, closest_same}
use lib.Ieee.Order.{drop, kept}
use lib.Ieee.Scale.{round_same, grid, overflow, round_val}
use lib.Ieee.Back.{round_whole, whole_unique}
use Rattle.numbers.specs.Inner.{Cut}
use Rattle.numbers.proofs.Closest.{closest_below, closest_le, lt_of_pow_lt}

-- ---- both formats keep from 2 to 64 digits, and reach 2 ^ 64
pub sizes : (f : Format) → (2 ≤ prec f) × (prec f ≤ 64) × (64 ≤ emax f)
sizes binary32 = omega arith
sizes binary64 = omega arith

-- ---- what `fits` tells of a value that is not zero
module _ (f : Format) (s : Bool) (m : ℕ) (e : ℤ) (h : T (fits f (fin s (suc m) e))) where
  abbrev odd : Bool
  odd = eqb (suc m % 2) 1

  abbrev few : Bool
  few = ltb (suc m) (2 ^ prec f)

  abbrev fine : Bool
  fine = leb (down e) (2 ^ low f)

  abbrev small : Bool
  small = ltb (suc m * up e) (2 ^ suc (emax f) * down e)

  pub format_digits : suc m < 2 ^ prec f
  unfolding fits
  format_digits = ltb→lt (suc m) (2 ^ prec f) (and_r odd few (and_l (odd && few) fine (and_l (odd && few && fine) small h)))

  pub format_range : suc m * up e < 2 ^ suc (emax f) * down e
  unfolding fits
  format_range = ltb→lt (suc m * up e) (2 ^ suc (emax f) * down e) (and_r (odd && few && fine) small h)

-- ---- a value by another fraction of the same size
pub same_value : (x : Float) (s : Bool) (a c b d : ℕ) → 0 < c → b * c ≡ a * d → HasValue x s a c → HasValue x s b d
same_value nan s a c b d C h v = v
same_value (inf t) s a c b d C h v = v
same_value (fin t m e) s a c b d C h v = (
  v.0,
  eq_of_mul-eq-mul_right c C (m * up e * d) (b * down e) (omega (arith, ap (λ (x : ℕ). x * d) v.1, ap (λ (x : ℕ). x * down e) h)),
)

-- ---- what the format holds is kept: a / c is m * 2 ^ j of its smallest values, with m at most 2 ^ prec
pub round_kept : (f : Format) (s : Bool) (a c m j : ℕ) → 0 < c → m ≤ 2 ^ prec f → m * 2 ^ j < overflow f → a * 2 ^ low f ≡ m * 2 ^ j * c → HasValue (round f s a c) s a c
round_kept f s a c m j C h g e = elim (eq-or-lt_of_le h) [
  | inl i ↦
      let t : m * 2 ^ j ≡ 1 * 2 ^ (prec f + j) = rw (i, one-mul, pow-add) in
      round_exact f s a c 1 (prec f + j) C (pow-lt {i = 0} (omega (arith, sizes f))) (rw t at g) (rw t at e)
  | inr l ↦ round_exact f s a c m j C l g e
]

-- a whole number of at most `prec` digits, shifted, below the format's end
module _ (f : Format) (m k : ℕ) (h : m ≤ 2 ^ prec f) (g : prec f + k ≤ emax f) where
  in_range : m * 2 ^ k * 2 ^ low f < overflow f
  in_range = lt_of_le_of_lt (mul-le-mul_right (2 ^ low f) (mul-le-mul_right (2 ^ k) h)) (rw (← pow-add, ← pow-add) (pow-lt (omega arith)))

  whole_kept : HasValue (round f false (m * 2 ^ k) 1) false (m * 2 ^ k) 1
  whole_kept =
      let e : m * 2 ^ k * 2 ^ low f ≡ m * 2 ^ (k + low f) = rw (pow-add, mul_assoc) in
      round_kept f false (m * 2 ^ k) 1 m (k + low f) (pow_pos 0) h (rw e at in_range) (rw (mul-one, e))

-- ---- how many digits `round` drops: those beyond p, of a whole part with p + d digits
pub size_is : (n d p : ℕ) → 0 < p → n < 2 ^ (p + d) → 2 ^ (p - 1 + d) ≤ n → size n - p ≡ d
size_is n d p P a b = omega (arith, size-le n (p + d) a, lt_of_pow_lt (p - 1 + d) (size n) (lt_of_le_of_lt b (size-lt n)))

module _ (p n k l : ℕ) (P : 0 < p) (hi : n / 2 ^ k < 2 ^ p) (lo : 2 ^ (p - 1) ≤ n / 2 ^ k) where
  -- 2 ^ x shifted by both
  both : (x : ℕ) → 2 ^ (x + (k + l)) ≡ 2 ^ x * 2 ^ k * 2 ^ l
  both x = rw (pow-add 2 x (k + l), pow-add 2 k l, mul_assoc)

  drop_is : drop p (n * 2 ^ l) 1 ≡ k + l
  drop_is =
      rw div-one
      (size_is (n * 2 ^ l) (k + l) p P (rw both (mul-lt-mul_of_pos_right ((div-lt_iff_lt-mul (pow_pos k)).0 hi) (pow_pos l)))
      (rw both (mul-le-mul_right (2 ^ l) ((le-div_iff_mul-le (pow_pos k)).0 lo))))

  kept_is : kept p (n * 2 ^ l) 1 * 2 ^ drop p (n * 2 ^ l) 1 ≡ closest n (2 ^ k) * 2 ^ k * 2 ^ l
  kept_is =
      let e : closest (n * 2 ^ l) (1 * 2 ^ (k + l)) ≡ closest n (2 ^ k) =
      closest_same (n * 2 ^ l) (1 * 2 ^ (k + l)) n (2 ^ k) (mul-pos (pow_pos 0) (pow_pos (k + l))) (pow_pos k) (rw (pow-add 2 k l) (omega arith)) in
      rw (drop_is, e, pow-add 2 k l, mul_assoc)

-- ---- the rounding fact: a whole number n, cut to the digits that the format keeps
closest_one : (n : ℕ) → closest n 1 ≡ n
closest_one n = closest_below n 1 (omega arith) ∙ div-one n

pub round_cut : (f : Format) (n k : ℕ) → Cut (prec f) n k → prec f + k ≤ emax f → HasValue (round f false n 1) false (closest n (2 ^ k) * 2 ^ k) 1
round_cut f n k (hi, inl z) g = rw (z, mul-one, closest_one n) (round_whole f false n (le_of_lt (rw (z, div-one) at hi)))
round_cut f n k (hi, inr lo) g =
    let w = closest n (2 ^ k) * 2 ^ k in
    let e : grid f n 1 ≡ w * 2 ^ low f = kept_is (prec f) n k (low f) (omega (arith, sizes f)) hi lo in
    same_value (round f false n 1) false (w * 2 ^ low f) (2 ^ low f) w 1 (pow_pos (low f)) (sym (mul-one (w * 2 ^ low f)))
    (rw e at (round_val f n 1 (rw e (in_range f (closest n (2 ^ k)) k (closest_le n (2 ^ k) (2 ^ prec f) hi) g))))

-- ---- the product of two values that are not negative, by any fractions that they equal
pub mul_value : (f : Format) (x y : Float) (a c b d : ℕ) → 0 < c → 0 < d → HasValue x false a c → HasValue y false b d → mul f x y ≡ round f false (a * b) (c * d)
unfolding mul
mul_value f nan y a c b d C D h k = absurd h
mul_value f (inf s) y a c b d C D h k = absurd h
mul_value f (fin true m e) y a c b d C D h k = absurd (true≢false h.0)
mul_value f (fin false m e) nan a c b d C D h k = absurd k
mul_value f (fin false m e) (inf t) a c b d C D h k = absurd k
mul_value f (fin false m e) (fin true n g) a c b d C D h k = absurd (true≢false k.0)
mul_value f (fin false m e) (fin false n g) a c b d C D h k =
    round_same f false (m * up e * (n * up g)) (down e * down g) (a * b) (c * d) (mul-pos (down_pos e) (down_pos g)) (mul-pos C D)
    (mul-mul-mul_comm (m * up e) (n * up g) c d ∙ rw (h.1, k.1) (mul-mul-mul_comm a (down e) b (down g)))

-- ---- a whole number's float
pub of_int_is : (f : Format) (n : ℕ) → of_int f (pos n) ≡ round f false n 1
unfolding of_int
of_int_is f n = refl

pub whole_value : (f : Format) (n : ℕ) → n ≤ 2 ^ prec f → HasValue (of_int f (pos n)) false n 1
whole_value f n h = rw of_int_is (round_whole f false n h)

-- ---- a product with a power of two loses nothing, up to the format's end
pub times_power : (f : Format) (x y : Float) (m i j : ℕ) → m ≤ 2 ^ prec f → prec f + (i + j) ≤ emax f
    → HasValue x false (m * 2 ^ i) 1 → HasValue y false (2 ^ j) 1 → HasValue (mul f x y) false (m * 2 ^ (i + j)) 1
times_power f x y m i j h g v w =
    let e : m * 2 ^ i * 2 ^ j ≡ m * 2 ^ (i + j) = rw (pow-add, mul_assoc) in
    rw (mul_value f x y (m * 2 ^ i) 1 (2 ^ j) 1 (pow_pos 0) (pow_pos 0) v w, e) (whole_kept f m (i + j) h g)

-- ---- the digits that are kept, rounded, in their place are the number's float
pub of_cut : (f : Format) (n k : ℕ) (x : Float) → Cut (prec f) n k → prec f + k ≤ emax f → T (fits f x)
    → HasValue x false (closest n (2 ^ k) * 2 ^ k) 1 → x ≡ of_int f (pos n)
of_cut f n k x c g F v =
    whole_unique f x (of_int f (pos n)) false (closest n (2 ^ k) * 2 ^ k) F (of_int-fits f (pos n)) v (rw (of_int_is f n) (round_cut f n k c g))
