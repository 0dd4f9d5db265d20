-- A product divided, by parts: laws over any divisor.
use Rattle.std.proofs.Common.{◌≡◌, ℕ, ◌+◌, ◌-◌, ◌*◌, ◌/◌, ◌%◌, ◌^◌, ◌<◌, ◌≤◌, min, Bool, true, false, ◌&&◌, leb, sym, refl, ap, ◌∙◌, true≢false, le_trans, le_of_eq, lt_of_le_of_lt, le_of_lt, add_assoc, mod-lt, mul_comm, add-mul, mul-le-mul_left, mul-lt-mul_of_pos_right, div-add-mod', mul_right_comm, arith, leb-true}
use native.Mathlib.Nat.{min-eq_left, div-le_of_le-mul, mul-add-div_right}

-- a product, with one factor split at k
split : (k a b : ℕ) → a * b ≡ a / k * b * k + a % k * b
split k a b = rw (mul_right_comm (a / k) b k, ← add-mul, div-add-mod')

-- whole multiples of the divisor come out of a factor
pub whole_out : (d a b : ℕ) → 0 < d → a * b / d ≡ a / d * b + a % d * b / d
whole_out d a b p = ap (λ n. n / d) (split d a b) ∙ mul-add-div_right p (a / d * b) (a % d * b)

-- one factor split at k, and its upper part's product divided first
pub by_parts : (d k a b : ℕ) → 0 < d → a * b / d ≡ a / k * b / d * k + (a / k * b % d * k + a % k * b) / d
by_parts d k a b p =
    ap (λ n. n / d) (split k a b ∙ ap (λ n. n + a % k * b) (split d (a / k * b) k) ∙ add_assoc _ _ _)
    ∙ mul-add-div_right p _ _

-- what is left of one factor, times the other, over the divisor, is at most the other
pub rest_fits : (d t b : ℕ) → 0 < d → t / d * (b % d) + t % d * (b % d) / d ≤ t
rest_fits d t b p =
    le_trans
    (le_of_eq (sym (whole_out d t (b % d) p)))
    (div-le_of_le-mul d (rw (mul_comm d t) (mul-le-mul_left t (le_of_lt (mod-lt b p)))))

-- a product of 17 and 33 binary digits has at most 50
below : (a b : ℕ) → a < 2 ^ 17 → b < 2 ^ 33 → a * b < 2 ^ 50
below a b p q = lt_of_le_of_lt (mul-le-mul_left a (le_of_lt q)) (mul-lt-mul_of_pos_right p (omega arith))

-- a factor of 33 binary digits, split at 2^16: both parts' products have at most 50
pub parts_fit : (a b : ℕ) → a < 2 ^ 33 → b < 2 ^ 33 → (a / 65536 * b < 2 ^ 50) × (a % 65536 * b < 2 ^ 50)
parts_fit a b p q = (below (a / 65536) b (omega arith) q, below (a % 65536) b (omega arith) q)

-- a bound on a part of a sum is lost in the same bound on the sum
cut : (m x y : ℕ) → min (min x m + y) m ≡ min (x + y) m
cut m x y = omega arith

-- the parts of both factors, put together under a bound, are the quotient under that bound
pub saturated :
    (d m b t : ℕ) {w f r : ℕ} → 0 < d → w ≡ min (b / d * t) m → f ≡ t % d * (b % d) / d →
    r ≡ min (w + (t / d * (b % d) + f)) m → r ≡ min (b * t / d) m
saturated d m b t {w} {f} {r} p ew ef er =
    er
    ∙ rw (ew, ef, ← whole_out d t (b % d) p, mul_comm t (b % d), cut m (b / d * t) (b % d * t / d), ← whole_out d b t p)

-- ---- two numbers of 32 binary digits, as the code tests them
module _ (a b : ℕ) (h : (leb a 4_294_967_295 && leb b 4_294_967_295) ≡ true) where
  both : (s t : Bool) → (s && t) ≡ true → (s ≡ true) × (t ≡ true)
  both true t e = (refl, e)
  both false t e = absurd (true≢false (sym e))

  small : (a ≤ 4_294_967_295) × (b ≤ 4_294_967_295)
  small =
      let tests = both (leb a 4_294_967_295) (leb b 4_294_967_295) h in
      (leb-true a 4_294_967_295 tests.0, leb-true b 4_294_967_295 tests.1)

  -- their product has at most 64
  pub fits_64 : a * b < 2 ^ 64
  fits_64 = lt_of_le_of_lt (mul-le-mul_left a small.1) (omega (arith, small.0))

  pub not_most : a ≡ 2 ^ 64 - 1 → ⊥
  not_most e = omega (arith, e, small.0)

-- divided, it needs no limit
pub no_limit : (n : ℕ) → n < 2 ^ 64 → n / 8_000_000_000 ≡ min (n / 8_000_000_000) (2 ^ 64 - 1)
no_limit n h = sym (min-eq_left (omega arith))
