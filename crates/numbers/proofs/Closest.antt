-- The nearest whole number of p digits, over the width p: `closest` of the kit, times the place that is kept, is what the Reference's sentence asks for (`cut_closest`), and
-- nothing else is (`only_closest`). Plain whole numbers: no float stands here. Assumes nothing.
use Rattle.std.proofs.Common.{◌≡◌, ℕ, suc, ◌+◌, ◌-◌, ◌*◌, ◌/◌, ◌%◌, ◌^◌, ◌<◌, ◌≤◌, not, T, ◌⊎◌, sym, refl, ap, ◌∙◌, inl, inr, le_trans, le_of_eq, add-zero, le_of_lt, mul-le-mul_right, mod-lt, mod-eq_of_lt, mul_assoc, eq-zero-or-pos, le_antisymm, lt_of_mul-lt-mul_right, eq-or-lt_of_le, one-mul, pow-suc, lt_of_not-le, div-add-mod', le-div_iff_mul-le, mul-one, sub-add_cancel, not-le_of_lt, le-mul_of_pos_right, add-one, arith, eqb→eq, leb→le, pow_pos, pow_mono, pow-add}
use Prim.Native.Nat.{compare, Ordering}
use native.Mathlib.Nat.{eq_of_mul-eq-mul_right}
use lib.Dec.{is_le, compare_is_eq, nleb→lt}
use lib.Arith.{lt_of_le-ne}
use lib.Pow.{pow-lt}
use lib.Ieee.{nearest, size}
use lib.Ieee.Digits.{size_reaches}
use lib.Ieee.Fits.{nearest-le, kept-lt, eq→eqb}
use lib.Ieee.Nearest.{closest}
use Rattle.numbers.specs.IntToFloat.{Possible, Closest, apart}
use Rattle.numbers.specs.Inner.{Cut}

-- one of the two orders holds
pub le_or_lt : (a b : ℕ) → (a ≤ b) ⊎ (b < a)
le_or_lt a b = elim (eq-zero-or-pos (a - b)) [ inl e ↦ inl (omega arith) | inr h ↦ inr (omega arith) ]

-- ---- the three cases of `closest`, by twice the remainder
module _ (a b : ℕ) where
  abbrev Cases : ℕ → Type 0
  Cases z = ((a % b * 2 < b) × (z ≡ a / b)) ⊎ (((a % b * 2 ≡ b) × (z ≡ a / b + a / b % 2)) ⊎ ((b < a % b * 2) × (z ≡ a / b + 1)))

  cases : Cases (closest a b)
  cases = let x = a % b * 2 in go (compare x b) (leb→le x b) (nleb→lt x b) (eqb→eq x b) eq→eqb
    where
      go : (o : Ordering) → (T (is_le o) → a % b * 2 ≤ b) → (T (not (is_le o)) → b < a % b * 2) → (T (compare_is_eq o) → a % b * 2 ≡ b) → (a % b * 2 ≡ b → T (compare_is_eq o))
          → Cases (nearest (a / b) o)
      go Ordering.lt h k e n = inl (lt_of_le-ne (h tt) n, refl)
      go Ordering.eq h k e n = inr (inl (e tt, refl))
      go Ordering.gt h k e n = inr (inr (k tt, omega arith))

  pub closest_below : a % b * 2 < b → closest a b ≡ a / b
  closest_below h = elim cases [ inl c ↦ c.1 | inr (inl c) ↦ omega arith | inr (inr c) ↦ omega arith ]

  pub closest_tie : a % b * 2 ≡ b → closest a b ≡ a / b + a / b % 2
  closest_tie h = elim cases [ inl c ↦ omega arith | inr (inl c) ↦ c.1 | inr (inr c) ↦ omega arith ]

  -- above a tie, or at one with an odd quotient, it is the next number up, and otherwise it is not
  pub closest_up : b < a % b * 2 + a / b % 2 → closest a b ≡ a / b + 1
  closest_up h = elim cases [ inl c ↦ omega arith | inr (inl c) ↦ omega arith | inr (inr c) ↦ c.1 ]

  pub closest_down : a % b * 2 + a / b % 2 ≤ b → closest a b ≡ a / b
  closest_down h = elim cases [ inl c ↦ c.1 | inr (inl c) ↦ omega arith | inr (inr c) ↦ omega arith ]

-- where the quotient has at most p digits, the rounded one is at most 2 ^ p
pub closest_le : (a b c : ℕ) → a / b < c → closest a b ≤ c
closest_le a b c h = le_trans (nearest-le (a / b) (compare (a % b * 2) b)) h

-- ---- every n has such a cut: `size` of the kit counts its digits
pub cut_of : (p n : ℕ) → 0 < p → Cut p n (size n - p)
cut_of p n P = (
  kept-lt p n,
  elim (eq-zero-or-pos (size n - p)) [
    | inl e ↦ inl e
    | inr h ↦ inr ((le-div_iff_mul-le (pow_pos (size n - p))).1 (rw (← pow-add) (size_reaches n (p - 1 + (size n - p)) (omega arith))))
  ],
)

-- ---- powers of two
pub lt_of_pow_lt : (i j : ℕ) → 2 ^ i < 2 ^ j → i < j
lt_of_pow_lt i j h = lt_of_not-le (λ (g : j ≤ i). not-le_of_lt h (pow_mono g))

pub halves : (p : ℕ) → 0 < p → 2 ^ (p - 1) * 2 ≡ 2 ^ p
halves p P = let e : suc (p - 1) ≡ p = omega arith in rw (← pow-suc, e)

-- `1 << k` of 64 bits loses nothing
pub one_shifted : (k : ℕ) → k < 64 → 1 * 2 ^ k % 2 ^ 64 ≡ 2 ^ k
one_shifted k h = rw one-mul (mod-eq_of_lt (pow-lt h))

shifted : (m e k : ℕ) → k ≤ e → m * 2 ^ e ≡ m * 2 ^ (e - k) * 2 ^ k
shifted m e k h = rw (mul_assoc, ← pow-add, sub-add_cancel)

-- 2 ^ p itself has one digit, and any other factor up to it has p at most
whole_possible : (p m k : ℕ) → 0 < p → m ≤ 2 ^ p → Possible p (m * 2 ^ k)
whole_possible p m k P h = elim (eq-or-lt_of_le h) [
  | inl e ↦ record { digits = 1; places = p + k; few = pow-lt P; is = rw (e, one-mul, pow-add) }
  | inr l ↦ record { digits = m; places = k; few = l; is = refl }
]

-- an odd number of p digits at least cannot be written with fewer, wherever it is shifted to
odd_not_possible : (p x k : ℕ) → x % 2 ≡ 1 → 2 ^ p ≤ x → Possible p (x * 2 ^ k) → ⊥
odd_not_possible p x k odd h o =
    let m = o.digits in
    let e = o.places in
    elim (le_or_lt e k) [
      | inl l ↦
          let is : x * 2 ^ (k - e) ≡ m = eq_of_mul-eq-mul_right (2 ^ e) (pow_pos e) (x * 2 ^ (k - e)) m (sym (shifted x k e l) ∙ o.is) in
          omega (arith, le-mul_of_pos_right x (pow_pos (k - e)), o.few)
      | inr l ↦
          let is : x ≡ m * 2 ^ (e - k) = eq_of_mul-eq-mul_right (2 ^ k) (pow_pos k) x (m * 2 ^ (e - k)) (o.is ∙ shifted m e k (le_of_lt l)) in
          let next : e - k ≡ suc (e - k - 1) = omega arith in
          omega (arith, rw (next, pow-suc) at is)
    ]

-- ---- the digits that are kept, with the place u of the last of them: A is the multiple of u below n
module _ (p n k : ℕ) (P : 1 < p) (cut : Cut p n k) where
  abbrev u : ℕ
  u = 2 ^ k

  abbrev q : ℕ
  q = n / u

  abbrev A : ℕ
  A = q * u

  abbrev r : ℕ
  r = n % u

  abbrev w : ℕ
  w = closest n u * u

  -- which of the two neighbours w is: the one that is not farther
  abbrev Side : Type 0
  Side = ((w ≡ A) × (r * 2 ≤ u)) ⊎ ((w ≡ A + u) × (u ≤ r * 2))

  side : Side
  side = elim (cases n u) [
    | inl c ↦ inl (rw c.1, le_of_lt c.0)
    | inr (inl c) ↦ elim (eq-zero-or-pos (q % 2)) [
      | inl z ↦ inl (rw (c.1, z, add-zero), le_of_eq c.0)
      | inr h ↦ let one : q % 2 ≡ 1 = omega arith in inr (rw (c.1, one) (omega arith), le_of_eq (sym c.0))
    ]
    | inr (inr c) ↦ inr (rw c.1 (omega arith), le_of_lt c.0)
  ]

  -- no possible number lies between the two
  gap : (v : ℕ) → Possible p v → (v ≤ A) ⊎ (A + u ≤ v)
  gap v o = elim (le_or_lt v A) [ inl h ↦ inl h | inr h ↦ inr (above h cut.1) ]
    where
      multiple : (x : ℕ) → A < x * u → A + u ≤ x * u
      multiple x h = omega (arith, mul-le-mul_right u (lt_of_mul-lt-mul_right u {m = q} {n = x} h))

      above : A < v → (k ≡ 0) ⊎ (2 ^ (p - 1) ≤ q) → A + u ≤ v
      above h (inl z) = let is : v * u ≡ v = rw (z, mul-one) in omega (arith, multiple v (omega arith))
      above h (inr g) =
          let m = o.digits in
          let e = o.places in
          let less : 2 ^ (p - 1 + k) < 2 ^ (p + e) =
          rw (pow-add 2 (p - 1) k, pow-add 2 p e) (omega (arith, mul-le-mul_right u g, mul-le-mul_right (2 ^ e) (le_of_lt o.few), o.is)) in
          let is : v ≡ m * 2 ^ (e - k) * u = o.is ∙ shifted m e k (omega (arith, lt_of_pow_lt (p - 1 + k) (p + e) less)) in
          omega (arith, multiple (m * 2 ^ (e - k)) (omega arith))

  whole : A + r ≡ n
  whole = div-add-mod' n u

  less : r < u
  less = mod-lt n (pow_pos k)

  -- at a tie w is a multiple of 2 u, so it has one digit less
  halved : r * 2 ≡ u → Possible (p - 1) w
  halved t =
      let half = (q + q % 2) / 2 in
      let even : half * 2 ≡ q + q % 2 = omega arith in
      let is : w ≡ half * 2 ^ (k + 1) = rw (closest_tie n u t, add-one, pow-suc) (omega (arith, ap (λ (y : ℕ). y * u) even)) in
      rw is (whole_possible (p - 1) half (k + 1) (omega arith) (omega (arith, cut.0, halves p (le_of_lt P))))

  -- as far from n as w: w itself, or there is a tie, and it is the other neighbour
  level : (v : ℕ) → Possible p v → apart n v ≡ apart n w → (v ≡ w) ⊎ ((r * 2 ≡ u) × (v + w ≡ A + A + u))
  level v o d = go side (gap v o)
    where
      go : Side → (v ≤ A) ⊎ (A + u ≤ v) → (v ≡ w) ⊎ ((r * 2 ≡ u) × (v + w ≡ A + A + u))
      go (inl s) (inl g) = inl (omega (arith, whole))
      go (inl s) (inr g) = inr (omega (arith, whole, less))
      go (inr s) (inl g) = inr (omega (arith, whole, less))
      go (inr s) (inr g) = inl (omega (arith, whole, less))

  pub cut_closest : Closest p n (closest n (2 ^ k) * 2 ^ k)
  cut_closest = record {
    possible = whole_possible p (closest n u) k (le_of_lt P) (closest_le n u (2 ^ p) cut.0);
    nearest = λ v o. near v side (gap v o);
    even = λ v o d. elim (level v o d) [ inl e ↦ inl e | inr t ↦ inr (halved t.0) ];
  }
    where
      near : (v : ℕ) → Side → (v ≤ A) ⊎ (A + u ≤ v) → apart n w ≤ apart n v
      near v (inl s) (inl g) = omega (arith, whole, less)
      near v (inl s) (inr g) = omega (arith, whole, less)
      near v (inr s) (inl g) = omega (arith, whole, less)
      near v (inr s) (inr g) = omega (arith, whole, less)

  -- at a tie the neighbour that is not w is odd, so it has no digit less
  other_odd : (v : ℕ) → r * 2 ≡ u → v + w ≡ A + A + u → Possible (p - 1) v → ⊥
  other_odd v t s o =
      let x = q + 1 - q % 2 in
      let both : x + (q + q % 2) ≡ q + (q + 1) = omega arith in
      let is : v ≡ x * u = omega (arith, ap (λ (y : ℕ). y * u) both, ap (λ (y : ℕ). y * u) (closest_tie n u t)) in
      odd_not_possible (p - 1) x k (omega arith) (le_trans (full cut.1) (omega arith)) (rw is at o)
    where
      full : (k ≡ 0) ⊎ (2 ^ (p - 1) ≤ q) → 2 ^ (p - 1) ≤ q
      full (inl z) = let one : u ≡ 1 = rw z in omega arith
      full (inr g) = g

  pub only_closest : (v : ℕ) → Closest p n v → v ≡ closest n (2 ^ k) * 2 ^ k
  only_closest v c = go (level v c.possible same) (c.even w cut_closest.possible (sym same))
    where
      same : apart n v ≡ apart n w
      same = le_antisymm (c.nearest w cut_closest.possible) (cut_closest.nearest v c.possible)

      go : (v ≡ w) ⊎ ((r * 2 ≡ u) × (v + w ≡ A + A + u)) → (w ≡ v) ⊎ Possible (p - 1) v → v ≡ w
      go (inl e) h = e
      go (inr t) (inl e) = sym e
      go (inr t) (inr o) = absurd (other_odd v t.0 t.1 o)
