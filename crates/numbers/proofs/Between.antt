-- A fraction rounded to either format lies between its floor and its ceiling, counted in units of 1 / 2 ^ s, as long as those have at most `prec` digits (`round_between`).
-- The floor and the ceiling are values of the format, and rounding keeps the order. Assumes nothing.
use Rattle.std.proofs.Common.{◌≡◌, ℕ, suc, ◌+◌, ◌-◌, ◌*◌, ◌/◌, ◌^◌, ◌<◌, ◌≤◌, true, false, ◌&&◌, ◌||◌, T, eqb, ltb, sym, ap, inl, inr, true≢false, le_of_suc-le-suc, lt_of_le_of_lt, le_of_lt, mul-le-mul_right, mul_assoc, div-lt_iff_lt-mul, sub-add_cancel, div-mul-le_self, arith, pow_pos, pow-add, le-ltb, ne_eqb}
use native.Mathlib.Nat.{lt-div-mul-add, div-le_of_le-mul}
use lib.Pow.{pow-lt}
use lib.Ieee.{Float, nan, inf, fin, Format, prec, low, up, down, units, round, le}
use lib.Ieee.Fits.{down_pos, round_is}
use lib.Ieee.Exact.{HasValue}
use lib.Ieee.Order.{round_mono, transfer}
use lib.Ieee.Scale.{grid, overflow, round_val}
use Rattle.numbers.proofs.Closest.{le_or_lt}
use Rattle.numbers.proofs.Rounding.{sizes, round_kept}

-- ---- the order of two values that are not negative is that of their fractions
lt_or_eq : (a b : ℕ) → T (ltb a b || (eqb a b && true)) → a ≤ b
lt_or_eq a b t = elim (le_or_lt a b) [ inl h ↦ h | inr h ↦ absurd (rw (le-ltb a b (le_of_lt h), ne_eqb a b (λ (e : a ≡ b). omega arith)) at t) ]

pub values_le : (x y : Float) (a c b d : ℕ) → HasValue x false a c → HasValue y false b d → T (le x y) → a * d ≤ b * c
unfolding le
values_le nan y a c b d h k l = absurd h
values_le (inf s) y a c b d h k l = absurd h
values_le (fin true m e) y a c b d h k l = absurd (true≢false h.0)
values_le (fin false m e) nan a c b d h k l = absurd k
values_le (fin false m e) (inf t) a c b d h k l = absurd k
values_le (fin false m e) (fin true n g) a c b d h k l = absurd (true≢false k.0)
values_le (fin false m e) (fin false n g) a c b d h k l =
    transfer a b c d (m * up e) (n * up g) (down e) (down g) (down_pos e) (down_pos g) (sym h.1) (sym k.1) (lt_or_eq (m * up e * down g) (n * up g * down e) l)

not_inf : (y : Float) (b d : ℕ) → HasValue y false b d → T (le (inf false) y) → ⊥
unfolding le
not_inf nan b d h l = h
not_inf (inf s) b d h l = h
not_inf (fin s m e) b d h l = l

-- ---- a fraction at most w, where the format holds w, rounds to no more than w
module _ (f : Format) (a c w : ℕ) (C : 0 < c) (A : a ≤ w * c) (v : HasValue (round f false w 1) false w 1) where
  below : T (le (round f false a c) (round f false w 1))
  below = round_mono f a c w 1 C (pow_pos 0) (omega arith)

  bounded : grid f a c < overflow f
  unfolding units
  bounded = elim (le_or_lt (overflow f) (grid f a c)) [
    | inl h ↦ absurd (not_inf (round f false w 1) w 1 v (rw (round_is f false a c, le-ltb (grid f a c) (overflow f) h) at below))
    | inr h ↦ h
  ]

  pub under_value : HasValue (round f false a c) false (grid f a c) (2 ^ low f)
  under_value = round_val f a c bounded

  pub under_le : grid f a c ≤ w * 2 ^ low f
  under_le = omega (arith, values_le (round f false a c) (round f false w 1) (grid f a c) (2 ^ low f) w 1 under_value v below)

-- ---- the floor and the ceiling
abbrev pub ceiling : ℕ → ℕ → ℕ
ceiling a c = (a + (c - 1)) / c

module _ (a c : ℕ) (C : 0 < c) where
  ceiling_over : a ≤ ceiling a c * c
  ceiling_over = omega (arith, lt-div-mul-add {a = a + (c - 1)} C)

  pub ceiling_under : ceiling a c * c < a + c
  ceiling_under = omega (arith, div-mul-le_self (a + (c - 1)) c)

  -- at most what a / c is at most
  ceiling_le : (m : ℕ) → a ≤ m * c → ceiling a c ≤ m
  ceiling_le m h = le_of_suc-le-suc ((div-lt_iff_lt-mul C).1 (omega arith))

  pub ceiling_near : ceiling a c ≤ suc (a / c)
  ceiling_near = ceiling_le (suc (a / c)) (omega (arith, lt-div-mul-add {a = a} C))

-- ---- the law: x / d is a / c rounded, and lies between the floor and the ceiling, in units of 1 / 2 ^ s
pub record Between (s a c x d : ℕ) : Type 0 where
  pub positive : 0 < d
  pub not_under : a * 2 ^ s / c * d ≤ x * 2 ^ s
  pub not_over : x * 2 ^ s ≤ ceiling (a * 2 ^ s) c * d

-- m units of 1 / 2 ^ s are a value of the format
pub units_value : (f : Format) (s m : ℕ) → s ≤ low f → m ≤ 2 ^ prec f → HasValue (round f false m (2 ^ s)) false m (2 ^ s)
units_value f s m S h =
    let j = low f - s in
    let most : 2 ^ prec f * 2 ^ j < overflow f = rw (← pow-add) (pow-lt (omega (arith, sizes f))) in
    round_kept f false m (2 ^ s) m j (pow_pos s) h (lt_of_le_of_lt (mul-le-mul_right (2 ^ j) h) most)
    (rw (mul_assoc, ← pow-add) (ap (λ (z : ℕ). m * 2 ^ z) (sym (sub-add_cancel S))))

module _ (f : Format) (s a c : ℕ) (S : s ≤ low f) (C : 0 < c) (A : a * 2 ^ s ≤ 2 ^ prec f * c) where
  abbrev lo : ℕ
  lo = a * 2 ^ s / c

  abbrev hi : ℕ
  hi = ceiling (a * 2 ^ s) c

  lo_value : HasValue (round f false lo (2 ^ s)) false lo (2 ^ s)
  lo_value = units_value f s lo S (div-le_of_le-mul c (omega arith))

  hi_value : HasValue (round f false hi (2 ^ s)) false hi (2 ^ s)
  hi_value = units_value f s hi S (ceiling_le (a * 2 ^ s) c C (2 ^ prec f) A)

  above_lo : T (le (round f false lo (2 ^ s)) (round f false a c))
  above_lo = round_mono f lo (2 ^ s) a c (pow_pos s) C (div-mul-le_self (a * 2 ^ s) c)

  below_hi : T (le (round f false a c) (round f false hi (2 ^ s)))
  below_hi = round_mono f a c hi (2 ^ s) C (pow_pos s) (ceiling_over (a * 2 ^ s) c C)

  -- what lies below a value of the format is no infinity
  finite : grid f a c < overflow f
  unfolding units
  finite = elim (le_or_lt (overflow f) (grid f a c)) [
    | inl h ↦ absurd (not_inf (round f false hi (2 ^ s)) hi (2 ^ s) hi_value (rw (round_is f false a c, le-ltb (grid f a c) (overflow f) h) at below_hi))
    | inr h ↦ h
  ]

  pub round_between : (x : ℕ) × (d : ℕ) × Between s a c x d × HasValue (round f false a c) false x d
  round_between =
      let x = grid f a c in
      let d = 2 ^ low f in
      let v = round_val f a c finite in (
        x,
        d,
        record {
          positive = pow_pos (low f);
          not_under = values_le (round f false lo (2 ^ s)) (round f false a c) lo (2 ^ s) x d lo_value v above_lo;
          not_over = values_le (round f false a c) (round f false hi (2 ^ s)) x d hi (2 ^ s) v hi_value below_hi;
        },
        v,
      )
