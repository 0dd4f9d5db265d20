-- The law of b, the f32 1 - beta. beta is m / c with c a power of two. Where c is at most 2 ^ 24 the difference is exact; where it is more, beta is below a half, so that b lies
-- between a half and 1, where the format's values are 2 ^ -24 apart. Assumes nothing.
use Rattle.std.proofs.Common.{◌≡◌, ℕ, zero, suc, ◌-◌, ◌*◌, ◌/◌, ◌^◌, ◌<◌, ◌≤◌, true, false, T, ℤ, pos, negsuc, sym, ap, inl, inr, le_trans, lt_of_le_of_lt, mul-le-mul_right, mul_assoc, mul_comm, div-lt_iff_lt-mul, mul-lt-mul_of_pos_right, mul-pos, one-mul, le-div_iff_mul-le, mul-one, sub-add_cancel, mul_left_comm, sub-le, arith, lit<, lit≤, pow_pos, pow_mono, pow-add, le-ltb}
use native.Mathlib.Nat.{div-eq_of_eq-mul_left}
use lib.Ieee.{Float, nan, inf, fin, binary32, up, down, round, sub, add, neg, sum, le, fits, size}
use lib.Ieee.Exact.{HasValue}
use lib.Ieee.Nearest.{closest}
use lib.Ieee.Order.{round_mono}
use lib.Ieee.Scale.{grid, round_val}
use lib.Ieee.Positive.{positive, between, le→cross}
use Rattle.numbers.specs.Scaling.{complement, parts_of, Parts, ComplementLaw}
use Rattle.numbers.proofs.Closest.{le_or_lt, closest_le}
use Rattle.numbers.proofs.Rounding.{same_value, size_is, format_digits}
use Rattle.numbers.proofs.Between.{values_le, units_value}

-- ---- one rounding of the exact difference
complement_is : (m : ℕ) (e : ℤ) → m * up e ≤ down e → complement (fin false m e) ≡ round binary32 false (down e - m * up e) (down e)
unfolding sub add neg sum
complement_is m e h = simp (one-mul, mul-one, le-ltb (down e) (m * up e) h)

-- ---- the parts of a float that is a whole number of them
down_pos : (e : ℤ) → 0 < down e
down_pos (pos k) = lit< tt
down_pos (negsuc k) = pow_pos (suc k)

parts_are : (x : Float) (parts : ℕ) → HasValue x false parts (2 ^ 24) → parts_of x ≡ parts
parts_are nan parts h = absurd h
parts_are (inf s) parts h = absurd h
parts_are (fin s m e) parts h = div-eq_of_eq-mul_left (down_pos e) h.1

-- ---- beta is m / 2 ^ suc j
module _ (m j : ℕ) (few : m < 2 ^ 24) (L : 2 ^ suc j ≤ m * 1024) (H : m * 1024 ≤ 1023 * 2 ^ suc j) where
  abbrev c : ℕ
  c = 2 ^ suc j

  abbrev b : Float
  b = round binary32 false (c - m) c

  exact : suc j ≤ 24 → HasValue b false ((c - m) * 2 ^ (24 - suc j)) (2 ^ 24)
  exact h =
      same_value b false (c - m) c ((c - m) * 2 ^ (24 - suc j)) (2 ^ 24) (pow_pos (suc j)) (rw (mul_assoc, ← pow-add, sub-add_cancel))
      (units_value binary32 (suc j) (c - m) (le_trans h (lit≤ tt)) (le_trans (sub-le c m) (pow_mono h)))

  -- the digits that are kept, in parts of 2 ^ -24
  abbrev n : ℕ
  n = (c - m) * 2 ^ 149

  abbrev d : ℕ
  d = closest n (c * 2 ^ 125)

  rounded : 24 < suc j → HasValue b false d (2 ^ 24)
  rounded h =
      let half : c ≤ (c - m) * 2 = omega (arith, pow_mono {i = 25} h) in
      let under : n < c * 2 ^ 149 = mul-lt-mul_of_pos_right (omega (arith, pow_pos (suc j))) (pow_pos 149) in
      let places : size (n / c) - 24 ≡ 125 =
      size_is (n / c) 125 24 (lit< tt) ((div-lt_iff_lt-mul (pow_pos (suc j))).1 (rw (mul_comm (2 ^ 149) c) under))
      ((le-div_iff_mul-le (pow_pos (suc j))).1 (rw (mul_comm (2 ^ 148) c) (rw (mul_assoc (c - m) 2 (2 ^ 148)) at (mul-le-mul_right (2 ^ 148) half)))) in
      let is : grid binary32 (c - m) c ≡ d * 2 ^ 125 = ap (λ (z : ℕ). closest n (c * 2 ^ z) * 2 ^ z) places in
      let most : d ≤ 2 ^ 24 =
      closest_le n (c * 2 ^ 125) (2 ^ 24) ((div-lt_iff_lt-mul (mul-pos (pow_pos (suc j)) (pow_pos 125))).1 (rw (mul_left_comm (2 ^ 24) c (2 ^ 125)) under)) in
      same_value b false (d * 2 ^ 125) (2 ^ 149) d (2 ^ 24) (pow_pos 149) (sym (mul_assoc d (2 ^ 125) (2 ^ 24)))
      (rw is at (round_val binary32 (c - m) c (rw is (lt_of_le_of_lt (mul-le-mul_right (2 ^ 125) most) (lit< tt)))))

  value : (parts : ℕ) × HasValue b false parts (2 ^ 24)
  value = elim (le_or_lt (suc j) 24) [ inl h ↦ ((c - m) * 2 ^ (24 - suc j), exact h) | inr h ↦ (d, rounded h) ]

  -- both ends are values of the format, and rounding keeps the order
  in_parts : Parts b
  in_parts =
      let v = value in
      let low : 1 * 2 ^ 24 ≤ v.0 * 1024 =
      values_le (round binary32 false 1 1024) b 1 1024 v.0 (2 ^ 24) (units_value binary32 10 1 (lit≤ tt) (lit≤ tt)) v.1
      (round_mono binary32 1 1024 (c - m) c (lit< tt) (pow_pos (suc j)) (omega arith)) in
      let high : v.0 * 1024 ≤ 1023 * 2 ^ 24 =
      values_le b (round binary32 false 1023 1024) v.0 (2 ^ 24) 1023 1024 v.1 (units_value binary32 10 1023 (lit≤ tt) (lit≤ tt))
      (round_mono binary32 (c - m) c 1023 1024 (pow_pos (suc j)) (lit< tt) (omega arith)) in
      let are = parts_are b v.0 v.1 in
      record {
        value = rw are v.1;
        some = omega (arith, are, low);
        not_all = omega (arith, are, high);
        at_least = omega (arith, are, low);
        at_most = omega (arith, are, high);
      }

-- ---- every beta of the domain is such a fraction
pub complement_law : ComplementLaw
complement_law beta F lo hi = go beta F (between (fin false 1 (negsuc 9)) beta (fin false 1023 (negsuc 9)) tt tt lo hi) lo hi
  where
    go : (x : Float) → T (fits binary32 x) → T (positive x) → T (le (fin false 1 (negsuc 9)) x) → T (le x (fin false 1023 (negsuc 9))) → Parts (complement x)
    go nan F p lo hi = absurd p
    go (inf s) F p lo hi = absurd p
    go (fin true m e) F p lo hi = absurd p
    go (fin false zero e) F p lo hi = absurd p
    go (fin false (suc m) (pos k)) F p lo hi =
        let x = fin false (suc m) (pos k) in
        absurd (omega (arith, le→cross (fin false 1 (negsuc 9)) x tt p lo, le→cross x (fin false 1023 (negsuc 9)) p tt hi))
    go (fin false (suc m) (negsuc j)) F p lo hi =
        let x = fin false (suc m) (negsuc j) in
        let L : 1 * 2 ^ suc j ≤ suc m * 1 * 1024 = le→cross (fin false 1 (negsuc 9)) x tt p lo in
        let H : suc m * 1 * 1024 ≤ 1023 * 2 ^ suc j = le→cross x (fin false 1023 (negsuc 9)) p tt hi in
        rw (complement_is (suc m) (negsuc j) (omega arith), mul-one) (in_parts (suc m) j (format_digits binary32 false m (negsuc j) F) (omega arith) (omega arith))
