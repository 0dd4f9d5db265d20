-- The laws of `scaled` and `scaled_f64`: what lies between a floor and a ceiling, cut or rounded to a whole number. Assumes nothing.
use Rattle.std.proofs.Common.{◌≡◌, ℕ, ◌+◌, ◌-◌, ◌*◌, ◌/◌, ◌^◌, ◌<◌, ◌≤◌, min, Bool, true, false, ◌&&◌, ◌||◌, T, eqb, ltb, ℤ, pos, sym, refl, ap, ◌∙◌, subst, inl, inr, le_trans, le_of_eq, le_of_suc-le-suc, lt_of_le_of_lt, le_of_lt, mul-le-mul_right, mul_assoc, mul_comm, div-lt_iff_lt-mul, mul-le-mul, le_antisymm, lt_of_mul-lt-mul_right, eq-or-lt_of_le, mul-le-mul_left, mul-lt-mul_of_pos_right, mul-pos, one-mul, mul-zero, le-div_iff_mul-le, zero-mul, mul-one, div-mul-le_self, arith, lit<, lit≤, eqb→eq, pow_pos, ltb-true}
use native.Mathlib.Nat.{div-le_of_le-mul, lt-div-mul-add, le-min, min-le_left, min-eq_left, div-eq_of_lt, eq_of_mul-eq-mul_right}
use lib.Ieee.{Float, nan, inf, fin, Format, binary32, binary64, prec, low, unlike, up, down, round, mul, of_int, to_unsigned, le, lt, eq}
use lib.Ieee.Exact.{HasValue}
use lib.Ieee.Fits.{round-fits, up_pos, down_pos, and_l}
use lib.Ieee.Order.{round_mono}
use lib.Ieee.Scale.{grid}
use lib.Ieee.Back.{round_whole}
use Rattle.numbers.specs.FloatToInt.{float_to_int, round_away}
use Rattle.numbers.specs.Scaling.{scaled, scaled_f64, FloorOrCeiling, WithinHalf, ScaleLaw, ScaleFraction, MinusZeroLaw, ScaleBound, ScaleF64Law}
use Rattle.numbers.proofs.Rounding.{round_kept, mul_value, whole_value, of_int_is}
use Rattle.numbers.proofs.Fields.{cut_value}
use Rattle.numbers.proofs.Away.{away_cut}
use Rattle.numbers.proofs.Between.{Between, under_value, under_le, round_between, values_le, ceiling, ceiling_under, ceiling_near}

-- n times g is one rounding of n * a / c
product : (f : Format) (n a c : ℕ) (g : Float) → n ≤ 2 ^ prec f → 0 < c → HasValue g false a c → mul f (of_int f (pos n)) g ≡ round f false (n * a) c
product f n a c g N C v = mul_value f (of_int f (pos n)) g n 1 a c (pow_pos 0) C (whole_value f n N) v ∙ ap (round f false (n * a)) (one-mul c)

-- ---- without the fraction
module _ {a c x d : ℕ} (C : 0 < c) (A : a ≤ 2 ^ 24 * c) (b : Between 0 a c x d) where
  abbrev r : ℕ
  r = min (x / d) (2 ^ 64 - 1)

  floor_below : a / c ≤ r
  floor_below = le-min ((le-div_iff_mul-le b.positive).1 (simp mul-one at b.not_under)) (div-le_of_le-mul c (omega arith))

  ceiling_above : r ≤ ceiling a c
  ceiling_above = le_trans (min-le_left (x / d) (2 ^ 64 - 1)) (div-le_of_le-mul d (omega (arith, simp mul-one at b.not_over)))

  cut_between : FloorOrCeiling a c r
  cut_between = record {
    either = elim (eq-or-lt_of_le floor_below) [ inl e ↦ inl (sym e) | inr l ↦ inr (le_antisymm ceiling_above (le_trans (ceiling_near a c C) l)) ];
    not_over = lt_of_le_of_lt (mul-le-mul_right c ceiling_above) (ceiling_under a c C);
    not_short = omega (arith, lt-div-mul-add {a = a} C, mul-le-mul_right c floor_below);
  }

pub scale_law : ScaleLaw
unfolding scaled
scale_law n a c g N C A v =
    let b = round_between binary32 0 (n * a) c (lit≤ tt) C (rw mul-one (mul-le-mul N A)) in
    let is : scaled n g ≡ min (b.0 / b.1) (2 ^ 64 - 1) =
    ap (float_to_int 64) (product binary32 n a c g N C v) ∙ cut_value 64 (round binary32 false (n * a) c) b.0 b.1 b.2.positive b.3 in
    rw is (cut_between C (mul-le-mul N A) b.2)

-- ---- -0.0. What is 0 stays 0, with either sign
zero_value : (f : Format) (s : Bool) (c : ℕ) → 0 < c → HasValue (round f s 0 c) s 0 c
zero_value f s c C = round_kept f s 0 c 0 0 C (omega arith) (pow_pos _) (zero-mul (2 ^ low f) ∙ sym (zero-mul c))

zero_cut : (w : ℕ) (x : Float) (s : Bool) (c : ℕ) → 0 < c → HasValue x s 0 c → float_to_int w x ≡ 0
unfolding to_unsigned
zero_cut w nan s c C h = absurd h
zero_cut w (inf t) s c C h = absurd h
zero_cut w (fin true m e) s c C h = refl
zero_cut w (fin false m e) s c C h = cut_value w (fin false m e) 0 c C (refl, h.1) ∙ omega (arith, div-eq_of_lt C)

zero_round : (w : ℕ) (f : Format) (x : Float) (s : Bool) (c : ℕ) → 0 < c → HasValue x s 0 c → float_to_int w (round_away f x) ≡ 0
unfolding round_away
zero_round w f nan s c C h = absurd h
zero_round w f (inf t) s c C h = absurd h
zero_round w f (fin t m e) s c C h =
    let a : m * up e ≡ 0 = eq_of_mul-eq-mul_right c C (m * up e) 0 (h.1 ∙ zero-mul (down e) ∙ sym (zero-mul c)) in
    let z : (m * up e * 2 + down e) / (down e * 2) ≡ 0 = div-eq_of_lt (omega (arith, a, down_pos e)) in
    rw z (zero_cut w (round f t 0 1) t 1 (pow_pos 0) (zero_value f t 1 (pow_pos 0)))

-- n as a float, times a negative zero, is a NaN or a zero
module _ (f : Format) (d : ℤ) (P : Float → Type 0) (N : P nan) (Z : (x : Float) (s : Bool) (c : ℕ) → 0 < c → HasValue x s 0 c → P x) where
  times_zero : (x : Float) → P (mul f x (fin true 0 d))
  unfolding mul
  times_zero nan = N
  times_zero (inf s) = N
  times_zero (fin s m e) =
      let C : 0 < down e * down d = mul-pos (down_pos e) (down_pos d) in
      rw (zero-mul (up d), mul-zero (m * up e)) (Z (round f (unlike s true) 0 (down e * down d)) (unlike s true) (down e * down d) C (zero_value f (unlike s true) (down e * down d) C))

zero_scaled : (n : ℕ) (d : ℤ) → scaled n (fin true 0 d) ≡ 0
unfolding scaled to_unsigned
zero_scaled n d = times_zero binary32 d (λ x. float_to_int 64 x ≡ 0) refl (zero_cut 64) (of_int binary32 (pos n))

pub minus_zero_law : MinusZeroLaw
unfolding scaled_f64 to_unsigned round_away
minus_zero_law n = (zero_scaled n (pos 0), times_zero binary64 (pos 0) (λ x. float_to_int 64 (round_away binary64 x) ≡ 0) refl (zero_round 64 binary64) (of_int binary64 (pos n)))

-- ---- every fraction: the order of floats gives a ≤ c, and only a zero has the sign
order_le : (a c : ℕ) (t : Bool) → T (ltb a c || (eqb a c && t)) → a ≤ c
order_le a c t h = go (ltb a c) refl h
  where
    go : (b : Bool) → ltb a c ≡ b → T (b || (eqb a c && t)) → a ≤ c
    go true e k = le_of_lt (ltb-true a c e)
    go false e k = le_of_eq (eqb→eq a c (and_l (eqb a c) t k))

zero_between : (n c : ℕ) → 0 < c → FloorOrCeiling (n * 0) c 0
zero_between n c C = rw mul-zero (record { either = inl (sym (div-eq_of_lt C)); not_over = omega (arith, zero-mul c); not_short = omega (arith, zero-mul c) })

pub scale_fraction : ScaleFraction
unfolding le lt eq
scale_fraction n m false e N L H =
    scale_law n (m * up e) (down e) (fin false m e) N (down_pos e) (omega (arith, order_le (m * up e * 1) (1 * 1 * down e) true H)) (refl, refl)
scale_fraction n m true e N L H =
    let z : m * up e ≡ 0 = omega (arith, eqb→eq (0 * 1 * down e) (m * up e * 1) (and_l (eqb (0 * 1 * down e) (m * up e * 1)) (eqb (0 * 1 * down e) 0) L), zero-mul (down e)) in
    let m0 : m ≡ 0 = eq_of_mul-eq-mul_right (up e) (up_pos e) m 0 (z ∙ sym (zero-mul (up e))) in
    rw m0 (rw (zero_scaled n e, zero-mul (up e)) (zero_between n (down e) (down_pos e)))

-- ---- to the nearest whole number, of what is off by less than 2 ^ -13: W is x / d rounded, and all is counted in units of 1 / (c * d)
module _ {a c x d : ℕ} (C : 0 < c) (b : Between 13 a c x d) where
  abbrev W : ℕ
  W = (x * 2 + d) / (d * 2)

  two_d : 0 < d * 2
  two_d = omega (arith, b.positive)

  rounded_within : WithinHalf a c W
  rounded_within = record {
    not_over =
        lt_of_mul-lt-mul_right d
        (omega (arith, mul-le-mul_right c (div-mul-le_self (x * 2 + d) (d * 2)), mul-le-mul_right c b.not_over, mul-lt-mul_of_pos_right (ceiling_under (a * 8192) c C) b.positive));
    not_short =
        lt_of_mul-lt-mul_right d
        (omega (arith, mul-lt-mul_of_pos_right (lt-div-mul-add {a = x * 2 + d} two_d) C, mul-le-mul_right c b.not_under, mul-le-mul_right d (lt-div-mul-add {a = a * 8192} C)));
  }

  -- x / d at most the whole number n: so is W
  rounded_at_most : (n : ℕ) → x ≤ n * d → W ≤ n
  rounded_at_most n h = le_of_suc-le-suc ((div-lt_iff_lt-mul two_d).1 (omega (arith, b.positive)))

pub scale_f64_law : ScaleF64Law
unfolding scaled_f64
scale_f64_law n a c g N C A v =
    let few : n ≤ 2 ^ 53 = omega arith in
    let y = round binary64 false (n * a) c in
    let b = round_between binary64 13 (n * a) c (lit≤ tt) C (omega (arith, mul-le-mul N A)) in
    let x = b.0 in
    let d = b.1 in
    let under : x * 1 ≤ n * d =
    values_le y (round binary64 false n 1) x d n 1 b.3 (round_whole binary64 false n few) (round_mono binary64 (n * a) c n 1 C (pow_pos 0) (rw mul-one (mul-le-mul_left n A))) in
    let most : (x * 2 + d) / (d * 2) ≤ n = rounded_at_most C b.2 n (omega arith) in
    let is : scaled_f64 n g ≡ (x * 2 + d) / (d * 2) =
    ap (λ (z : Float). float_to_int 64 (round_away binary64 z)) (product binary64 n a c g few C v)
    ∙ away_cut 64 binary64 y x d (round-fits binary64 false (n * a) c) b.2.positive b.3
    ∙ min-eq_left (omega arith) in
    rw is (rounded_within C b.2, most)

-- ---- up to 2 ^ 40, which the format holds: two roundings that go no further
edge : HasValue (round binary32 false (2 ^ 40) 1) false (2 ^ 40) 1
edge = round_kept binary32 false (2 ^ 40) 1 1 189 (pow_pos 0) (lit≤ tt) (lit< tt) refl

pub scale_bound : ScaleBound
unfolding scaled
scale_bound n a c g N C A v =
    let w = 2 ^ 40 in
    let N1 : n ≤ w * 1 = le_trans N (le_of_eq (sym (mul-one w))) in
    let G = grid binary32 n 1 in
    let x : HasValue (of_int binary32 (pos n)) false G (2 ^ 149) = subst (λ (z : Float). HasValue z false G (2 ^ 149)) (sym (of_int_is binary32 n)) (under_value binary32 n 1 w (pow_pos 0) N1 edge) in
    let p = mul_value binary32 (of_int binary32 (pos n)) g G (2 ^ 149) a c (pow_pos 149) C x v in
    let c2 : 0 < 2 ^ 149 * c = mul-pos (pow_pos 149) C in
    let A2 : G * a ≤ w * (2 ^ 149 * c) = le_trans (mul-le-mul (under_le binary32 n 1 w (pow_pos 0) N1 edge) A) (le_of_eq (mul_assoc w (2 ^ 149) c)) in
    let H = grid binary32 (G * a) (2 ^ 149 * c) in
    le_trans (le_of_eq (ap (float_to_int 64) p ∙ cut_value 64 (round binary32 false (G * a) (2 ^ 149 * c)) H (2 ^ 149) (pow_pos 149) (under_value binary32 (G * a) (2 ^ 149 * c) w c2 A2 edge)))
    (le_trans (min-le_left (H / 2 ^ 149) (2 ^ 64 - 1)) (div-le_of_le-mul (2 ^ 149) (le_trans (under_le binary32 (G * a) (2 ^ 149 * c) w c2 A2 edge) (le_of_eq (mul_comm w (2 ^ 149))))))
