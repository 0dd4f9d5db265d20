-- Rust's `f64::round` and `f32::round`, and what is left of the result as an unsigned integer. Assumes nothing.
use Rattle.std.proofs.Common.{◌≡◌, ℕ, zero, suc, ◌+◌, ◌-◌, ◌*◌, ◌/◌, ◌%◌, ◌^◌, ◌<◌, ◌≤◌, min, Bool, true, false, not, T, ℤ, pos, negsuc, sym, ap, ◌∙◌, inl, inr, true≢false, lt_of_lt_of_le, mul-le-mul_right, mul_assoc, div-lt_iff_lt-mul, mul-le-mul_left, mul-lt-mul_of_pos_right, mul-pos, pow-suc, zero-mul, mul-one, div-one, arith, pow_pos, pow_mono, pow-add, shl_lt}
use native.Mathlib.Nat.{div-eq_of_lt, min-eq_left}
use lib.Pow.{pow-lt, le_ones}
use lib.Ieee.{Float, nan, inf, fin, Format, prec, emax, low, up, down, ones, top, of_bits, to_unsigned, is_nan, fits}
use lib.Ieee.Bits.{of_bits-fits}
use lib.Ieee.Fits.{down_pos}
use lib.Ieee.Exact.{HasValue, round_exact}
use lib.Ieee.Nearest.{div_same}
use lib.Ieee.Back.{round_whole}
use Rattle.numbers.specs.FloatToInt.{round_away}
use Rattle.numbers.proofs.Closest.{le_or_lt, one_shifted}
use Rattle.numbers.proofs.Rounding.{sizes, format_digits, format_range}
use Rattle.numbers.proofs.Fields.{cut_value, nothing, nothing_of, cut_nothing, field, digits, digits_lt, highest, count, count_value, count_lt, normal, whole, cut_left, cut_large}

-- ---- `round_away` loses nothing: of a value that the format holds it is the whole number itself
pub away_exact : (f : Format) (s : Bool) (m : ℕ) (e : ℤ) → m < 2 ^ prec f → m * up e < 2 ^ suc (emax f) * down e
    → HasValue (round_away f (fin s m e)) s ((m * up e * 2 + down e) / (down e * 2)) 1
unfolding round_away
away_exact f s m (pos k) h g =
    let w = m * 2 ^ k in
    let same : (w * 2 + 1) / 2 ≡ w = omega arith in
    let grown : w * 2 ^ low f ≡ m * 2 ^ (k + low f) = rw (pow-add, mul_assoc) in
    let less : w * 2 ^ low f < 2 ^ (low f + suc (emax f)) = rw (pow-add 2 (low f) (suc (emax f))) (omega (arith, mul-lt-mul_of_pos_right g (pow_pos (low f)))) in
    rw same (round_exact f s w 1 m (k + low f) (pow_pos 0) h (rw grown at less) (rw (mul-one, grown)))
away_exact f s m (negsuc k) h g =
    let c = 2 ^ suc k in
    let few : (m * 1 * 2 + c) / (c * 2) < suc (2 ^ prec f) =
    (div-lt_iff_lt-mul (mul-pos (pow_pos (suc k)) (pow_pos 1))).1 (omega (arith, pow_pos (suc k), mul-le-mul_left (2 ^ prec f) (pow_pos (suc k)))) in
    round_whole f s ((m * 1 * 2 + c) / (c * 2)) (omega arith)

-- every finite value of the format
pub away_value : (f : Format) (s : Bool) (m : ℕ) (e : ℤ) → T (fits f (fin s m e)) → HasValue (round_away f (fin s m e)) s ((m * up e * 2 + down e) / (down e * 2)) 1
away_value f s zero e F = away_exact f s 0 e (pow_pos (prec f)) (rw zero-mul (mul-pos (pow_pos (suc (emax f))) (down_pos e)))
away_value f s (suc m) e F = away_exact f s (suc m) e (format_digits f s m e F) (format_range f s m e F)

-- ---- what has the sign keeps it
pub away_nothing : (w : ℕ) (f : Format) (x : Float) → T (fits f x) → T (nothing x) → to_unsigned w (round_away f x) ≡ 0
unfolding round_away
away_nothing w f nan F h = cut_nothing w nan h
away_nothing w f (inf s) F h = cut_nothing w (inf s) h
away_nothing w f (fin true m e) F h =
    let x = round_away f (fin true m e) in
    cut_nothing w x (nothing_of x ((m * up e * 2 + down e) / (down e * 2)) 1 (away_value f true m e F))
away_nothing w f (fin false m e) F h = absurd h

-- ---- a value that is not negative, by any fraction that it equals
pub away_cut : (w : ℕ) (f : Format) (x : Float) (a c : ℕ) → T (fits f x) → 0 < c → HasValue x false a c → to_unsigned w (round_away f x) ≡ min ((a * 2 + c) / (c * 2)) (2 ^ w - 1)
away_cut w f nan a c F C h = absurd h
away_cut w f (inf s) a c F C h = absurd h
away_cut w f (fin true m e) a c F C h = absurd (true≢false h.0)
away_cut w f (fin false m e) a c F C h =
    let X = m * up e in
    let d = down e in
    cut_value w (round_away f (fin false m e)) ((X * 2 + d) / (d * 2)) 1 (pow_pos 0) (away_value f false m e F)
    ∙ rw (div-one, div_same (X * 2 + d) (d * 2) (a * 2 + c) (c * 2) (mul-pos (down_pos e) (pow_pos 1)) (mul-pos C (pow_pos 1)) (omega (arith, h.1)))

-- ---- d * 2 ^ x in units of 1 / 2 ^ l, rounded, is d with half a unit added, and shifted by s
half_up : (d x l g s : ℕ) → x + s ≡ l → s ≡ suc g → (d * 2 ^ x * 2 + 2 ^ l) / (2 ^ l * 2) ≡ (d + 2 ^ g) / 2 ^ s
half_up d x l g s e i =
    let H : 0 < 2 ^ g * 2 = omega (arith, pow_pos g) in
    rw (← e, i, pow-add, pow-suc) (div_same _ _ _ _ (mul-pos (mul-pos (pow_pos x) H) (pow_pos 1)) H (omega arith))

-- that half, as the code makes it
abbrev pub half : Format → ℕ → ℕ
half f b = 1 * 2 ^ (low f - field f b) % 2 ^ 64

half_is : (f : Format) (b : ℕ) → emax f - 1 ≤ field f b → half f b ≡ 2 ^ (low f - field f b)
half_is f b h = one_shifted (low f - field f b) (omega (arith, sizes f))

pub half_lt : (f : Format) (b : ℕ) → emax f - 1 ≤ field f b → half f b < 2 ^ prec f
half_lt f b h = rw (half_is f b h) (pow-lt (omega (arith, sizes f)))

-- ---- v is read from a pattern b without the sign: what is left of it as an unsigned integer of 64 bits
module _ (f : Format) {b : ℕ} {v : Float} (B : b < top f) (is : of_bits f b ≡ v) where
  held : T (fits f v)
  held = rw is at (of_bits-fits f b)

  pub away_small : field f b < emax f - 1 → to_unsigned 64 (round_away f v) ≡ 0
  away_small h =
      let a = count f B is in
      let less : a * 2 < 2 ^ low f = lt_of_lt_of_le (shl_lt (prec f + (field f b - 1)) 1 (count_lt f B is)) (pow_mono (omega (arith, sizes f))) in
      let none : a * 2 + 2 ^ low f < 2 ^ low f * 2 = omega arith in
      away_cut 64 f v a (2 ^ low f) held (pow_pos (low f)) (count_value f B is (omega arith)) ∙ rw (div-eq_of_lt none)

  pub away_right : emax f - 1 ≤ field f b → field f b < suc (low f) → to_unsigned 64 (round_away f v) ≡ (digits f b + half f b) / 2 ^ (suc (low f) - field f b)
  away_right l h =
      let d = digits f b in
      let g = low f - field f b in
      let s = suc (low f) - field f b in
      let i : s ≡ suc g = omega arith in
      let less : d + 2 ^ g < 2 ^ prec f * 2 ^ s =
      rw (i, pow-suc) (omega (arith, digits_lt f b, mul-le-mul_left (2 ^ prec f) (pow_pos g), mul-le-mul_right (2 ^ g) (pow_pos (prec f)))) in
      let most : (d + 2 ^ g) / 2 ^ s < 2 ^ 64 = lt_of_lt_of_le ((div-lt_iff_lt-mul (pow_pos s)).1 less) (pow_mono (sizes f).1) in
      away_cut 64 f v (d * 2 ^ (field f b - 1)) (2 ^ low f) held (pow_pos (low f)) (normal f B is (omega (arith, sizes f)) (omega (arith, sizes f)))
      ∙ rw (half_is f b l, half_up d (field f b - 1) (low f) g s (omega (arith, sizes f)) i) (min-eq_left (le_ones 64 most))

  -- what has no fraction stays
  away_whole : low f < field f b → field f b < ones f → to_unsigned 64 (round_away f v) ≡ to_unsigned 64 v
  away_whole l h =
      let w = digits f b * 2 ^ (field f b - suc (low f)) in
      let same : (w * 2 + 1) / 2 ≡ w = omega arith in
      away_cut 64 f v w 1 held (pow_pos 0) (whole f B is l h) ∙ rw same (sym (rw div-one at (cut_value 64 v w 1 (pow_pos 0) (whole f B is l h))))

  pub away_left : low f < field f b → field f b ≤ emax f + 63 → to_unsigned 64 (round_away f v) ≡ digits f b * 2 ^ (field f b - suc (low f)) % 2 ^ 64
  away_left l h = away_whole l (omega (arith, sizes f)) ∙ cut_left f B is l h

  pub away_large : emax f + 63 < field f b → T (not (is_nan v)) → to_unsigned 64 (round_away f v) ≡ 2 ^ 64 - 1
  unfolding to_unsigned round_away
  away_large l n = elim (le_or_lt (ones f) (field f b)) [
    | inl h ↦ ap (λ (z : Float). to_unsigned 64 (round_away f z)) (highest f B is h n)
    | inr h ↦ away_whole (omega (arith, sizes f)) h ∙ cut_large f B is l n
  ]
