-- A float that is read from a bit pattern: its value, and what is left of it without its fraction, by its exponent's field and its digits. Assumes nothing.
use Rattle.std.proofs.Common.{◌≡◌, ℕ, zero, suc, ◌+◌, ◌-◌, ◌*◌, ◌/◌, ◌%◌, ◌^◌, ◌<◌, ◌≤◌, min, Bool, true, false, cond, not, ◌&&◌, T, eqb, ltb, leb, ◌⊎◌, sym, refl, ap, ◌∙◌, inl, inr, true≢false, lt_of_lt_of_le, lt_of_le_of_lt, mod-lt, mod-eq_of_lt, mul_assoc, div-lt_iff_lt-mul, one-mul, mul-one, div-one, sub-one, arith, lit<, pow_pos, pow_mono, pow-add, shl_lt, shl_exact, ltb-true, lt-ltb, ne_eqb, le-leb, leb-true}
use native.Mathlib.Nat.{div-eq_of_lt, min-eq_left, min-eq_right}
use lib.Arith.{le→nltb}
use lib.Pow.{shr_le, le_ones}
use lib.Bits.{bit_and, bit_or, and_mask, or_shifted_r}
use lib.Ieee.{Float, nan, inf, fin, Format, binary32, binary64, prec, emax, low, up, down, odd, hid, ones, top, of_fields, of_bits, to_unsigned, is_nan, nan_bits, ne}
use lib.Ieee.Bits.{nan_bits_is, nan_bits_above}
use lib.Ieee.Compare.{nan_differs}
use lib.Ieee.Fits.{down_pos}
use lib.Ieee.Exact.{HasValue, odd_sign}
use lib.Ieee.Nearest.{div_same}
use borrow.Author.Tests.{lt-leb}
use Rattle.numbers.proofs.Closest.{le_or_lt, halves}
use Rattle.numbers.proofs.Rounding.{sizes, same_value}

-- ---- a value that is not negative, without its fraction
pub cut_value : (w : ℕ) (x : Float) (a c : ℕ) → 0 < c → HasValue x false a c → to_unsigned w x ≡ min (a / c) (2 ^ w - 1)
unfolding to_unsigned
cut_value w nan a c C h = absurd h
cut_value w (inf s) a c C h = absurd h
cut_value w (fin true m e) a c C h = absurd (true≢false h.0)
cut_value w (fin false m e) a c C h = ap (λ (z : ℕ). min z (2 ^ w - 1)) (div_same (m * up e) (down e) a c (down_pos e) C h.1)

-- ---- what is a NaN, and what is none
pub no_nan : (x : Float) → ne x x ≡ false → T (not (is_nan x))
unfolding is_nan
no_nan nan h = absurd (true≢false (sym nan_differs ∙ h))
no_nan (inf s) h = tt
no_nan (fin s m e) h = tt

nan_is : (x : Float) → is_nan x ≡ true → x ≡ nan
unfolding is_nan
nan_is nan h = refl
nan_is (inf s) h = absurd (true≢false (sym h))
nan_is (fin s m e) h = absurd (true≢false (sym h))

-- the patterns above an infinity's are a NaN's, and no other
above_infinite : (f : Format) → ones f * hid f < top f
above_infinite binary32 = lit< tt
above_infinite binary64 = lit< tt

pub below_top : (f : Format) {b : ℕ} → b ≤ ones f * hid f → b < top f
below_top f h = lt_of_le_of_lt h (above_infinite f)

pub plain_bits : (f : Format) (b : ℕ) → b % top f ≤ ones f * hid f → T (not (nan_bits f b))
plain_bits f b h = rw nan_bits_above (le→nltb (ones f * hid f) (b % top f) h)

pub plain_float : (f : Format) (b : ℕ) → b ≤ ones f * hid f → T (not (is_nan (of_bits f b)))
plain_float f b h =
    rw (← nan_bits_is f b) (plain_bits f b (rw (mod-eq_of_lt (below_top f h)) h))

pub nan_bits_lem : (f : Format) (b : ℕ) → ones f * hid f < b % top f → of_bits f b ≡ nan
nan_bits_lem f b h = nan_is (of_bits f b) (sym (nan_bits_is f b) ∙ nan_bits_above f b ∙ lt-ltb (ones f * hid f) (b % top f) h)

-- ---- a NaN, and what has the sign: as an unsigned integer it is 0
abbrev pub nothing : Float → Bool
nothing nan = true
nothing (inf s) = s
nothing (fin s m e) = s

pub cut_nothing : (w : ℕ) (x : Float) → T (nothing x) → to_unsigned w x ≡ 0
unfolding to_unsigned
cut_nothing w nan h = refl
cut_nothing w (inf true) h = refl
cut_nothing w (inf false) h = absurd h
cut_nothing w (fin true m e) h = refl
cut_nothing w (fin false m e) h = absurd h

pub nothing_of : (x : Float) (a c : ℕ) → HasValue x true a c → T (nothing x)
nothing_of nan a c h = tt
nothing_of (inf s) a c h = absurd h
nothing_of (fin s m e) a c h = rw h.0 tt

nothing_odd : (d q k l : ℕ) → T (nothing (odd d true q k l))
nothing_odd d q k l = nothing_of (odd d true q k l) (q * 2 ^ k) (2 ^ l) (odd_sign d true q k l)

nothing_fields : (f : Format) (x t : ℕ) → T (nothing (of_fields f true x t))
unfolding of_fields
nothing_fields f zero t = nothing_odd (prec f) t 0 (low f)
nothing_fields f (suc x) t = go (eqb (suc x) (ones f)) (eqb t 0)
  where
    go : (a b : Bool) → T (nothing (cond a (cond b (inf true) nan) (odd (prec f) true (hid f + t) x (low f))))
    go true true = tt
    go true false = tt
    go false b = nothing_odd (prec f) (hid f + t) x (low f)

pub nothing_negative : (f : Format) (b : ℕ) → top f ≤ b → T (nothing (of_bits f b))
unfolding of_bits
nothing_negative f b h = rw (le-leb (top f) b h) (nothing_fields f (b % top f / hid f) (b % hid f))

pub nothing_above : (f : Format) (b : ℕ) → ones f * hid f < b → T (nothing (of_bits f b))
nothing_above f b h = elim (le_or_lt (top f) b) [
  | inl t ↦ nothing_negative f b t
  | inr t ↦ rw (nan_bits_lem f b (rw (mod-eq_of_lt t) h)) tt
]

-- ---- how the code tests the range of a pattern: from lo up to hi, and from there to end
both : (a b : Bool) → (a && b) ≡ true → (a ≡ true) × (b ≡ true)
both true b h = (refl, h)
both false b h = absurd (true≢false (sym h))

pub in_range : (lo hi b : ℕ) → (leb lo b && ltb b hi) ≡ true → (lo ≤ b) × (b < hi)
in_range lo hi b h = let t = both (leb lo b) (ltb b hi) h in (leb-true lo b t.0, ltb-true b hi t.1)

pub beyond : (hi end b : ℕ) → (leb hi b && leb b end) ≡ true → (hi ≤ b) × (b ≤ end)
beyond hi end b h = let t = both (leb hi b) (leb b end) h in (leb-true hi b t.0, leb-true b end t.1)

pub outside : (lo hi end b : ℕ) → (leb lo b && ltb b hi) ≡ false → (leb hi b && leb b end) ≡ false → (b < lo) ⊎ (end < b)
outside lo hi end b p q = elim (le_or_lt lo b) [
  | inr h ↦ inl h
  | inl h ↦ elim (le_or_lt b end) [
    | inr g ↦ inr g
    | inl g ↦ elim (le_or_lt hi b) [
      | inl k ↦ absurd (true≢false (rw (le-leb hi b k, le-leb b end g) at q))
      | inr k ↦ absurd (true≢false (rw (le-leb lo b h, lt-ltb b hi k) at p))
    ]
  ]
]

-- ---- the value of a pattern
-- the digits, with the leading one where the exponent's field is not 0
abbrev lead : Format → ℕ → ℕ → ℕ
lead f zero t = t
lead f (suc x) t = hid f + t

lead_lt : (f : Format) (x t : ℕ) → t < hid f → lead f x t < 2 ^ prec f
lead_lt f zero t h = omega (arith, halves (prec f) (omega (arith, sizes f)))
lead_lt f (suc x) t h = omega (arith, halves (prec f) (omega (arith, sizes f)))

lead_is : (f : Format) (x t : ℕ) → 0 < x → lead f x t ≡ hid f + t
lead_is f zero t h = omega arith
lead_is f (suc x) t h = refl

fields_value : (f : Format) (x t : ℕ) → x < ones f → HasValue (of_fields f false x t) false (lead f x t * 2 ^ (x - 1)) (2 ^ low f)
unfolding of_fields
fields_value f zero t h = odd_sign (prec f) false t 0 (low f)
fields_value f (suc x) t h = simp (sub-one (suc x), ne_eqb (suc x) (ones f) (λ (e : suc x ≡ ones f). omega arith)) (odd_sign (prec f) false (hid f + t) x (low f))

-- the highest field, if it is no NaN's, is the infinity's
infinite : (z : Bool) → T (not (is_nan (cond z (inf false) nan))) → cond z (inf false) nan ≡ inf false
unfolding is_nan
infinite true n = refl
infinite false n = absurd n

fields_top : (f : Format) (t : ℕ) → T (not (is_nan (of_fields f false (ones f) t))) → of_fields f false (ones f) t ≡ inf false
unfolding of_fields is_nan
fields_top binary32 t n = infinite (eqb t 0) n
fields_top binary64 t n = infinite (eqb t 0) n

abbrev pub field : Format → ℕ → ℕ
field f b = b / hid f

-- the digits with the leading one, as the code makes them
abbrev pub digits : Format → ℕ → ℕ
digits f b = bit_or (bit_and b (hid f - 1)) (hid f)

digits_are : (f : Format) (b : ℕ) → digits f b ≡ hid f + b % hid f
digits_are f b = rw (and_mask b (prec f - 1)) (rw one-mul at (or_shifted_r 1 (prec f - 1) (b % hid f) (mod-lt b (pow_pos (prec f - 1)))))

pub digits_lt : (f : Format) (b : ℕ) → digits f b < 2 ^ prec f
digits_lt f b = rw digits_are (lead_lt f 1 (b % hid f) (mod-lt b (pow_pos (prec f - 1))))

-- ---- v is read from a pattern b without the sign
module _ (f : Format) {b : ℕ} {v : Float} (B : b < top f) (is : of_bits f b ≡ v) where
  is_fields : v ≡ of_fields f false (field f b) (b % hid f)
  unfolding of_bits
  is_fields = sym is ∙ rw (lt-leb (top f) b B, mod-eq_of_lt B)

  pub highest : ones f ≤ field f b → T (not (is_nan v)) → v ≡ inf false
  highest l n =
      let h : field f b < suc (ones f) = (div-lt_iff_lt-mul (pow_pos (prec f - 1))).1 (omega arith) in
      let e : field f b ≡ ones f = omega arith in
      let r : v ≡ of_fields f false (ones f) (b % hid f) = rw (← e) is_fields in
      r ∙ fields_top f (b % hid f) (rw r at n)

  -- any field below that: v in units of the format's smallest value
  abbrev pub count : ℕ
  count = lead f (field f b) (b % hid f) * 2 ^ (field f b - 1)

  pub count_value : field f b < ones f → HasValue v false count (2 ^ low f)
  count_value h = rw is_fields (fields_value f (field f b) (b % hid f) h)

  pub count_lt : count < 2 ^ (prec f + (field f b - 1))
  count_lt = shl_lt (prec f) (field f b - 1) (lead_lt f (field f b) (b % hid f) (mod-lt b (pow_pos (prec f - 1))))

  pub normal : 0 < field f b → field f b < ones f → HasValue v false (digits f b * 2 ^ (field f b - 1)) (2 ^ low f)
  normal p h = rw (digits_are f b, ← lead_is f (field f b) (b % hid f) p) (count_value h)

  -- beyond the places of the fraction
  pub whole : low f < field f b → field f b < ones f → HasValue v false (digits f b * 2 ^ (field f b - suc (low f))) 1
  whole l h =
      same_value v false (digits f b * 2 ^ (field f b - 1)) (2 ^ low f) (digits f b * 2 ^ (field f b - suc (low f))) 1 (pow_pos (low f))
      (rw (mul-one, mul_assoc, ← pow-add) (ap (λ (z : ℕ). digits f b * 2 ^ z) (omega arith))) (normal (omega arith) h)

  -- what is left as an unsigned integer of 64 bits
  pub cut_small : field f b < emax f → to_unsigned 64 v ≡ 0
  cut_small h =
      let less : count < 2 ^ low f = lt_of_lt_of_le count_lt (pow_mono (omega (arith, sizes f))) in
      cut_value 64 v count (2 ^ low f) (pow_pos (low f)) (count_value (omega arith)) ∙ rw (div-eq_of_lt less)

  -- with the digits at the upper end of a word it is one shift
  pub cut_once : emax f ≤ field f b → field f b ≤ emax f + 63 → to_unsigned 64 v ≡ digits f b * 2 ^ (64 - prec f) % 2 ^ 64 / 2 ^ (emax f + 63 - field f b)
  cut_once l h =
      let d = digits f b in
      let x = field f b - 1 in
      let t = 64 - prec f in
      let s = emax f + 63 - field f b in
      let room : prec f + t ≤ 64 = omega (arith, sizes f) in
      let e : x + s ≡ t + low f = omega (arith, sizes f) in
      let same : d * 2 ^ x / 2 ^ low f ≡ d * 2 ^ t / 2 ^ s =
      div_same (d * 2 ^ x) (2 ^ low f) (d * 2 ^ t) (2 ^ s) (pow_pos (low f)) (pow_pos s) (rw (mul_assoc, mul_assoc, ← pow-add, ← pow-add, e)) in
      cut_value 64 v (d * 2 ^ x) (2 ^ low f) (pow_pos (low f)) (normal (omega (arith, sizes f)) (omega (arith, sizes f)))
      ∙ rw (same, shl_exact (prec f) t 64 (digits_lt f b) room)
      (min-eq_left (le_ones 64 (lt_of_le_of_lt (shr_le (d * 2 ^ t) s) (lt_of_lt_of_le (shl_lt (prec f) t (digits_lt f b)) (pow_mono room)))))

  pub cut_left : low f < field f b → field f b ≤ emax f + 63 → to_unsigned 64 v ≡ digits f b * 2 ^ (field f b - suc (low f)) % 2 ^ 64
  cut_left l h =
      let k = field f b - suc (low f) in
      let room : prec f + k ≤ 64 = omega (arith, sizes f) in
      cut_value 64 v (digits f b * 2 ^ k) 1 (pow_pos 0) (whole l (omega (arith, sizes f)))
      ∙ rw div-one (min-eq_left (le_ones 64 (lt_of_lt_of_le (shl_lt (prec f) k (digits_lt f b)) (pow_mono room))))
      ∙ sym (shl_exact (prec f) k 64 (digits_lt f b) room)

  pub cut_large : emax f + 63 < field f b → T (not (is_nan v)) → to_unsigned 64 v ≡ 2 ^ 64 - 1
  unfolding to_unsigned
  cut_large l n = elim (le_or_lt (ones f) (field f b)) [
    | inl h ↦ ap (to_unsigned 64) (highest h n)
    | inr h ↦
        let k = field f b - suc (low f) in
        let most : 2 ^ 64 ≤ hid f * 2 ^ k = rw (← pow-add) (pow_mono {i = 64} (omega (arith, sizes f))) in
        cut_value 64 v (digits f b * 2 ^ k) 1 (pow_pos 0) (whole (omega (arith, sizes f)) h)
        ∙ rw (div-one, digits_are f b) (min-eq_right (omega arith))
  ]
