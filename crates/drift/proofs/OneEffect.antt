-- One effect on the stored number and on the exact fraction, over plain numbers. Each of the two bounds is kept by itself, and the exponent says nothing of the count. Assumes nothing.
use Prim.Native.Nat.{ℕ, min, max, ◌+◌, ◌-◌, ◌*◌, ◌^◌, ◌≤◌, ◌<◌}
use mathlib.Core.Bool.{Bool, true, false}
use mathlib.Core.Path.{◌≡◌, refl, ap}
use native.Mathlib.Nat.{le_of_lt, mul-le-mul_left, mul-le-mul_right, mul-lt-mul_of_pos_right, max-eq_left, max-eq_right, min-eq_left, min-eq_right}
use native.Mathlib.Omega.{arith}
use lib.Dec.{leb}
use lib.Pow.{pow-add, pow_pos}
use borrow.Author.Tests.{leb-true, leb-false}
use Rattle.drift.specs.Drift.{Nearer, Near}

-- ---- the larger and the smaller, multiplied
max_times : (a b d : ℕ) → max a b * d ≡ max (a * d) (b * d)
max_times a b d = go (leb a b) refl
  where
    go : (t : Bool) → leb a b ≡ t → max a b * d ≡ max (a * d) (b * d)
    go true e = rw (max-eq_right (leb-true a b e), max-eq_right (mul-le-mul_right d (leb-true a b e)))
    go false e = rw (max-eq_left (le_of_lt (leb-false a b e)), max-eq_left (mul-le-mul_right d (le_of_lt (leb-false a b e))))

min_times : (a b d : ℕ) → min a b * d ≡ min (a * d) (b * d)
min_times a b d = go (leb a b) refl
  where
    go : (t : Bool) → leb a b ≡ t → min a b * d ≡ min (a * d) (b * d)
    go true e = rw (min-eq_left (leb-true a b e), min-eq_left (mul-le-mul_right d (leb-true a b e)))
    go false e = rw (min-eq_right (le_of_lt (leb-false a b e)), min-eq_right (mul-le-mul_right d (le_of_lt (leb-false a b e))))

-- ---- |a - b| < e
abbrev Within : (a b e : ℕ) → Type 0
Within a b e = (a < b + e) × (b < a + e)

raised_within : (n num d c e latest : ℕ) → Within (n * d * c) (num * c) e → Within (max latest n * d * c) (max (latest * d) num * c) e
raised_within n num d c e latest h =
    rw (max_times latest n d, max_times (latest * d) (n * d) c, max_times (latest * d) num c) (omega (arith, h.0, h.1), omega (arith, h.0, h.1))

capped_within : (n num d c e bytes : ℕ) → Within (n * d * c) (num * c) e → Within (min bytes n * d * c) (min (bytes * d) num * c) e
capped_within n num d c e bytes h =
    rw (min_times bytes n d, min_times (bytes * d) (n * d) c, min_times (bytes * d) num c) (omega (arith, h.0, h.1), omega (arith, h.0, h.1))

-- ---- what keeps one bound
module _ (n num exponent times u v : ℕ) (h : Nearer n num exponent times u v) where
  abbrev d : ℕ
  d = 2 ^ exponent

  -- a wider one
  widened : {wider : ℕ} → times ≤ wider → Nearer n num exponent wider u v
  widened p = record { not_over = omega (arith, h.not_over, mul-le-mul_right (u * d) p); not_short = omega (arith, h.not_short, mul-le-mul_right (u * d) p) }

  -- the same one, multiplied
  multiplied : (r : ℕ) → 0 < r → Nearer n num exponent (times * r) u (v * r)
  multiplied r p = record { not_over = omega (arith, mul-lt-mul_of_pos_right h.not_over p); not_short = omega (arith, mul-lt-mul_of_pos_right h.not_short p) }

  raised : (latest : ℕ) → Nearer (max latest n) (max (latest * 2 ^ exponent) num) exponent times u v
  raised latest = let p = raised_within n num d v (times * u * d) latest (h.not_over, h.not_short) in record { not_over = p.0; not_short = p.1 }

  capped : (bytes : ℕ) → Nearer (min bytes n) (min (bytes * 2 ^ exponent) num) exponent times u v
  capped bytes = let p = capped_within n num d v (times * u * d) bytes (h.not_over, h.not_short) in record { not_over = p.0; not_short = p.1 }

-- ---- a reduction by parts / w: n becomes m, off by less than s times u / v, and num / d becomes num * parts / (d * w). `room`: the old error times the factor, and s, are at most the new
module _ (s u v w parts n m num d times next : ℕ) (pos : 0 < d) (room : times * parts + s * w ≤ next * w) where
  reduced_over : m * w * v < n * parts * v + s * u * w → n * d * v < num * v + times * u * d → m * (d * w) * v < num * parts * v + next * u * (d * w)
  reduced_over step h = omega (arith, mul-lt-mul_of_pos_right step pos, mul-le-mul_right parts (le_of_lt h), mul-le-mul_right (u * d) room)

  reduced_short : n * parts * v < m * w * v + s * u * w → num * v < n * d * v + times * u * d → num * parts * v < m * (d * w) * v + next * u * (d * w)
  reduced_short step h = omega (arith, mul-lt-mul_of_pos_right step pos, mul-le-mul_right parts (le_of_lt h), mul-le-mul_right (u * d) room)

module _ (u v parts n m num exponent : ℕ) where
  reduced : (s times next : ℕ) → Nearer m (n * parts) 24 s u v → Nearer n num exponent times u v → times * parts + s * 2 ^ 24 ≤ next * 2 ^ 24
      → Nearer m (num * parts) (exponent + 24) next u v
  reduced s times next step h room =
      let d = 2 ^ exponent in
      let pos : 0 < d = pow_pos exponent in
      record {
        not_over = rw (pow-add 2 exponent 24) (reduced_over s u v (2 ^ 24) parts n m num d times next pos room step.not_over h.not_over);
        not_short = rw (pow-add 2 exponent 24) (reduced_short s u v (2 ^ 24) parts n m num d times next pos room step.not_short h.not_short);
      }

  -- one more is room enough
  counted_on : {times next : ℕ} → parts ≤ 2 ^ 24 → times < next → Nearer m (n * parts) 24 1 u v → Nearer n num exponent times u v → Nearer m (num * parts) (exponent + 24) next u v
  counted_on {times} {next} small less step h = reduced 1 times next step h (omega (arith, mul-le-mul_left times small))

-- and so is w, where s is what b leaves of it
rate_room : (w parts r : ℕ) → r + parts ≡ w → w * parts + 1 * r * w ≤ w * w
rate_room w parts r e = omega (arith, ap (λ (x : ℕ). w * x) e)

-- ---- the turns, with the cut m of n. Any count that is large enough will do
module _ (u v parts : ℕ) (not_all : parts < 2 ^ 24) where
  abbrev r : ℕ
  r = 2 ^ 24 - parts

  pub first : (seed m latest : ℕ) {k : ℕ} → 0 < k → Nearer m (seed * parts) 24 1 u v → Near u v parts (max latest m) (max (latest * 2 ^ 24) (seed * parts)) 24 k
  first seed m latest some step =
      record {
        counted = some;
        by_count = raised m (seed * parts) 24 _ u v (widened m (seed * parts) 24 1 u v step (omega arith)) latest;
        by_rate = raised m (seed * parts) 24 _ u (v * r) (widened m (seed * parts) 24 (1 * r) u (v * r) (multiplied m (seed * parts) 24 1 u v step r (omega arith)) (omega arith)) latest;
      }

  pub again : (n m num exponent k latest : ℕ) {more : ℕ} → k < more → Nearer m (n * parts) 24 1 u v → Near u v parts n num exponent k
      → Near u v parts (max latest m) (max (latest * 2 ^ (exponent + 24)) (num * parts)) (exponent + 24) more
  again n m num exponent k latest less step h =
      let whole : r + parts ≡ 2 ^ 24 = omega arith in
      record {
        counted = omega arith;
        by_count = raised m (num * parts) (exponent + 24) _ u v (counted_on u v parts n m num exponent (le_of_lt not_all) (omega arith) step h.by_count) latest;
        by_rate =
            raised m (num * parts) (exponent + 24) _ u (v * r)
            (reduced u (v * r) parts n m num exponent (1 * r) (2 ^ 24) (2 ^ 24) (multiplied m (n * parts) 24 1 u v step r (omega arith)) h.by_rate (rate_room (2 ^ 24) parts r whole))
            latest;
      }

  pub cut_off : (n num exponent k bytes : ℕ) {more : ℕ} → k ≤ more → Near u v parts n num exponent k → Near u v parts (min bytes n) (min (bytes * 2 ^ exponent) num) exponent more
  cut_off n num exponent k bytes enough h =
      record {
        counted = omega (arith, h.counted);
        by_count = capped n num exponent _ u v (widened n num exponent _ u v h.by_count (omega arith)) bytes;
        by_rate = capped n num exponent _ u (v * r) h.by_rate bytes;
      }
