-- An estimator keeps near to the exact averages: sample by sample (`every_run`). Assumes nothing.
use Prim.Native.Nat.{ℕ, zero, suc, min, max, ◌+◌, ◌-◌, ◌*◌, ◌/◌, ◌^◌, ◌≤◌, ◌<◌}
use mathlib.Core.Bool.{Bool, true, false, cond, not, ◌&&◌, true≢false}
use mathlib.Core.List.{List, [], ◌∷◌}
use mathlib.Core.Path.{◌≡◌, refl, sym, ap, ◌∙◌}
use native.Mathlib.Nat.{pow-suc, mul_comm, le_refl, le_trans, le-max_left, le-max_right, min_comm}
use native.Mathlib.Omega.{arith}
use lib.Dec.{leb, eqb}
use borrow.Author.Tests.{leb-true, le-leb, eqb-true}
use Rattle.units.specs.declared.time.Duration.{Duration}
use Rattle.state.specs.Answers.{settled, zero_length}
use Rattle.state.specs.Bounds.{length_ok}
use Rattle.state.proofs.Rows.{row_stored, row_argument, and_left, and_right, all_at}
use Rattle.rtt.specs.declared.rtt.RttStats.{RttStats}
use Rattle.state.specs.Refusals.{first_of}
use Rattle.rtt.specs.Rtt.{stats_tests, stats_ok, asked_rows, given_number, new_number, stats_new, new_left, update_number, first_sample, smoothed_after, variation_after, plausible, adjusted, later_sample, update_next, update_left, delay_taken, delay_number, delay_next, delay_left}
use Rattle.rtt.specs.Exact.{Step, begins, updates, limits, other, Sample, Ran, sample_of, taken_by, begun, step, go_on, Exact, exact_first, exact_next, exactly, NearSmoothed, NearVariation, least, largest, Follows, Promised, Holds, EveryRun}
use Rattle.rtt.proofs.Averages.{still_not_above, still_below, above_on, below_on, smoothed_within, variation_within}

-- ---- the exact averages
sevens : (n : ℕ) → 0 < 7 ^ n
sevens zero = omega arith
sevens (suc n) = rw (pow-suc 7 n) (omega (arith, sevens n))

near_smoothed : (e : Exact) (s : ℕ) → s * 8 ^ e.past ≤ e.sum → e.sum + 14 * 7 ^ e.past ≤ (s + 14) * 8 ^ e.past → NearSmoothed e s
near_smoothed e s p q =
    record {
      not_above = p;
      below = q;
      under_14 = omega (arith, q, sevens e.past);
      under_16 = omega (arith, q, sevens e.past);
    }

first_smoothed : (l : ℕ) → NearSmoothed (exact_first l) l
first_smoothed l = near_smoothed (exact_first l) l (omega arith) (omega arith)

first_variation : (l : ℕ) → NearVariation (exact_first l) (l / 2)
first_variation l = record { above = omega arith; below = omega arith }

grown : (b n : ℕ) → b ^ suc n ≡ b * b ^ n
grown b n = pow-suc b n ∙ mul_comm (b ^ n) b

next_smoothed : (e : Exact) (s a : ℕ) → NearSmoothed e s → NearSmoothed (exact_next e a) (smoothed_after s a)
next_smoothed e s a h =
    near_smoothed (exact_next e a) (smoothed_after s a)
    (rw (grown 8 e.past) (still_not_above s a e.sum (8 ^ e.past) h.not_above))
    (rw (grown 8 e.past, grown 7 e.past) (still_below s a e.sum (8 ^ e.past) h.not_above (7 ^ e.past) h.below))

next_variation : (e : Exact) (s v a : ℕ) → NearSmoothed e s → NearVariation e v → NearVariation (exact_next e a) (variation_after v s a)
next_variation e s v a h k =
    record {
      above = rw (grown 8 e.past) (above_on s a e.sum (8 ^ e.past) h.not_above v e.spread h.under_14 k.above);
      below = rw (grown 8 e.past) (below_on s a e.sum (8 ^ e.past) h.not_above v e.spread h.under_14 k.below);
    }

-- ---- the bounds
abbrev Lengths : RttStats → Type 0
Lengths s = (s.latest.0 ≤ 2 ^ 36) × (s.minimum.0 ≤ 2 ^ 36) × (s.smoothed.0 ≤ 2 ^ 36) × (s.variation.0 ≤ 2 ^ 36) × (s.limit.0 ≤ 2 ^ 36)

pub lengths : (s : RttStats) → stats_ok s ≡ true → Lengths s
unfolding stats_tests
lengths s h = (
  leb-true _ _ (all_at (stats_tests s) 0 h),
  leb-true _ _ (all_at (stats_tests s) 1 h),
  leb-true _ _ (all_at (stats_tests s) 2 h),
  leb-true _ _ (all_at (stats_tests s) 3 h),
  leb-true _ _ (all_at (stats_tests s) 4 h),
)

pub all_within : (s : RttStats) → Lengths s → stats_ok s ≡ true
unfolding stats_tests
all_within s h = rw (le-leb _ _ h.0, le-leb _ _ h.1, le-leb _ _ h.2, le-leb _ _ h.3, le-leb _ _ h.4)

-- ---- what a call that is done was given
pub given_fine : (s : RttStats) (fine : Bool) → given_number s fine ≡ 0 → (stats_ok s ≡ true) × (fine ≡ true)
unfolding given_number
given_fine s fine h = (row_stored (stats_ok s) (not fine) false false false h, row_argument (not (stats_ok s)) fine false false false h)

pub update_fine : (s : RttStats) (l d : Duration) (fits : Bool) → update_number s l d fits ≡ 0 → (stats_ok s ≡ true) × (length_ok l ≡ true) × (length_ok d ≡ true) × (fits ≡ true)
unfolding update_number
update_fine s l d fits h =
    let g = given_fine s (length_ok l && length_ok d && fits) h in
    let both = and_left (length_ok l && length_ok d) fits g.1 in
    (g.0, and_left (length_ok l) (length_ok d) both, and_right (length_ok l) (length_ok d) both, and_right (length_ok l && length_ok d) fits g.1)

-- the same, of the rows that the code asks
pub rows_fine : (s : RttStats) (l d : Duration) (fits : Bool) → first_of (asked_rows s (length_ok l && length_ok d && fits)) ≡ 0 →
    (stats_ok s ≡ true) × (length_ok l ≡ true)
unfolding update_number given_number
rows_fine s l d fits h = let fine = update_fine s l d fits h in (fine.0, fine.1)

-- ---- one sample
pub adjusted_most : (s : RttStats) (l d : Duration) (c : Bool) → (adjusted s l d c).0 ≤ l.0
unfolding adjusted plausible
adjusted_most s l d c = go (leb (min s.minimum.0 l.0 + (delay_taken s.limit d c).0) l.0)
  where
    go : (t : Bool) → (cond t (record { 0 = l.0 - (delay_taken s.limit d c).0 }) l).0 ≤ l.0
    go true = omega arith
    go false = le_refl l.0

-- by whether there was one before: t is what the estimator says of that
abbrev taking : Bool → RttStats → (l d : Duration) (c : Bool) → Sample
taking t s l d c = record { latest = l.0; adjusted = (cond t (adjusted s l d c) l).0 }

abbrev left : Bool → RttStats → (l d : Duration) (c : Bool) → RttStats
left t s l d c = cond t (later_sample s l (adjusted s l d c)) (first_sample s l)

first_follows : (s : RttStats) (l d : Duration) (c t : Bool) → t ≡ false → Follows (taking t s l d c) [] (left t s l d c)
unfolding first_sample
first_follows s l d c true h = absurd (true≢false h)
first_follows s l d c false h =
    record {
      sampled = refl;
      latest = refl;
      minimum = refl;
      smoothed = first_smoothed l.0;
      variation = first_variation l.0;
      smoothed_most = le_refl l.0;
      variation_most = omega arith;
    }

later_follows : (s : RttStats) (l d : Duration) (c t : Bool) (x : Sample) (older : List Sample) → t ≡ true → Follows x older s → Follows (taking t s l d c) (x ∷ older) (left t s l d c)
unfolding later_sample
later_follows s l d c false x older e h = absurd (true≢false (sym e))
later_follows s l d c true x older e h =
    let a = (adjusted s l d c).0 in
    let most = largest x older in
    let old : most ≤ max l.0 most = le-max_right l.0 most in
    let new : a ≤ max l.0 most = le_trans (adjusted_most s l d c) (le-max_left l.0 most) in
    record {
      sampled = refl;
      latest = refl;
      minimum = ap (λ (n : ℕ). min n l.0) h.minimum ∙ min_comm (least x older) l.0;
      smoothed = next_smoothed (exactly x older) s.smoothed.0 a h.smoothed;
      variation = next_variation (exactly x older) s.smoothed.0 s.variation.0 a h.smoothed h.variation;
      smoothed_most = smoothed_within s.smoothed.0 a (max l.0 most) (le_trans h.smoothed_most old) new;
      variation_most = variation_within s.variation.0 s.smoothed.0 a (max l.0 most) (le_trans h.variation_most old) (le_trans h.smoothed_most old) new;
    }

next_promised : (s : RttStats) (l d : Duration) (c : Bool) (taken : List Sample) → Promised taken s → Promised (sample_of s l d c ∷ taken) (update_next s l d c)
unfolding update_next
next_promised s l d c [] h = first_follows s l d c s.sampled h
next_promised s l d c (x ∷ older) h = later_follows s l d c s.sampled x older h.sampled h

-- ---- the bounds are kept
first_within : (s : RttStats) (l : Duration) → Lengths s → l.0 ≤ 2 ^ 36 → stats_ok (first_sample s l) ≡ true
unfolding first_sample
first_within s l b p = all_within (first_sample s l) (p, p, p, omega (arith, p), b.4)

later_within : (s : RttStats) (l a : Duration) → Lengths s → l.0 ≤ 2 ^ 36 → a.0 ≤ 2 ^ 36 → stats_ok (later_sample s l a) ≡ true
unfolding later_sample
later_within s l a b p q =
    all_within (later_sample s l a)
    (p, omega (arith, p), smoothed_within s.smoothed.0 a.0 (2 ^ 36) b.2 q, variation_within s.variation.0 s.smoothed.0 a.0 (2 ^ 36) b.3 b.2 q, b.4)

next_within : (s : RttStats) (l d : Duration) (c : Bool) → stats_ok s ≡ true → l.0 ≤ 2 ^ 36 → stats_ok (update_next s l d c) ≡ true
unfolding update_next
next_within s l d c h p = go s.sampled
  where
    go : (t : Bool) → stats_ok (cond t (later_sample s l (adjusted s l d c)) (first_sample s l)) ≡ true
    go true = later_within s l (adjusted s l d c) (lengths s h) p (le_trans (adjusted_most s l d c) p)
    go false = first_within s l (lengths s h) p

-- what is left is the next where the call is done, and the old where it is refused
either : {A : Type 0} (P : A → Type 0) (n : ℕ) (next old : A) → (n ≡ 0 → P next) → P old → P (settled n next old)
unfolding settled
either P n next old p q = go (eqb n 0) refl
  where
    go : (t : Bool) → eqb n 0 ≡ t → P (cond t next old)
    go true e = p (eqb-true n 0 e)
    go false e = q

pub fresh_within : (initial most : Duration) → stats_ok (new_left initial most) ≡ true
unfolding new_left new_number stats_new stats_tests
fresh_within initial most =
    either (λ (s : RttStats). stats_ok s ≡ true) (new_number initial most) (stats_new initial most) (stats_new zero_length zero_length)
    (λ e.
    let fine = row_argument false (length_ok initial && length_ok most) false false false e in
    let i = leb-true initial.0 (2 ^ 36) (and_left (length_ok initial) (length_ok most) fine) in
    let m = leb-true most.0 (2 ^ 36) (and_right (length_ok initial) (length_ok most) fine) in
    all_within (stats_new initial most) (omega arith, i, i, omega (arith, i), m))
    refl

pub updated_within : (s : RttStats) (l d : Duration) (c fits : Bool) → stats_ok s ≡ true → stats_ok (update_left s l d c fits) ≡ true
unfolding update_left
updated_within s l d c fits h =
    either (λ (s : RttStats). stats_ok s ≡ true) (update_number s l d fits) (update_next s l d c) s
    (λ e. next_within s l d c h (leb-true l.0 (2 ^ 36) (update_fine s l d fits e).1))
    h

pub limited_within : (s : RttStats) (most : Duration) → stats_ok s ≡ true → stats_ok (delay_left s most) ≡ true
unfolding delay_left delay_number delay_next
limited_within s most h =
    either (λ (s : RttStats). stats_ok s ≡ true) (delay_number s most) (delay_next s most) s
    (λ e.
    let b = lengths s h in
    all_within (delay_next s most) (b.0, b.1, b.2, b.3, leb-true most.0 (2 ^ 36) (given_fine s (length_ok most) e).1))
    h

-- ---- one step
fresh_unsampled : (initial most : Duration) → (new_left initial most).sampled ≡ false
unfolding new_left stats_new
fresh_unsampled initial most = either (λ (s : RttStats). s.sampled ≡ false) (new_number initial most) (stats_new initial most) (stats_new zero_length zero_length) (λ e. refl) refl

pub begun_holds : (initial most : Duration) → Holds (begun initial most)
begun_holds initial most = record { within = fresh_within initial most; promised = fresh_unsampled initial most }

update_promised : (s : RttStats) (l d : Duration) (c : Bool) (taken : List Sample) → Promised taken s →
    Promised (taken_by (update_number s l d true) (sample_of s l d c) taken) (update_left s l d c true)
unfolding taken_by update_left settled
update_promised s l d c taken h = go (eqb (update_number s l d true) 0)
  where
    go : (t : Bool) → Promised (cond t (sample_of s l d c ∷ taken) taken) (cond t (update_next s l d c) s)
    go true = next_promised s l d c taken h
    go false = h

-- another limit touches nothing that is promised
limit_follows : (new : Sample) (older : List Sample) (s : RttStats) (most : Duration) → Follows new older s → Follows new older (delay_next s most)
unfolding delay_next
limit_follows new older s most h =
    record {
      sampled = h.sampled;
      latest = h.latest;
      minimum = h.minimum;
      smoothed = h.smoothed;
      variation = h.variation;
      smoothed_most = h.smoothed_most;
      variation_most = h.variation_most;
    }

limit_next : (taken : List Sample) (s : RttStats) (most : Duration) → Promised taken s → Promised taken (delay_next s most)
unfolding delay_next
limit_next [] s most h = h
limit_next (new ∷ older) s most h = limit_follows new older s most h

limit_promised : (taken : List Sample) (s : RttStats) (most : Duration) → Promised taken s → Promised taken (delay_left s most)
unfolding delay_left
limit_promised taken s most h = either (Promised taken) (delay_number s most) (delay_next s most) s (λ e. limit_next taken s most h) h

pub step_holds : (r : Ran) (c : Step) → Holds r → Holds (step r c)
step_holds r (begins initial most) h = begun_holds initial most
step_holds r (updates l d c) h =
    record { within = updated_within r.stats l d c true h.within; promised = update_promised r.stats l d c r.taken h.promised }
step_holds r (limits most) h =
    record { within = limited_within r.stats most h.within; promised = limit_promised r.taken r.stats most h.promised }
step_holds r other h = h

pub goes_on : (r : Ran) (steps : List Step) → Holds r → Holds (go_on r steps)
goes_on r [] h = h
goes_on r (c ∷ steps) h = goes_on (step r c) steps (step_holds r c h)

pub every_run : EveryRun
every_run =
    record {
      run = λ initial most steps. goes_on (begun initial most) steps (begun_holds initial most);
      fresh = fresh_within;
      updated = updated_within;
      limited = limited_within;
    }
