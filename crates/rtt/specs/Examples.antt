-- The estimator worked out: request a's own example, and one for each point at which another reading of rtt.rs or of
-- RFC 9002 would answer something else; then three runs in which the averages come near to their bounds, so that no
-- smaller whole number would bound them. Statements only; Exact.antt says how to read them.
use Rattle.std.specs.Prelude.{ℕ, zero, suc, ◌+◌, ◌*◌, ◌^◌, ◌<◌, Bool, true, false, not, List, [], ◌∷◌, ◌≡◌, eqb, Option, None, Some}
use Rattle.units.specs.declared.time.Duration.{Duration}
use Rattle.state.specs.Answers.{zero_length}
use Rattle.state.specs.Faults.{first}
use Rattle.rtt.specs.declared.rtt.RttStats.{RttStats}
use Rattle.rtt.specs.Rtt.{stats_new, new_number, new_faults, new_left, adjusted, update_number, update_faults, update_left, delay_number, lesser, plausible, minimum_shown}
use Rattle.rtt.specs.Exact.{Step, updates, Sample, Ran, ran, Exact, exact_first, exactly}

abbrev pub ns : ℕ → Duration
ns n = record { 0 = n }

abbrev pub ms : ℕ → Duration
ms n = ns (1000000 * n)

-- ---- single calls
-- an estimator with samples: its minimum, smoothed value, variation and largest ack delay
abbrev with : (minimum smoothed variation limit : ℕ) → RttStats
with minimum smoothed variation limit =
    record {
      latest = zero_length;
      minimum = ns minimum;
      smoothed = ns smoothed;
      variation = ns variation;
      limit = ns limit;
      sampled = true;
    }

abbrev is_unset : Option Duration → Bool
is_unset None = true
is_unset (Some d) = false

-- the averages of an exact run; 0 where no sample was taken
abbrev pub exact_of : List Sample → Exact
exact_of [] = exact_first 0
exact_of (new ∷ older) = exactly new older

-- 80,000,001 ns, then 90 ms with an ack delay of 5 ms: 25 ms are the most, and the handshake is confirmed
abbrev pub two_samples : Ran
two_samples = ran (ms 100) (ms 25) (updates (ns 80000001) (ms 7) true ∷ updates (ms 90) (ms 5) true ∷ [])

unfoldable pub rtt_examples : List Bool
rtt_examples =
    -- adjusted it is 85,000,000, and the exact average 645,000,007 / 8, which is 80,625,000.875
    eqb two_samples.stats.variation.0 31249999
    ∷ eqb two_samples.stats.smoothed.0 80625000
    ∷ eqb two_samples.stats.latest.0 90000000
    ∷ eqb two_samples.stats.minimum.0 80000001
    ∷ eqb (exact_of two_samples.taken).sum 645000007
    -- "in the order of Appendix A.7": the variation from the smoothed value before the sample; after it, it would be
    -- 59
    ∷ eqb (update_left (with 0 100 50 0) (ns 200) (ns 0) false true).variation.0 62
    ∷ eqb (update_left (with 0 100 50 0) (ns 200) (ns 0) false true).smoothed.0 112
    -- two roundings: one of (7 + 7) / 8, and 1 - 1 / 8 + 7 / 8 with whole numbers, would be 1
    ∷ eqb (update_left (with 0 1 0 0) (ns 7) (ns 0) false true).smoothed.0 0
    -- the delay is taken off where the minimum is left, and not where less is
    ∷ eqb (adjusted (with 60 0 0 25) (ns 80) (ns 20) true).0 60
    ∷ eqb (adjusted (with 61 0 0 25) (ns 80) (ns 20) true).0 80
    -- and the minimum has this sample in it: where the sample is the least, only a delay of 0 is
    ∷ eqb (adjusted (with 60 0 0 25) (ns 50) (ns 20) true).0 50
    -- it is limited only where the handshake is confirmed
    ∷ eqb (adjusted (with 10 0 0 0) (ns 80) (ns 20) false).0 60
    ∷ eqb (adjusted (with 10 0 0 0) (ns 80) (ns 20) true).0 80
    -- "The first sample is taken whole"
    ∷ eqb (update_left (stats_new (ns 7) (ns 50)) (ns 100) (ns 40) true true).smoothed.0 100
    ∷ eqb (update_left (stats_new (ns 7) (ns 50)) (ns 100) (ns 40) true true).minimum.0 100
    ∷ eqb (update_left (stats_new (ns 7) (ns 50)) (ns 101) (ns 40) true true).variation.0 50
    -- before it: latest 0, no minimum, half of the initial length
    ∷ eqb (stats_new (ns 7) (ns 50)).latest.0 0
    ∷ eqb (stats_new (ns 7) (ns 50)).smoothed.0 7
    ∷ eqb (stats_new (ns 7) (ns 50)).variation.0 3
    ∷ is_unset (minimum_shown (stats_new (ns 7) (ns 50)))
    ∷ not (is_unset (minimum_shown (with 60 0 0 0)))
    -- 2^36 ns is within the bounds, one more is not; the first argument at fault is named, by kind 4 and its place
    ∷ eqb (update_number (with 0 0 0 0) (ns (2 ^ 36)) (ns (2 ^ 36)) true) 0
    ∷ eqb (update_number (with 0 0 0 0) (ns (2 ^ 36 + 1)) (ns 0) true) 2
    ∷ eqb (first (update_faults (ns (2 ^ 36 + 1)) (ns (2 ^ 36 + 1)) true)) (4 + 256 * 1)
    ∷ eqb (first (update_faults (ns (2 ^ 36)) (ns (2 ^ 36 + 1)) false)) (4 + 256 * 2)
    ∷ eqb (first (update_faults (ns 0) (ns 0) false)) (8 + 256 * 3)
    -- an ack delay of 70 s is refused, though rtt.rs would take the sample; and so it is with the first one
    ∷ eqb (update_number (with 0 0 0 0) (ms 100) (ms 70000) true) 2
    ∷ eqb (update_number (stats_new (ns 7) (ns 50)) (ms 100) (ms 70000) true) 2
    ∷ eqb (update_left (with 0 9 0 0) (ms 100) (ms 70000) true true).smoothed.0 9
    -- a stored length over 2^36 is 1, before 2
    ∷ eqb (update_number (with 0 (2 ^ 36) 0 0) (ns 0) (ns 0) true) 0
    ∷ eqb (update_number (with 0 (2 ^ 36 + 1) 0 0) (ns (2 ^ 36 + 1)) (ns 0) true) 1
    ∷ eqb (delay_number (with 0 0 0 (2 ^ 36 + 1)) (ns 0)) 1
    ∷ eqb (delay_number (with 0 0 0 0) (ns (2 ^ 36 + 1))) 2
    -- a refused `new` leaves a fresh estimator of 0 and 0
    ∷ eqb (new_number (ns (2 ^ 36)) (ns (2 ^ 36))) 0
    ∷ eqb (new_number (ns (2 ^ 36)) (ns (2 ^ 36 + 1))) 2
    ∷ eqb (first (new_faults (ns (2 ^ 36)) (ns (2 ^ 36 + 1)))) (4 + 256 * 2)
    ∷ eqb (new_left (ns (2 ^ 36)) (ns (2 ^ 36 + 1))).smoothed.0 0
    ∷ []

-- ---- runs near the bounds: samples without an ack delay
abbrev pub samples : List ℕ → List Step
samples [] = []
samples (l ∷ rest) = updates (ns l) (ns 0) false ∷ samples rest

-- so many of one, then others
abbrev pub times : (count sample : ℕ) → List ℕ → List ℕ
times zero sample rest = rest
times (suc n) sample rest = sample ∷ times n sample rest

-- so many, each 8 below the one before it, then others: the last is the number named
abbrev pub down_to : (count last : ℕ) → List ℕ → List ℕ
down_to zero last rest = rest
down_to (suc n) last rest = (last + 8 * n) ∷ down_to n last rest

-- 1, then 15 for 38 times: smoothed stays at 1, and both divisions cut off 7 eighths each time
abbrev pub low_smoothed : List ℕ
low_smoothed = 1 ∷ times 38 15 []

-- 313, 327 for 5 times, 263, 255 and so on down to 31, 22, 14, 6, 14, 0
abbrev pub low_variation : List ℕ
low_variation = 313 ∷ times 5 327 (down_to 30 31 (22 ∷ 14 ∷ 6 ∷ 14 ∷ 0 ∷ []))

-- 1, 79, 23 for 37 times, 85, 45, 79, 45, 42
abbrev pub high_variation : List ℕ
high_variation = 1 ∷ 79 ∷ times 37 23 (85 ∷ 45 ∷ 79 ∷ 45 ∷ 42 ∷ [])

abbrev pub after : List ℕ → Ran
after l = ran (ns 0) (ns 0) (samples l)

-- a run is a counterexample to a bound: "smoothed is less than n ns below", "the variation is less than n below", "less
-- than n above"
abbrev pub SmoothedUnder : (n : ℕ) → Ran → Type 0
SmoothedUnder n r = let e = exact_of r.taken in e.sum < (r.stats.smoothed.0 + n) * 8 ^ e.past

abbrev pub VariationUnder : (n : ℕ) → Ran → Type 0
VariationUnder n r = let e = exact_of r.taken in e.spread < (r.stats.variation.0 + n) * (2 * 8 ^ e.past)

abbrev pub VariationOver : (n : ℕ) → Ran → Type 0
VariationOver n r =
    let e = exact_of r.taken in r.stats.variation.0 * (2 * 8 ^ e.past) < e.spread + n * (2 * 8 ^ e.past)

pub record Worked : Type 0 where
  -- A.7 renews the minimum before the test of plausibility. Renewed after it, every sample would be adjusted alike
  pub late_minimum : (minimum latest taken : Duration) →
      plausible (lesser minimum latest) latest taken ≡ plausible minimum latest taken
  -- above 13.9 ns below, where less than 14 is promised
  pub smoothed : let r = after low_smoothed in let e = exact_of r.taken in
      (10 * r.stats.smoothed.0 + 139) * 8 ^ e.past < 10 * e.sum
  -- above 19.4 ns below, where less than 20 is promised
  pub variation_below : let r = after low_variation in let e = exact_of r.taken in
      (10 * r.stats.variation.0 + 194) * (2 * 8 ^ e.past) < 10 * e.spread
  -- above 13 ns above, where less than 14 is promised
  pub variation_above : let r = after high_variation in let e = exact_of r.taken in
      e.spread + 13 * (2 * 8 ^ e.past) < r.stats.variation.0 * (2 * 8 ^ e.past)
  -- so 14, 20 and 14 are the least whole numbers that bound them, of all lists of samples
  pub not_13_below : ((l : List ℕ) → SmoothedUnder 13 (after l)) → ⊥
  pub not_19_below : ((l : List ℕ) → VariationUnder 19 (after l)) → ⊥
  pub not_13_above : ((l : List ℕ) → VariationOver 13 (after l)) → ⊥
