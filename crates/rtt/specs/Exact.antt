-- How far the averages can be from exact ones. Document 02, request a: "Show for any run that the smoothed value is
-- never above, and less than 16 ns below, the average kept in exact fractions over the same adjusted samples." Proved
-- is less than 14, of which Examples.antt shows that 13 would not hold. Not asked, and proved too: the variation is
-- less than 20 ns below and less than 14 ns above the exact one, whose deviations are taken from the exact average.
--
-- Statements only. `ℕ` is the whole numbers from 0, `Type 0` the kind of statements. `(x : A) → B` is "for every x of
-- the kind A, B", and `A → B` "if A, then B", or between kinds of values a function from A to B; `A × B` is "A and B",
-- `x ≡ y` "x equals y", `Unit` "nothing is asked". `f x y` is f of x and y, `r.f` the field f of the record r (of a
-- length of time `.0` is its number of nanoseconds). `cond t a b` is a where the test t holds and b elsewhere, and `eqb
-- a b` the test whether a equals b. `[]` is the empty list, `x ∷ l` the list l with x before it. `suc n` is n + 1.
-- `abbrev`, `unfoldable`, `pub` and `use` add nothing to what is said.
use Rattle.std.specs.Prelude.{ℕ, suc, min, max, ◌+◌, ◌*◌, ◌^◌, ◌≤◌, ◌<◌, Bool, true, false, cond, List, [], ◌∷◌, ◌≡◌, eqb}
use Rattle.units.specs.declared.time.Duration.{Duration}
use Rattle.rtt.specs.declared.rtt.RttStats.{RttStats}
use Rattle.rtt.specs.Rtt.{stats_ok, new_left, adjusted, distance, update_number, update_left, delay_left}

-- ---- a run: the three calls that change an estimator, and one that changes nothing, as a call in words can be
pub data Step : Type 0 where
  begins : (initial limit : Duration) → Step
  updates : (latest delay : Duration) (confirmed : Bool) → Step
  limits : (most : Duration) → Step
  other : Step

-- a sample that was taken: as it was measured, and adjusted
pub record Sample : Type 0 where
  pub latest : ℕ
  pub adjusted : ℕ

-- the estimator, and the samples taken since the last `new`, the newest first
pub record Ran : Type 0 where
  pub stats : RttStats
  pub taken : List Sample

-- the sample as the estimator takes it: "The first sample is taken whole"
abbrev pub sample_of : RttStats → (latest delay : Duration) (confirmed : Bool) → Sample
sample_of s latest delay confirmed =
    record { latest = latest.0; adjusted = (cond s.sampled (adjusted s latest delay confirmed) latest).0 }

-- a refused update counts as not made: by the number of its reply, which is 0 where it is done
unfoldable pub taken_by : (reply : ℕ) → Sample → List Sample → List Sample
taken_by reply new taken = cond (eqb reply 0) (new ∷ taken) taken

-- a fresh estimator; that of a refused `new` is fresh too
abbrev pub begun : (initial limit : Duration) → Ran
begun initial limit = record { stats = new_left initial limit; taken = [] }

abbrev pub step : Ran → Step → Ran
step r (begins initial limit) = begun initial limit
step r (updates latest delay confirmed) =
    record {
      stats = update_left r.stats latest delay confirmed true;
      taken =
          taken_by (update_number r.stats latest delay true) (sample_of r.stats latest delay confirmed) r.taken;
    }
step r (limits most) = record { stats = delay_left r.stats most; taken = r.taken }
step r other = r

abbrev pub go_on : Ran → List Step → Ran
go_on r [] = r
go_on r (s ∷ steps) = go_on (step r s) steps

abbrev pub ran : (initial limit : Duration) → List Step → Ran
ran initial limit steps = go_on (begun initial limit) steps

-- ---- the exact averages, after so many samples past the first
pub record Exact : Type 0 where
  pub past : ℕ
  -- the average is sum / 8^past
  pub sum : ℕ
  -- the variation is spread / (2 * 8^past)
  pub spread : ℕ

-- the first sample, and half of it
abbrev pub exact_first : (sample : ℕ) → Exact
exact_first sample = record { past = 0; sum = sample; spread = sample }

-- 7/8 of the average and 1/8 of the sample; 3/4 of the variation and 1/4 of the distance between the sample and the
-- average before it. All over 8^(past + 1), and over twice that
abbrev pub exact_next : Exact → (sample : ℕ) → Exact
exact_next e sample =
    record {
      past = suc e.past;
      sum = 7 * e.sum + sample * 8 ^ e.past;
      spread = 6 * e.spread + 4 * distance e.sum (sample * 8 ^ e.past);
    }

-- of a first sample and later ones, "the same adjusted samples", the newest first
abbrev pub exactly : Sample → List Sample → Exact
exactly new [] = exact_first new.adjusted
exactly new (x ∷ older) = exact_next (exactly x older) new.adjusted

-- ---- the promises
-- the smoothed value s beside the exact average
pub record NearSmoothed (e : Exact) (s : ℕ) : Type 0 where
  -- "never above": s is at most sum / 8^past
  pub not_above : s * 8 ^ e.past ≤ e.sum
  -- it is below by at most 14 (1 - (7/8)^past)
  pub below : e.sum + 14 * 7 ^ e.past ≤ (s + 14) * 8 ^ e.past
  -- so by less than 14, and "less than 16"
  pub under_14 : e.sum < (s + 14) * 8 ^ e.past
  pub under_16 : e.sum < (s + 16) * 8 ^ e.past

-- the variation v beside the exact one: less than 14 above, less than 20 below
pub record NearVariation (e : Exact) (v : ℕ) : Type 0 where
  pub above : v * (2 * 8 ^ e.past) < e.spread + 14 * (2 * 8 ^ e.past)
  pub below : e.spread < (v + 20) * (2 * 8 ^ e.past)

-- the least and the largest sample, as they were measured
abbrev pub least : Sample → List Sample → ℕ
least new [] = new.latest
least new (x ∷ older) = min new.latest (least x older)

abbrev pub largest : Sample → List Sample → ℕ
largest new [] = new.latest
largest new (x ∷ older) = max new.latest (largest x older)

pub record Follows (new : Sample) (older : List Sample) (s : RttStats) : Type 0 where
  pub sampled : s.sampled ≡ true
  pub latest : s.latest.0 ≡ new.latest
  pub minimum : s.minimum.0 ≡ least new older
  pub smoothed : NearSmoothed (exactly new older) s.smoothed.0
  pub variation : NearVariation (exactly new older) s.variation.0
  -- neither is ever above the largest sample
  pub smoothed_most : s.smoothed.0 ≤ largest new older
  pub variation_most : s.variation.0 ≤ largest new older

-- nothing is promised of the averages before the first sample
abbrev pub Promised : List Sample → RttStats → Type 0
Promised [] s = s.sampled ≡ false
Promised (new ∷ older) s = Follows new older s

pub record Holds (r : Ran) : Type 0 where
  pub within : stats_ok r.stats ≡ true
  pub promised : Promised r.taken r.stats

-- ---- the theorem, of the definitions. It holds after any steps, so after each of them
pub record EveryRun : Type 0 where
  pub run : (initial limit : Duration) (steps : List Step) → Holds (ran initial limit steps)
  -- an estimator within its bounds, a restored one too, stays so; and a fresh one is
  pub fresh : (initial limit : Duration) → stats_ok (new_left initial limit) ≡ true
  pub updated : (s : RttStats) (latest delay : Duration) (confirmed fits : Bool) → stats_ok s ≡ true →
      stats_ok (update_left s latest delay confirmed fits) ≡ true
  pub limited : (s : RttStats) (most : Duration) → stats_ok s ≡ true → stats_ok (delay_left s most) ≡ true
