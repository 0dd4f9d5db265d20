-- What the estimates of a windowed filter are worth: document 02, request h. "For any run of updates from an empty
-- filter, show after each accepted update: best, second and third never increase in that order; their times never
-- decrease in that order; the newest sample is no larger than the third; each is a sample that was fed, with its own
-- time; the best one's age is at most the window. A refused update counts as not made. A clear starts the run afresh."
-- Besides: each is at least every sample fed after it, and the age is measured from the latest time, since times may
-- fall. What is not promised, that the best is the largest sample of the window, is refuted in Examples.antt.
--
-- Statements only. `ℕ` is the whole numbers from 0, `Type 0` the kind of statements. `(x : A) → B` is "for every x of
-- the kind A, B", and `A → B` "if A, then B", or between kinds of values a function from A to B; `(x : A) × B` is
-- "there is an x of the kind A, of which B", `A × B` "A and B", `x ≡ y` "x equals y", `⊥` "never", `Unit` "nothing is
-- asked". `f x y` is f of x and y, `r.f` the field f of the record r, `λ x. t` is t as a function of x; `let x = a in
-- B` is B, in which x stands for a. `cond t a b` is a where the test t holds and b elsewhere, and `eqb a b` the test
-- whether a equals b. `[]` is the empty list, `x ∷ l` the list l with x before it, `k ++ l` the list k and then the
-- list l. `abbrev`, `unfoldable`, `pub` and `use` add nothing to what is said.
use Rattle.std.specs.Prelude.{ℕ, max, ◌+◌, ◌≤◌, cond, List, [], ◌∷◌, ◌++◌, ◌≡◌, eqb, Option, None, Some}
use Rattle.filters.specs.declared.windowed_filter.Estimates.{Estimates}
use Rattle.filters.specs.declared.windowed_filter.Sample.{Sample}
use Rattle.filters.specs.declared.windowed_filter.WindowedFilter.{WindowedFilter}
use Rattle.filters.specs.WindowedFilter.{sample_at, is_older, windowed_new, windowed_reset, windowed_number, windowed_update}

-- ---- a run: what may be done to a filter
pub data Step : Type 0 where
  update : (sample time : ℕ) → Step
  reset : (sample time : ℕ) → Step
  clear : Step

-- the filter, and what was fed since the last clear, the newest first: samples, each with its time
pub record Ran : Type 0 where
  pub filter : WindowedFilter
  pub fed : List Sample

-- "A refused update counts as not made": by the number of its reply, which is 0 where it is done
unfoldable pub fed_by : (reply : ℕ) → Sample → List Sample → List Sample
fed_by reply new fed = cond (eqb reply 0) (new ∷ fed) fed

-- "A clear starts the run afresh", and so does a reset, which feeds its sample
abbrev pub step : Ran → Step → Ran
step r (update s t) =
    record {
      filter = windowed_update r.filter s t;
      fed = fed_by (windowed_number r.filter t) (sample_at s t) r.fed;
    }
step r (reset s t) = record { filter = windowed_reset r.filter s t; fed = sample_at s t ∷ [] }
step r clear = record { filter = windowed_new r.filter.window; fed = [] }

abbrev pub go_on : Ran → List Step → Ran
go_on r [] = r
go_on r (s ∷ steps) = go_on (step r s) steps

-- "from an empty filter"
abbrev pub ran : (window : ℕ) → List Step → Ran
ran window steps = go_on (record { filter = windowed_new window; fed = [] }) steps

-- ---- of what was fed
-- no sample of these is above n
abbrev pub NoneAbove : List Sample → ℕ → Type 0
NoneAbove [] n = Unit {0}
NoneAbove (x ∷ l) n = (x.sample ≤ n) × NoneAbove l n

-- there is a newest one, and its sample is at most n
abbrev pub NewestUpTo : List Sample → ℕ → Type 0
NewestUpTo [] n = ⊥
NewestUpTo (new ∷ fed) n = new.sample ≤ n

-- x was fed, "with its own time", and after it nothing above it: if it was fed several times, after the last of them
abbrev pub Stands : List Sample → Sample → Type 0
Stands fed x =
    (later : List Sample) × (earlier : List Sample) × (fed ≡ later ++ (x ∷ earlier)) × NoneAbove later x.sample

-- the largest sample, and the latest time, which need not be the newest one's
abbrev pub largest : List Sample → ℕ
largest [] = 0
largest (x ∷ l) = max x.sample (largest l)

abbrev pub latest : List Sample → ℕ
latest [] = 0
latest (x ∷ l) = max x.time (latest l)

-- the samples of the window: those whose age at the latest time is at most the window
abbrev pub within : (window time : ℕ) → List Sample → List Sample
within window time [] = []
within window time (x ∷ l) = cond (is_older x window time) (within window time l) (x ∷ within window time l)

abbrev pub in_window : (window : ℕ) → List Sample → List Sample
in_window window fed = within window (latest fed) fed

-- ---- the promises
pub record Worth (window : ℕ) (fed : List Sample) (e : Estimates) : Type 0 where
  -- "best, second and third never increase in that order"
  pub second_sample : e.second.sample ≤ e.best.sample
  pub third_sample : e.third.sample ≤ e.second.sample
  -- "their times never decrease in that order"
  pub second_time : e.best.time ≤ e.second.time
  pub third_time : e.second.time ≤ e.third.time
  -- "the newest sample is no larger than the third"
  pub newest : NewestUpTo fed e.third.sample
  -- "each is a sample that was fed, with its own time", and is at least every sample fed after it
  pub best : Stands fed e.best
  pub second : Stands fed e.second
  pub third : Stands fed e.third
  -- "the best one's age is at most the window": at the latest time, so at the newest one's
  pub age : latest fed ≤ e.best.time + window
  -- so it is at most the largest sample of the window: it may be too small, but is never too large
  pub in_window_lem : e.best.sample ≤ largest (in_window window fed)

-- a filter is empty exactly where nothing was fed since the last clear
abbrev pub Promised : (window : ℕ) → List Sample → Option Estimates → Type 0
Promised window fed None = fed ≡ []
Promised window fed (Some e) = Worth window fed e

pub record Holds (window : ℕ) (r : Ran) : Type 0 where
  pub window_kept : r.filter.window ≡ window
  pub promised : Promised window r.fed r.filter.held

-- three estimates are held, of which the promises hold, and three numbers are their samples
abbrev pub Shows : (window : ℕ) → List Sample → Option Estimates → (best second third : ℕ) → Type 0
Shows window fed h best second third =
    (e : Estimates)
    × (h ≡ Some e)
    × Worth window fed e
    × (best ≡ e.best.sample)
    × (second ≡ e.second.sample)
    × (third ≡ e.third.sample)

-- ---- the theorem, of the definitions. It holds after any steps, so after each of them
pub record EveryRun : Type 0 where
  pub run : (window : ℕ) (steps : List Step) → Holds window (ran window steps)
  -- a reset is a clear and then an update
  pub reset_is : (r : Ran) (s t : ℕ) → step r (reset s t) ≡ step (step r clear) (update s t)
  -- the largest sample is the least number that none is above
  pub largest_bounds : (l : List Sample) → NoneAbove l (largest l)
  pub largest_least : (l : List Sample) (n : ℕ) → NoneAbove l n → largest l ≤ n
