-- Runs worked out, and what is not promised: that the best estimate is the largest sample of the window. It can be
-- missed in two ways. A quarter refresh, step 4 of document 01, puts the new sample in the place of the second and of
-- the third, and a larger third is lost. And a sample that is not above the third is not held at all.
-- Statements only; Worth.antt says how to read them, and `take n l` is the first n of the list l.
use Rattle.std.specs.Prelude.{ℕ, ◌+◌, ◌-◌, ◌^◌, ◌≤◌, ◌<◌, List, [], ◌∷◌, ◌≡◌, take, Option, None, Some}
use Rattle.filters.specs.declared.windowed_filter.Estimates.{Estimates}
use Rattle.filters.specs.declared.windowed_filter.Sample.{Sample}
use Rattle.filters.specs.WindowedFilter.{sample_at, estimates}
use Rattle.worth.specs.Worth.{Step, update, reset, clear, ran, largest, in_window}

-- "the best is at least every sample of the window": not promised
abbrev pub IsMost : (window : ℕ) → List Sample → Option Estimates → Type 0
IsMost window fed None = Unit {0}
IsMost window fed (Some e) = largest (in_window window fed) ≤ e.best.sample

-- ---- a sample of age 1 is missed
-- at window 8: 3 at 0, 2 at 8, 1 at 16, 0 at 16, 0 at 17
abbrev pub five_updates : List Step
five_updates = update 3 0 ∷ update 2 8 ∷ update 1 16 ∷ update 0 16 ∷ update 0 17 ∷ []

-- at any window
abbrev pub missing : (window : ℕ) → List Step
missing w = update 3 0 ∷ update 2 w ∷ update 1 (w + w) ∷ update 0 (w + w) ∷ update 0 (w + w + 1) ∷ []

-- a sample that comes soon after a larger one is not held, and is missed when that one grows too old
abbrev pub unheld : (window : ℕ) → List Step
unheld w = update 5 0 ∷ update 4 1 ∷ update 3 (w + 1) ∷ []

-- what is held after a run, and what was fed
abbrev pub Ends : (window : ℕ) → List Step → Estimates → List Sample → Type 0
Ends w steps e fed = ran w steps ≡ record { filter = record { window = w; held = Some e }; fed = fed }

-- a row of the table in docs/ESTIMATE.md: after the first n of the five, the three estimates and the window's maximum
abbrev pub Row : (n : ℕ) → (best second third : Sample) → (most : ℕ) → Type 0
Row n a b c most =
    let r = ran 8 (take n five_updates) in
    (r.filter.held ≡ Some (estimates a b c)) × (largest (in_window 8 r.fed) ≡ most)

-- numbers of 64 bits, as the code takes
abbrev pub AreWords : List Step → Type 0
AreWords [] = Unit {0}
AreWords (update s t ∷ steps) = (s < 2 ^ 64) × (t < 2 ^ 64) × AreWords steps
AreWords (reset s t ∷ steps) = (s < 2 ^ 64) × (t < 2 ^ 64) × AreWords steps
AreWords (clear ∷ steps) = AreWords steps

pub record Worked : Type 0 where
  -- at the end the best is 0, though 1 was fed one time unit before
  pub row1 : Row 1 (sample_at 3 0) (sample_at 3 0) (sample_at 3 0) 3
  pub row2 : Row 2 (sample_at 3 0) (sample_at 2 8) (sample_at 2 8) 3
  pub row3 : Row 3 (sample_at 2 8) (sample_at 2 8) (sample_at 1 16) 2
  pub row4 : Row 4 (sample_at 2 8) (sample_at 0 16) (sample_at 0 16) 2
  pub row5 : Row 5 (sample_at 0 16) (sample_at 0 16) (sample_at 0 17) 1
  -- so it goes at every window above 0
  pub at_eight : missing 8 ≡ five_updates
  pub missed_at : (w : ℕ) → 1 ≤ w →
      Ends w (missing w) (estimates (sample_at 0 (w + w)) (sample_at 0 (w + w)) (sample_at 0 (w + w + 1)))
      (sample_at 0 (w + w + 1) ∷ sample_at 0 (w + w) ∷ sample_at 1 (w + w) ∷ sample_at 2 w ∷ sample_at 3 0 ∷ [])
  -- at every window from 4 on the best is 3, though 4 was fed within the window
  pub unheld_at : (w : ℕ) → 4 ≤ w →
      Ends w (unheld w) (estimates (sample_at 3 (w + 1)) (sample_at 3 (w + 1)) (sample_at 3 (w + 1)))
      (sample_at 3 (w + 1) ∷ sample_at 4 1 ∷ sample_at 5 0 ∷ [])
  -- so at no window from 1 to 2^64 - 2 is the best always the window's maximum; of 0 and 2^64 - 1 nothing is said
  pub not_most : (w : ℕ) → 1 ≤ w → w < 2 ^ 64 - 1 →
      ((steps : List Step) → AreWords steps → let r = ran w steps in IsMost w r.fed r.filter.held) → ⊥
  -- the bounds are reached: an age of the whole window, a third that is the newest sample
  pub oldest : Ends 8 (update 3 0 ∷ update 3 8 ∷ []) (estimates (sample_at 3 0) (sample_at 3 8) (sample_at 3 8))
      (sample_at 3 8 ∷ sample_at 3 0 ∷ [])
  -- times may fall: 1 at 1 is taken after 1 at 2, since all three are of time 0
  pub fallen : Ends 8 (update 5 0 ∷ update 1 2 ∷ update 1 1 ∷ [])
      (estimates (sample_at 5 0) (sample_at 5 0) (sample_at 5 0))
      (sample_at 1 1 ∷ sample_at 1 2 ∷ sample_at 5 0 ∷ [])
