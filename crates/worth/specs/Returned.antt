-- The same of the code: a run made by the public functions of crates/filters/src/windowed_filter.rt, of which no more
-- is known than their contracts. Statements only. crates/units/specs/Outcomes.antt says how a statement speaks of a
-- contract (`Allowed`, `Leaves`), Worth.antt how to read the rest. crates/theorems/specs/Theorems.antt says more: it
-- speaks of the bytes that the exported filter run writes.
use Rattle.std.specs.Prelude.{ℕ, List, [], ◌∷◌, ◌≡◌, Option, None, Some}
use Rattle.filters.specs.declared.windowed_filter.Estimates.{Estimates}
use Rattle.units.specs.Outcomes.{Allowed, Leaves}
use Rattle.units.specs.Reply.{number}
use Rattle.filters.specs.declared.windowed_filter.Sample.{Sample}
use Rattle.filters.specs.WindowedFilter.{sample_at}
use Rattle.filters.proofs.windowed_filter.WindowedFilter as windowed
use Rattle.worth.specs.Worth.{Step, update, reset, clear, Ran, fed_by, Holds, Shows}

-- ---- a step by the public function of its name: r becomes q. An update is lent the filter: `a.0.now` is what it was
-- lent, and `e.0.now` what it left there. Whether it was refused is what its reply says
abbrev pub Made : Step → (r q : Ran) → Type 0
Made (update s t) r q =
    Allowed windowed.update.Reads.Learnt
    (λ κ a x e.
    (a.0.now ≡ r.filter)
    × (a.1 ≡ (s, (t, tt)))
    × (q ≡ record { filter = e.0.now; fed = fed_by (number x) (sample_at s t) r.fed }))
Made (reset s t) r q =
    Leaves windowed.reset.Reads.Learnt (λ κ. (r.filter, (s, (t, tt))))
    (λ x. record { filter = x; fed = sample_at s t ∷ [] }) q
Made clear r q =
    Leaves windowed.clear.Reads.Learnt (λ κ. (r.filter, tt))
    (λ x. record { filter = x; fed = [] }) q

-- an empty filter
abbrev pub Begun : (window : ℕ) → Ran → Type 0
Begun window r =
    Leaves windowed.new.Reads.Learnt (λ κ. (window, tt))
    (λ x. record { filter = x; fed = [] }) r

-- each step on what the one before it returned
abbrev pub AllMade : List Step → (r q : Ran) → Type 0
AllMade [] r q = q ≡ r
AllMade (c ∷ steps) r q = (u : Ran) × Made c r u × AllMade steps u q

-- ---- what the three questions answer: nothing where nothing was fed, else samples of which the promises hold
abbrev pub Answers : (window : ℕ) → List Sample → Option Estimates → (best second third : Option ℕ) → Type 0
Answers window [] h a b c = (a ≡ None) × (b ≡ None) × (c ≡ None)
Answers window (new ∷ fed) h a b c =
    (best : ℕ) × (second : ℕ) × (third : ℕ)
    × (a ≡ Some best)
    × (b ≡ Some second)
    × (c ≡ Some third)
    × Shows window (new ∷ fed) h best second third

pub record EveryReturned : Type 0 where
  -- the filter that the functions return
  pub run : (window : ℕ) (steps : List Step) (r q : Ran) → Begun window r → AllMade steps r q → Holds window q
  -- and its answers: get_best, get_second_best, get_third_best
  pub asked : (window : ℕ) (steps : List Step) (r q : Ran) → Begun window r → AllMade steps r q →
      (a b c : Option ℕ) →
      Leaves windowed.get_best.Reads.Learnt (λ κ. (q.filter, tt)) (λ x. x) a →
      Leaves windowed.get_second_best.Reads.Learnt (λ κ. (q.filter, tt)) (λ x. x) b →
      Leaves windowed.get_third_best.Reads.Learnt (λ κ. (q.filter, tt)) (λ x. x) c →
      Answers window q.fed q.filter.held a b c
