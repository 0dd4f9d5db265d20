-- What the public functions return is what the definitions say, so the promises hold of it. Assumes nothing.
use Rattle.std.specs.Prelude.{Option, None, Some}
use Prim.Native.Nat.{ℕ}
use Rattle.filters.specs.declared.windowed_filter.Estimates.{Estimates}
use mathlib.Core.List.{List, [], ◌∷◌}
use mathlib.Core.Path.{◌≡◌, refl, sym, ap, subst, ◌∙◌}
use Rattle.units.proofs.Outcomes.{said}
use Rattle.filters.specs.declared.windowed_filter.Sample.{Sample}
use Rattle.filters.specs.declared.windowed_filter.WindowedFilter.{WindowedFilter}
use Rattle.filters.specs.WindowedFilter.{sample_at, best_of, second_of, third_of}
use Rattle.worth.specs.Worth.{Step, update, reset, clear, Ran, fed_by, step, go_on, Promised, Holds}
use Rattle.worth.specs.Returned.{Made, Begun, AllMade, Answers, EveryReturned}
use Rattle.worth.proofs.Worth.{every_run}

-- a filter with what was fed, by what its function says of it
made_of : {f g : WindowedFilter} {l k : List Sample} → f ≡ g → l ≡ k → ◌≡◌ {A = Ran} (record { filter = f; fed = l }) (record { filter = g; fed = k })
made_of p q i = record { filter = p i; fed = q i }

made : (c : Step) (r q : Ran) → Made c r q → q ≡ step r c
made (update s t) r q m =
    m.5.2 ∙ made_of (rw (m.5.0, m.5.1) at m.4.1.0) (ap (λ (n : ℕ). fed_by n (sample_at s t) r.fed) (rw (m.5.0, m.5.1) at m.4.0))
made (reset s t) r q m = let x = said _ _ _ q m in x.4 ∙ made_of x.3 refl
made clear r q m = let x = said _ _ _ q m in x.4 ∙ made_of x.3 refl

all_made : (steps : List Step) (r q : Ran) → AllMade steps r q → q ≡ go_on r steps
all_made [] r q m = m
all_made (c ∷ steps) r q m = all_made steps m.0 q m.2 ∙ ap (λ (u : Ran). go_on u steps) (made c r m.0 m.1)

returned : (window : ℕ) (steps : List Step) (r q : Ran) → Begun window r → AllMade steps r q → Holds window q
returned window steps r q b m =
    let x = said _ _ _ r b in
    let begun = x.4 ∙ made_of x.3 refl in
    subst (Holds window) (sym (all_made steps r q m ∙ ap (λ (u : Ran). go_on u steps) begun)) (every_run.run window steps)

answers : (window : ℕ) (fed : List Sample) (h : Option Estimates) → Promised window fed h → Answers window fed h (best_of h) (second_of h) (third_of h)
answers window fed None p = subst (λ (l : List Sample). Answers window l None (best_of None) (second_of None) (third_of None)) (sym p) (refl, refl, refl)
answers window [] (Some e) p = absurd p.newest
answers window (new ∷ fed) (Some e) p = (e.best.sample, e.second.sample, e.third.sample, refl, refl, refl, (e, refl, p, refl, refl, refl))

pub every_returned : EveryReturned
every_returned =
    record {
      run = returned;
      asked = λ window steps r q b m x y z p s t.
          rw ((said _ _ _ x p).4 ∙ (said _ _ _ x p).3, (said _ _ _ y s).4 ∙ (said _ _ _ y s).3, (said _ _ _ z t).4 ∙ (said _ _ _ z t).3)
          (answers window q.fed q.filter.held (returned window steps r q b m).promised);
    }
