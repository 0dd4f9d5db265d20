-- What the public functions return is what the definitions say, so the promises hold of it. Assumes nothing.
use Rattle.std.specs.Prelude.{Option, None, Some}
use Prim.Native.Nat.{ℕ}
use mathlib.Core.Bool.{true}
use mathlib.Core.List.{List, [], ◌∷◌}
use mathlib.Core.Logic.{inl, inr}
use mathlib.Core.Path.{◌≡◌, refl, sym, ap, subst, ◌∙◌}
use Rattle.units.proofs.Outcomes.{said}
use Rattle.units.specs.declared.time.Duration.{Duration}
use Rattle.state.specs.Answers.{settled, zero_length}
use Rattle.state.specs.Refusals.{row_of}
use Rattle.rtt.specs.declared.rtt.RttStats.{RttStats}
use Rattle.rtt.specs.Rtt.{stats_ok, stored_number, minimum_shown}
use Rattle.rtt.specs.Exact.{Step, begins, updates, limits, other, Sample, Ran, sample_of, taken_by, begun, step, go_on, Promised, Holds}
use Rattle.trips.specs.Returned.{Begun, Made, AllMade, Answers, EveryReturned}
use Rattle.rtt.proofs.Exact.{every_run}

-- an estimator with what it took, by what its function says of it
made_of : {s t : RttStats} {l k : List Sample} → s ≡ t → l ≡ k → ◌≡◌ {A = Ran} (record { stats = s; taken = l }) (record { stats = t; taken = k })
made_of p q i = record { stats = p i; taken = q i }

fresh : (initial most : Duration) (q : Ran) → Begun initial most q → q ≡ begun initial most
fresh initial most q (inl m) = m.5.1 ∙ made_of (rw m.5.0 at m.4.1.0) refl
fresh initial most q (inr m) = let x = said _ _ _ q m in x.4 ∙ made_of x.3.1.0 refl

made : (c : Step) (r q : Ran) → Made c r q → q ≡ step r c
made (begins initial most) r q m = fresh initial most q m
made (updates l d c) r q m =
    m.5.2 ∙ made_of (rw (m.5.0, m.5.1) at m.4.1.0) (ap (λ (n : ℕ). taken_by n (sample_of r.stats l d c) r.taken) (rw (m.5.0, m.5.1) at m.4.0))
made (limits most) r q m = m.5.2 ∙ made_of (rw (m.5.0, m.5.1) at m.4.1.0) refl
made other r q m = m

all_made : (steps : List Step) (r q : Ran) → AllMade steps r q → q ≡ go_on r steps
all_made [] r q m = m
all_made (c ∷ steps) r q m = all_made steps m.0 q m.2 ∙ ap (λ (u : Ran). go_on u steps) (made c r m.0 m.1)

returned : (initial most : Duration) (steps : List Step) (r q : Ran) → Begun initial most r → AllMade steps r q → Holds q
returned initial most steps r q b m =
    subst Holds (sym (all_made steps r q m ∙ ap (λ (u : Ran). go_on u steps) (fresh initial most r b))) (every_run.run initial most steps)

-- ---- the questions
not_refused : (s : RttStats) → stats_ok s ≡ true → stored_number s ≡ 0
unfolding stored_number row_of
not_refused s h = rw h

answers : (s : RttStats) (taken : List Sample) (l : Duration) (m : Option Duration) (a v : Duration) → stored_number s ≡ 0 → Promised taken s →
    l ≡ settled (stored_number s) s.latest zero_length →
    m ≡ settled (stored_number s) (minimum_shown s) None →
    a ≡ settled (stored_number s) s.smoothed zero_length →
    v ≡ settled (stored_number s) s.variation zero_length →
    Answers taken l m a v
unfolding settled minimum_shown
answers s [] l m a v z h p q r t = q ∙ rw (z, h)
answers s (new ∷ older) l m a v z h p q r t = (
  ap (λ (d : Duration). d.0) p ∙ rw z h.latest,
  q ∙ rw (z, h.sampled) (ap (λ (n : ℕ). Some (record { 0 = n })) h.minimum),
  rw (r, z) h.smoothed,
  rw (t, z) h.variation,
)

pub every_returned : EveryReturned
every_returned =
    record {
      run = returned;
      asked = λ initial most steps r q b w l m a v x y z t.
          let h = returned initial most steps r q b w in
          let fine = not_refused q.stats h.within in
          let l-said = said _ _ _ l x in
          let m-said = said _ _ _ m y in
          let a-said = said _ _ _ a z in
          let v-said = said _ _ _ v t in
          rw (l-said.4, m-said.4, a-said.4, v-said.4) (
            l-said.3.0 ∙ fine,
            m-said.3.0 ∙ fine,
            a-said.3.0 ∙ fine,
            v-said.3.0 ∙ fine,
            answers q.stats q.taken _ _ _ _ fine h.promised l-said.3.1 m-said.3.1 a-said.3.1 v-said.3.1,
          );
    }
