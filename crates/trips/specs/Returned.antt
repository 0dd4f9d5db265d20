-- What crates/rtt/specs/Exact.antt says, of the code: a run made by the public functions of crates/rtt/src/rtt.rt, of
-- which no more is known than their contracts. Statements only. crates/units/specs/Outcomes.antt says how a statement
-- speaks of a contract (`Allowed`, `Leaves`), Exact.antt how to read the rest; `A ⊎ B` is "A or B".
-- crates/theorems/specs/Theorems.antt says more: it speaks of the bytes that the exported run leaves.
use Rattle.std.specs.Prelude.{List, [], ◌∷◌, ◌⊎◌, ◌≡◌, Option, None, Some, Result}
use Rattle.units.specs.Outcomes.{Allowed, Leaves}
use Rattle.units.specs.Reply.{number, kept}
use Rattle.units.specs.declared.refusal.Refusal.{Refusal}
use Rattle.units.specs.declared.time.Duration.{Duration}
use Rattle.state.specs.Answers.{zero_length}
use Rattle.rtt.proofs.rtt.RttStats as stats
use Rattle.rtt.specs.Rtt.{stats_new}
use Rattle.rtt.specs.Exact.{Step, begins, updates, limits, other, Sample, Ran, sample_of, taken_by, exactly, NearSmoothed, NearVariation, least, Holds}

-- ---- a step by the public function of its name: r becomes q. Whether an update was refused is what its reply says. Of
-- a function that is lent the estimator, `a.0.now` is what it was lent, and `e.0.now` what it left there. What `begin`
-- leaves in any that it is lent, where it is refused too
abbrev pub Started : (initial most : Duration) → Ran → Type 0
Started initial most q =
    Allowed stats.begin.Reads.Learnt
    (λ κ a x e.
    (a.1 ≡ (initial, (most, tt)))
    × (q ≡ record { stats = e.0.now; taken = [] }))

-- or what `new` gives, and a fresh one of 0 and 0 where that is refused
abbrev pub Given : (initial most : Duration) → Ran → Type 0
Given initial most q =
    Leaves stats.new.Reads.Learnt (λ κ. (initial, (most, tt)))
    (λ x. record { stats = kept x (stats_new zero_length zero_length); taken = [] }) q

abbrev pub Begun : (initial most : Duration) → Ran → Type 0
Begun initial most q = Started initial most q ⊎ Given initial most q

abbrev pub Made : Step → (r q : Ran) → Type 0
Made (begins initial most) r q = Begun initial most q
Made (updates latest delay confirmed) r q =
    Allowed stats.update_rtt.Reads.Learnt
    (λ κ a x e.
    (a.0.now ≡ r.stats)
    × (a.1 ≡ (latest, (delay, (confirmed, tt))))
    × (q ≡ record {
      stats = e.0.now;
      taken = taken_by (number x) (sample_of r.stats latest delay confirmed) r.taken;
    }))
Made (limits most) r q =
    Allowed stats.update_max_ack_delay.Reads.Learnt
    (λ κ a x e.
    (a.0.now ≡ r.stats)
    × (a.1 ≡ (most, tt))
    × (q ≡ record { stats = e.0.now; taken = r.taken }))
Made other r q = q ≡ r

-- each step on what the one before it returned
abbrev pub AllMade : List Step → (r q : Ran) → Type 0
AllMade [] r q = q ≡ r
AllMade (c ∷ steps) r q = (u : Ran) × Made c r u × AllMade steps u q

-- ---- what the four questions answer: they are not refused, and the promises hold of the answers
abbrev pub Answers : List Sample → (latest : Duration) (minimum : Option Duration) (smoothed variation : Duration) →
    Type 0
Answers [] l m s v = m ≡ None
Answers (new ∷ older) l m s v =
    (l.0 ≡ new.latest)
    × (m ≡ Some (record { 0 = least new older }))
    × NearSmoothed (exactly new older) s.0
    × NearVariation (exactly new older) v.0

pub record EveryReturned : Type 0 where
  -- the estimator that the functions return
  pub run : (initial most : Duration) (steps : List Step) (r q : Ran) → Begun initial most r → AllMade steps r q →
      Holds q
  -- and its answers: latest_rtt, min_rtt, rtt, rttvar
  pub asked : (initial most : Duration) (steps : List Step) (r q : Ran) → Begun initial most r → AllMade steps r q →
      (l : Result Duration Refusal) (m : Result (Option Duration) Refusal) (s v : Result Duration Refusal) →
      Leaves stats.latest_rtt.Reads.Learnt (λ κ. (q.stats, tt)) (λ x. x) l →
      Leaves stats.min_rtt.Reads.Learnt (λ κ. (q.stats, tt)) (λ x. x) m →
      Leaves stats.rtt.Reads.Learnt (λ κ. (q.stats, tt)) (λ x. x) s →
      Leaves stats.rttvar.Reads.Learnt (λ κ. (q.stats, tt)) (λ x. x) v →
      (number l ≡ 0)
      × (number m ≡ 0)
      × (number s ≡ 0)
      × (number v ≡ 0)
      × Answers q.taken (kept l zero_length) (kept m None) (kept s zero_length) (kept v zero_length)
