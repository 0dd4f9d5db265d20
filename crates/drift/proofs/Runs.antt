-- What every call keeps, every run keeps. Assumes nothing.
use Prim.Native.Nat.{ℕ}
use mathlib.Core.Bool.{Bool, true, false, cond}
use mathlib.Core.List.{List, [], ◌∷◌}
use mathlib.Core.Path.{◌≡◌, refl}
use lib.Dec.{eqb}
use borrow.Author.Tests.{eqb-true}
use Rattle.state.specs.Answers.{settled}
use Rattle.drift.specs.Calls.{Call, State, number_of, next_of, after, run}
use Rattle.drift.specs.Exact.{Effect, stays, Exact, exactly, exact_run}
use Rattle.drift.specs.Drift.{Along}

-- `Kept` speaks of a state and of the exact value beside it, `next` of a call that is done
module _ (effect : Call → State → Effect) (parts : ℕ) (Kept : State → Exact → Type 0) (P : Call → Type 0)
    (next : (c : Call) (s : State) (x : Exact) → P c → number_of c s ≡ 0 → Kept s x → Kept (next_of c s) (exactly parts (effect c s) x)) where
  abbrev made : Call → State → Exact → Exact
  made c s x = exactly parts (settled (number_of c s) (effect c s) stays) x

  -- a refused call changes neither
  after_kept : (c : Call) (s : State) (x : Exact) → (number_of c s ≡ 0 → P c) → Kept s x → Kept (after c s) (made c s x)
  unfolding after settled exactly
  after_kept c s x p h = go (eqb (number_of c s) 0) refl
    where
      go : (t : Bool) → eqb (number_of c s) 0 ≡ t → Kept (cond t (next_of c s) s) (exactly parts (cond t (effect c s) stays) x)
      go true e = let done = eqb-true (number_of c s) 0 e in next c s x (p done) done h
      go false e = h

  pub run_kept : (calls : List Call) (s : State) (x : Exact) → Along P calls s → Kept s x → Kept (run calls s) (exact_run effect parts calls s x)
  unfolding run exact_run
  run_kept [] s x p h = h
  run_kept (c ∷ calls) s x p h = run_kept calls (after c s) (made c s x) p.1 (after_kept c s x p.0 h)

pub both_along : (P Q : Call → Type 0) (calls : List Call) (s : State) → Along P calls s → Along Q calls s → Along (λ c. P c × Q c) calls s
both_along P Q [] s p q = tt
both_along P Q (c ∷ calls) s p q = (λ done. (p.0 done, q.0 done), both_along P Q calls (after c s) p.1 q.1)
