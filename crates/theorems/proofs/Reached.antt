-- Every state that runs lead to after a start is where a run of calls ends (crates/drift/specs/Calls.antt), and the exact value beside it that of the run: so a theorem of runs of calls is one of
-- bytes. Assumes nothing.
use Prim.Native.Nat.{ℕ, zero, suc, ◌+◌, ◌≤◌, ◌<◌}
use mathlib.Core.Bool.{Bool, true, false}
use mathlib.Core.List.{List, [], ◌∷◌, ◌++◌}
use mathlib.Core.Path.{◌≡◌, refl, sym, ap, subst, ◌∙◌}
use native.Mathlib.Omega.{arith}
use lib.Dec.{eqb}
use lib.ListN.{get_or}
use borrow.Author.Tests.{eqb-true, eqb-false}
use Rattle.units.specs.declared.time.Duration.{Duration}
use Rattle.units.specs.declared.time.Moment.{Moment}
use Rattle.state.specs.declared.params.Params.{Params}
use Rattle.state.specs.Answers.{settled, zero_moment}
use Rattle.state.specs.NetworkModel.{start_number}
use Rattle.state.specs.declared.cycle.Cycle.{Cycle}
use Rattle.state.specs.Cycle.{fresh_cycle}
use Rattle.arguments.specs.Params.{params_from}
use Rattle.drift.specs.Calls.{Call, State, number_of, after, run, started}
use Rattle.drift.specs.Exact.{Effect, stays, Exact, unset, exactly, exact_run}
use Rattle.drift.specs.Drift.{Along}
use Rattle.theorems.specs.Steps.{Step, begins, makes, keeps, moment, duration, step_of, after_start, after_step, steps_from, walk, exact_step, exact_walk}
use Rattle.theorems.specs.Runs.{Run, Ran, AreBytes, state_from, count, call, before, Starts, Each, Chained, InOrder, exact_after, exact_runs, exact_before}
use Rattle.theorems.proofs.Exported.{run_keeps}
use Rattle.theorems.proofs.Left.{from_form, left_back}

-- ---- P of every call that is done
abbrev pub OfStep : (Call → Type 0) → Step → State → Type 0
OfStep P (begins p rtt now) s = Unit {0}
OfStep P (makes c) s = number_of c s ≡ 0 → P c
OfStep P keeps s = Unit {0}

abbrev pub AlongSteps : (Call → Type 0) → List Step → State → Type 0
AlongSteps P [] s = Unit {0}
AlongSteps P (c ∷ steps) s = OfStep P c s × AlongSteps P steps (after_step c s)

along_before : (P : Call → Type 0) (calls lists : List ℕ) (at i n : ℕ) (s : State) → i ≤ n → AlongSteps P (steps_from calls lists at n) s → AlongSteps P (steps_from calls lists at i) s
unfolding steps_from
along_before P calls lists at zero n s l h = tt
along_before P calls lists at (suc i) zero s l h = absurd (omega (arith, l))
along_before P calls lists at (suc i) (suc n) s l h = (h.0, along_before P calls lists (at + 392) i n _ (omega arith) h.1)

-- ---- one more call at the end of a run
run_more : (calls : List Call) (c : Call) (s : State) → run (calls ++ (c ∷ [])) s ≡ after c (run calls s)
unfolding run
run_more [] c s = refl
run_more (d ∷ calls) c s = run_more calls c (after d s)

along_more : (P : Call → Type 0) (calls : List Call) (c : Call) (s : State) → Along P calls s → (number_of c (run calls s) ≡ 0 → P c) → Along P (calls ++ (c ∷ [])) s
unfolding run
along_more P [] c s h p = (p, tt)
along_more P (d ∷ calls) c s h p = (h.0, along_more P calls c (after d s) h.1 p)

module _ (effect : Call → State → Effect) (parts : ℕ) (P : Call → Type 0) where
  exact_more : (calls : List Call) (c : Call) (s : State) (x : Exact) → exact_run effect parts (calls ++ (c ∷ [])) s x ≡ exact_step effect parts (makes c) (run calls s) (exact_run effect parts calls s x)
  unfolding run exact_run exact_step
  exact_more [] c s x = refl
  exact_more (d ∷ calls) c s x = exact_more calls c (after d s) (exactly parts (settled (number_of d s) (effect d s) stays) x)

  -- ---- where a run from a start ends, with its exact value
  pub record Reached (s : State) (x : Exact) : Type 0 where
    pub params : Params
    pub rtt : Duration
    pub now : Moment
    pub cycle : Cycle
    pub calls : List Call
    pub here : s ≡ run calls (started params rtt now cycle)
    pub exact : x ≡ exact_run effect parts calls (started params rtt now cycle) unset
    pub along : Along P calls (started params rtt now cycle)

  pub reached_start : (p : Params) (rtt : Duration) (now : Moment) → Reached (after_start p rtt now) unset
  unfolding after_start started run exact_run
  reached_start p rtt now =
      record { params = p; rtt = rtt; now = now; cycle = fresh_cycle (settled (start_number p rtt now) now zero_moment); calls = []; here = refl; exact = refl; along = tt }

  pub reached_step : (c : Step) (s : State) (x : Exact) → OfStep P c s → Reached s x → Reached (after_step c s) (exact_step effect parts c s x)
  unfolding after_step exact_step
  reached_step (begins p rtt now) s x h r = reached_start p rtt now
  reached_step (makes c) s x h r =
      let s₀ = started r.params r.rtt r.now r.cycle in
      record {
        params = r.params;
        rtt = r.rtt;
        now = r.now;
        cycle = r.cycle;
        calls = r.calls ++ (c ∷ []);
        here = ap (after c) r.here ∙ sym (run_more r.calls c s₀);
        exact = (λ i. exact_step effect parts (makes c) (r.here i) (r.exact i)) ∙ sym (exact_more r.calls c s₀ unset);
        along = along_more P r.calls c s₀ r.along (subst (λ (z : State). number_of c z ≡ 0 → P c) r.here h);
      }
  reached_step keeps s x h r = r

  reached_walk : (steps : List Step) (s : State) (x : Exact) → AlongSteps P steps s → Reached s x → Reached (walk steps s) (exact_walk effect parts steps s x)
  unfolding walk exact_walk
  reached_walk [] s x h r = r
  reached_walk (c ∷ steps) s x h r = reached_walk steps (after_step c s) (exact_step effect parts c s x) h.1 (reached_step c s x h.0 r)

  -- whatever was there before a start
  reached_first : (c : Step) (steps : List Step) (s : State) (x : Exact) (p : Params) (rtt : Duration) (now : Moment) → c ≡ begins p rtt now → AlongSteps P (c ∷ steps) s
      → Reached (walk (c ∷ steps) s) (exact_walk effect parts (c ∷ steps) s x)
  unfolding walk exact_walk after_step exact_step
  reached_first c steps s x p rtt now e h =
      reached_walk steps (after_step c s) (exact_step effect parts c s x) h.1
      (subst (λ (d : Step). Reached (after_step d s) (exact_step effect parts d s x)) (sym e) (reached_start p rtt now))

  -- ---- one run of the exported function
  pub record Fair (r : Run) : Type 0 where
    pub ran : Ran r
    pub state : AreBytes r.state
    pub calls : AreBytes r.calls
    pub along : r.reply ≡ 0 → AlongSteps P (steps_from r.calls r.lists 0 (count r)) (state_from r.state)

  abbrev Middle : Run → ℕ → Exact → Type 0
  Middle r i x = Reached (before r i) (exact_before effect parts r i x)

  -- after it; and before each of its calls that is no start
  pub record Made (r : Run) (x : Exact) : Type 0 where
    pub after : Reached (state_from r.left) (exact_after effect parts r x)
    pub middle : r.reply ≡ 0 → (i : ℕ) → i < count r → (get_or (call r i) 0 0 ≡ 0 → ⊥) → Middle r i x

  done_after : (r : Run) (x : Exact) → Fair r → r.reply ≡ 0 → Middle r (count r) x → Reached (state_from r.left) (exact_after effect parts r x)
  unfolding exact_after settled
  done_after r x f done h =
      rw done
      (subst (λ (z : State). Reached z (exact_before effect parts r (count r) x)) (sym (left_back r f.ran done (from_form r.state f.state) f.calls)) h)

  refused_after : (r : Run) (x : Exact) → Fair r → eqb r.reply 0 ≡ false → Reached (state_from r.state) x → Reached (state_from r.left) (exact_after effect parts r x)
  unfolding exact_after settled
  refused_after r x f e h = rw e (subst (λ (l : List ℕ). Reached (state_from l) x) (sym (run_keeps r f.ran (eqb-false r.reply 0 e)).0) h)

  later : (r : Run) (x : Exact) → Fair r → Reached (state_from r.state) x → Made r x
  later r x f h = record { after = go (eqb r.reply 0) refl; middle = λ done i l other. middle done i (omega (arith, l)) }
    where
      middle : r.reply ≡ 0 → (i : ℕ) → i ≤ count r → Middle r i x
      middle done i l = reached_walk _ (state_from r.state) x (along_before P r.calls r.lists 0 i (count r) _ l (f.along done)) h

      go : (t : Bool) → eqb r.reply 0 ≡ t → Reached (state_from r.left) (exact_after effect parts r x)
      go true e = let done = eqb-true r.reply 0 e in done_after r x f done (middle done (count r) (omega arith))
      go false e = refused_after r x f e h

  first_step : (w : List ℕ) → get_or w 0 0 ≡ 0 → step_of w ≡ begins (params_from w) (duration (get_or w 2 0)) (moment (get_or w 1 0))
  unfolding step_of
  first_step w e = rw e

  first : (r : Run) (x : Exact) → Fair r → Starts r → Made r x
  unfolding steps_from
  first r x f h =
      record {
        after = done_after r x f h.done (middle (count r) (omega arith) h.some);
        middle = λ done i l other. middle i (omega (arith, l)) (some i other);
      }
    where
      middle : (i : ℕ) → i ≤ count r → 0 < i → Middle r i x
      middle zero l k = absurd (omega (arith, k))
      middle (suc i) l k =
          reached_first _ (steps_from r.calls r.lists 392 i) (state_from r.state) x _ _ _ (first_step (call r 0) h.first)
          (along_before P r.calls r.lists 0 (suc i) (count r) (state_from r.state) l (f.along h.done))

      some : (i : ℕ) → (get_or (call r i) 0 0 ≡ 0 → ⊥) → 0 < i
      some zero other = absurd (other h.first)
      some (suc i) other = omega arith

  -- ---- all runs
  chained : (runs : List Run) (r : Run) (bytes : List ℕ) (x : Exact) → Chained bytes (runs ++ (r ∷ [])) → Each Fair (runs ++ (r ∷ [])) → Reached (state_from bytes) x → Made r (exact_runs effect parts runs x)
  unfolding exact_runs
  chained [] r bytes x c f h = later r x f.0 (subst (λ (l : List ℕ). Reached (state_from l) x) (sym c.0) h)
  chained (q ∷ runs) r bytes x c f h =
      chained runs r q.left (exact_after effect parts q x) c.1 f.1 (later q x f.0 (subst (λ (l : List ℕ). Reached (state_from l) x) (sym c.0) h)).after

  pub all_made : (runs : List Run) (r : Run) → InOrder (runs ++ (r ∷ [])) → Each Fair (runs ++ (r ∷ [])) → Made r (exact_runs effect parts runs unset)
  unfolding exact_runs
  all_made [] r o f = first r unset f.0 o.0
  all_made (q ∷ runs) r o f = chained runs r q.left (exact_after effect parts q unset) o.1 f.1 (first q unset f.0 o.0).after

  -- what holds of every run of calls from a start holds of what is reached
  pub of_reached : (Q : State → Exact → Type 0)
      → ((p : Params) (rtt : Duration) (now : Moment) (y : Cycle) (calls : List Call) → Along P calls (started p rtt now y) → Q (run calls (started p rtt now y)) (exact_run effect parts calls (started p rtt now y) unset))
      → (s : State) (x : Exact) → Reached s x → Q s x
  of_reached Q theorem s x r =
      let s₀ = started r.params r.rtt r.now r.cycle in
      subst (λ (z : State). Q z x) (sym r.here)
      (subst (λ (v : Exact). Q (run r.calls s₀) v) (sym r.exact) (theorem r.params r.rtt r.now r.cycle r.calls r.along))
