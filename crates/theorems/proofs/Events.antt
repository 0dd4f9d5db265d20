-- The premise on the words of accepted events is one on the calls that are done (`fair`). Assumes nothing.
use Prim.Native.Nat.{ℕ, zero, suc, ◌+◌, ◌*◌, ◌^◌, ◌<◌}
use mathlib.Core.List.{List, [], ◌∷◌}
use mathlib.Core.Path.{◌≡◌, subst, ◌∙◌, ap}
use native.Mathlib.Nat.{zero-add}
use native.Mathlib.Omega.{arith}
use lib.Dec.{leb, eqb}
use lib.ListN.{get_or}
use borrow.Author.Tests.{eqb-true}
use Rattle.std.proofs.lemmas.Bool.{cond_both}
use Rattle.state.specs.declared.params.Params.{Params}
use Rattle.state.specs.declared.congestion_event.CongestionEvent.{CongestionEvent}
use Rattle.state.specs.declared.congestion_event.CongestionEventSample.{CongestionEventSample}
use Rattle.arguments.specs.Params.{params_from}
use Rattle.arguments.specs.CongestionEvent.{event_from}
use Rattle.arguments.specs.Sample.{sample_from}
use Rattle.dispatch.specs.Outcome.{is_judged, is_asked}
use Rattle.dispatch.specs.OneCall.{call_at}
use Rattle.drift.specs.Calls.{Call, State}
use Rattle.drift.specs.Drift.{OfEvent}
use Rattle.drift.specs.Exact.{Effect}
use Rattle.theorems.specs.Steps.{Step, Replies, judge_step, enter_step, change_step, step_of, after_step, steps_from, walk}
use Rattle.theorems.specs.Runs.{Run, Ran, AreBytes, state_from, count, call, before, Each, OfEvents}
use Rattle.theorems.proofs.Answered.{next_call, outcome_of_call, reply_word_lem}
use Rattle.theorems.proofs.Choice.{either}
use Rattle.theorems.proofs.Decoded.{every_outcome}
use Rattle.theorems.proofs.Reached.{OfStep, AlongSteps, Fair}

-- ---- of one call
module _ (Q : Params → CongestionEvent → CongestionEventSample → Type 0) (w : List ℕ) (s : State) (n : ℕ) where
  -- of a step that is answered n
  abbrev At : Step → Type 0
  At c = Replies c s n → OfStep (OfEvent Q) c s

  judge_at : At (judge_step w)
  unfolding judge_step
  judge_at =
      let k = get_or w 0 0 in either At (eqb k 5) _ _ (λ r d. tt) (either At (eqb k 6) _ _ (λ r. tt) (either At (eqb k 7) _ _ (λ r d. tt) (either At (eqb k 9) _ _ (λ r d. tt) (λ r. tt))))

  enter_at : At (enter_step w)
  unfolding enter_step
  enter_at =
      let k = get_or w 0 0 in
      either At (eqb k 40) _ _ (λ r d. tt)
      (either At (eqb k 41) _ _ (λ r d. tt) (either At (eqb k 42) _ _ (λ r d. tt) (either At (eqb k 43) _ _ (λ r d. tt) (either At (eqb k 44) _ _ (λ r d. tt) (either At (eqb k 45) _ _ (λ r d. tt) (λ r. tt))))))

  change_at : At (change_step w)
  unfolding change_step
  change_at =
      let k = get_or w 0 0 in
      either At (eqb k 8) _ _ (λ r d. tt)
      (either At (eqb k 14) _ _ (λ r d. tt)
      (either At (eqb k 15) _ _ (λ r d. tt)
      (either At (eqb k 16) _ _ (λ r d. tt)
      (either At (eqb k 17) _ _ (λ r d. tt)
      (either At (eqb k 18) _ _ (λ r d. tt) (either At (eqb k 19) _ _ (λ r d. tt) (either At (eqb k 20) _ _ (λ r d. tt) (either At (eqb k 21) _ _ (λ r d. tt) (either At (eqb k 22) _ _ (λ r d. tt) (λ r. tt))))))))))

  step_at : (get_or w 0 0 ≡ 3 → n ≡ 0 → Q (params_from w) (event_from w) (sample_from w)) → At (step_of w)
  unfolding step_of
  step_at h =
      let k = get_or w 0 0 in
      either At (eqb k 1) _ _ (λ r d. tt)
      (cond_both (eqb k 3) _ _ At (λ e r d. h (eqb-true k 3 e) (r ∙ d))
      (λ e. either At (eqb k 4) _ _ (λ r d. tt)
      (either At (eqb k 0) _ _ (λ r. tt) (either At (is_judged k) _ _ judge_at (either At (is_asked k) _ _ (λ r. tt) (either At (leb 40 k) _ _ enter_at change_at))))))

-- ---- of all calls of a run
along_each : (P : Call → Type 0) (calls lists : List ℕ) (at n : ℕ) (s : State)
    → ((i : ℕ) → i < n → OfStep P (step_of (call_at calls lists (at + 392 * i))) (walk (steps_from calls lists at i) s)) → AlongSteps P (steps_from calls lists at n) s
unfolding steps_from walk
along_each P calls lists at zero s h = tt
along_each P calls lists at (suc n) s h =
    let here : at + 392 * 0 ≡ at = omega arith in
    let z = after_step (step_of (call_at calls lists at)) s in (
      subst (λ (k : ℕ). OfStep P (step_of (call_at calls lists k)) s) here (h 0 (omega arith)),
      along_each P calls lists (at + 392) n z
          (λ i l. subst (λ (k : ℕ). OfStep P (step_of (call_at calls lists k)) (walk (steps_from calls lists (at + 392) i) z)) (next_call at i) (h (suc i) (omega arith))),
    )

module _ (effect : Call → State → Effect) (parts : ℕ) (W : List ℕ → Type 0) (Q : Params → CongestionEvent → CongestionEventSample → Type 0) (of_words : (w : List ℕ) → W w → Q (params_from w) (event_from w) (sample_from w)) where
  event_at : (r : Run) → Ran r → OfEvents W r → r.reply ≡ 0 → (i : ℕ) → i < count r → OfStep (OfEvent Q) (step_of (call r i)) (before r i)
  event_at r ran h done i l =
      let w = call r i in
      let t = outcome_of_call r i in
      step_at Q w (before r i) t.reply
      (λ e z.
      let small : t.reply < 2 ^ 64 = omega (arith, z) in
      of_words w (h i (record { done = done; made = l; named = e; accepted = reply_word_lem r ran done i l (ap (λ (n : ℕ). eqb n 2) z) small ∙ z })))
      (every_outcome w (before r i)).replies

  fair : (r : Run) → Ran r → AreBytes r.state × AreBytes r.calls → OfEvents W r → Fair effect parts (OfEvent Q) r
  fair r ran b h =
      record {
        ran = ran;
        state = b.0;
        calls = b.1;
        along = λ done. along_each (OfEvent Q) r.calls r.lists 0 (count r) (state_from r.state) (λ i l. rw (zero-add (392 * i)) (event_at r ran h done i l));
      }

  pub each_fair : (runs : List Run) → Each Ran runs → Each (λ r. AreBytes r.state × AreBytes r.calls) runs → Each (OfEvents W) runs → Each (Fair effect parts (OfEvent Q)) runs
  each_fair [] a b c = tt
  each_fair (r ∷ runs) a b c = (fair r a.0 b.0 c.0, each_fair runs a.1 b.1 c.1)
