-- A call that is refused changes nothing, and its answer is its number, 0 and the record as handed in (`refused`). Assumes nothing.
use Prim.Native.Nat.{ℕ}
use mathlib.Core.Bool.{Bool, true, false, cond}
use mathlib.Core.List.{List}
use mathlib.Core.Path.{◌≡◌, refl, ap}
use lib.Dec.{leb, eqb}
use lib.ListN.{get_or}
use borrow.Author.Tests.{ne_eqb, eqb-true}
use Rattle.std.proofs.lemmas.Bool.{cond_both}
use Rattle.state.specs.declared.network_model.NetworkModel.{NetworkModel}
use Rattle.state.specs.Answers.{settled}
use Rattle.state.specs.Refusals.{row_of}
use Rattle.state.specs.NetworkModel.{start_model}
use Rattle.state.specs.declared.cycle.Cycle.{Cycle}
use Rattle.state.specs.Cycle.{fresh_number, fresh_cycle}
use Rattle.arguments.specs.CongestionEvent.{event_in}
use Rattle.words.specs.Word.{flag_word}
use Rattle.dispatch.specs.Outcome.{Outcome}
use Rattle.dispatch.specs.Outcome.{is_judged, is_asked, no_event, start_outcome, send_outcome, event_outcome, finish_outcome, judge_outcome, ask_outcome, enter_outcome, change_outcome, outcome_of}
use Rattle.drift.specs.Calls.{State}
use Rattle.theorems.specs.Steps.{Refused, fresh, state_left, outcome_in}
use Rattle.theorems.proofs.Choice.{either, settled_kept}
use Rattle.theorems.proofs.Decoded.{state}

-- ---- what is settled stays as it was
model_kept : (n : ℕ) (m' m : NetworkModel) (y : Cycle) → (n ≡ 0 → ⊥) → state (settled n m' m) y ≡ state m y
model_kept n m' m y h = ap (λ (z : NetworkModel). state z y) (settled_kept n m' m h)

both_kept : (n : ℕ) (m' m : NetworkModel) (y' y : Cycle) → (n ≡ 0 → ⊥) → state (settled n m' m) (settled n y' y) ≡ state m y
both_kept n m' m y' y h = λ i. state (settled_kept n m' m h i) (settled_kept n y' y h i)

module _ (w : List ℕ) (s : State) where
  -- of a call that is a start or not, and an event's or not
  abbrev P : Bool → Bool → Outcome → Type 0
  P start event t = (t.reply ≡ 0 → ⊥) → (state_left t ≡ cond start fresh s) × (t.value ≡ 0) × (t.event ≡ cond event (event_in w) no_event)

  plain : (a b : Bool) (t : Outcome) → a ≡ false → b ≡ false → P false false t → P a b t
  plain a b t p q h = rw (p, q) h

  send : P false false (send_outcome w s.model s.cycle)
  unfolding send_outcome
  send h = (model_kept _ _ s.model s.cycle h, refl, refl)

  finish : P false false (finish_outcome w s.model s.cycle)
  unfolding finish_outcome
  finish h = (model_kept _ _ s.model s.cycle h, refl, refl)

  judge : P false false (judge_outcome w s.model s.cycle)
  unfolding judge_outcome
  judge h = (model_kept _ _ s.model s.cycle h, ap flag_word (settled_kept _ _ false h), refl)

  ask : P false false (ask_outcome w s.model s.cycle)
  unfolding ask_outcome
  ask h = (refl, settled_kept _ _ 0 h, refl)

  enter : P false false (enter_outcome w s.model s.cycle)
  unfolding enter_outcome
  enter h = (both_kept _ _ s.model _ s.cycle h, refl, refl)

  change : P false false (change_outcome w s.model s.cycle)
  unfolding change_outcome
  change h = (model_kept _ _ s.model s.cycle h, refl, refl)

  event : P false true (event_outcome w s.model s.cycle)
  unfolding event_outcome
  event h =
      (model_kept _ _ s.model s.cycle h, refl, settled_kept _ _ (event_in w) h)

  start : P true false (start_outcome w)
  unfolding start_outcome start_model settled fresh_cycle fresh_number row_of
  start h = (rw (ne_eqb _ 0 h), refl, refl)

  outcome : P (eqb (get_or w 0 0) 0) (eqb (get_or w 0 0) 3) (outcome_in w s)
  unfolding outcome_of
  outcome =
      let n = get_or w 0 0 in
      let Q = P (eqb n 0) (eqb n 3) in
      cond_both (eqb n 1) _ _ Q (λ e. rw (eqb-true n 1 e) send)
      (λ _. cond_both (eqb n 3) _ _ Q (λ e. rw (eqb-true n 3 e) event)
      (λ no-event. cond_both (eqb n 4) _ _ Q (λ e. rw (eqb-true n 4 e) finish)
      (λ _. cond_both (eqb n 0) _ _ Q (λ e. rw (eqb-true n 0 e) start)
      (λ no_start.
      either Q (is_judged n) _ _ (plain _ _ _ no_start no-event judge)
      (either Q (is_asked n) _ _ (plain _ _ _ no_start no-event ask)
      (either Q (leb 40 n) _ _ (plain _ _ _ no_start no-event enter) (plain _ _ _ no_start no-event change)))))))

pub refused : (w : List ℕ) (s : State) → ((outcome_in w s).reply ≡ 0 → ⊥) → Refused w s
refused w s h = let t = outcome w s h in record { state = t.0; value = t.1; event = t.2 }
