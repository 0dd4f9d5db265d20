-- A call's outcome is its step (`every_outcome`): the tests of both are the same, so the two go side by side. Assumes nothing.
use Prim.Native.Nat.{ℕ}
use mathlib.Core.Bool.{Bool, true, false, cond}
use mathlib.Core.List.{List}
use mathlib.Core.Path.{◌≡◌, refl}
use lib.Dec.{leb, eqb}
use Rattle.state.specs.declared.network_model.NetworkModel.{NetworkModel}
use Rattle.state.specs.Answers.{settled}
use Rattle.state.specs.declared.cycle.Cycle.{Cycle}
use Rattle.words.specs.Word.{word, flag_word}
use Rattle.dispatch.specs.Outcome.{Outcome}
use Rattle.dispatch.specs.Outcome.{no_event, is_judged, is_asked, start_outcome, send_outcome, event_outcome, finish_outcome, judge_outcome, ask_outcome, enter_outcome, change_outcome, outcome_of}
use Rattle.calls.specs.Change.{Change, change_of, change_more}
use Rattle.calls.specs.Question.{Judged, judge_of}
use Rattle.calls.specs.Enter.{Entry, enter_of}
use Rattle.drift.specs.Calls.{State, other_number, number_of, other_next, next_of, after}
use Rattle.theorems.specs.Steps.{Step, Replies, after_step, after_start, Makes, judge_step, enter_step, change_step, step_of}
use Rattle.theorems.proofs.Choice.{both, settled_same}

abbrev pub state : NetworkModel → Cycle → State
state m y = record { model = m; cycle = y }

-- ---- a state, settled part by part
settled_state : (n : ℕ) (m m' : NetworkModel) (y y' : Cycle) → state (settled n m' m) (settled n y' y) ≡ settled n (state m' y') (state m y)
unfolding settled
settled_state n m m' y y' = go (eqb n 0)
  where
    go : (t : Bool) → state (cond t m' m) (cond t y' y) ≡ cond t (state m' y') (state m y)
    go true = refl
    go false = refl

pub settled_model : (n : ℕ) (m m' : NetworkModel) (y : Cycle) → state (settled n m' m) y ≡ settled n (state m' y) (state m y)
unfolding settled
settled_model n m m' y = go (eqb n 0)
  where
    go : (t : Bool) → state (cond t m' m) y ≡ cond t (state m' y) (state m y)
    go true = refl
    go false = refl

settled_none : (n : ℕ) (m : NetworkModel) (y : Cycle) → state (settled n m m) y ≡ state m y
settled_none n m y = λ i. state (settled_same n m i) y

settled_both : (n : ℕ) (m : NetworkModel) (y : Cycle) → state (settled n m m) (settled n y y) ≡ state m y
settled_both n m y = λ i. state (settled_same n m i) (settled_same n y i)

module _ (w : List ℕ) (m : NetworkModel) (y : Cycle) where
  abbrev R : Outcome → Step → Type 0
  R t c = (state t.model t.cycle ≡ after_step c (state m y)) × Replies c (state m y) t.reply

  -- ---- the calls that change the model alone
  abbrev Changes : Change → Step → Type 0
  Changes c d = R (record { model = settled c.number c.next m; cycle = y; reply = c.number; value = 0; event = no_event }) d

  change : R (change_outcome w m y) (change_step w)
  unfolding change_outcome change_step change_of change_more after_step after number_of other_number next_of other_next
  change =
      let n = word w 0 in
      both Changes (eqb n 8) _ _ _ _ (settled_model _ m _ y, refl)
      (both Changes (eqb n 14) _ _ _ _ (settled_model _ m _ y, refl)
      (both Changes (eqb n 15) _ _ _ _ (settled_model _ m _ y, refl)
      (both Changes (eqb n 16) _ _ _ _ (settled_model _ m _ y, refl)
      (both Changes (eqb n 17) _ _ _ _ (settled_model _ m _ y, refl)
      (both Changes (eqb n 18) _ _ _ _ (settled_model _ m _ y, refl)
      (both Changes (eqb n 19) _ _ _ _ (settled_model _ m _ y, refl)
      (both Changes (eqb n 20) _ _ _ _ (settled_model _ m _ y, refl)
      (both Changes (eqb n 21) _ _ _ _ (settled_model _ m _ y, refl)
      (both Changes (eqb n 22) _ _ _ _ (settled_model _ m _ y, refl) (settled_none _ m y, tt))))))))))

  -- ---- the questions about an event, and the queue's
  abbrev Judges : Judged → Step → Type 0
  Judges j d = R (record { model = settled j.number j.next m; cycle = y; reply = j.number; value = flag_word (settled j.number j.yes false); event = no_event }) d

  judge : R (judge_outcome w m y) (judge_step w)
  unfolding judge_outcome judge_step judge_of after_step after number_of other_number next_of other_next
  judge =
      let n = word w 0 in
      both Judges (eqb n 5) _ _ _ _ (settled_model _ m _ y, refl)
      (both Judges (eqb n 6) _ _ _ _ (settled_none _ m y, tt)
      (both Judges (eqb n 7) _ _ _ _ (settled_model _ m _ y, refl)
      (both Judges (eqb n 9) _ _ _ _ (settled_model _ m _ y, refl) (settled_none _ m y, tt))))

  -- ---- the calls on model and cycle
  abbrev Enters : Entry → Step → Type 0
  Enters e d = R (record { model = settled e.number e.model m; cycle = settled e.number e.cycle y; reply = e.number; value = 0; event = no_event }) d

  enter : R (enter_outcome w m y) (enter_step w)
  unfolding enter_outcome enter_step enter_of after_step after number_of other_number next_of other_next
  enter =
      let n = word w 0 in
      both Enters (eqb n 40) _ _ _ _ (settled_state _ m _ y _, refl)
      (both Enters (eqb n 41) _ _ _ _ (settled_state _ m _ y _, refl)
      (both Enters (eqb n 42) _ _ _ _ (settled_state _ m _ y _, refl)
      (both Enters (eqb n 43) _ _ _ _ (settled_state _ m _ y _, refl)
      (both Enters (eqb n 44) _ _ _ _ (settled_state _ m _ y _, refl)
      (both Enters (eqb n 45) _ _ _ _ (settled_state _ m _ y _, refl) (settled_both _ m y, tt))))))

  -- ---- all of them
  outcome : R (outcome_of w m y) (step_of w)
  unfolding outcome_of step_of start_outcome send_outcome event_outcome finish_outcome ask_outcome after_step after_start after number_of other_number next_of other_next
  outcome =
      let n = word w 0 in
      both R (eqb n 1) _ _ _ _ (settled_model _ m _ y, refl)
      (both R (eqb n 3) _ _ _ _ (settled_model _ m _ y, refl)
      (both R (eqb n 4) _ _ _ _ (settled_model _ m _ y, refl)
      (both R (eqb n 0) _ _ _ _ (refl, refl)
      (both R (is_judged n) _ _ _ _ judge
      (both R (is_asked n) _ _ _ _ (refl, tt)
      (both R (leb 40 n) _ _ _ _ enter change))))))

pub every_outcome : (w : List ℕ) (s : State) → Makes w s
every_outcome w s = let t = outcome w s.model s.cycle in record { leaves = t.0; replies = t.1 }
