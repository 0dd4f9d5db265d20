-- One turn of each pass of the model's run, over plain variables: what is still to be done leads to the same end. Assumes nothing.
use Prim.Native.Nat.{ℕ, zero, suc, ◌+◌, ◌-◌, ◌*◌, ◌≤◌, ◌<◌}
use mathlib.Core.Bool.{Bool, true, false, not, cond}
use mathlib.Core.List.{List, ◌∷◌}
use mathlib.Core.Path.{◌≡◌, refl, sym, ap, ◌∙◌}
use native.Mathlib.Nat.{add-zero}
use native.Mathlib.Omega.{arith}
use lib.Dec.{T, eqb, ltb}
use lib.Ieee.{binary32, fits}
use lib.ListN.{length, get_or, drop, length-drop}
use lib.Seq.{sets, length-take-le}
use borrow.Rule.Slice.PartMut.{mid_of, put_mid}
use borrow.Author.Tests.{ltb-false, eqb-true, not-false, ne_eqb}
use Rattle.state.specs.declared.network_model.NetworkModel.{NetworkModel}
use Rattle.state.specs.NetworkModel.{model_ok}
use Rattle.state.proofs.Rows.{none, or_left}
use Rattle.laws.proofs.Tested.{sent_same, start_same, finish_same}
use Rattle.state.specs.declared.cycle.Cycle.{Cycle}
use Rattle.words.specs.Words.{word_at, all_bytes}
use Rattle.words.proofs.Stores.{sets-append, sets_whole}
use Rattle.words.proofs.Parts.{words_of_part}
use Rattle.words.proofs.Turns.{put_part}
use Rattle.words.proofs.Laws.{all_bytes_append, length_all_bytes, length_words_at, get_or_words_at}
use Rattle.layout.specs.NetworkModel.{model_from}
use Rattle.layout.specs.Cycle.{cycle_from}
use Rattle.arguments.specs.Alike.{AreAlike}
use Rattle.arguments.proofs.Alike.{own_alike}
use Rattle.arguments.specs.Params.{params_from}
use Rattle.dispatch.proofs.RoundTrip.{round_trip}
use Rattle.words.proofs.Back.{float_fits_lem}
use Rattle.dispatch.specs.Outcome.{Outcome}
use Rattle.dispatch.specs.Outcome.{no_event, send_number, send_leaves, event_start_number, event_start_leaves, event_start_words, event_finish_number, event_finish_leaves, send_outcome, event_outcome, finish_outcome, outcome_of}
use Rattle.dispatch.specs.Inner.{send_word, other_outcome}
use Rattle.guovssalu.specs.ModelRun.{state_in, calls_in, outcome_at, answers_to, left_by, words_left, model_row}
use Rattle.places.specs.Places.{number_faults, other_faults, faults_of}
use Rattle.dispatch.specs.OneCall.{own_at, call_at, call_word, answer_words}
use Rattle.guovssalu.proofs.Rows.{done_room, done_first}
use Rattle.dispatch.proofs.Alike.{send_alike, finish_alike, other_alike}
use Rattle.dispatch.proofs.OneCall.{event_other, length_started}

either : (b : Bool) (s t : Outcome) → length s.event ≡ 16 → length t.event ≡ 16 → length (cond b s t).event ≡ 16
either true s t p q = p
either false s t p q = q

length_event : (m : NetworkModel) (y : Cycle) (src lists : List ℕ) (at : ℕ) → length (outcome_at m y src lists at).event ≡ 16
unfolding outcome_at outcome_of other_outcome send_outcome event_outcome finish_outcome
length_event m y src lists at =
    let w = call_at src lists at in
    let call = get_or w 0 0 in
    let ends = cond (eqb call 4) (finish_outcome w m y) (other_outcome w m y) in
    let starts = cond (eqb call 3) (event_outcome w m y) ends in
    either (eqb call 1) (send_outcome w m y) starts refl
    (either (eqb call 3) (event_outcome w m y) ends (length_started w m)
    (either (eqb call 4) (finish_outcome w m y) (other_outcome w m y) refl (ap length (event_other w m y))))

pub length_left : (m : NetworkModel) (y : Cycle) (src lists : List ℕ) (at n : ℕ) → length (left_by m y src lists at n) ≡ 51
unfolding left_by
length_left m y src lists at zero = round_trip.state_length m y
length_left m y src lists at (suc n) = length_left (outcome_at m y src lists at).model (outcome_at m y src lists at).cycle src lists (at + 392) n

pub length_words_left : (state src lists : List ℕ) → length (words_left state src lists) ≡ 51
unfolding words_left
length_words_left state src lists = length_left (model_from (state_in state)) (cycle_from (state_in state)) src lists 0 (calls_in src)

pub length_answer : (m : NetworkModel) (y : Cycle) (src lists : List ℕ) (at : ℕ) → length (all_bytes (answer_words (call_at src lists at) m (outcome_at m y src lists at))) ≡ 144
unfolding answer_words
length_answer m y src lists at = length_all_bytes (answer_words (call_at src lists at) m (outcome_at m y src lists at)) ∙ rw (length_event m y src lists at)

-- ---- calls
module _ (src lists : List ℕ) (i count : ℕ) (h : i < count) where
  left : count - i ≡ suc (count - (i + 1))
  left = omega arith

  next : 392 * (i + 1) ≡ 392 * i + 392
  next = omega arith

  -- a call, carried out
  pub left_later :
      (m : NetworkModel) (y : Cycle) {end : List ℕ} → left_by m y src lists (392 * i) (count - i) ≡ end →
      left_by (outcome_at m y src lists (392 * i)).model (outcome_at m y src lists (392 * i)).cycle src lists (392 * (i + 1)) (count - (i + 1)) ≡ end
  unfolding left_by
  left_later m y e = rw next (rw left at e)

  -- its answer, written
  pub write_answer :
      (m : NetworkModel) (y : Cycle) (l : List ℕ) {end : List ℕ} → sets l (144 * i) (all_bytes (answers_to m y src lists (392 * i) (count - i))) ≡ end →
      sets (sets l (144 * i) (all_bytes (answer_words (call_at src lists (392 * i)) m (outcome_at m y src lists (392 * i))))) (144 * (i + 1)) (all_bytes (answers_to (outcome_at m y src lists (392 * i)).model (outcome_at m y src lists (392 * i)).cycle src lists (392 * (i + 1)) (count - (i + 1)))) ≡ end
  unfolding answers_to
  write_answer m y l e =
      let t = outcome_at m y src lists (392 * i) in
      let answer = all_bytes (answer_words (call_at src lists (392 * i)) m t) in
      let more = answers_to t.model t.cycle src lists (392 * i + 392) (count - (i + 1)) in
      let step : 144 * (i + 1) ≡ 144 * i + length answer = rw (length_answer m y src lists (392 * i)) (omega arith) in
      rw (next, step) (sets-append l (144 * i) answer (all_bytes more) ∙ ap (sets l (144 * i)) (sym (all_bytes_append (answer_words (call_at src lists (392 * i)) m t) more)) ∙ rw left at e)

-- beta is read as an f32
beta_fits : (w : List ℕ) → T (fits binary32 (params_from w).beta)
unfolding params_from
beta_fits w = float_fits_lem (get_or w 38 0)

-- a call that is none of 1, 3 and 4
other_at : (w : List ℕ) (m : NetworkModel) (y : Cycle) → (get_or w 0 0 ≡ 1 → ⊥) → (get_or w 0 0 ≡ 3 → ⊥) → (get_or w 0 0 ≡ 4 → ⊥) → outcome_of w m y ≡ other_outcome w m y
unfolding outcome_of other_outcome
other_at w m y f g h = rw (ne_eqb _ 1 f, ne_eqb _ 3 g, ne_eqb _ 4 h)

-- ---- one call, by its number: the bytes with its answer, however it is put there, the state that it leaves, and whether the model is within its bounds
module _ (m : NetworkModel) (y : Cycle) (src lists : List ℕ) (at : ℕ) (put : List ℕ → List ℕ) (out' : List ℕ) (m' : NetworkModel) (y' : Cycle) (fine' : Bool) where
  abbrev pub Carried : Type 0
  Carried =
      (out' ≡ put (all_bytes (answer_words (call_at src lists at) m (outcome_at m y src lists at))))
      × (m' ≡ (outcome_at m y src lists at).model)
      × (y' ≡ (outcome_at m y src lists at).cycle)
      × (fine' ≡ model_ok m')

  own_number : {n : ℕ} → word_at src at ≡ n → get_or (own_at src at) 0 0 ≡ n
  own_number e = get_or_words_at src at 49 0 (omega arith) ∙ ap (word_at src) (add-zero at) ∙ e

  -- the lists change nothing of the call's own words
  alike : AreAlike (call_at src lists at) (own_at src at)
  alike = own_alike (own_at src at) lists (length_words_at src at 49)

  number_at : {n : ℕ} → word_at src at ≡ n → get_or (call_at src lists at) 0 0 ≡ n
  number_at e = alike 0 refl ∙ own_number e

  -- the test of the model before is one of the model after
  still : {left : NetworkModel} → m' ≡ left → model_ok left ≡ model_ok m → fine' ≡ model_ok m → fine' ≡ model_ok m'
  still p same f = f ∙ sym (ap model_ok p ∙ same)

  -- an outcome that is the call's
  carried : {t : Outcome} → t ≡ outcome_at m y src lists at → out' ≡ put (all_bytes (answer_words (call_at src lists at) m t)) → m' ≡ t.model → y' ≡ t.cycle → fine' ≡ model_ok m' → Carried
  carried e r p q f = (r ∙ ap (λ (t : Outcome). put (all_bytes (answer_words (call_at src lists at) m t))) e, p ∙ ap (λ (t : Outcome). t.model) e, q ∙ ap (λ (t : Outcome). t.cycle) e, f)

  -- what a send's four words are at fault for
  send_word_lem : word_at src at ≡ 1 → send_word (own_at src at) m ≡ call_word (call_at src lists at) m (send_number (own_at src at) m)
  unfolding send_word call_word faults_of other_faults number_faults
  send_word_lem e = rw (number_at e, alike 1 refl, alike 2 refl, alike 4 refl)

  pub by_send : word_at src at ≡ 1 → m' ≡ send_leaves (own_at src at) m → y' ≡ y → fine' ≡ model_ok m → out' ≡ put (all_bytes (send_word (own_at src at) m ∷ 0 ∷ no_event)) → Carried
  unfolding outcome_at outcome_of send_outcome answer_words
  by_send e p q f r =
      let is : send_outcome (own_at src at) m y ≡ outcome_at m y src lists at = rw (number_at e) (sym (send_alike (call_at src lists at) (own_at src at) alike m y)) in
      carried is (r ∙ ap (λ (n : ℕ). put (all_bytes (n ∷ 0 ∷ no_event))) (send_word_lem e)) p q (still p (sent_same m _ _ _ _) f)

  pub by_start : word_at src at ≡ 3 → m' ≡ event_start_leaves (call_at src lists at) m → y' ≡ y → fine' ≡ model_ok m → out' ≡ put (all_bytes (call_word (call_at src lists at) m (event_start_number (call_at src lists at) m) ∷ 0 ∷ event_start_words (call_at src lists at) m)) → Carried
  unfolding outcome_at outcome_of event_outcome answer_words
  by_start e p q f r = rw (number_at e) (r, p, q, still p (start_same m _ _ _ _ (beta_fits (call_at src lists at))) f)

  pub by_end : word_at src at ≡ 4 → m' ≡ event_finish_leaves (own_at src at) m → y' ≡ y → fine' ≡ model_ok m → out' ≡ put (all_bytes (call_word (call_at src lists at) m (event_finish_number (own_at src at) m) ∷ 0 ∷ no_event)) → Carried
  unfolding outcome_at outcome_of finish_outcome answer_words
  by_end e p q f r =
      let is : finish_outcome (own_at src at) m y ≡ outcome_at m y src lists at = rw (number_at e) (sym (finish_alike (call_at src lists at) (own_at src at) alike m y)) in
      carried is r p q (still p (finish_same m _) f)

  pub by_other :
      {n : ℕ} → n ≡ word_at src at → (n ≡ 1 → ⊥) → (n ≡ 3 → ⊥) → (n ≡ 4 → ⊥) →
      m' ≡ (other_outcome (own_at src at) m y).model → y' ≡ (other_outcome (own_at src at) m y).cycle → fine' ≡ model_ok m' → out' ≡ put (all_bytes (answer_words (call_at src lists at) m (other_outcome (own_at src at) m y))) → Carried
  unfolding outcome_at
  by_other e f g h p q b r =
      let w = call_at src lists at in
      let number = sym (number_at (sym e)) in
      let is : other_outcome (own_at src at) m y ≡ outcome_at m y src lists at = sym (other_at w m y (λ x. f (number ∙ x)) (λ x. g (number ∙ x)) (λ x. h (number ∙ x)) ∙ other_alike w (own_at src at) alike m y) in
      carried is r p q b

-- an answer as long as a part fills it
fills : (out : List ℕ) (to j : ℕ) (answer : List ℕ) → length answer ≡ j → to + j ≤ length out → sets (mid_of to j out) 0 answer ≡ answer
fills out to j answer long room =
    let part : length (mid_of to j out) ≡ j = length-take-le j (drop to out) (omega (arith, length-drop to out)) in
    sets_whole (mid_of to j out) answer (long ∙ sym part)

-- a call in a part of the calls, whose answer fills a part of the answers
pub in_room :
    (m : NetworkModel) (y : Cycle) (src lists : List ℕ) (at k : ℕ) (out : List ℕ) (to j : ℕ) (out' : List ℕ) (m' : NetworkModel) (y' : Cycle) (fine' : Bool) →
    k ≡ 392 → at + 392 ≤ length src → j ≡ 144 → to + 144 ≤ length out →
    Carried m y (mid_of at k src) lists 0 (λ (l : List ℕ). put_mid to j out (sets (mid_of to j out) 0 l)) out' m' y' fine' → Carried m y src lists at (sets out to) out' m' y' fine'
unfolding outcome_at
in_room m y src lists at k out to j out' m' y' fine' e h f g did =
    let answer = all_bytes (answer_words (call_at src lists at) m (outcome_at m y src lists at)) in
    let long : length answer ≡ j = length_answer m y src lists at ∙ sym f in
    let room : to + j ≤ length out = omega arith in
    let filled = ap (put_mid to j out) (fills out to j answer long room) ∙ put_part to j out answer long room in
    let own = words_of_part src at k 0 49 (omega arith) (omega arith) ∙ rw add-zero in
    let there = rw own at did in
    (there.0 ∙ filled, there.1, there.2, there.3)

-- the same where the answer is put there in place of that part
pub in_place :
    (m : NetworkModel) (y : Cycle) (src lists : List ℕ) (at k : ℕ) (out : List ℕ) (to j : ℕ) (out' : List ℕ) (m' : NetworkModel) (y' : Cycle) (fine' : Bool) →
    k ≡ 392 → at + 392 ≤ length src → j ≡ 144 → to + 144 ≤ length out →
    Carried m y (mid_of at k src) lists 0 (put_mid to j out) out' m' y' fine' → Carried m y src lists at (sets out to) out' m' y' fine'
in_place m y src lists at k out to j out' m' y' fine' e h f g did =
    let own = mid_of at k src in
    let answer = all_bytes (answer_words (call_at own lists 0) m (outcome_at m y own lists 0)) in
    let filled = fills out to j answer (length_answer m y own lists 0 ∙ sym f) (omega arith) in
    in_room m y src lists at k out to j out' m' y' fine' e h f g (did.0 ∙ ap (put_mid to j out) (sym filled), did.1, did.2, did.3)

-- ---- what a run that is done has been lent
pub run_room : (state src : List ℕ) (room : ℕ) → eqb (model_row state src room) 0 ≡ true → 144 * calls_in src ≤ room
unfolding model_row
run_room state src room h = ltb-false room (144 * calls_in src) (done_room _ (ltb room (144 * calls_in src)) h)

pub run_whole : (state src : List ℕ) (room : ℕ) → eqb (model_row state src room) 0 ≡ true → length state ≡ 408
unfolding model_row
run_whole state src room h =
    let fine = (none _ _ _ _ _ (done_first _ (ltb room (144 * calls_in src)) h)).argument_fine in
    eqb-true (length state) 408 (not-false (eqb (length state) 408) (or_left (not (eqb (length state) 408)) _ fine))
