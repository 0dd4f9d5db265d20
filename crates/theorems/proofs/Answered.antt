-- What a run writes into the answers' bytes: for each call the 18 words of its outcome, in the state that the calls before it left. Assumes nothing.
use Prim.Native.Nat.{ℕ, zero, suc, ◌+◌, ◌*◌, ◌^◌, ◌≤◌, ◌<◌}
use mathlib.Core.Bool.{false}
use mathlib.Core.List.{List, ◌∷◌, ◌++◌, append_assoc}
use mathlib.Core.Path.{◌≡◌, refl, sym, ap, subst, ◌∙◌}
use native.Mathlib.Nat.{add-zero, zero-add}
use native.Mathlib.Omega.{arith}
use lib.Dec.{eqb}
use lib.ListN.{length, take, drop, length-append}
use lib.Seq.{sets-eq, drop-drop, take_at, drop_at}
use borrow.Author.Tests.{eq-eqb}
use Rattle.words.specs.Words.{word_at, bytes, all_bytes}
use Rattle.words.proofs.Laws.{length_bytes, all_bytes_append, word_drop, word_of}
use Rattle.dispatch.specs.Outcome.{Outcome}
use Rattle.state.specs.Faults.{first}
use Rattle.places.specs.Places.{faults_of}
use Rattle.guovssalu.specs.Reply.{answered}
use Rattle.dispatch.specs.OneCall.{call_at, call_word, answer_words}
use Rattle.guovssalu.specs.ModelRun.{outcome_at, answers_to, answers_from, model_row, answers_out}
use Rattle.guovssalu.proofs.ModelRun.{length_answer, run_room}
use Rattle.drift.specs.Calls.{State}
use Rattle.theorems.specs.Steps.{step_of, after_step, steps_from, walk, state_left, outcome_in}
use Rattle.theorems.specs.Runs.{Run, Ran, state_from, count, call, before, answer, answer_word}
use Rattle.theorems.proofs.Decoded.{every_outcome}
use Rattle.theorems.proofs.Exported.{plain_word, run_is, run_done}

-- what a call with these words is answered in a state
abbrev words_of : (w : List ℕ) → State → List ℕ
words_of w s = answer_words w s.model (outcome_in w s)

-- its bytes, and what follows them
record From (l : List ℕ) (w : List ℕ) (s : State) : Type 0 where
  pub rest : List ℕ
  pub split : l ≡ all_bytes (words_of w s) ++ rest

length_outcome : (calls lists : List ℕ) (at : ℕ) (s : State) → length (all_bytes (words_of (call_at calls lists at) s)) ≡ 144
unfolding outcome_at
length_outcome calls lists at s = length_answer s.model s.cycle calls lists at

abbrev answers : (calls lists : List ℕ) → ℕ → ℕ → State → List ℕ
answers calls lists at n s = all_bytes (answers_to s.model s.cycle calls lists at n)

-- the first answer, and the others
answers_more : (calls lists : List ℕ) (at n : ℕ) (s : State) (rest : List ℕ) →
    answers calls lists at (suc n) s ++ rest ≡ all_bytes (words_of (call_at calls lists at) s) ++ (answers calls lists (at + 392) n (after_step (step_of (call_at calls lists at)) s) ++ rest)
unfolding answers_to outcome_at
answers_more calls lists at n s rest =
    let t = outcome_in (call_at calls lists at) s in
    let more = answers calls lists (at + 392) n (state_left t) in
    ap (λ (l : List ℕ). l ++ rest) (all_bytes_append (words_of (call_at calls lists at) s) (answers_to t.model t.cycle calls lists (at + 392) n))
    ∙ append_assoc (all_bytes (words_of (call_at calls lists at) s)) more rest
    ∙ ap (λ (z : State). all_bytes (words_of (call_at calls lists at) s) ++ (answers calls lists (at + 392) n z ++ rest)) (every_outcome (call_at calls lists at) s).leaves

length_answers : (calls lists : List ℕ) (at n : ℕ) (s : State) → length (answers calls lists at n s) ≡ 144 * n
unfolding answers_to all_bytes outcome_at
length_answers calls lists at zero s = refl
length_answers calls lists at (suc n) s =
    let t = outcome_in (call_at calls lists at) s in
    rw (all_bytes_append, length-append, length_outcome calls lists at s) (omega (arith, length_answers calls lists (at + 392) n (state_left t)))

next_answer : (i : ℕ) → 144 + 144 * i ≡ 144 * suc i
next_answer i = omega arith

pub next_call : (at i : ℕ) → at + 392 * suc i ≡ at + 392 + 392 * i
next_call at i = omega arith

answer_at_lem : (calls lists : List ℕ) (i at n : ℕ) (s : State) (rest : List ℕ) → i < n →
    From (drop (144 * i) (answers calls lists at n s ++ rest)) (call_at calls lists (at + 392 * i)) (walk (steps_from calls lists at i) s)
unfolding steps_from walk
answer_at_lem calls lists i at zero s rest l = absurd (omega (arith, l))
answer_at_lem calls lists zero at (suc n) s rest l = rw add-zero (record { rest = _; split = answers_more calls lists at n s rest })
answer_at_lem calls lists (suc i) at (suc n) s rest l =
    let first = all_bytes (words_of (call_at calls lists at) s) in
    let z = after_step (step_of (call_at calls lists at)) s in
    let more = answers calls lists (at + 392) n z ++ rest in
    let e : drop (144 * suc i) (answers calls lists at (suc n) s ++ rest) ≡ drop (144 * i) more =
    ap (λ (k : ℕ). drop k (answers calls lists at (suc n) s ++ rest)) (sym (next_answer i))
    ∙ sym (drop-drop (144 * i) 144 (answers calls lists at (suc n) s ++ rest))
    ∙ ap (λ (l : List ℕ). drop (144 * i) (drop 144 l)) (answers_more calls lists at n s rest)
    ∙ ap (drop (144 * i)) (drop_at first more 144 (length_outcome calls lists at s)) in
    rw (e, next_call at i) (answer_at_lem calls lists i (at + 392) n z rest (omega arith))

-- ---- a run that is done
abbrev pub outcome_of_call : Run → ℕ → Outcome
outcome_of_call r i = outcome_in (call r i) (before r i)

module _ (r : Run) (ran : Ran r) (done : r.reply ≡ 0) (i : ℕ) (l : i < count r) where
  answer_from : From (drop (144 * i) r.written) (call r i) (before r i)
  unfolding answers_out answered answers_from state_from
  answer_from =
      let row = model_row r.state r.calls (length r.answers) in
      let row_done = eq-eqb row 0 (run_done r ran done) in
      let all = answers r.calls r.lists 0 (count r) (state_from r.state) in
      let room : 0 + length all ≤ length r.answers = omega (arith, length_answers r.calls r.lists 0 (count r) (state_from r.state), run_room r.state r.calls (length r.answers) row_done) in
      let whole : r.written ≡ all ++ drop (length all) r.answers =
      (run_is r ran).2 ∙ rw row_done (sets-eq all r.answers 0 room ∙ ap (λ (k : ℕ). all ++ drop k r.answers) (zero-add (length all))) in
      rw (whole, ← zero-add (392 * i)) (answer_at_lem r.calls r.lists i 0 (count r) (state_from r.state) (drop (length all) r.answers) l)

  pub answer_bytes : answer r i ≡ all_bytes (words_of (call r i) (before r i))
  unfolding outcome_at
  answer_bytes =
      let f = answer_from in
      ap (take 144) f.split ∙ take_at (all_bytes (words_of (call r i) (before r i))) f.rest 144 (length_outcome r.calls r.lists (392 * i) (before r i))

  -- its first two words, numbers of 64 bits
  pub word_is : call_word (call r i) (before r i).model (outcome_of_call r i).reply < 2 ^ 64 → answer_word r i 0 ≡ call_word (call r i) (before r i).model (outcome_of_call r i).reply
  unfolding answer_words all_bytes
  word_is h =
      let f = answer_from in
      let t = outcome_of_call r i in
      let word = call_word (call r i) (before r i).model t.reply in
      sym (word_drop (144 * i) r.written 0)
      ∙ ap (λ (l : List ℕ). word_at l 0) (f.split ∙ append_assoc (bytes word) (all_bytes (t.value ∷ t.event)) f.rest)
      ∙ word_of word (all_bytes (t.value ∷ t.event) ++ f.rest) h

  -- a reply that names no argument is its row
  pub reply_word_lem : eqb (outcome_of_call r i).reply 2 ≡ false → (outcome_of_call r i).reply < 2 ^ 64 → answer_word r i 0 ≡ (outcome_of_call r i).reply
  unfolding call_word
  reply_word_lem plain h =
      let same = plain_word (outcome_of_call r i).reply (first (faults_of (call r i) (before r i).model.minrtt.timestamp)) plain in
      word_is (subst (λ (n : ℕ). n < 2 ^ 64) (sym same) h) ∙ same

  pub value_word : (outcome_of_call r i).value < 2 ^ 64 → answer_word r i 1 ≡ (outcome_of_call r i).value
  unfolding answer_words all_bytes
  value_word h =
      let f = answer_from in
      let t = outcome_of_call r i in
      let word = call_word (call r i) (before r i).model t.reply in
      let more = bytes t.value ++ (all_bytes t.event ++ f.rest) in
      let split : drop (144 * i) r.written ≡ bytes word ++ more =
      f.split
      ∙ append_assoc (bytes word) (all_bytes (t.value ∷ t.event)) f.rest
      ∙ ap (λ (l : List ℕ). bytes word ++ l) (append_assoc (bytes t.value) (all_bytes t.event) f.rest) in
      sym (word_drop (144 * i) r.written 8)
      ∙ ap (λ (l : List ℕ). word_at l 8) split
      ∙ sym (word_drop 8 (bytes word ++ more) 0)
      ∙ ap (λ (l : List ℕ). word_at l 0) (drop_at (bytes word) more 8 (length_bytes word))
      ∙ word_of t.value (all_bytes t.event ++ f.rest) h
