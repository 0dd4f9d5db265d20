-- What a run leaves in the state's bytes: the words of the state that its steps lead to, which is read back from them. Assumes nothing.
use Prim.Native.Nat.{ℕ, zero, suc, ◌+◌, ◌*◌, ◌^◌, ◌<◌}
use mathlib.Core.Bool.{true, false}
use mathlib.Core.List.{List, [], ◌++◌, append-nil}
use mathlib.Core.Path.{◌≡◌, refl, sym, ap, subst, ◌∙◌}
use native.Mathlib.Nat.{pow-suc}
use native.Mathlib.Omega.{arith}
use lib.ListN.{length, get_or}
use borrow.Author.Tests.{eq-eqb}
use Rattle.state.specs.NetworkModel.{model_ok}
use Rattle.state.proofs.Rows.{and_left, and_right, and_both}
use Rattle.state.specs.Cycle.{cycle_ok}
use Rattle.words.specs.Words.{number_at, words_at, all_bytes}
use Rattle.words.proofs.Laws.{AllWords, length_all_bytes, length_words_at, words_of_lem}
use Rattle.words.proofs.Stores.{sets_whole}
use Rattle.layout.specs.NetworkModel.{model_from}
use Rattle.layout.specs.Cycle.{cycle_from}
use Rattle.arguments.specs.Params.{params_from}
use Rattle.arguments.proofs.Alike.{own}
use Rattle.dispatch.proofs.RoundTrip.{round_trip}
use Rattle.guovssalu.specs.Reply.{answered}
use Rattle.guovssalu.specs.ModelRun.{state_in, encodes_none, calls_in, outcome_at, left_by, words_left, model_row, state_out}
use Rattle.layout.specs.StateWords.{state_words, same_words, is_state}
use Rattle.dispatch.specs.OneCall.{own_at, call_at}
use Rattle.guovssalu.proofs.ModelRun.{length_words_left, run_whole}
use Rattle.drift.specs.Calls.{State}
use Rattle.theorems.specs.Steps.{moment, duration, state_left, outcome_in, step_of, after_step, steps_from, walk}
use Rattle.theorems.specs.Runs.{Run, Ran, AreBytes, state_from, is_within, count, call, before, Starts}
use Rattle.theorems.proofs.Decoded.{state, every_outcome}
use Rattle.theorems.proofs.Exported.{run_is, run_done}
use Rattle.theorems.proofs.Form.{InForm, read_form, form_words}
use Rattle.theorems.proofs.Kept.{OwnWords, Within, step_form, step_kept, step_within, start_within}

-- ---- words of bytes are numbers of 64 bits
pub number_small : (n : ℕ) (l : List ℕ) (at : ℕ) → AreBytes l → number_at n l at < 256 ^ n
unfolding number_at
number_small zero l at h = omega arith
number_small (suc n) l at h = rw pow-suc (omega (arith, h at, number_small n l (suc at) h))

words_small : (l : List ℕ) (at n : ℕ) → AreBytes l → AllWords (words_at l at n)
unfolding words_at
words_small l at zero h i = omega arith
words_small l at (suc n) h zero = number_small 8 l at h
words_small l at (suc n) h (suc i) = words_small l (at + 8) n h i

pub from_form : (bytes : List ℕ) → AreBytes bytes → InForm (state_from bytes)
unfolding state_from
from_form bytes h = read_form (state_in bytes) (words_small bytes 0 51 h)

-- ---- the calls, one after the other
abbrev words_of : State → List ℕ
words_of s = state_words s.model s.cycle

-- and so are a call's own, whatever the lists are
call_small : (calls lists : List ℕ) (at : ℕ) → AreBytes calls → OwnWords (call_at calls lists at)
call_small calls lists at h i e = rw (own (own_at calls at) lists (length_words_at calls at 49) i e) (words_small calls at 49 h i)

left_walk : (calls lists : List ℕ) (at n : ℕ) (s : State) → left_by s.model s.cycle calls lists at n ≡ words_of (walk (steps_from calls lists at n) s)
unfolding left_by steps_from walk outcome_at
left_walk calls lists at zero s = refl
left_walk calls lists at (suc n) s =
    left_walk calls lists (at + 392) n (state_left (outcome_in (call_at calls lists at) s))
    ∙ ap (λ (z : State). words_of (walk (steps_from calls lists (at + 392) n) z)) (every_outcome (call_at calls lists at) s).leaves

-- what every step keeps the calls keep
walk_kept : (Q : State → Type 0) (calls lists : List ℕ) → ((at : ℕ) (s : State) → Q s → Q (after_step (step_of (call_at calls lists at)) s)) → (at n : ℕ) (s : State) → Q s → Q (walk (steps_from calls lists at n) s)
unfolding steps_from walk
walk_kept Q calls lists k at zero s q = q
walk_kept Q calls lists k at (suc n) s q = walk_kept Q calls lists k (at + 392) n _ (k at s q)

module _ (calls lists : List ℕ) (h : AreBytes calls) where
  pub walk_form : (n : ℕ) (s : State) → InForm s → InForm (walk (steps_from calls lists 0 n) s)
  walk_form = walk_kept InForm calls lists (λ at s f. step_kept (step_of (call_at calls lists at)) s (step_form (call_at calls lists at) (call_small calls lists at h)) f) 0

  walk_within : (at n : ℕ) (s : State) → Within s → Within (walk (steps_from calls lists at n) s)
  walk_within = walk_kept Within calls lists (λ at s f. step_within (step_of (call_at calls lists at)) s (step_form (call_at calls lists at) (call_small calls lists at h)) f)

-- ---- what is written is read back
written : (s : State) → InForm s → state_in (all_bytes (words_of s)) ≡ words_of s
written s f =
    let w = words_of s in
    let n : length w ≡ 51 = round_trip.state_length s.model s.cycle in
    subst (λ (l : List ℕ). words_at l 0 51 ≡ w) (append-nil (all_bytes w)) (subst (λ (k : ℕ). words_at (all_bytes w ++ []) 0 k ≡ w) n (words_of_lem w [] (form_words s f)))

read_back : (s : State) → InForm s → state_from (all_bytes (words_of s)) ≡ s
unfolding state_from
read_back s f =
    let e = written s f in
    let m = ap model_from e ∙ round_trip.model s.model s.cycle f.free.cwnd f.free.pacing in
    let y = ap cycle_from e ∙ round_trip.cycle s.model s.cycle in
    λ i. state (m i) (y i)

-- and once more
same_words_lem : (l : List ℕ) (at n : ℕ) → same_words l l at n ≡ true
unfolding same_words
same_words_lem l at zero = refl
same_words_lem l at (suc n) = rw (eq-eqb (get_or l at 0) (get_or l at 0) refl) (same_words_lem l (at + 1) n)

taken_back : (s : State) → InForm s → (length (all_bytes (words_of s)) ≡ 408) × (encodes_none (all_bytes (words_of s)) ≡ false)
unfolding encodes_none is_state
taken_back s f =
    let w = words_of s in
    let l : length (all_bytes w) ≡ 408 = length_all_bytes w ∙ ap (λ (n : ℕ). 8 * n) (round_trip.state_length s.model s.cycle) in
    let e : is_state (state_in (all_bytes w)) ≡ true = rw (written s f, round_trip.model s.model s.cycle f.free.cwnd f.free.pacing, round_trip.cycle s.model s.cycle) (same_words_lem w 0 51) in
    (l, rw (l, e))

-- ---- a run that is done
module _ (r : Run) (ran : Ran r) (done : r.reply ≡ 0) where
  row_done : model_row r.state r.calls (length r.answers) ≡ 0
  row_done = run_done r ran done

  pub left_whole : r.left ≡ all_bytes (words_of (before r (count r)))
  unfolding state_out answered words_left state_from
  left_whole =
      let row = model_row r.state r.calls (length r.answers) in
      let words = all_bytes (words_left r.state r.calls r.lists) in
      let long : length words ≡ length r.state = length_all_bytes (words_left r.state r.calls r.lists) ∙ ap (λ (n : ℕ). 8 * n) (length_words_left r.state r.calls r.lists) ∙ sym (run_whole r.state r.calls (length r.answers) (eq-eqb row 0 row_done)) in
      (run_is r ran).1 ∙ rw (eq-eqb row 0 row_done) (sets_whole r.state words long ∙ ap all_bytes (left_walk r.calls r.lists 0 (calls_in r.calls) (state_from r.state)))

  module _ (form : InForm (state_from r.state)) (bytes : AreBytes r.calls) where
    pub left_back : state_from r.left ≡ before r (count r)
    left_back = ap state_from left_whole ∙ read_back _ (walk_form r.calls r.lists bytes (count r) _ form)

    pub left_taken : (length r.left ≡ 408) × (encodes_none r.left ≡ false)
    left_taken = subst (λ (l : List ℕ). (length l ≡ 408) × (encodes_none l ≡ false)) (sym left_whole) (taken_back _ (walk_form r.calls r.lists bytes (count r) _ form))

    within_back : Within (before r (count r)) → is_within r.left ≡ true
    within_back h =
        let e = subst Within (sym left_back) h in
        and_both (model_ok (state_from r.left).model) (cycle_ok (state_from r.left).cycle) e.0 e.1

    pub left_within : is_within r.state ≡ true → is_within r.left ≡ true
    left_within h =
        let m = model_ok (state_from r.state).model in
        let y = cycle_ok (state_from r.state).cycle in
        within_back (walk_within r.calls r.lists bytes 0 (count r) (state_from r.state) (and_left m y h, and_right m y h))

    -- whose first call is a start
    pub started_within : Starts r → is_within r.left ≡ true
    unfolding steps_from walk after_step step_of
    started_within h = within_back (go (count r) h.some)
      where
        go : (n : ℕ) → 0 < n → Within (walk (steps_from r.calls r.lists 0 n) (state_from r.state))
        go zero l = absurd (omega (arith, l))
        go (suc n) l =
            walk_within r.calls r.lists bytes 392 n _
            (rw h.first (start_within (params_from (call r 0)) (duration (get_or (call r 0) 2 0)) (moment (get_or (call r 0) 1 0))))
