-- One turn of the run, over plain variables: what is still to be done leads to the same end. Assumes nothing.
use Prim.Native.Nat.{ℕ, suc, ◌+◌, ◌-◌, ◌*◌, ◌/◌, ◌≤◌, ◌<◌}
use mathlib.Core.Bool.{Bool, true, false, cond}
use mathlib.Core.List.{List, [], ◌∷◌}
use mathlib.Core.Path.{◌≡◌, refl, sym, ap, ◌∙◌}
use native.Mathlib.Nat.{add-zero}
use native.Mathlib.Omega.{arith}
use borrow.Rule.Slice.PartMut.{mid_of, put_mid}
use lib.Dec.{eqb}
use lib.ListN.{length}
use lib.Seq.{sets}
use Rattle.state.specs.Answers.{settled}
use Rattle.words.specs.Words.{word_at, all_bytes}
use Rattle.words.proofs.Stores.{sets-append, sets_whole}
use Rattle.words.proofs.Parts.{word_of_part}
use Rattle.words.proofs.Turns.{put_part}
use Rattle.words.proofs.Laws.{all_bytes_append, length_all_bytes}
use Rattle.rtt.specs.declared.rtt.RttStats.{RttStats}
use Rattle.trips.specs.Trips.{shown, answer_words, answer_at, left_at, answers_to, left_by}

-- an answer has five words, done or refused
pub length_settled : (n : ℕ) (s : RttStats) → length (settled n (shown s) (0 ∷ 0 ∷ 0 ∷ 0 ∷ [])) ≡ 4
unfolding settled shown
length_settled n s = go (eqb n 0)
  where
    go : (t : Bool) → length (cond t (shown s) (0 ∷ 0 ∷ 0 ∷ 0 ∷ [])) ≡ 4
    go true = refl
    go false = refl

pub length_answer : (s : RttStats) (src : List ℕ) (at : ℕ) → length (answer_at s src at) ≡ 5
unfolding answer_at answer_words
length_answer s src at = ap suc (length_settled _ _)

-- where no call is left
module _ (s : RttStats) (src : List ℕ) (i count : ℕ) (h : count ≤ i) where
  none_left : count - i ≡ 0
  none_left = omega arith

  pub left_end : left_by s src (32 * i) (count - i) ≡ s
  unfolding left_by
  left_end = rw none_left

  pub answers_end : (out : List ℕ) → sets out (40 * i) (all_bytes (answers_to s src (32 * i) (count - i))) ≡ out
  unfolding answers_to all_bytes
  answers_end out = rw none_left

-- an answer fills the bytes that it is lent
pub whole : (out : List ℕ) (s : RttStats) (src : List ℕ) (at : ℕ) → length out ≡ 40 → sets out 0 (all_bytes (answer_at s src at)) ≡ all_bytes (answer_at s src at)
whole out s src at e = sets_whole out (all_bytes (answer_at s src at)) (length_all_bytes (answer_at s src at) ∙ rw (length_answer s src at) (sym e))

module _ (s : RttStats) (src : List ℕ) (i count : ℕ) (h : i < count) (there : count ≤ length src / 32) where
  left : count - i ≡ suc (count - (i + 1))
  left = omega arith

  next : 32 * (i + 1) ≡ 32 * i + 32
  next = omega arith

  -- the call's own bytes, and the words in them
  abbrev part : List ℕ
  part = mid_of (32 * i) (32 * i + 32 - 32 * i) src

  word : (k : ℕ) → k + 8 ≤ 32 → word_at part k ≡ word_at src (32 * i + k)
  word k e = word_of_part src (32 * i) (32 * i + 32 - 32 * i) k (omega arith) (omega arith)

  first : word_at part 0 ≡ word_at src (32 * i)
  first = rw add-zero at (word 0 (omega arith))

  own_left : left_at s part 0 ≡ left_at s src (32 * i)
  unfolding left_at
  own_left = rw (first, word 8 (omega arith), word 16 (omega arith), word 24 (omega arith))

  own_answer : answer_at s part 0 ≡ answer_at s src (32 * i)
  unfolding answer_at
  own_answer = rw (first, word 8 (omega arith), word 16 (omega arith), word 24 (omega arith))

  -- the estimator that is to be left
  pub left_later : left_by s src (32 * i) (count - i) ≡ left_by (left_at s part 0) src (32 * (i + 1)) (count - (i + 1))
  unfolding left_by
  left_later = rw (own_left, left, next)

  -- an answer is written
  pub write_answer :
      (out : List ℕ) → 40 * i + 40 ≤ length out →
      sets out (40 * i) (all_bytes (answers_to s src (32 * i) (count - i))) ≡ sets (put_mid (40 * i) (40 * i + 40 - 40 * i) out (all_bytes (answer_at s part 0))) (40 * (i + 1)) (all_bytes (answers_to (left_at s part 0) src (32 * (i + 1)) (count - (i + 1))))
  unfolding answers_to
  write_answer out room =
      let five = all_bytes (answer_at s src (32 * i)) in
      let more = answers_to (left_at s src (32 * i)) src (32 * i + 32) (count - (i + 1)) in
      let long : length five ≡ 40 = rw (length_all_bytes (answer_at s src (32 * i)), length_answer s src (32 * i)) refl in
      let step : 40 * (i + 1) ≡ 40 * i + length five = omega (arith, long) in
      let put : put_mid (40 * i) (40 * i + 40 - 40 * i) out five ≡ sets out (40 * i) five = put_part (40 * i) (40 * i + 40 - 40 * i) out five (omega (arith, long)) (omega arith) in
      rw (own_left, own_answer, put, left, next, step) (sym (sets-append out (40 * i) five (all_bytes more) ∙ ap (sets out (40 * i)) (sym (all_bytes_append (answer_at s src (32 * i)) more))))
