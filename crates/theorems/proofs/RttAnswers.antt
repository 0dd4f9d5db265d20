-- What a run of the round-trip estimator writes into the answers' bytes: for each call its words, and where it is accepted, numbers of which the promises hold. Assumes nothing.
use Rattle.std.specs.Prelude.{None, Some}
use Prim.Native.Nat.{ℕ, zero, suc, ◌+◌, ◌*◌, ◌^◌, ◌≤◌, ◌<◌}
use mathlib.Core.Bool.{Bool, true, false, cond, true≢false}
use mathlib.Core.List.{List, [], ◌∷◌}
use mathlib.Core.Logic.{◌⊎◌, inl, inr}
use mathlib.Core.Path.{◌≡◌, refl, sym, ap, subst, ◌∙◌}
use native.Mathlib.Nat.{add-zero, zero-add}
use native.Mathlib.Omega.{arith}
use lib.Dec.{eqb}
use lib.ListN.{length, get_or, length-append, get_or-append}
use lib.Seq.{sets}
use Rattle.std.proofs.lemmas.List.{get_or-append-add}
use borrow.Author.Tests.{eq-eqb, eqb-true}
use Rattle.state.specs.Answers.{settled, zero_length}
use Rattle.state.specs.Bounds.{length_ok}
use Rattle.state.specs.Faults.{unless, first, named, replied}
use Rattle.words.specs.Word.{flag_word, flag_of, flag_fits}
use Rattle.words.specs.Words.{word_at, words_at, all_bytes}
use Rattle.words.proofs.Back.{flag_written}
use Rattle.words.proofs.Laws.{length_all_bytes, get_or_words_at, words_back}
use Rattle.rtt.specs.declared.rtt.RttStats.{RttStats}
use Rattle.rtt.specs.Rtt.{stats_tests, stats_ok, stats_new, new_faults, new_number, new_left, update_faults, update_number, update_left, delay_faults, delay_number, delay_left, given_number, minimum_shown}
use Rattle.rtt.specs.Exact.{Sample, go_on, least, Promised}
use Rattle.rtt.proofs.Exact.{given_fine, update_fine, fresh_within, updated_within, limited_within}
use Rattle.trips.specs.Trips.{ns, stats_words, stats_from, stats_in, encodes_none, call_row, call_faults, call_left, length_shown, shown, answer_words, answer_at, left_at, answers_to, left_by}
use Rattle.trips.proofs.Run.{length_answer}
use Rattle.theorems.specs.Runs.{AreBytes}
use Rattle.theorems.specs.Rtt.{RttRun, RttRan, RttStarts, rtt_count, rtt_rows, rtt_before, rtt_word, rtt_steps, taken_runs, nothing, Shown, InRttAnswers}
use Rattle.theorems.proofs.Blames.{row_below}
use Rattle.theorems.proofs.Choice.{either}
use Rattle.theorems.proofs.Exported.{each_last}
use Rattle.theorems.proofs.Form.{Words, none, also, at_words, append_words}
use Rattle.theorems.proofs.Left.{number_small}
use Rattle.theorems.proofs.Rtt.{Small, small, words_read, read_back, length_words, left_is, room, written_is, reaches}
use Rattle.theorems.proofs.RttCalls.{call_row_lem, every_rtt_call}

-- ---- the words are numbers of 64 bits
update_small : (x y z : Bool) → first (unless x 1 4 ∷ unless y 2 4 ∷ unless z 3 8 ∷ []) < 2 ^ 20
unfolding first
update_small true true true = omega arith
update_small true true false = omega arith
update_small true false z = omega arith
update_small false y z = omega arith

new_small : (x y : Bool) → first (unless x 1 4 ∷ unless y 2 4 ∷ []) < 2 ^ 20
unfolding first
new_small true true = omega arith
new_small true false = omega arith
new_small false y = omega arith

delay_small : (x : Bool) → first (unless x 1 4 ∷ []) < 2 ^ 20
unfolding first
delay_small true = omega arith
delay_small false = omega arith

faults_small : (n a b c : ℕ) → first (call_faults n a b c) < 2 ^ 20
unfolding call_faults new_faults update_faults delay_faults first
faults_small n a b c = go (eqb n 0) (eqb n 1) (eqb n 2)
  where
    go : (x y z : Bool) → first (cond x (new_faults (ns a) (ns b)) (cond y (update_faults (ns a) (ns b) (flag_fits c)) (cond z (delay_faults (ns a)) (unless false 0 8 ∷ [])))) < 2 ^ 20
    go true y z = new_small (length_ok (ns a)) (length_ok (ns b))
    go false true z = update_small (length_ok (ns a)) (length_ok (ns b)) (flag_fits c)
    go false false true = delay_small (length_ok (ns a))
    go false false false = omega arith

named_small : (row x : ℕ) → x < 2 ^ 20 → named row x < 2 ^ 20
unfolding named
named_small row x h = go (eqb row 2)
  where
    go : (t : Bool) → cond t x 0 < 2 ^ 20
    go true = h
    go false = omega arith

word_small : (row x : ℕ) → row < 256 → x < 2 ^ 20 → replied row x < 2 ^ 64
word_small row x h k = omega (arith, h, named_small row x k)

-- done, a call leaves an estimator within its bounds
delay_stored : (s : RttStats) (a : ℕ) → delay_number s (ns a) ≡ 0 → stats_ok s ≡ true
unfolding delay_number
delay_stored s a e = (given_fine s _ e).0

left_within : (s : RttStats) (n a b c : ℕ) → call_row s n a b c ≡ 0 → stats_ok (call_left s n a b c) ≡ true
unfolding call_row call_left
left_within s n a b c = go (eqb n 0) (eqb n 1) (eqb n 2)
  where
    go : (x y z : Bool) →
        cond x (new_number (ns a) (ns b)) (cond y (update_number s (ns a) (ns b) (flag_fits c)) (cond z (delay_number s (ns a)) (given_number s false))) ≡ 0 →
        stats_ok (cond x (new_left (ns a) (ns b)) (cond y (update_left s (ns a) (ns b) (flag_of c) (flag_fits c)) (cond z (delay_left s (ns a)) s))) ≡ true
    go true y z h = fresh_within (ns a) (ns b)
    go false true z h = updated_within s (ns a) (ns b) (flag_of c) (flag_fits c) (update_fine s (ns a) (ns b) (flag_fits c) h).0
    go false false true h = limited_within s (ns a) (delay_stored s a h)
    go false false false h = (given_fine s false h).0

shown_word : (s : RttStats) → s.minimum.0 < 2 ^ 64 → length_shown (minimum_shown s) < 2 ^ 64
unfolding minimum_shown
shown_word s h = go s.sampled
  where
    go : (t : Bool) → length_shown (cond t (Some s.minimum) None) < 2 ^ 64
    go true = h
    go false = omega arith

answer_small : (s : RttStats) (n a b c : ℕ) → Words (answer_words s n a b c)
unfolding answer_words settled shown
answer_small s n a b c =
    let row = call_row s n a b c in
    let word = word_small row (first (call_faults n a b c)) (row_below row (rtt_rows s n a b c) (call_row_lem s n a b c)) (faults_small n a b c) in
    go (eqb row 0) refl word
  where
    go : (t : Bool) → eqb (call_row s n a b c) 0 ≡ t → replied (call_row s n a b c) (first (call_faults n a b c)) < 2 ^ 64 →
        Words (replied (call_row s n a b c) (first (call_faults n a b c)) ∷ cond t (shown (call_left s n a b c)) (0 ∷ 0 ∷ 0 ∷ 0 ∷ []))
    go true e w =
        let k = small (call_left s n a b c) (left_within s n a b c (eqb-true _ 0 e)) in
        also w (also k.0 (also (shown_word (call_left s n a b c) k.1) (also k.2 (also k.3 none))))
    go false e w = also w (also (omega arith) (also (omega arith) (also (omega arith) (also (omega arith) none))))

answers_small : (s : RttStats) (src : List ℕ) (at n : ℕ) → Words (answers_to s src at n)
unfolding answers_to answer_at
answers_small s src at zero = none
answers_small s src at (suc n) = append_words (answer_at s src at) (answers_to (left_at s src at) src (at + 32) n) (answer_small s _ _ _ _) (answers_small (left_at s src at) src (at + 32) n)

-- ---- word j of answer i
length_answers : (s : RttStats) (src : List ℕ) (at n : ℕ) → length (answers_to s src at n) ≡ 5 * n
unfolding answers_to
length_answers s src at zero = refl
length_answers s src at (suc n) =
    length-append (answer_at s src at) (answers_to (left_at s src at) src (at + 32) n)
    ∙ omega (arith, length_answer s src at, length_answers (left_at s src at) src (at + 32) n)

answer_word_lem : (s : RttStats) (src : List ℕ) (at n i j : ℕ) → i < n → j < 5 → get_or (answers_to s src at n) (5 * i + j) 0 ≡ get_or (answer_at (left_by s src at i) src (at + 32 * i)) j 0
unfolding answers_to left_by
answer_word_lem s src at zero i j h k = absurd (omega (arith, h))
answer_word_lem s src at (suc n) zero j h k =
    ap (λ (x : ℕ). get_or (answers_to s src at (suc n)) x 0) (zero-add j)
    ∙ get_or-append (answer_at s src at) (answers_to (left_at s src at) src (at + 32) n) 0 j (rw (length_answer s src at) k)
    ∙ ap (λ (x : ℕ). get_or (answer_at s src x) j 0) (sym (add-zero at))
answer_word_lem s src at (suc n) (suc i) j h k =
    let there : 5 * suc i + j ≡ length (answer_at s src at) + (5 * i + j) = rw (length_answer s src at) (omega arith) in
    let next : at + 32 + 32 * i ≡ at + 32 * suc i = omega arith in
    ap (λ (x : ℕ). get_or (answers_to s src at (suc n)) x 0) there
    ∙ get_or-append-add (answer_at s src at) (answers_to (left_at s src at) src (at + 32) n) (5 * i + j) 0
    ∙ answer_word_lem (left_at s src at) src (at + 32) n i j (omega (arith, h)) k
    ∙ ap (λ (x : ℕ). get_or (answer_at (left_by (left_at s src at) src (at + 32) i) src x) j 0) next

module _ (r : RttRun) (h : RttRan r) (done : r.reply ≡ 0) where
  abbrev words : List ℕ
  words = answers_to (stats_in r.state) r.calls 0 (rtt_count r)

  fits : 0 + 8 * length words ≤ length r.answers
  fits = omega (arith, length_answers (stats_in r.state) r.calls 0 (rtt_count r), room r h done)

  -- in the bytes
  pub word_is : (i j : ℕ) → i < rtt_count r → j < 5 → rtt_word r i j ≡ get_or (answer_at (rtt_before r i) r.calls (32 * i)) j 0
  word_is i j l k =
      let at : 40 * i + 8 * j ≡ 0 + 8 * (5 * i + j) = omega arith in
      let within : 5 * i + j < length words = omega (arith, length_answers (stats_in r.state) r.calls 0 (rtt_count r), l, k) in
      ap (λ (s : List ℕ). word_at s (40 * i + 8 * j)) (written_is r h done)
      ∙ ap (word_at (sets r.answers 0 (all_bytes words))) at
      ∙ sym (get_or_words_at (sets r.answers 0 (all_bytes words)) 0 (length words) (5 * i + j) within)
      ∙ ap (λ (s : List ℕ). get_or s (5 * i + j) 0) (words_back r.answers 0 words fits (at_words words (answers_small (stats_in r.state) r.calls 0 (rtt_count r))))
      ∙ answer_word_lem (stats_in r.state) r.calls 0 (rtt_count r) i j l k
      ∙ ap (λ (x : ℕ). get_or (answer_at (rtt_before r i) r.calls x) j 0) (zero-add (32 * i))

-- ---- what a run leaves is taken by the next
fresh_none : stats_ok (stats_new zero_length zero_length) ≡ true
unfolding stats_new stats_tests
fresh_none = refl

-- what holds of every estimator within the bounds, and of the one that a run is lent, holds of what its calls leave
module _ (P : RttStats → Type 0) (fine : (s : RttStats) → stats_ok s ≡ true → P s) where
  call_keeps : (s : RttStats) (n a b c : ℕ) → P s → P (call_left s n a b c)
  call_keeps s n a b c h = go (eqb (call_row s n a b c) 0) refl
    where
      go : (t : Bool) → eqb (call_row s n a b c) 0 ≡ t → P (call_left s n a b c)
      go true e = fine (call_left s n a b c) (left_within s n a b c (eqb-true _ 0 e))
      go false e =
          subst P (sym ((every_rtt_call s n a b c).refused (λ z. true≢false (sym (eq-eqb _ 0 z) ∙ e))))
          (either P (eqb n 0) (stats_new zero_length zero_length) s (fine (stats_new zero_length zero_length) fresh_none) h)

  calls_keep : (s : RttStats) (src : List ℕ) (at n : ℕ) → P s → P (left_by s src at n)
  unfolding left_by left_at
  calls_keep s src at zero h = h
  calls_keep s src at (suc n) h = calls_keep (left_at s src at) src (at + 32) n (call_keeps s _ _ _ _ h)

lent_small : (bytes : List ℕ) → AreBytes bytes → Small (stats_in bytes)
unfolding stats_from
lent_small bytes h = (word 0 (omega arith), word 1 (omega arith), word 2 (omega arith), word 3 (omega arith), word 4 (omega arith))
  where
    word : (i : ℕ) → i < 6 → get_or (words_at bytes 0 6) i 0 < 2 ^ 64
    word i l = rw (get_or_words_at bytes 0 6 i l) (number_small 8 bytes (0 + 8 * i) h)

flag_word_lem : (s : RttStats) → Small s → word_at (all_bytes (stats_words s)) 40 ≡ flag_word s.sampled
unfolding stats_words
flag_word_lem s h = sym (get_or_words_at (all_bytes (stats_words s)) 0 6 5 (omega arith)) ∙ ap (λ (l : List ℕ). get_or l 5 0) (words_read s h)

pub left_encodes : (r : RttRun) → RttRan r → AreBytes r.state → r.reply ≡ 0 → (length r.left ≡ 48) × (encodes_none r.left ≡ false)
unfolding encodes_none
left_encodes r h bytes done =
    let s = rtt_before r (rtt_count r) in
    let is = left_is r h done in
    let fine = calls_keep Small small (stats_in r.state) r.calls 0 (rtt_count r) (lent_small r.state bytes) in
    let long : length r.left ≡ 48 = ap length is ∙ length_all_bytes (stats_words s) ∙ ap (λ (n : ℕ). 8 * n) (length_words s) in
    (long, rw (eq-eqb (length r.left) 48 long, ap (λ (l : List ℕ). flag_fits (word_at l 40)) is ∙ ap flag_fits (flag_word_lem s fine) ∙ flag_written s.sampled))

-- ---- within the bounds, a run leaves what is; after a `new` too
all_within : (s : RttStats) (src : List ℕ) (at n : ℕ) → stats_ok s ≡ true → stats_ok (left_by s src at n) ≡ true
all_within = calls_keep (λ s. stats_ok s ≡ true) (λ s h. h)

begun_within : (s : RttStats) (n a b c : ℕ) → n ≡ 0 → stats_ok (call_left s n a b c) ≡ true
unfolding call_left
begun_within s n a b c e = rw (eq-eqb n 0 e) (fresh_within (ns a) (ns b))

started_within : (s : RttStats) (src : List ℕ) (n : ℕ) → 0 < n → word_at src 0 ≡ 0 → stats_ok (left_by s src 0 n) ≡ true
unfolding left_by left_at
started_within s src zero h e = absurd (omega (arith, h))
started_within s src (suc n) h e = all_within (left_at s src 0) src 32 n (begun_within s (word_at src 0) _ _ _ e)

pub left_bounds : (r : RttRun) → RttRan r → r.reply ≡ 0 → (stats_ok (stats_in r.state) ≡ true) ⊎ RttStarts r → stats_ok (stats_in r.left) ≡ true
left_bounds r h done from =
    let s = rtt_before r (rtt_count r) in
    let fine = reached from in
    subst (λ (t : RttStats). stats_ok t ≡ true) (sym (ap stats_in (left_is r h done) ∙ read_back s (small s fine))) fine
  where
    reached : (stats_ok (stats_in r.state) ≡ true) ⊎ RttStarts r → stats_ok (rtt_before r (rtt_count r)) ≡ true
    reached (inl k) = all_within (stats_in r.state) r.calls 0 (rtt_count r) k
    reached (inr k) = started_within (stats_in r.state) r.calls (rtt_count r) k.some k.first

-- ---- the answer to a call that is done shows the estimator that it leaves
no_row : (row x : ℕ) → replied row x ≡ 0 → row ≡ 0
no_row row x e = omega (arith, e)

shows : (s : RttStats) (src : List ℕ) (at : ℕ) → get_or (answer_at s src at) 0 0 ≡ 0 →
    (get_or (answer_at s src at) 1 0 ≡ (left_at s src at).latest.0)
    × (get_or (answer_at s src at) 2 0 ≡ length_shown (minimum_shown (left_at s src at)))
    × (get_or (answer_at s src at) 3 0 ≡ (left_at s src at).smoothed.0)
    × (get_or (answer_at s src at) 4 0 ≡ (left_at s src at).variation.0)
unfolding answer_at answer_words left_at settled shown
shows s src at e =
    let zero_row = no_row (call_row s (word_at src at) (word_at src (at + 8)) (word_at src (at + 16)) (word_at src (at + 24))) _ e in
    rw (eq-eqb (call_row s (word_at src at) (word_at src (at + 8)) (word_at src (at + 16)) (word_at src (at + 24))) 0 zero_row) (refl, refl, refl, refl)

-- one call more
one_more_lem : (s : RttStats) (src : List ℕ) (at n : ℕ) → left_at (left_by s src at n) src (at + 32 * n) ≡ left_by s src at (suc n)
unfolding left_by
one_more_lem s src at zero = ap (left_at s src) (add-zero at)
one_more_lem s src at (suc n) =
    let next : at + 32 * suc n ≡ at + 32 + 32 * n = omega arith in
    ap (left_at (left_by (left_at s src at) src (at + 32) n) src) next ∙ one_more_lem (left_at s src at) src (at + 32) n

-- what is shown of an estimator of which the promises hold
shown_promised : (taken : List Sample) (s : RttStats) → Promised taken s → Shown taken s.latest.0 (length_shown (minimum_shown s)) s.smoothed.0 s.variation.0
unfolding minimum_shown
shown_promised [] s h = rw h
shown_promised (new ∷ older) s h = (h.latest, minimum_is s.sampled h.sampled, h.smoothed, h.variation)
  where
    minimum_is : (t : Bool) → t ≡ true → length_shown (cond t (Some s.minimum) None) ≡ least new older
    minimum_is true e = h.minimum
    minimum_is false e = absurd (true≢false (sym e))

pub in_answers : InRttAnswers
in_answers runs r i h accepted =
    let ran = each_last RttRan runs r h.ran in
    let q = taken_runs runs nothing in
    let made = accepted.made in
    let now = shows (rtt_before r i) r.calls (32 * i) (sym (word_is r ran accepted.done i 0 made (omega arith)) ∙ accepted.accepted) in
    let reached = reaches runs r h i in
    let left : left_at (rtt_before r i) r.calls (32 * i) ≡ (go_on q (rtt_steps r.calls 0 (suc i))).stats =
    ap (left_at (rtt_before r i) r.calls) (sym (zero-add (32 * i))) ∙ one_more_lem (stats_in r.state) r.calls 0 i ∙ reached.0 in
    let more : i + 1 ≡ suc i = omega arith in
    rw (more, word_is r ran accepted.done i 1 made (omega arith) ∙ now.0, word_is r ran accepted.done i 2 made (omega arith) ∙ now.1, word_is r ran accepted.done i 3 made (omega arith) ∙ now.2, word_is r ran accepted.done i 4 made (omega arith) ∙ now.3, left)
    (shown_promised (go_on q (rtt_steps r.calls 0 (suc i))).taken (go_on q (rtt_steps r.calls 0 (suc i))).stats reached.1.promised)
