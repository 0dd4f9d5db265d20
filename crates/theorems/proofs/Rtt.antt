-- The exported run of the round-trip estimator (specs/Rtt.antt): by its contract, call by call, and run by run. Assumes nothing.
use Prim.Native.Nat.{ℕ, zero, suc, ◌+◌, ◌-◌, ◌*◌, ◌^◌, ◌≤◌, ◌<◌}
use mathlib.Core.Bool.{Bool, true, false, cond, true≢false}
use mathlib.Core.List.{List, [], ◌∷◌, ◌++◌, append-nil}
use mathlib.Core.Path.{◌≡◌, refl, sym, ap, subst, ◌∙◌}
use native.Mathlib.Omega.{arith}
use lib.Dec.{eqb}
use lib.ListN.{length}
use lib.Seq.{sets}
use borrow.Author.Tests.{eq-eqb, ne_eqb, eqb-true}
use Rattle.units.specs.Reply.{row_in}
use Rattle.units.specs.declared.time.Duration.{Duration}
use Rattle.units.proofs.refusal.Number.{row_back}
use Rattle.state.specs.Answers.{settled}
use Rattle.words.specs.Word.{flag_of, flag_fits}
use Rattle.words.specs.Words.{word_at, words_at, all_bytes}
use Rattle.words.proofs.Back.{flag_back}
use Rattle.words.proofs.Laws.{AllWords, length_all_bytes, words_of_lem}
use Rattle.words.proofs.Stores.{sets_whole}
use Rattle.rtt.specs.declared.rtt.RttStats.{RttStats}
use Rattle.rtt.specs.Rtt.{stats_ok, new_left, update_number, update_left, delay_left}
use Rattle.rtt.specs.Exact.{begins, updates, limits, other, Ran, begun, step, go_on, Holds}
use Rattle.rtt.proofs.Exact.{lengths, update_fine, begun_holds, step_holds}
use Rattle.trips.specs.Trips.{ns, stats_words, stats_from, stats_in, call_left, left_at, answers_to, left_by, rtt_row}
use Rattle.guovssalu.specs.Reply.{answered}
use Rattle.guovssalu.specs.RttRun.{rtt_reply, rtt_answers, rtt_left, rtt_answers_out, rtt_state_out}
use Rattle.guovssalu.proofs.RttRun.{run_room, run_whole}
use Rattle.theorems.specs.Runs.{Each}
use Rattle.theorems.specs.Rtt.{RttRun, RttRan, OneRttOutcome, rtt_count, RttRow, rtt_before, rtt_step, rtt_steps, RttChained, RttStarts, RttHistory, taken_before, taken_after, taken_runs, nothing, InRttBytes}
use Rattle.theorems.proofs.Form.{none, also, flag_word_lem, at_words}
use Rattle.theorems.proofs.Exported.{each_last, stored_row, below, done_word, answered_refused}

-- ---- what is replied and left
pub rtt_is : (r : RttRun) → RttRan r →
    (r.reply ≡ rtt_reply r.state r.calls (length r.answers)) × (r.left ≡ rtt_state_out r.state r.calls r.answers) × (r.written ≡ rtt_answers_out r.state r.calls r.answers)
rtt_is r h =
    let c = h.4 in
    let f = h.5 in (
      sym f.3 ∙ c.0 ∙ (λ i. rtt_reply (f.0 i) (f.1 i) (length (f.2 i))),
      sym f.4 ∙ c.1.0 ∙ (λ i. rtt_state_out (f.0 i) (f.1 i) (f.2 i)),
      sym f.5 ∙ c.1.1 ∙ (λ i. rtt_answers_out (f.0 i) (f.1 i) (f.2 i)),
    )

pub one_rtt_outcome : OneRttOutcome
one_rtt_outcome r q h k e =
    let a = rtt_is r h in
    let b = rtt_is q k in (
      a.0 ∙ (λ i. rtt_reply (e.0 i) (e.1 i) (length (e.2 i))) ∙ sym b.0,
      a.1 ∙ (λ i. rtt_state_out (e.0 i) (e.1 i) (e.2 i)) ∙ sym b.1,
      a.2 ∙ (λ i. rtt_answers_out (e.0 i) (e.1 i) (e.2 i)) ∙ sym b.2,
    )

pub rtt_row_is : (r : RttRun) → RttRan r → row_in r.reply ≡ rtt_row r.state r.calls (length r.answers)
unfolding rtt_row rtt_reply
rtt_row_is r h = ap (λ (n : ℕ). row_in n) (rtt_is r h).0 ∙ row_back _ _ (below _ _ false false false _)

pub rtt_done : (r : RttRun) → RttRan r → r.reply ≡ 0 → rtt_row r.state r.calls (length r.answers) ≡ 0
rtt_done r h done = sym (rtt_row_is r h) ∙ ap (λ (n : ℕ). row_in n) done

pub rtt_row_lem : (r : RttRun) → RttRan r → RttRow r
unfolding rtt_row
rtt_row_lem r h = stored_row _ _ _ _ (rtt_row_is r h)

pub rtt_keeps : (r : RttRun) → RttRan r → (r.reply ≡ 0 → ⊥) → (r.left ≡ r.state) × (r.written ≡ r.answers)
unfolding rtt_state_out rtt_answers_out rtt_reply
rtt_keeps r h refused =
    let d = rtt_is r h in
    let f : rtt_row r.state r.calls (length r.answers) ≡ 0 → ⊥ = λ e. refused (d.0 ∙ done_word _ _ e) in
    (d.1 ∙ answered_refused _ _ _ f, d.2 ∙ answered_refused _ _ _ f)

-- ---- a run that is done
module _ (r : RttRun) (h : RttRan r) (done : r.reply ≡ 0) where
  row_zero : eqb (rtt_row r.state r.calls (length r.answers)) 0 ≡ true
  row_zero = eq-eqb _ 0 (rtt_done r h done)

  pub whole : length r.state ≡ 48
  whole = run_whole r.state r.calls (length r.answers) row_zero

  pub room : 40 * rtt_count r ≤ length r.answers
  room = run_room r.state r.calls (length r.answers) row_zero

  pub left_is : r.left ≡ all_bytes (stats_words (rtt_before r (rtt_count r)))
  unfolding rtt_state_out answered rtt_left stats_words
  left_is =
      let words = stats_words (rtt_before r (rtt_count r)) in
      (rtt_is r h).1 ∙ rw row_zero (sets_whole r.state (all_bytes words) (length_all_bytes words ∙ sym whole))

  pub written_is : r.written ≡ sets r.answers 0 (all_bytes (answers_to (stats_in r.state) r.calls 0 (rtt_count r)))
  unfolding rtt_answers_out answered rtt_answers
  written_is = (rtt_is r h).2 ∙ rw row_zero

-- ---- an estimator within its bounds is read back from its words
abbrev pub Small : RttStats → Type 0
Small s = (s.latest.0 < 2 ^ 64) × (s.minimum.0 < 2 ^ 64) × (s.smoothed.0 < 2 ^ 64) × (s.variation.0 < 2 ^ 64) × (s.limit.0 < 2 ^ 64)

pub small : (s : RttStats) → stats_ok s ≡ true → Small s
small s h = let b = lengths s h in (omega (arith, b.0), omega (arith, b.1), omega (arith, b.2), omega (arith, b.3), omega (arith, b.4))

six : (s : RttStats) → Small s → AllWords (stats_words s)
unfolding stats_words
six s h = at_words (stats_words s) (also h.0 (also h.1 (also h.2 (also h.3 (also h.4 (also (flag_word_lem s.sampled) none))))))

from_words : (s : RttStats) → stats_from (stats_words s) ≡ s
unfolding stats_from stats_words
from_words s = ap (λ (b : Bool). record { latest = s.latest; minimum = s.minimum; smoothed = s.smoothed; variation = s.variation; limit = s.limit; sampled = b }) (flag_back s.sampled)

pub length_words : (s : RttStats) → length (stats_words s) ≡ 6
unfolding stats_words
length_words s = refl

pub words_read : (s : RttStats) → Small s → words_at (all_bytes (stats_words s)) 0 6 ≡ stats_words s
unfolding stats_words
words_read s h = ap (λ (l : List ℕ). words_at l 0 6) (sym (append-nil (all_bytes (stats_words s)))) ∙ words_of_lem (stats_words s) [] (six s h)

pub read_back : (s : RttStats) → Small s → stats_in (all_bytes (stats_words s)) ≡ s
read_back s h = ap stats_from (words_read s h) ∙ from_words s

-- ---- each call makes its step
refused_flag : (s : RttStats) (l d : Duration) (c : Bool) → update_left s l d c false ≡ s
unfolding update_left settled
refused_flag s l d c = rw (ne_eqb (update_number s l d false) 0 (λ e. true≢false (sym (update_fine s l d false e).3)))

update_step : (q : Ran) (l d : Duration) (c fits : Bool) → update_left q.stats l d c fits ≡ (step q (cond fits (updates l d c) other)).stats
update_step q l d c true = refl
update_step q l d c false = refused_flag q.stats l d c

pub call_step : (q : Ran) (n a b c : ℕ) → call_left q.stats n a b c ≡ (step q (rtt_step n a b c)).stats
unfolding call_left rtt_step
call_step q n a b c = go (eqb n 0) (eqb n 1) (eqb n 2)
  where
    go : (x y z : Bool) →
        cond x (new_left (ns a) (ns b)) (cond y (update_left q.stats (ns a) (ns b) (flag_of c) (flag_fits c)) (cond z (delay_left q.stats (ns a)) q.stats))
        ≡ (step q (cond x (begins (ns a) (ns b)) (cond y (cond (flag_fits c) (updates (ns a) (ns b) (flag_of c)) other) (cond z (limits (ns a)) other)))).stats
    go true y z = refl
    go false true z = update_step q (ns a) (ns b) (flag_of c) (flag_fits c)
    go false false true = refl
    go false false false = refl

pub steps_left : (q : Ran) (src : List ℕ) (at n : ℕ) → left_by q.stats src at n ≡ (go_on q (rtt_steps src at n)).stats
unfolding left_by left_at rtt_steps
steps_left q src at zero = refl
steps_left q src at (suc n) =
    ap (λ (s : RttStats). left_by s src (at + 32) n) (call_step q (word_at src at) (word_at src (at + 8)) (word_at src (at + 16)) (word_at src (at + 24)))
    ∙ steps_left (step q (rtt_step (word_at src at) (word_at src (at + 8)) (word_at src (at + 16)) (word_at src (at + 24)))) src (at + 32) n

steps_hold : (q : Ran) (src : List ℕ) (at n : ℕ) → Holds q → Holds (go_on q (rtt_steps src at n))
unfolding rtt_steps
steps_hold q src at zero h = h
steps_hold q src at (suc n) h =
    let c = rtt_step (word_at src at) (word_at src (at + 8)) (word_at src (at + 16)) (word_at src (at + 24)) in
    steps_hold (step q c) src (at + 32) n (step_holds q c h)

-- ---- run by run: what the bytes encode, and what was taken
record Along (bytes : List ℕ) (q : Ran) : Type 0 where
  encodes : stats_in bytes ≡ q.stats
  holds : Holds q

-- a run that is done, from what its calls lead to
done_along : (r : RttRun) (q : Ran) → RttRan r → r.reply ≡ 0 → rtt_before r (rtt_count r) ≡ q.stats → Holds q → Along r.left q
done_along r q h done e k =
    record {
      encodes = ap stats_in (left_is r h done ∙ ap (λ (s : RttStats). all_bytes (stats_words s)) e) ∙ read_back q.stats (small q.stats k.within);
      holds = k;
    }

next_along : (r : RttRun) (q : Ran) → RttRan r → Along r.state q → Along r.left (taken_after r q)
unfolding taken_after settled
next_along r q h a = go (eqb r.reply 0) refl
  where
    go : (t : Bool) → eqb r.reply 0 ≡ t → Along r.left (cond t (taken_before r (rtt_count r) q) q)
    go true e =
        done_along r (taken_before r (rtt_count r) q) h (eqb-true r.reply 0 e)
        (ap (λ (s : RttStats). left_by s r.calls 0 (rtt_count r)) a.encodes ∙ steps_left q r.calls 0 (rtt_count r))
        (steps_hold q r.calls 0 (rtt_count r) a.holds)
    go false e =
        let kept = (rtt_keeps r h (λ z. true≢false (sym (eq-eqb r.reply 0 z) ∙ e))).0 in
        record { encodes = ap stats_in kept ∙ a.encodes; holds = a.holds }

-- ---- the first run begins with `new`, whatever it was lent
begins_at : (q : Ran) (src : List ℕ) (n : ℕ) → word_at src 0 ≡ 0 → go_on q (rtt_steps src 0 (suc n)) ≡ go_on (begun (ns (word_at src 8)) (ns (word_at src 16))) (rtt_steps src 32 n)
unfolding rtt_steps rtt_step
begins_at q src n e = rw (eq-eqb (word_at src 0) 0 e)

starts_hold : (q : Ran) (src : List ℕ) (n : ℕ) → word_at src 0 ≡ 0 → Holds (go_on q (rtt_steps src 0 (suc n)))
starts_hold q src n e = subst Holds (sym (begins_at q src n e)) (steps_hold _ src 32 n (begun_holds (ns (word_at src 8)) (ns (word_at src 16))))

starts_left : (s : RttStats) (q : Ran) (src : List ℕ) (n : ℕ) → word_at src 0 ≡ 0 → left_by s src 0 (suc n) ≡ (go_on q (rtt_steps src 0 (suc n))).stats
starts_left s q src n e =
    steps_left (record { stats = s; taken = [] }) src 0 (suc n)
    ∙ ap (λ (p : Ran). p.stats) (begins_at (record { stats = s; taken = [] }) src n e ∙ sym (begins_at q src n e))

first_along : (r : RttRun) → RttRan r → RttStarts r → Along r.left (taken_after r nothing)
unfolding taken_after settled
first_along r h starts =
    let k : rtt_count r ≡ suc (rtt_count r - 1) = omega (arith, starts.some) in
    rw (eq-eqb r.reply 0 starts.done)
    (done_along r (taken_before r (rtt_count r) nothing) h starts.done
    (subst (λ (n : ℕ). left_by (stats_in r.state) r.calls 0 n ≡ (go_on nothing (rtt_steps r.calls 0 n)).stats) (sym k) (starts_left (stats_in r.state) nothing r.calls (rtt_count r - 1) starts.first))
    (subst (λ (n : ℕ). Holds (go_on nothing (rtt_steps r.calls 0 n))) (sym k) (starts_hold nothing r.calls (rtt_count r - 1) starts.first)))

-- ---- all runs, up to the last
along : (runs : List RttRun) (r : RttRun) (bytes : List ℕ) (q : Ran) → Each RttRan (runs ++ (r ∷ [])) → RttChained bytes (runs ++ (r ∷ [])) → Along bytes q → Along r.state (taken_runs runs q)
unfolding taken_runs
along [] r bytes q each chain a = subst (λ (b : List ℕ). Along b q) (sym chain.0) a
along (x ∷ runs) r bytes q each chain a =
    along runs r x.left (taken_after x q) each.1 chain.1 (next_along x q each.0 (subst (λ (b : List ℕ). Along b q) (sym chain.0) a))

taken_last : (runs : List RttRun) (r : RttRun) (q : Ran) → taken_runs (runs ++ (r ∷ [])) q ≡ taken_after r (taken_runs runs q)
unfolding taken_runs
taken_last [] r q = refl
taken_last (x ∷ runs) r q = taken_last runs r (taken_after x q)

-- what was taken after all of them, beside the bytes that the last one left
last_along : (runs : List RttRun) (r : RttRun) → RttHistory (runs ++ (r ∷ [])) → Along r.left (taken_after r (taken_runs runs nothing))
unfolding taken_runs
last_along [] r h = first_along r h.ran.0 h.order.0
last_along (x ∷ runs) r h =
    next_along r (taken_runs runs (taken_after x nothing)) (each_last RttRan runs r h.ran.1)
    (along runs r x.left (taken_after x nothing) h.ran.1 h.order.1 (first_along x h.ran.0 h.order.0))

pub in_bytes : InRttBytes
in_bytes runs r h =
    let a = last_along runs r h in
    subst (λ (p : Ran). (stats_in r.left ≡ p.stats) × Holds (record { stats = stats_in r.left; taken = p.taken })) (sym (taken_last runs r nothing))
    (a.encodes, subst (λ (s : RttStats). Holds (record { stats = s; taken = (taken_after r (taken_runs runs nothing)).taken })) (sym a.encodes) a.holds)

-- ---- the calls of the last run
abbrev pub Reaches : RttRun → Ran → Type 0
Reaches r q = (i : ℕ) → (rtt_before r (suc i) ≡ (go_on q (rtt_steps r.calls 0 (suc i))).stats) × Holds (go_on q (rtt_steps r.calls 0 (suc i)))

pub reaches : (runs : List RttRun) (r : RttRun) → RttHistory (runs ++ (r ∷ [])) → Reaches r (taken_runs runs nothing)
unfolding taken_runs
reaches [] r h i =
    let starts = h.order.0 in
    (starts_left (stats_in r.state) nothing r.calls i starts.first, starts_hold nothing r.calls i starts.first)
reaches (x ∷ runs) r h i =
    let q = taken_runs runs (taken_after x nothing) in
    let a = along runs r x.left (taken_after x nothing) h.ran.1 h.order.1 (first_along x h.ran.0 h.order.0) in
    (ap (λ (s : RttStats). left_by s r.calls 0 (suc i)) a.encodes ∙ steps_left q r.calls 0 (suc i), steps_hold q r.calls 0 (suc i) a.holds)
