-- Each call of a run names the first of its faults (specs/Blames.antt), number by number. Assumes nothing.
use Prim.Native.Nat.{ℕ, ◌%◌, ◌≤◌, ◌<◌}
use mathlib.Core.Bool.{Bool, true, false, not, ◌&&◌, ◌||◌, true≢false}
use mathlib.Core.List.{List, [], ◌∷◌}
use mathlib.Core.Path.{◌≡◌, refl, sym, ap, subst, ◌∙◌}
use native.Mathlib.Omega.{arith}
use borrow.Author.Tests.{eq-eqb, ne_eqb}
use lib.Dec.{eqb}
use lib.ListN.{length, get_or}
use Rattle.state.specs.Faults.{first, named, replied}
use Rattle.state.specs.Bounds.{bytes_ok}
use Rattle.state.proofs.Complete as tests
use Rattle.state.proofs.Complete.{faults_from, complete, and_one, start_complete, sent_complete, bdp1_complete, limit_complete, postpone_complete, cruise_complete, refill_complete, up_complete, slope_complete}
use Rattle.changes.specs.Changes.{postponed}
use Rattle.words.specs.Word.{word}
use Rattle.places.specs.Places.{entry_faults, number_faults, other_faults, faults_of}
use Rattle.places.proofs.Complete.{event_asked, started_asked, gain_asked, bdp_asked, down_asked}
use Rattle.units.specs.Reply.{row_in, fault_in}
use Rattle.units.proofs.refusal.Number.{row_back, fault_back}
use Rattle.state.specs.declared.refusals.Rows.{Rows}
use Rattle.dispatch.specs.OneCall.{call_word}
use Rattle.laws.specs.Replies.{Exactly}
use Rattle.laws.proofs.Named.{found, flipped}
use Rattle.drift.specs.Calls.{State}
use Rattle.pairs.specs.Pairs.{run_row, pairs_faults}
use Rattle.guovssalu.specs.FilterRun.{run_reply}
use Rattle.guovssalu.specs.ModelRun.{model_row, length_faults, model_reply}
use Rattle.guovssalu.specs.Slope.{slope_row, window_faults, slope_reply}
use Rattle.theorems.specs.Blames.{Named, Blames}
use Rattle.theorems.specs.Runs.{Run, Ran, FilterRun, Filtered, SlopeRun, Raised}
use Rattle.theorems.proofs.Exported.{plain_word, run_is, filter_is, slope_is, run_row_is, filter_row_is, slope_row_is, run_row_lem, filter_row, slope_row_lem}
use Rattle.theorems.specs.Steps.{outcome_in}
use Rattle.theorems.proofs.Rows.{every_row}
use Rattle.theorems.specs.Rows.{rows_of}
use Rattle.theorems.proofs.Below.{Below, nothing, also, every, above_46}

-- ---- row 2 holds exactly where there is a fault
module _ (w : List ℕ) (s : State) where
  abbrev At : ℕ → Type 0
  At n = get_or w 0 0 ≡ n → (rows_of w s).argument ≡ not (eqb (first (faults_of w s.model.minrtt.timestamp)) 0)

  each : Below At 46
  unfolding rows_of faults_of other_faults number_faults entry_faults first postponed
  each =
      also 45 (λ e. rw e (flipped (slope_complete (word w 1))))
      (also 44 (λ e. rw e (refl))
      (also 43 (λ e. rw e (flipped (up_complete (record { 0 = word w 1 }) (word w 2))))
      (also 42 (λ e. rw e (flipped (refill_complete (word w 1) (record { 0 = word w 2 }))))
      (also 41 (λ e. rw e (flipped (cruise_complete (record { 0 = word w 1 }))))
      (also 40 (λ e. rw e (flipped (down_asked (word w 1) (word w 2) (word w 3))))
      (also 39 (λ e. rw e (refl))
      (also 38 (λ e. rw e (refl))
      (also 37 (λ e. rw e (refl))
      (also 36 (λ e. rw e (refl))
      (also 35 (λ e. rw e (refl))
      (also 34 (λ e. rw e (refl))
      (also 33 (λ e. rw e (refl))
      (also 32 (λ e. rw e (refl))
      (also 31 (λ e. rw e (refl))
      (also 30 (λ e. rw e (refl))
      (also 29 (λ e. rw e (refl))
      (also 28 (λ e. rw e (refl))
      (also 27 (λ e. rw e (refl))
      (also 26 (λ e. rw e (refl))
      (also 25 (λ e. rw e (refl))
      (also 24 (λ e. rw e (refl))
      (also 23 (λ e. rw e (refl))
      (also 22 (λ e. rw e (flipped (postpone_complete (record { 0 = word w 1 }) _)))
      (also 21 (λ e. rw e (refl))
      (also 20 (λ e. rw e (refl))
      (also 19 (λ e. rw e (refl))
      (also 18 (λ e. rw e (flipped (limit_complete (word w 1))))
      (also 17 (λ e. rw e (flipped (limit_complete (word w 1))))
      (also 16 (λ e. rw e (flipped (gain_asked (word w 1))))
      (also 15 (λ e. rw e (flipped (gain_asked (word w 1))))
      (also 14 (λ e. rw e (refl))
      (also 13 (λ e. rw e (refl))
      (also 12 (λ e. rw e (refl))
      (also 11 (λ e. rw e (flipped (bdp1_complete (record { 0 = word w 1 }))))
      (also 10 (λ e. rw e (flipped (bdp_asked (record { 0 = word w 1 }) (word w 2))))
      (also 9 (λ e. rw e (flipped (gain_asked (word w 1))))
      (also 8 (λ e. rw e (refl))
      (also 7 (λ e. rw e (flipped (event_asked w 1)))
      (also 6 (λ e. rw e (flipped (event_asked w 1)))
      (also 5 (λ e. rw e (flipped (event_asked w 1)))
      (also 4 (λ e. rw e (flipped (event_asked w 1)))
      (also 3 (λ e. rw e (flipped (started_asked w)))
      (also 2 (λ e. rw e (refl))
      (also 1 (λ e. rw e (flipped (sent_complete (record { 0 = word w 1 }) (word w 2) (word w 4))))
      (also 0 (λ e. rw e (flipped (start_complete (record { 0 = word w 2 }) (record { 0 = word w 1 })))) nothing)))))))))))))))))))))))))))))))))))))))))))))

  above : (n : ℕ) → 46 ≤ n → At n
  unfolding rows_of faults_of other_faults entry_faults first
  above n h e =
      let t = above_46 n h in
      rw e
      (simp
      (t.none 0 (omega arith), t.none 1 (omega arith), t.none 3 (omega arith), t.none 4 (omega arith), t.none 5 (omega arith), t.none 6 (omega arith), t.none 7 (omega arith), t.none 8 (omega arith), t.none 9 (omega arith), t.none 10 (omega arith), t.none 11 (omega arith), t.none 12 (omega arith), t.none 13 (omega arith), t.none 14 (omega arith), t.none 15 (omega arith), t.none 16 (omega arith), t.none 17 (omega arith), t.none 18 (omega arith), t.none 22 (omega arith), t.none 40 (omega arith), t.none 41 (omega arith), t.none 42 (omega arith), t.none 43 (omega arith), t.none 44 (omega arith), t.none 45 (omega arith), t.over 7 (omega arith), t.over 21 (omega arith), t.over 38 (omega arith), t.up 4 (omega arith), t.up 19 (omega arith), t.up 23 (omega arith), t.up 40 (omega arith)))

pub row_asked : (w : List ℕ) (s : State) → (rows_of w s).argument ≡ not (eqb (first (faults_of w s.model.minrtt.timestamp)) 0)
row_asked w s = every (At w s) 46 (each w s) (above w s) (get_or w 0 0) refl

-- ---- a row is a byte
pub row_below : (n : ℕ) (r : Rows) → Exactly n r → n < 256
row_below n r x = go r.stored r.argument r.earlier r.lower r.unsent r.full refl refl refl refl refl refl
  where
    go : (s a e l u f : Bool) → r.stored ≡ s → r.argument ≡ a → r.earlier ≡ e → r.lower ≡ l → r.unsent ≡ u → r.full ≡ f → n < 256
    go true a e l u f p q t v y z = omega (arith, x.is1.1 p)
    go false true e l u f p q t v y z = omega (arith, x.is2.1 (p, q))
    go false false true l u f p q t v y z = omega (arith, x.is3.1 (p, q, t))
    go false false false true u f p q t v y z = omega (arith, x.is4.1 (p, q, t, v))
    go false false false false true f p q t v y z = omega (arith, x.is10.1 (p, q, t, v, y))
    go false false false false false true p q t v y z = omega (arith, x.is5.1 (p, q, t, v, y, z))
    go false false false false false false p q t v y z = omega (arith, x.is0.1 (p, q, t, v, y, z))

-- ---- a reply's word, by its row
pub word_named : (row : ℕ) (faults : List ℕ) → row < 256 → (row ≡ 2 → first faults ≡ 0 → ⊥) → Named (replied row (first faults)) row faults
unfolding named
word_named row faults small some =
    record {
      row_is = row_back row _ small;
      names = λ two.
          let same : fault_in (replied row (first faults)) ≡ first faults = fault_back row _ small ∙ rw two in
          rw same (found faults (some two));
      silent = λ no. plain_word row (first faults) (ne_eqb row 2 no);
    }

-- a 2 has a fault where its row's test says so
pub two_some : (argument : Bool) (f : ℕ) → argument ≡ not (eqb f 0) → argument ≡ true → f ≡ 0 → ⊥
two_some argument f asked holds z = true≢false (sym holds ∙ asked ∙ ap not (eq-eqb f 0 z))

pub call_blames : (w : List ℕ) (s : State) → Blames w s
unfolding call_word
call_blames w s =
    let row = every_row w s in
    record {
      asked = row_asked w s;
      word = word_named (outcome_in w s).reply _ (row_below _ (rows_of w s) row) (λ two z. two_some (rows_of w s).argument _ (row_asked w s) (row.is2.0 two).1 z);
    }

pub byte : (word : ℕ) → row_in word < 256
byte word = omega arith

-- ---- the exported runs: row 2 holds exactly where a length or the window is at fault
pub worded : (reply row : ℕ) (faults : List ℕ) (argument : Bool) → reply ≡ replied row (first faults) → row < 256 → (row ≡ 2 → argument ≡ true) → argument ≡ not (eqb (first faults) 0) → Named reply row faults
worded reply row faults argument is small two asked = rw is (word_named row faults small (λ e z. two_some argument (first faults) asked (two e) z))

pub either_uneven : (t u : Bool) → (not t || not u) ≡ not (t && (u && true))
either_uneven true u = ap not (sym (and_one u))
either_uneven false u = refl

pub run_blames : (r : Run) → Ran r → Named r.reply (model_row r.state r.calls (length r.answers)) (length_faults r.state r.calls)
unfolding model_reply length_faults faults_from tests.every
run_blames r h =
    let a = eqb (length r.state) 408 in
    let b = eqb (length r.calls % 392) 0 in
    let row = run_row_is r h in
    worded r.reply _ _ (not a || not b) (run_is r h).0 (subst (λ (n : ℕ). n < 256) row (byte r.reply)) (λ e. ((run_row_lem r h).second.0 (row ∙ e)).1)
    (either_uneven a b ∙ ap not (sym (complete ((a, (1, 7)) ∷ (b, (2, 7)) ∷ []))))

pub filter_blames : (r : FilterRun) → Filtered r → Named r.reply (run_row r.window r.pairs (length r.output)) (pairs_faults r.pairs)
unfolding run_reply pairs_faults faults_from tests.every
filter_blames r h =
    let a = eqb (length r.pairs % 16) 0 in
    let row = filter_row_is r h in
    worded r.reply _ _ (not a) (filter_is r h).0 (subst (λ (n : ℕ). n < 256) row (byte r.reply)) (λ e. (filter_row r h).first.0 (row ∙ e))
    (ap not (sym (complete ((a, (2, 7)) ∷ []) ∙ and_one a)))

pub slope_blames : (r : SlopeRun) → Raised r → Named r.reply (slope_row r.rounds r.window (length r.output)) (window_faults r.window)
unfolding slope_reply window_faults faults_from tests.every
slope_blames r h =
    let a = bytes_ok r.window in
    let row = slope_row_is r h in
    worded r.reply _ _ (not a) (slope_is r h).0 (subst (λ (n : ℕ). n < 256) row (byte r.reply)) (λ e. ((slope_row_lem r h).second.0 (row ∙ e)).1)
    (ap not (sym (complete ((a, (2, 0)) ∷ []) ∙ and_one a)))
