-- The exported calls by their contracts: each replies and leaves what its definition says, and is refused by its rows. Assumes nothing.
use Prim.Native.Nat.{ℕ, ◌<◌}
use mathlib.Core.Bool.{Bool, true, false, not, ◌&&◌}
use mathlib.Core.List.{List, [], ◌∷◌, ◌++◌}
use mathlib.Core.Logic.{◌↔◌, inl, inr}
use mathlib.Core.Path.{◌≡◌, refl, sym, ap, subst, ◌∙◌}
use native.Mathlib.Omega.{arith}
use lib.Dec.{eqb}
use lib.ListN.{length}
use borrow.Author.Tests.{eq-eqb, ne_eqb, eqb-true}
use Rattle.units.specs.Reply.{row_in}
use Rattle.units.proofs.refusal.Number.{row_back}
use Rattle.state.specs.Faults.{named, replied}
use Rattle.state.specs.Refusals.{row_of, or_short}
use Rattle.state.proofs.Rows.{and_left, and_right}
use Rattle.guovssalu.specs.Reply.{answered}
use Rattle.pairs.specs.Pairs.{run_row}
use Rattle.guovssalu.specs.FilterRun.{run_reply, run_out}
use Rattle.guovssalu.specs.ModelRun.{model_row, model_reply, state_out, answers_out}
use Rattle.guovssalu.specs.Slope.{slope_row, slope_reply, slope_out}
use Rattle.theorems.specs.Runs.{Run, Ran, Each, FilterRun, Filtered, SlopeRun, Raised, OneOutcome, Conversions, FirstRow, RunRow, FilterRow, SlopeRow}

-- ---- the last of some runs
pub each_last : {A : Type 0} (P : A → Type 0) (runs : List A) (r : A) → Each P (runs ++ (r ∷ [])) → P r
each_last P [] r h = h.0
each_last P (q ∷ runs) r h = each_last P runs r h.1

-- ---- what is replied and left
-- a run by its contract, of either function
defined : (r : Run) {s c l a x y : List ℕ} {n : ℕ} → (n ≡ model_reply s c (length a)) × ((x ≡ state_out s c l a) × (y ≡ answers_out s c l a)) →
    (s ≡ r.state) × (c ≡ r.calls) × (l ≡ r.lists) × (a ≡ r.answers) × (n ≡ r.reply) × (x ≡ r.left) × (y ≡ r.written) →
    (r.reply ≡ model_reply r.state r.calls (length r.answers)) × (r.left ≡ state_out r.state r.calls r.lists r.answers) × (r.written ≡ answers_out r.state r.calls r.lists r.answers)
defined r c f = (
  sym f.4 ∙ c.0 ∙ (λ i. model_reply (f.0 i) (f.1 i) (length (f.3 i))),
  sym f.5 ∙ c.1.0 ∙ (λ i. state_out (f.0 i) (f.1 i) (f.2 i) (f.3 i)),
  sym f.6 ∙ c.1.1 ∙ (λ i. answers_out (f.0 i) (f.1 i) (f.2 i) (f.3 i)),
)

pub run_is : (r : Run) → Ran r →
    (r.reply ≡ model_reply r.state r.calls (length r.answers)) × (r.left ≡ state_out r.state r.calls r.lists r.answers) × (r.written ≡ answers_out r.state r.calls r.lists r.answers)
run_is r (inl h) = defined r h.4 h.5
run_is r (inr h) = defined r h.4 h.5

pub filter_is : (r : FilterRun) → Filtered r → (r.reply ≡ run_reply r.window r.pairs (length r.output)) × (r.written ≡ run_out r.window r.pairs r.output)
filter_is r h =
    let c = h.4 in
    let f = h.5 in (
      sym f.3 ∙ c.0 ∙ (λ i. run_reply (f.0 i) (f.1 i) (length (f.2 i))),
      sym f.4 ∙ c.1 ∙ (λ i. run_out (f.0 i) (f.1 i) (f.2 i)),
    )

pub slope_is : (r : SlopeRun) → Raised r → (r.reply ≡ slope_reply r.rounds r.window (length r.output)) × (r.written ≡ slope_out r.rounds r.window r.output)
slope_is r h =
    let c = h.4 in
    let f = h.5 in (
      sym f.3 ∙ c.0 ∙ (λ i. slope_reply (f.0 i) (f.1 i) (length (f.2 i))),
      sym f.4 ∙ c.1 ∙ (λ i. slope_out (f.0 i) (f.1 i) (f.2 i)),
    )

pub conversions : Conversions
conversions =
    record {
      u64_to_f32 = λ κ a n e c. c;
      u64_to_f64 = λ κ a n e c. c;
      f32_to_u64_lem = λ κ a n e c. c;
      f64_round_to_u64_lem = λ κ a n e c. c;
      scale = λ κ a n e c. c;
      bandwidth = λ κ a n e c. c;
      bytes = λ κ a n e c. c;
    }

pub one_outcome : OneOutcome
one_outcome =
    record {
      run = λ r q h k e.
          let a = run_is r h in
          let b = run_is q k in (
            a.0 ∙ (λ i. model_reply (e.0 i) (e.1 i) (length (e.3 i))) ∙ sym b.0,
            a.1 ∙ (λ i. state_out (e.0 i) (e.1 i) (e.2 i) (e.3 i)) ∙ sym b.1,
            a.2 ∙ (λ i. answers_out (e.0 i) (e.1 i) (e.2 i) (e.3 i)) ∙ sym b.2,
          );
      filter_run = λ r q h k e.
          let a = filter_is r h in
          let b = filter_is q k in
          (a.0 ∙ (λ i. run_reply (e.0 i) (e.1 i) (length (e.2 i))) ∙ sym b.0, a.1 ∙ (λ i. run_out (e.0 i) (e.1 i) (e.2 i)) ∙ sym b.1);
      raise_slope = λ r q h k e.
          let a = slope_is r h in
          let b = slope_is q k in
          (a.0 ∙ (λ i. slope_reply (e.0 i) (e.1 i) (length (e.2 i))) ∙ sym b.0, a.1 ∙ (λ i. slope_out (e.0 i) (e.1 i) (e.2 i)) ∙ sym b.1);
    }

-- ---- the row of a reply
pub below : (s a e l f short : Bool) → or_short (row_of s a e l f) short < 256
unfolding or_short row_of
below true a e l f short = omega arith
below false true e l f short = omega arith
below false false true l f short = omega arith
below false false false true f short = omega arith
below false false false false true short = omega arith
below false false false false false true = omega arith
below false false false false false false = omega arith

pub run_row_is : (r : Run) → Ran r → row_in r.reply ≡ model_row r.state r.calls (length r.answers)
unfolding model_row model_reply
run_row_is r h = ap (λ (n : ℕ). row_in n) (run_is r h).0 ∙ row_back _ _ (below _ _ false false false _)

pub filter_row_is : (r : FilterRun) → Filtered r → row_in r.reply ≡ run_row r.window r.pairs (length r.output)
unfolding run_row run_reply
filter_row_is r h = ap (λ (n : ℕ). row_in n) (filter_is r h).0 ∙ row_back _ _ (below false _ _ false false _)

pub slope_row_is : (r : SlopeRun) → Raised r → row_in r.reply ≡ slope_row r.rounds r.window (length r.output)
unfolding slope_row slope_reply
slope_row_is r h = ap (λ (n : ℕ). row_in n) (slope_is r h).0 ∙ row_back _ _ (below _ _ false false false _)

-- done is 0, and so is its row
pub run_done : (r : Run) → Ran r → r.reply ≡ 0 → model_row r.state r.calls (length r.answers) ≡ 0
run_done r h done = sym (run_row_is r h) ∙ ap (λ (n : ℕ). row_in n) done

pub filter_done : (r : FilterRun) → Filtered r → r.reply ≡ 0 → run_row r.window r.pairs (length r.output) ≡ 0
filter_done r h done = sym (filter_row_is r h) ∙ ap (λ (n : ℕ). row_in n) done

-- a row that is no 2 names nothing
pub plain_word : (row x : ℕ) → eqb row 2 ≡ false → replied row x ≡ row
unfolding named
plain_word row x h = rw h (omega arith)

-- and a row of 0 is a word of 0
pub done_word : (row x : ℕ) → row ≡ 0 → replied row x ≡ 0
unfolding named
done_word row x e = rw e

-- ---- refused, lent bytes are as they were
pub answered_refused : (row : ℕ) (answer out : List ℕ) → (row ≡ 0 → ⊥) → answered row answer out ≡ out
unfolding answered
answered_refused row answer out h = rw (ne_eqb row 0 h)

pub run_keeps : (r : Run) → Ran r → (r.reply ≡ 0 → ⊥) → (r.left ≡ r.state) × (r.written ≡ r.answers)
unfolding state_out answers_out model_reply
run_keeps r h refused =
    let d = run_is r h in
    let f : model_row r.state r.calls (length r.answers) ≡ 0 → ⊥ = λ e. refused (d.0 ∙ done_word _ _ e) in
    (d.1 ∙ answered_refused _ _ _ f, d.2 ∙ answered_refused _ _ _ f)

pub filter_keeps : (r : FilterRun) → Filtered r → (r.reply ≡ 0 → ⊥) → r.written ≡ r.output
unfolding run_out run_reply
filter_keeps r h refused = let d = filter_is r h in d.1 ∙ answered_refused _ _ _ (λ e. refused (d.0 ∙ done_word _ _ e))

pub slope_keeps : (r : SlopeRun) → Raised r → (r.reply ≡ 0 → ⊥) → r.written ≡ r.output
unfolding slope_out slope_reply
slope_keeps r h refused = let d = slope_is r h in d.1 ∙ answered_refused _ _ _ (λ e. refused (d.0 ∙ done_word _ _ e))

-- ---- the rows
holds : (n k : ℕ) (t : Bool) → eqb n k ≡ t → n ≡ k ↔ t ≡ true
holds n k t h = (λ e. sym h ∙ eq-eqb n k e, λ e. eqb-true n k (h ∙ e))

not_iff : (a : Bool) → not a ≡ true ↔ a ≡ false
not_iff true = (λ e. sym e, λ e. sym e)
not_iff false = (λ e. refl, λ e. refl)

and_iff : (a b : Bool) → (a && b) ≡ true ↔ (a ≡ true) × (b ≡ true)
and_iff a b = (λ e. (and_left a b e, and_right a b e), λ e. simp (e.0, e.1))

-- the first does not hold, and the second does; or both do not
second : (a b : Bool) → (not a && b) ≡ true ↔ (a ≡ false) × (b ≡ true)
second a b = (λ e. let h = (and_iff (not a) b).0 e in ((not_iff a).0 h.0, h.1), λ e. simp (e.0, e.1))

third : (a b c : Bool) → (not a && not b && c) ≡ true ↔ (a ≡ false) × (b ≡ false) × (c ≡ true)
third a b c = (
  λ e.
      let h = (and_iff (not a && not b) c).0 e in
      let g = (and_iff (not a) (not b)).0 h.0 in
      ((not_iff a).0 g.0, (not_iff b).0 g.1, h.1),
  λ e. simp (e.0, e.1, e.2),
)

fourth : (a b c : Bool) → (not a && not b && not c) ≡ true ↔ (a ≡ false) × (b ≡ false) × (c ≡ false)
fourth a b c = (λ e. let h = (third a b (not c)).0 e in (h.0, h.1, (not_iff c).0 h.2), λ e. simp (e.0, e.1, e.2))

both_ways : {A B C : Type 0} → A ↔ B → B ↔ C → A ↔ C
both_ways p q = (λ a. q.0 (p.0 a), λ c. p.1 (q.1 c))

-- a number that tells the four cases apart
abbrev Tells : (n one two : ℕ) → (a b c : Bool) → Type 0
Tells n one two a b c = (eqb n one ≡ a) × (eqb n two ≡ (not a && b)) × (eqb n 7 ≡ (not a && not b && c)) × (eqb n 0 ≡ (not a && not b && not c))

row : (n one two : ℕ) (a b c : Bool) → Tells n one two a b c → FirstRow n one a two b c
row n one two a b c h =
    record {
      first = holds n one a h.0;
      second = both_ways (holds n two (not a && b) h.1) (second a b);
      short = both_ways (holds n 7 (not a && not b && c) h.2) (third a b c);
      done = both_ways (holds n 0 (not a && not b && not c) h.3) (fourth a b c);
    }

-- rows 1, 2 and 7; rows 2, 3 and 7
stored : (a b c : Bool) → Tells (or_short (row_of a b false false false) c) 1 2 a b c
unfolding or_short row_of
stored true b c = (refl, refl, refl, refl)
stored false true c = (refl, refl, refl, refl)
stored false false true = (refl, refl, refl, refl)
stored false false false = (refl, refl, refl, refl)

given : (a b c : Bool) → Tells (or_short (row_of false a b false false) c) 2 3 a b c
unfolding or_short row_of
given true b c = (refl, refl, refl, refl)
given false true c = (refl, refl, refl, refl)
given false false true = (refl, refl, refl, refl)
given false false false = (refl, refl, refl, refl)

pub stored_row : (n : ℕ) (a b c : Bool) → n ≡ or_short (row_of a b false false false) c → FirstRow n 1 a 2 b c
stored_row n a b c e = row n 1 2 a b c (subst (λ (k : ℕ). Tells k 1 2 a b c) (sym e) (stored a b c))

given_row : (n : ℕ) (a b c : Bool) → n ≡ or_short (row_of false a b false false) c → FirstRow n 2 a 3 b c
given_row n a b c e = row n 2 3 a b c (subst (λ (k : ℕ). Tells k 2 3 a b c) (sym e) (given a b c))

pub run_row_lem : (r : Run) → Ran r → RunRow r
unfolding model_row
run_row_lem r h = stored_row (row_in r.reply) _ _ _ (run_row_is r h)

pub filter_row : (r : FilterRun) → Filtered r → FilterRow r
unfolding run_row
filter_row r h = given_row (row_in r.reply) _ _ _ (filter_row_is r h)

pub slope_row_lem : (r : SlopeRun) → Raised r → SlopeRow r
unfolding slope_row
slope_row_lem r h = stored_row (row_in r.reply) _ _ _ (slope_row_is r h)
