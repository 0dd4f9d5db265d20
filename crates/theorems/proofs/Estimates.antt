-- What the exported filter run writes for a pair are samples of which the promises hold (crates/worth/specs/Worth.antt), of what the pairs up to it fed. Assumes nothing.
use Rattle.std.specs.Prelude.{Option, None, Some}
use Prim.Native.Nat.{ℕ, zero, suc, ◌+◌, ◌-◌, ◌*◌, ◌^◌, ◌≤◌, ◌<◌}
use Rattle.filters.specs.declared.windowed_filter.Estimates.{Estimates}
use mathlib.Core.Bool.{Bool, true, false, not, true≢false}
use mathlib.Core.List.{List, [], ◌∷◌}
use mathlib.Core.Path.{◌≡◌, refl, sym, ap, subst, ◌∙◌}
use native.Mathlib.Nat.{zero-add}
use native.Mathlib.Omega.{arith}
use lib.Dec.{eqb}
use lib.ListN.{length, get_or}
use lib.Seq.{sets}
use borrow.Author.Tests.{eq-eqb, ltb-false, not-false}
use Rattle.units.specs.Reply.{row_in}
use Rattle.filters.specs.declared.windowed_filter.Reason.{Reason}
use Rattle.filters.specs.declared.windowed_filter.Reason.TheVariants.{AllReplaced, SecondRaised, ThirdRaised, PromotedOnce, PromotedTwice, QuarterRefresh, HalfRefresh, Unchanged}
use Rattle.filters.specs.declared.windowed_filter.Sample.{Sample}
use Rattle.filters.specs.declared.windowed_filter.WindowedFilter.{WindowedFilter}
use Rattle.filters.specs.Reason.{reason_number, windowed_reason}
use Rattle.filters.specs.WindowedFilter.{sample_at, best_of, second_of, third_of, windowed_new, windowed_number}
use Rattle.state.proofs.Rows.{or_left, or_right}
use Rattle.words.specs.Words.{word_at, all_bytes}
use Rattle.words.proofs.Laws.{get_or_words_at, words_back}
use Rattle.pairs.specs.Pairs.{pairs, after_pair, refuses, sample_in, samples, pair_words, run_words, run_row}
use Rattle.guovssalu.specs.Reply.{answered}
use Rattle.guovssalu.specs.FilterRun.{run_out}
use Rattle.worth.specs.Worth.{Step, update, Ran, fed_by, step, go_on, NoneAbove, Promised, Holds, Shows}
use Rattle.worth.proofs.Worth.{step_holds, stands_under, every_run}
use Rattle.theorems.specs.Runs.{FilterRun, Filtered, AreBytes, updates_from, PairShows}
use Rattle.theorems.proofs.Form.{Words, none, also, at_words}
use Rattle.theorems.proofs.Exported.{filter_is, filter_done, filter_row}
use Rattle.theorems.proofs.Left.{number_small}

-- ---- samples that are written, by what is held
shown : (w : ℕ) (new : Sample) (fed : List Sample) (h : Option Estimates) → Promised w (new ∷ fed) h → Shows w (new ∷ fed) h (sample_in (best_of h)) (sample_in (second_of h)) (sample_in (third_of h))
shown w new fed None p = absurd (true≢false (ap is_some p))
  where
    is_some : List Sample → Bool
    is_some [] = false
    is_some (x ∷ l) = true
shown w new fed (Some e) p = (e, refl, p, refl, refl, refl)

small : (n : ℕ) → n ≤ 2 ^ 64 - 1 → n < 2 ^ 64
small n h = omega (arith, h)

shown_small : (w : ℕ) (fed : List Sample) (h : Option Estimates) (a b c : ℕ) → NoneAbove fed (2 ^ 64 - 1) → Shows w fed h a b c → (a < 2 ^ 64) × (b < 2 ^ 64) × (c < 2 ^ 64)
shown_small w fed h a b c all s =
    let p = s.2 in (
      small a (subst (λ (n : ℕ). n ≤ 2 ^ 64 - 1) (sym s.3) (stands_under (2 ^ 64 - 1) fed _ all p.best)),
      small b (subst (λ (n : ℕ). n ≤ 2 ^ 64 - 1) (sym s.4) (stands_under (2 ^ 64 - 1) fed _ all p.second)),
      small c (subst (λ (n : ℕ). n ≤ 2 ^ 64 - 1) (sym s.5) (stands_under (2 ^ 64 - 1) fed _ all p.third)),
    )

reason_small : (r : Reason) → reason_number r < 2 ^ 64
reason_small AllReplaced = omega arith
reason_small SecondRaised = omega arith
reason_small ThirdRaised = omega arith
reason_small PromotedOnce = omega arith
reason_small PromotedTwice = omega arith
reason_small QuarterRefresh = omega arith
reason_small HalfRefresh = omega arith
reason_small Unchanged = omega arith

-- ---- pair by pair
module _ (w : ℕ) (src : List ℕ) (bytes : AreBytes src) where
  abbrev pair : ℕ → Sample
  pair at = sample_at (word_at src (at + 8)) (word_at src at)

  abbrev ask : ℕ → Step
  ask at = update (word_at src (at + 8)) (word_at src at)

  -- a filter of which the promises hold, and no sample fed needs more than 64 bits
  record Good (f : WindowedFilter) (fed : List Sample) : Type 0 where
    holds : Holds w (record { filter = f; fed = fed })
    under : NoneAbove fed (2 ^ 64 - 1)

  -- a pair that is not refused is fed
  fed_next : (f : WindowedFilter) (fed : List Sample) (at n : ℕ) → refuses f src at (suc n) ≡ false → step (record { filter = f; fed = fed }) (ask at) ≡ record { filter = after_pair f src at; fed = pair at ∷ fed }
  unfolding refuses after_pair fed_by
  fed_next f fed at n h =
      let t = word_at src at in
      rw (not-false (eqb (windowed_number f t) 0) (or_left (not (eqb (windowed_number f t) 0)) (refuses (after_pair f src at) src (at + 16) n) h))

  next : (f : WindowedFilter) (fed : List Sample) (at n : ℕ) → Good f fed → refuses f src at (suc n) ≡ false → Good (after_pair f src at) (pair at ∷ fed)
  next f fed at n g h =
      record {
        holds = subst (Holds w) (fed_next f fed at n h) (step_holds w (record { filter = f; fed = fed }) (ask at) g.holds);
        under = (omega (arith, number_small 8 src (at + 8) bytes), g.under);
      }

  none_later : (f : WindowedFilter) (at n : ℕ) → refuses f src at (suc n) ≡ false → refuses (after_pair f src at) src (at + 16) n ≡ false
  unfolding refuses
  none_later f at n h = or_right (not (eqb (windowed_number f (word_at src at)) 0)) (refuses (after_pair f src at) src (at + 16) n) h

  -- the words of all pairs
  all_words : (f : WindowedFilter) (fed : List Sample) (at n : ℕ) → Good f fed → refuses f src at n ≡ false → Words (run_words f src at n)
  unfolding run_words pair_words samples
  all_words f fed at zero g h = none
  all_words f fed at (suc n) g h =
      let after = next f fed at n g h in
      let sizes = shown_small w (pair at ∷ fed) _ _ _ _ after.under (shown w (pair at) fed (after_pair f src at).held after.holds.promised) in
      also sizes.0 (also sizes.1 (also sizes.2 (also (reason_small (windowed_reason f (word_at src (at + 8)) (word_at src at)))
      (all_words (after_pair f src at) (pair at ∷ fed) (at + 16) n after (none_later f at n h)))))

  -- those of pair i, by the run of the pairs up to it
  abbrev Told : Ran → (count i : ℕ) (words : List ℕ) → Type 0
  Told q count i words = (length q.fed ≡ count) × Shows w q.fed q.filter.held (get_or words (4 * i) 0) (get_or words (4 * i + 1) 0) (get_or words (4 * i + 2) 0)

  told_next : (q : Ran) (count i a b c d : ℕ) (words : List ℕ) → Told q count i words → Told q count (suc i) (a ∷ b ∷ c ∷ d ∷ words)
  told_next q count i a b c d words p =
      let first : 4 * suc i ≡ suc (suc (suc (suc (4 * i)))) = omega arith in
      let second : 4 * suc i + 1 ≡ suc (suc (suc (suc (4 * i + 1)))) = omega arith in
      let third : 4 * suc i + 2 ≡ suc (suc (suc (suc (4 * i + 2)))) = omega arith in
      rw (second, third, first) p

  ran_next : (f : WindowedFilter) (fed : List Sample) (at n k : ℕ) → refuses f src at (suc n) ≡ false →
      go_on (record { filter = f; fed = fed }) (updates_from src at (suc k)) ≡ go_on (record { filter = after_pair f src at; fed = pair at ∷ fed }) (updates_from src (at + 16) k)
  unfolding updates_from
  ran_next f fed at n k h = ap (λ (q : Ran). go_on q (updates_from src (at + 16) k)) (fed_next f fed at n h)

  none_more : (f : WindowedFilter) (fed : List Sample) (at : ℕ) → go_on (record { filter = after_pair f src at; fed = pair at ∷ fed }) (updates_from src (at + 16) 0) ≡ record { filter = after_pair f src at; fed = pair at ∷ fed }
  unfolding updates_from
  none_more f fed at = refl

  first_told : (f : WindowedFilter) (fed : List Sample) (at n : ℕ) → Good (after_pair f src at) (pair at ∷ fed) → Told (record { filter = after_pair f src at; fed = pair at ∷ fed }) (length fed + 1) 0 (run_words f src at (suc n))
  unfolding run_words pair_words samples
  first_told f fed at n g = (omega arith, shown w (pair at) fed (after_pair f src at).held g.holds.promised)

  later_told : (q : Ran) (count i : ℕ) (f : WindowedFilter) (at n : ℕ) → Told q count i (run_words (after_pair f src at) src (at + 16) n) → Told q count (suc i) (run_words f src at (suc n))
  unfolding run_words pair_words samples
  later_told q count i f at n p = told_next q count i _ _ _ _ (run_words (after_pair f src at) src (at + 16) n) p

  pair_words_lem :
      (f : WindowedFilter) (fed : List Sample) (i at n : ℕ) → Good f fed → refuses f src at n ≡ false → i < n →
      Told (go_on (record { filter = f; fed = fed }) (updates_from src at (suc i))) (length fed + suc i) i (run_words f src at n)
  pair_words_lem f fed i at zero g h l = absurd (omega (arith, l))
  pair_words_lem f fed zero at (suc n) g h l =
      subst (λ (q : Ran). Told q (length fed + 1) 0 (run_words f src at (suc n))) (sym (ran_next f fed at n 0 h ∙ none_more f fed at)) (first_told f fed at n (next f fed at n g h))
  pair_words_lem f fed (suc i) at (suc n) g h l =
      let count : length fed + suc (suc i) ≡ suc (length fed) + suc i = omega arith in
      let rest = pair_words_lem (after_pair f src at) (pair at ∷ fed) i (at + 16) n (next f fed at n g h) (none_later f at n h) (omega (arith, l)) in
      subst (λ (q : Ran). Told q (length fed + suc (suc i)) (suc i) (run_words f src at (suc n))) (sym (ran_next f fed at n (suc i) h))
      (later_told (go_on (record { filter = after_pair f src at; fed = pair at ∷ fed }) (updates_from src (at + 16) (suc i))) (length fed + suc (suc i)) i f at n (rw count rest))

-- ---- a run that is done
length_run : (f : WindowedFilter) (src : List ℕ) (at n : ℕ) → length (run_words f src at n) ≡ 4 * n
unfolding run_words pair_words samples
length_run f src at zero = refl
length_run f src at (suc n) = omega (arith, length_run (after_pair f src at) src (at + 16) n)

module _ (r : FilterRun) (h : Filtered r) (bytes : AreBytes r.pairs) (done : r.reply ≡ 0) where
  abbrev words : List ℕ
  words = run_words (windowed_new r.window) r.pairs 0 (pairs r.pairs)

  empty : Good r.window r.pairs bytes (windowed_new r.window) []
  empty = record { holds = every_run.run r.window []; under = tt }

  unrefused : refuses (windowed_new r.window) r.pairs 0 (pairs r.pairs) ≡ false
  unrefused = ((filter_row r h).done.0 (ap (λ (n : ℕ). row_in n) done)).1

  room : 0 + 8 * length words ≤ length r.output
  room = omega (arith, length_run (windowed_new r.window) r.pairs 0 (pairs r.pairs), ltb-false (length r.output) (32 * pairs r.pairs) ((filter_row r h).done.0 (ap (λ (n : ℕ). row_in n) done)).2)

  written : r.written ≡ sets r.output 0 (all_bytes words)
  unfolding run_out answered
  written =
      let d = filter_is r h in
      d.1 ∙ rw (eq-eqb (run_row r.window r.pairs (length r.output)) 0 (filter_done r h done))

  word_is : (at j : ℕ) → at ≡ 0 + 8 * j → j < length words → word_at r.written at ≡ get_or words j 0
  word_is at j e l =
      ap (λ (s : List ℕ). word_at s at) written
      ∙ ap (word_at (sets r.output 0 (all_bytes words))) e
      ∙ sym (get_or_words_at (sets r.output 0 (all_bytes words)) 0 (length words) j l)
      ∙ ap (λ (s : List ℕ). get_or s j 0) (words_back r.output 0 words room (at_words words (all_words r.window r.pairs bytes (windowed_new r.window) [] 0 (pairs r.pairs) empty unrefused)))

  pub pair_shows : (i : ℕ) → i < pairs r.pairs → PairShows r i
  pair_shows i l =
      let n = pairs r.pairs in
      let long = length_run (windowed_new r.window) r.pairs 0 n in
      let more : i + 1 ≡ suc i = omega arith in
      let told = pair_words_lem r.window r.pairs bytes (windowed_new r.window) [] i 0 n empty unrefused l in
      rw (
        word_is (32 * i) (4 * i) (omega arith) (omega (arith, long, l)),
        word_is (32 * i + 8) (4 * i + 1) (omega arith) (omega (arith, long, l)),
        word_is (32 * i + 16) (4 * i + 2) (omega arith) (omega (arith, long, l)),
        more,
      ) (told.0 ∙ zero-add (suc i), told.1)
