-- One turn of each loop of the filter run, over plain variables: what is still to be done leads to the same end.
-- Assumes nothing.
use Rattle.std.specs.Prelude.{Option, Some, Result, Ok, Err, is_err}
use Prim.Native.Nat.{ℕ, suc, ◌+◌, ◌-◌, ◌*◌, ◌≤◌, ◌<◌}
use Rattle.filters.specs.declared.windowed_filter.Estimates.{Estimates}
use mathlib.Core.Bool.{Bool, true, false, cond, not, ◌||◌, true≢false}
use mathlib.Core.List.{List, ◌++◌}
use mathlib.Core.Path.{◌≡◌, refl, sym, ap, ◌∙◌}
use native.Mathlib.Omega.{arith}
use lib.Dec.{eqb}
use lib.ListN.{length}
use lib.Seq.{sets}
use borrow.Author.Tests.{lt-ltb, le-ltb, ne_eqb}
use Rattle.units.specs.Reply.{row_of, number}
use Rattle.units.specs.declared.refusal.Refusal.{Refusal}
use Rattle.units.proofs.refusal.Number.{no_row}
use Rattle.filters.specs.declared.windowed_filter.Sample.{Sample}
use Rattle.filters.specs.declared.windowed_filter.Stepped.{Stepped}
use Rattle.filters.specs.declared.windowed_filter.WindowedFilter.{WindowedFilter}
use Rattle.filters.specs.Reason.{reason_of, windowed_reason}
use Rattle.filters.specs.WindowedFilter.{updated, is_after, windowed_number, windowed_update}
use Rattle.words.specs.Words.{word_at, all_bytes}
use Rattle.words.proofs.Stores.{sets-append}
use Rattle.words.proofs.Laws.{all_bytes_append, length_all_bytes}
use Rattle.pairs.specs.Pairs.{after_pair, refuses, samples, pair_words, run_words}
use Rattle.pairs.specs.Inner.{times_fall, pair_at, stepped_words}

-- a call is refused exactly where its reply has a number
pub is_err_number : {A : Type 0} (x : Result A Refusal) → is_err x ≡ not (eqb (number x) 0)
is_err_number (Ok a) = refl
is_err_number (Err r) = rw (ne_eqb (row_of r) 0 (no_row r))

-- a pair is not refused, and none after it: the filter's times are not later
unrefused : (after later : Bool) → (not (eqb (cond after 3 0) 0) || later) ≡ false → (after ≡ false) × (later ≡ false)
unrefused true later e = absurd (true≢false e)
unrefused false later e = (refl, e)

-- a pair that is not refused, by what the steps make of it
abbrev pub filter : ℕ → Option Estimates → WindowedFilter
filter w h = record { window = w; held = h }

abbrev stepped : List ℕ → ℕ → Option Estimates → ℕ → Stepped
stepped src w h at = record { estimates = updated h (pair_at src at) w; reason = reason_of h (pair_at src at) w }

abbrev held_after : List ℕ → ℕ → Option Estimates → ℕ → Option Estimates
held_after src w h at = Some (updated h (pair_at src at) w)

-- what a function that makes the steps has written
pub stepped_words_lem :
    (src : List ℕ) (w : ℕ) (h : Option Estimates) (at : ℕ) (made : Stepped) (pair : Sample) → pair ≡ pair_at src at → made.estimates ≡ updated h pair w →
    made.reason ≡ reason_of h pair w → stepped_words made ≡ stepped_words (stepped src w h at)
unfolding stepped_words
stepped_words_lem src w h at made pair is e r = rw (e, r, is)

module _ (src : List ℕ) (w : ℕ) (h : Option Estimates) (at n : ℕ) where
  tests : refuses (filter w h) src at (suc n) ≡ false → (is_after h (word_at src at) ≡ false) × (refuses (after_pair (filter w h) src at) src (at + 16) n ≡ false)
  unfolding refuses windowed_number
  tests e = unrefused (is_after h (word_at src at)) (refuses (after_pair (filter w h) src at) src (at + 16) n) e

  -- the filter after it
  after_pair_lem : refuses (filter w h) src at (suc n) ≡ false → after_pair (filter w h) src at ≡ (filter w (held_after src w h at))
  unfolding after_pair windowed_update
  after_pair_lem e = rw (tests e).0

  -- no later pair is refused
  none_later : refuses (filter w h) src at (suc n) ≡ false → refuses (filter w (held_after src w h at)) src (at + 16) n ≡ false
  none_later e = rw (after_pair_lem e) at (tests e).1

  -- what is written for it
  pair_words_lem : refuses (filter w h) src at (suc n) ≡ false → pair_words (filter w h) src at ≡ stepped_words (stepped src w h at)
  unfolding pair_words samples windowed_reason stepped_words
  pair_words_lem e = rw (after_pair_lem e, (tests e).0)

  -- and then for the later ones
  run_words_lem : refuses (filter w h) src at (suc n) ≡ false → run_words (filter w h) src at (suc n) ≡ stepped_words (stepped src w h at) ++ run_words (filter w (held_after src w h at)) src (at + 16) n
  unfolding run_words
  run_words_lem e = rw (after_pair_lem e, pair_words_lem e)

  -- in bytes
  write_pair :
      (out : List ℕ) (to : ℕ) {end : List ℕ} → refuses (filter w h) src at (suc n) ≡ false → sets out to (all_bytes (run_words (filter w h) src at (suc n))) ≡ end →
      sets (sets out to (all_bytes (stepped_words (stepped src w h at)))) (to + 32) (all_bytes (run_words (filter w (held_after src w h at)) src (at + 16) n)) ≡ end
  unfolding stepped_words
  write_pair out to e f =
      let four = all_bytes (stepped_words (stepped src w h at)) in
      let more = run_words (filter w (held_after src w h at)) src (at + 16) n in
      let step : to + 32 ≡ to + length four = rw (length_all_bytes (stepped_words (stepped src w h at))) in
      rw step (sets-append out to four (all_bytes more) ∙ ap (sets out to) (sym (all_bytes_append (stepped_words (stepped src w h at)) more)) ∙ rw (run_words_lem e) at f)

pub length_stepped : (s : Stepped) → length (stepped_words s) ≡ 4
unfolding stepped_words
length_stepped s = refl

-- where no pair is left
module _ (src : List ℕ) (i count : ℕ) (h : count ≤ i) where
  none_left : count - i ≡ 0
  none_left = omega arith

  pub falls_end : (last : ℕ) → times_fall last src (16 * i) (count - i) ≡ false
  unfolding times_fall
  falls_end last = rw none_left

  pub refused_end : (f : WindowedFilter) → refuses f src (16 * i) (count - i) ≡ false
  unfolding refuses
  refused_end f = rw none_left

  pub written_end : (f : WindowedFilter) (out : List ℕ) → sets out (32 * i) (all_bytes (run_words f src (16 * i) (count - i))) ≡ out
  unfolding run_words all_bytes
  written_end f out = rw none_left

module _ (src : List ℕ) (i count : ℕ) (h : i < count) where
  left : count - i ≡ suc (count - (i + 1))
  left = omega arith

  next : 16 * (i + 1) ≡ 16 * i + 16
  next = omega arith

  -- a time that falls
  pub falls_now : (last : ℕ) → word_at src (16 * i) < last → times_fall last src (16 * i) (count - i) ≡ true
  unfolding times_fall
  falls_now last t = rw (left, lt-ltb (word_at src (16 * i)) last t)

  -- a time that does not
  pub falls_later :
      (last : ℕ) → last ≤ word_at src (16 * i) →
      times_fall last src (16 * i) (count - i) ≡ times_fall (word_at src (16 * i)) src (16 * (i + 1)) (count - (i + 1))
  unfolding times_fall
  falls_later last t = rw (left, le-ltb (word_at src (16 * i)) last t, next)

  module _ (f : WindowedFilter) where
    -- a pair that is refused
    pub refused_now : not (eqb (windowed_number f (word_at src (16 * i))) 0) ≡ true → refuses f src (16 * i) (count - i) ≡ true
    unfolding refuses
    refused_now d = rw (left, d)

    -- a pair that is not
    pub refused_later :
        not (eqb (windowed_number f (word_at src (16 * i))) 0) ≡ false →
        refuses f src (16 * i) (count - i) ≡ refuses (after_pair f src (16 * i)) src (16 * (i + 1)) (count - (i + 1))
    unfolding refuses
    refused_later d = rw (left, d, next)

  -- a pair is written: no later one is refused, and what is left to write makes the same end
  module _ (w : ℕ) (h' : Option Estimates) (fine : refuses (filter w h') src (16 * i) (count - i) ≡ false) where
    pub taken_later : refuses (filter w h') src (16 * i) (count - i) ≡ refuses (filter w (held_after src w h' (16 * i))) src (16 * (i + 1)) (count - (i + 1))
    taken_later = fine ∙ sym (rw next (none_later src w h' (16 * i) (count - (i + 1)) (rw left at fine)))

    pub written :
        (out : List ℕ) →
        sets out (32 * i) (all_bytes (run_words (filter w h') src (16 * i) (count - i))) ≡ sets (sets out (32 * i) (all_bytes (stepped_words (stepped src w h' (16 * i))))) (32 * (i + 1)) (all_bytes (run_words (filter w (held_after src w h' (16 * i))) src (16 * (i + 1)) (count - (i + 1))))
    written out =
        let to : 32 * (i + 1) ≡ 32 * i + 32 = omega arith in
        rw (left, next, to) (sym (write_pair src w h' (16 * i) (count - (i + 1)) out (32 * i) (rw left at fine) refl))
