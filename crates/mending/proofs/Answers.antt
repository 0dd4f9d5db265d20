-- Run after run, as the program's loop has it, over plain variables. Assumes nothing.
use Prim.Native.Nat.{ℕ, ◌+◌, ◌≤◌}
use mathlib.Core.Bool.{Bool, true, false, cond}
use mathlib.Core.List.{List, [], ◌∷◌}
use mathlib.Core.Path.{◌≡◌, refl, sym, ap, ◌∙◌}
use native.Mathlib.Omega.{arith}
use lib.Dec.{leb}
use lib.ListN.{length, drop, length-append, drop_of_length-le}
use borrow.Author.Tests.{leb-true}
use Rattle.state.proofs.Rows.{and_left, and_right}
use Rattle.trace.specs.Stream.{lines_from, rest_from}
use Rattle.trace.proofs.Ran.{run_kept}
use Rattle.trace.proofs.Whole.{none_rest}
use Rattle.mending.specs.declared.mend.Mend.{Mend}
use Rattle.mending.specs.declared.mend.Sorted.{Sorted}
use Rattle.mending.specs.declared.sift.Sifted.{Sifted}
use Rattle.mending.specs.Mend.{last_line}
use Rattle.mending.specs.Sorted.{sorted, kept_text, list_text}
use Rattle.mending.specs.Sift.{Sift, sifting, sifted, has_room, sift_of, Sifts}
use Rattle.mending.specs.Pieces.{mend_after}
use Rattle.mending.proofs.Lines.{kept_text_few, list_text_few}
use Rattle.mending.proofs.Runs.{run_on, stops}

-- ---- it writes within the room
fits_kept : (room places : ℕ) (x : Sift) (l : List ℕ) → has_room room places x ≡ true → length (sifted x l).kept ≤ room
unfolding sifted has_room
fits_kept room places x l e =
    let y = sorted x.mend l in
    let h = leb-true (length x.kept + 4096) room (and_left (leb (length x.kept + 4096) room) (leb (length x.list + 43) places) e) in
    omega (arith, h, length-append x.kept (kept_text y l), kept_text_few x.mend l y refl)

fits_list : (room places : ℕ) (x : Sift) (l : List ℕ) → has_room room places x ≡ true → length (sifted x l).list ≤ places
unfolding sifted has_room
fits_list room places x l e =
    let y = sorted x.mend l in
    let h = leb-true (length x.list + 43) places (and_right (leb (length x.kept + 4096) room) (leb (length x.list + 43) places) e) in
    omega (arith, h, length-append x.list (list_text y), list_text_few y)

sift_fits : (room places : ℕ) (ls : List (List ℕ)) (x : Sift) → length x.kept ≤ room → length x.list ≤ places → (length (sift_of room places ls x).kept ≤ room) × (length (sift_of room places ls x).list ≤ places)
unfolding sift_of
sift_fits room places [] x h k = (h, k)
sift_fits room places (l ∷ ls) x h k = go (has_room room places x) refl (λ a b. sift_fits room places ls (sifted x l) a b)
  where
    next : Sift
    next = sift_of room places ls (sifted x l)

    go : (t : Bool) → has_room room places x ≡ t → (length (sifted x l).kept ≤ room → length (sifted x l).list ≤ places → (length next.kept ≤ room) × (length next.list ≤ places))
        → (length (cond t next x).kept ≤ room) × (length (cond t next x).list ≤ places)
    go true e again = again (fits_kept room places x l e) (fits_list room places x l e)
    go false e again = (h, k)

-- ---- one run of the lines of s from an index on, as its contract has it
module _ (m : Mend) (s : List ℕ) (at : ℕ) (r : Sifted) (out out' list list' : List ℕ)
    (h : Sifts (sift_of (length out) (length list) (lines_from [] (drop at s)) (sifting m at)) r out out' list list') where
  pub run_kept_fits : r.kept ≤ length out
  run_kept_fits = let f = sift_fits (length out) (length list) (lines_from [] (drop at s)) (sifting m at) (omega arith) (omega arith) in let k = h.kept in omega (arith, f.0, k)

  pub run_listed_fits : r.listed ≤ length list
  run_listed_fits = let f = sift_fits (length out) (length list) (lines_from [] (drop at s)) (sifting m at) (omega arith) (omega arith) in let k = h.listed in omega (arith, f.1, k)

  pub run_out_same : length out' ≡ length out
  run_out_same = run_kept out out' (sift_of (length out) (length list) (lines_from [] (drop at s)) (sifting m at)).kept h.out_is

  pub run_list_same : length list' ≡ length list
  run_list_same = run_kept list list' (sift_of (length out) (length list) (lines_from [] (drop at s)) (sifting m at)).list h.list_is

-- ---- what is left gives the same as all
pub record Going (m₀ : Mend) (s : List ℕ) (m : Mend) (at : ℕ) : Type 0 where
  pub mend : mend_after m₀ (lines_from [] s) ≡ mend_after m (lines_from [] (drop at s))
  pub rest : rest_from [] s ≡ rest_from [] (drop at s)

-- all lines are sifted
abbrev pub Gone : (m₀ : Mend) (s : List ℕ) (m : Mend) (at : ℕ) → Type 0
Gone m₀ s m at = (m ≡ mend_after m₀ (lines_from [] s)) × (drop at s ≡ rest_from [] s)

pub going_none : (m : Mend) (s : List ℕ) → Going m s m 0
going_none m s = record { mend = refl; rest = refl }

gone : (m₀ : Mend) (s : List ℕ) (m : Mend) (at : ℕ) → Going m₀ s m at → lines_from [] (drop at s) ≡ [] → Gone m₀ s m at
unfolding mend_after
gone m₀ s m at g e = (sym (g.mend ∙ ap (mend_after m) e), sym (g.rest ∙ none_rest [] (drop at s) e))

pub gone_past : (m₀ : Mend) (s : List ℕ) (m : Mend) (at : ℕ) → Going m₀ s m at → length s ≤ at → Gone m₀ s m at
unfolding lines_from
gone_past m₀ s m at g h = gone m₀ s m at g (ap (lines_from []) (drop_of_length-le s h))

module _ (m₀ : Mend) (s : List ℕ) (m : Mend) (at : ℕ) (r : Sifted) (out out' list list' : List ℕ)
    (h : Sifts (sift_of (length out) (length list) (lines_from [] (drop at s)) (sifting m at)) r out out' list list') (g : Going m₀ s m at) where
  pub going_more : Going m₀ s r.mend r.at
  going_more =
      let on = run_on (length out) (length list) s m at in
      record {
        mend = g.mend ∙ on.mend ∙ sym (λ i. mend_after (h.mend i) (lines_from [] (drop (h.at i) s)));
        rest = g.rest ∙ on.rest ∙ sym (ap (λ (n : ℕ). rest_from [] (drop n s)) h.at);
      }

  pub gone_over : 4096 ≤ length out → 43 ≤ length list → r.at ≤ at → Gone m₀ s m at
  gone_over a b q = gone m₀ s m at g (stops (length out) (length list) s m at (lines_from [] (drop at s)) a b refl (let e = h.at in omega (arith, e, q)))

-- ---- the last line
pub last_none : (m : Mend) (s : List ℕ) → length s ≡ 0 → m ≡ mend_after m (last_line s)
unfolding mend_after
last_none m [] h = refl
last_none m (b ∷ s) h = absurd (omega (arith, h))

pub last_some : (m : Mend) (s : List ℕ) (x : Sorted) → (length s ≡ 0 → ⊥) → x ≡ sorted m s → x.mend ≡ mend_after m (last_line s)
unfolding mend_after
last_some m [] x h e = absurd (h refl)
last_some m (b ∷ s) x h e = ap (λ (y : Sorted). y.mend) e
