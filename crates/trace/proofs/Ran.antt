-- What `run` answers, over any lines. Assumes nothing.
use Prim.Native.Nat.{ℕ, suc, ◌+◌, ◌≤◌, ◌<◌}
use mathlib.Core.Bool.{Bool, true, false, cond}
use mathlib.Core.List.{List, [], ◌∷◌, ◌++◌, append_assoc}
use mathlib.Core.Path.{◌≡◌, refl, sym, ap, ◌∙◌, subst}
use native.Mathlib.Omega.{arith}
use lib.Dec.{leb}
use lib.ListN.{length, drop}
use lib.Seq.{sets, length-sets, drop-drop, length-take-le}
use borrow.Author.Tests.{leb-true, leb-false}
use Rattle.rows.specs.Row.{row_text}
use Rattle.rows.proofs.Rows.{row_few}
use Rattle.trace.specs.declared.replay.Replay.{Replay}
use Rattle.trace.specs.declared.stream.Ran.{Ran}
use Rattle.trace.specs.Replay.{stepped}
use Rattle.trace.specs.Stream.{lines_from, rest_from, after, rows_of, ran_of, ran_text}
use Rattle.trace.proofs.Streams.{to_lf, lf_le, lines_first, lines_none, rest_first}

-- it writes within the room
pub ran_fits : (r : Replay) (ls : List (List ℕ)) (at written room : ℕ) → written ≤ room → (ran_of r ls at written room).written ≤ room
unfolding ran_of
ran_fits r [] at written room h = h
ran_fits r (l ∷ ls) at written room h =
    go (leb (written + 148) room) refl (λ k. ran_fits (stepped r l).replay ls (at + length l) (written + length (row_text (stepped r l).row)) room k)
  where
    next : Ran
    next = ran_of (stepped r l).replay ls (at + length l) (written + length (row_text (stepped r l).row)) room

    go : (t : Bool) → leb (written + 148) room ≡ t → (written + length (row_text (stepped r l).row) ≤ room → next.written ≤ room) → (cond t next (record { replay = r; at = at; written = written })).written ≤ room
    go true e again = again (omega (arith, leb-true (written + 148) room e, row_few (stepped r l).row))
    go false e again = h

pub run_fits : (x : Ran) (r : Replay) (ls : List (List ℕ)) (at room : ℕ) → x ≡ ran_of r ls at 0 room → x.written ≤ room
run_fits x r ls at room e = subst (λ (y : Ran). y.written ≤ room) (sym e) (ran_fits r ls at 0 room (omega arith))

pub run_kept : (out out' t : List ℕ) → out' ≡ sets out 0 t → length out' ≡ length out
run_kept out out' t e = ap length e ∙ length-sets out 0 t

-- ---- the lines that it leaves
abbrev tail : List (List ℕ) → List (List ℕ)
tail [] = []
tail (l ∷ ls) = ls

abbrev first : List (List ℕ) → List ℕ
first [] = []
first (l ∷ ls) = l

-- the text after its first line
pub after_first : (t l : List ℕ) (ls : List (List ℕ)) → lines_from [] t ≡ l ∷ ls → (lines_from [] (drop (length l) t) ≡ ls) × (rest_from [] t ≡ rest_from [] (drop (length l) t)) × (0 < length l)
after_first t l ls e = go (leb (length t) (length (to_lf t))) refl
  where
    none : length t ≤ length (to_lf t) → ⊥
    none h = nil (sym (lines_none [] t (omega (arith, h, lf_le t))) ∙ e)
      where
        nil : {x : List ℕ} {y : List (List ℕ)} → [] ≡ x ∷ y → ⊥
        nil q = absurd (let z : ◌≡◌ {A = ℕ} 0 1 = ap small q in omega (arith, z))
          where
            small : List (List ℕ) → ℕ
            small [] = 0
            small (a ∷ b) = 1

    go : (q : Bool) → leb (length t) (length (to_lf t)) ≡ q → (lines_from [] (drop (length l) t) ≡ ls) × (rest_from [] t ≡ rest_from [] (drop (length l) t)) × (0 < length l)
    go true q = absurd (none (leb-true (length t) (length (to_lf t)) q))
    go false q =
        let h = leb-false (length t) (length (to_lf t)) q in
        let split = sym (lines_first [] t h) ∙ e in
        let n : length l ≡ suc (length (to_lf t)) = ap length (sym (ap first split)) ∙ length-take-le (suc (length (to_lf t))) t (omega (arith, h)) in
        (ap (λ (k : ℕ). lines_from [] (drop k t)) n ∙ ap tail split, rest_first [] t h ∙ ap (λ (k : ℕ). rest_from [] (drop k t)) (sym n), omega (arith, n))

pub ran_up : (r : Replay) (ls : List (List ℕ)) (at written room : ℕ) → at ≤ (ran_of r ls at written room).at
unfolding ran_of
ran_up r [] at written room = omega arith
ran_up r (l ∷ ls) at written room = go (leb (written + 148) room) (ran_up (stepped r l).replay ls (at + length l) (written + length (row_text (stepped r l).row)) room)
  where
    next : Ran
    next = ran_of (stepped r l).replay ls (at + length l) (written + length (row_text (stepped r l).row)) room

    go : (t : Bool) → at + length l ≤ next.at → at ≤ (cond t next (record { replay = r; at = at; written = written })).at
    go true h = omega (arith, h)
    go false h = omega arith

-- what it has answered and what is left are what there was
pub record RanOn (s : List ℕ) (r : Replay) (ls : List (List ℕ)) (at written room : ℕ) (x : Ran) (text : List ℕ) : Type 0 where
  pub rows : rows_of r ls ≡ text ++ rows_of x.replay (lines_from [] (drop x.at s))
  pub replay : after r ls ≡ after x.replay (lines_from [] (drop x.at s))
  pub rest : rest_from [] (drop at s) ≡ rest_from [] (drop x.at s)
  pub stops : x.at ≤ at → written + 148 ≤ room → ls ≡ []

stays : (s : List ℕ) (r : Replay) (ls : List (List ℕ)) (at written room : ℕ) → lines_from [] (drop at s) ≡ ls → (written + 148 ≤ room → ls ≡ []) → RanOn s r ls at written room (record { replay = r; at = at; written = written }) []
stays s r ls at written room e h = record { rows = ap (rows_of r) (sym e); replay = ap (after r) (sym e); rest = refl; stops = λ _ k. h k }

pub ran_on : (s : List ℕ) (room : ℕ) (ls : List (List ℕ)) (r : Replay) (at written : ℕ) → lines_from [] (drop at s) ≡ ls → RanOn s r ls at written room (ran_of r ls at written room) (ran_text r ls written room)
unfolding ran_of ran_text rows_of after
ran_on s room [] r at written e = stays s r [] at written room e (λ k. refl)
ran_on s room (l ∷ ls) r at written e =
    let f = after_first (drop at s) l ls e in
    let z : drop (length l) (drop at s) ≡ drop (at + length l) s = drop-drop (length l) at s in
    let here : lines_from [] (drop (at + length l) s) ≡ ls = ap (lines_from []) (sym z) ∙ f.0 in
    go (leb (written + 148) room) refl f.2 (f.1 ∙ ap (rest_from []) z) (ran_on s room ls (stepped r l).replay (at + length l) (written + length (row_text (stepped r l).row)) here) (ran_up (stepped r l).replay ls (at + length l) (written + length (row_text (stepped r l).row)) room)
  where
    next : Ran
    next = ran_of (stepped r l).replay ls (at + length l) (written + length (row_text (stepped r l).row)) room

    text : List ℕ
    text = ran_text (stepped r l).replay ls (written + length (row_text (stepped r l).row)) room

    go : (t : Bool) → leb (written + 148) room ≡ t → 0 < length l → rest_from [] (drop at s) ≡ rest_from [] (drop (at + length l) s)
        → RanOn s (stepped r l).replay ls (at + length l) (written + length (row_text (stepped r l).row)) room next text → at + length l ≤ next.at
        → RanOn s r (l ∷ ls) at written room (cond t next (record { replay = r; at = at; written = written })) (cond t (row_text (stepped r l).row ++ text) [])
    go true q some rest on up =
        record {
          rows = ap (λ (k : List ℕ). row_text (stepped r l).row ++ k) on.rows ∙ sym (append_assoc (row_text (stepped r l).row) text _);
          replay = on.replay;
          rest = rest ∙ on.rest;
          stops = λ h k. absurd (omega (arith, h, up, some));
        }
    go false q some rest on up = stays s r (l ∷ ls) at written room e (λ k. absurd (omega (arith, k, leb-false (written + 148) room q)))
