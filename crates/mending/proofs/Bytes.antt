-- A mended trace in bytes: its lines are those that are kept. Assumes nothing.
use Prim.Native.Nat.{ℕ, suc, ◌+◌, ◌-◌, ◌<◌}
use mathlib.Core.Bool.{Bool, true, false, cond, ◌&&◌}
use mathlib.Core.List.{List, [], ◌∷◌, ◌++◌, append_assoc, append-nil}
use mathlib.Core.Path.{◌≡◌, refl, sym, ap, ap₂, ◌∙◌}
use native.Mathlib.Omega.{arith}
use lib.Dec.{eqb, leb}
use lib.ListN.{length, take, drop, get_or, take-append-drop, drop_of_length-le}
use lib.Seq.{drop-cons}
use borrow.Author.Tests.{leb-true, eqb-true}
use Rattle.state.proofs.Rows.{and_left, and_right}
use Rattle.text.specs.Line.{refused, body_of, ended, line_of}
use Rattle.text.proofs.Numbers.{both_false}
use Rattle.rows.specs.Row.{row_text}
use Rattle.trace.specs.declared.replay.Replay.{Replay}
use Rattle.trace.specs.Placed.{placed_at}
use Rattle.trace.specs.Replay.{begin, stepped}
use Rattle.trace.specs.Stream.{lines_from, rest_from, after, rows_of}
use Rattle.trace.specs.Output.{input_header, last_row, rows_after}
use Rattle.trace.specs.Pieces.{joined}
use Rattle.trace.proofs.Pieces.{lines_append, rest_append}
use Rattle.trace.proofs.Whole.{none_rest}
use Rattle.mending.specs.Mend.{gives_six, kept_lines, listed_lines, last_line, all_lines, entries_text, mended_of, list_header, list_of}
use Rattle.mending.specs.Laws.{row_list, row_texts}
use Rattle.mending.proofs.Steps.{is_refused}
use Rattle.mending.proofs.Lines.{placed_refused}
use Rattle.mending.proofs.Kept.{six_is, kept_parts, sound, again}

-- ---- the lines of a text, one after the other, are the text
joined_append : (a b : List (List ℕ)) → joined (a ++ b) ≡ joined a ++ joined b
unfolding joined
joined_append [] b = refl
joined_append (l ∷ a) b = ap (λ (t : List ℕ). l ++ t) (joined_append a b) ∙ sym (append_assoc l (joined a) (joined b))

joined_lines : (p t : List ℕ) → joined (lines_from p t) ++ rest_from p t ≡ p ++ t
unfolding joined lines_from rest_from
joined_lines p [] = sym (append-nil p)
joined_lines p (b ∷ t) = go (eqb b 10) (joined_lines [] t) (joined_lines (p ++ (b ∷ [])) t)
  where
    go : (q : Bool) → joined (lines_from [] t) ++ rest_from [] t ≡ t → joined (lines_from (p ++ (b ∷ [])) t) ++ rest_from (p ++ (b ∷ [])) t ≡ (p ++ (b ∷ [])) ++ t
        → joined (cond q ((p ++ (b ∷ [])) ∷ lines_from [] t) (lines_from (p ++ (b ∷ [])) t)) ++ cond q (rest_from [] t) (rest_from (p ++ (b ∷ [])) t) ≡ p ++ (b ∷ t)
    go true h k = append_assoc (p ++ (b ∷ [])) (joined (lines_from [] t)) (rest_from [] t) ∙ ap (λ (u : List ℕ). (p ++ (b ∷ [])) ++ u) h ∙ append_assoc p (b ∷ []) t
    go false h k = k ∙ append_assoc p (b ∷ []) t

joined_last : (s : List ℕ) → joined (last_line s) ≡ s
unfolding joined
joined_last [] = refl
joined_last (b ∷ s) = append-nil (b ∷ s)

pub joined_all : (t : List ℕ) → joined (all_lines t) ≡ t
unfolding all_lines
joined_all t = joined_append (lines_from [] t) (last_line (rest_from [] t)) ∙ ap (λ (u : List ℕ). joined (lines_from [] t) ++ u) (joined_last (rest_from [] t)) ∙ joined_lines [] t

-- ---- a line with one LF, at its end
record Ends (l : List ℕ) : Type 0 where
  pub line : lines_from [] l ≡ l ∷ []
  pub rest : rest_from [] l ≡ []

abbrev AllEnd : List (List ℕ) → Type 0
AllEnd [] = Unit {0}
AllEnd (l ∷ ls) = Ends l × AllEnd ls

one_ends : (p : List ℕ) (b : ℕ) → lines_from [] p ≡ [] → eqb b 10 ≡ true → Ends (p ++ (b ∷ []))
unfolding lines_from rest_from
one_ends p b h e =
    let n : rest_from [] p ≡ p = none_rest [] p h in
    record {
      line = lines_append [] p (b ∷ []) ∙ rw (h, n, e);
      rest = rest_append [] p (b ∷ []) ∙ rw (n, e);
    }

one_goes_on : (p : List ℕ) (b : ℕ) → lines_from [] p ≡ [] → eqb b 10 ≡ false → lines_from [] (p ++ (b ∷ [])) ≡ []
unfolding lines_from rest_from
one_goes_on p b h e = lines_append [] p (b ∷ []) ∙ rw (h, none_rest [] p h, e)

lines_end : (p t : List ℕ) → lines_from [] p ≡ [] → AllEnd (lines_from p t)
unfolding lines_from
lines_end p [] h = tt
lines_end p (b ∷ t) h = go (eqb b 10) refl (lines_end [] t refl) (λ k. lines_end (p ++ (b ∷ [])) t k)
  where
    go : (q : Bool) → eqb b 10 ≡ q → AllEnd (lines_from [] t) → (lines_from [] (p ++ (b ∷ [])) ≡ [] → AllEnd (lines_from (p ++ (b ∷ [])) t)) → AllEnd (cond q ((p ++ (b ∷ [])) ∷ lines_from [] t) (lines_from (p ++ (b ∷ [])) t))
    go true e f g = (one_ends p b h e, f)
    go false e f g = g (one_goes_on p b h e)

kept_end : (r : Replay) (ls : List (List ℕ)) → AllEnd ls → AllEnd (kept_lines r ls)
unfolding kept_lines
kept_end r [] h = tt
kept_end r (l ∷ ls) h = go (gives_six r l) (kept_end (stepped r l).replay ls h.1)
  where
    go : (t : Bool) → AllEnd (kept_lines (stepped r l).replay ls) → AllEnd (cond t (kept_lines (stepped r l).replay ls) (l ∷ kept_lines (stepped r l).replay ls))
    go true f = f
    go false f = (h.0, f)

split_joined : (ls : List (List ℕ)) → AllEnd ls → (lines_from [] (joined ls) ≡ ls) × (rest_from [] (joined ls) ≡ [])
unfolding joined lines_from rest_from
split_joined [] h = (refl, refl)
split_joined (l ∷ ls) h =
    let again = split_joined ls h.1 in
    let e = h.0 in (
      lines_append [] l (joined ls) ∙ rw (e.line, e.rest, again.0),
      rest_append [] l (joined ls) ∙ rw e.rest again.1,
    )

all_joined : (ls : List (List ℕ)) → AllEnd ls → all_lines (joined ls) ≡ ls
unfolding all_lines
all_joined ls h = let s = split_joined ls h in ap₂ (λ (a : List (List ℕ)) (b : List ℕ). a ++ last_line b) s.0 s.1 ∙ append-nil ls

-- ---- a line without LF gives 6
nil_right : (a b : List (List ℕ)) → a ++ b ≡ [] → b ≡ []
nil_right [] b h = h
nil_right (x ∷ a) b h = absurd (let z : ◌≡◌ {A = ℕ} 0 1 = cc in omega arith)

unended : (s : List ℕ) → lines_from [] s ≡ [] → ended s ≡ true → ⊥
unfolding ended lines_from
unended s h e =
    let two = leb-true 2 (length s) (and_left (leb 2 (length s)) _ e) in
    let lf = eqb-true (get_or s (length s - 2 + 1) 0) 10 (and_right (eqb (get_or s (length s - 2) 0) 13) (eqb (get_or s (length s - 2 + 1) 0) 10) (and_right (leb 2 (length s)) _ e)) in
    go (length s - 2 + 1) (omega (arith, two)) (omega (arith, two)) lf
  where
    go : (i : ℕ) → i < length s → length s ≡ suc i → get_or s i 0 ≡ 10 → ⊥
    go i small last lf =
        let d : drop i s ≡ 10 ∷ [] = drop-cons s i 0 small ∙ ap₂ (λ (b : ℕ) (t : List ℕ). b ∷ t) lf (drop_of_length-le s {i = suc i} (omega (arith, last))) in
        let parts = sym (lines_append [] (take i s) (drop i s)) ∙ ap (lines_from []) (take-append-drop i s) ∙ h in
        some (rest_from [] (take i s)) (sym (ap (lines_from (rest_from [] (take i s))) d) ∙ nil_right (lines_from [] (take i s)) (lines_from (rest_from [] (take i s)) (drop i s)) parts)
      where
        some : (p : List ℕ) → lines_from p (10 ∷ []) ≡ [] → ⊥
        some p q = absurd (let z : ◌≡◌ {A = ℕ} 0 1 = cc in omega arith)

unended_line : (s : List ℕ) → lines_from [] s ≡ [] → line_of s ≡ refused 0
unfolding line_of
unended_line s h = go (ended s) refl
  where
    go : (t : Bool) → ended s ≡ t → cond (leb (length s) 4096 && t) (body_of (take (length s - 2) s)) (refused 0) ≡ refused 0
    go true e = absurd (unended s h e)
    go false e = rw (both_false (leb (length s) 4096))

last_dropped : (r : Replay) (s : List ℕ) → lines_from [] s ≡ [] → kept_lines r (last_line s) ≡ []
unfolding kept_lines
last_dropped r [] h = refl
last_dropped r (b ∷ s) h =
    let six : gives_six r (b ∷ s) ≡ true = six_is r (b ∷ s) ∙ ap is_refused (ap (placed_at r.started) (unended_line (b ∷ s) h) ∙ placed_refused r.started 0) in
    rw six

pub rest_none : (p t : List ℕ) → lines_from [] p ≡ [] → lines_from [] (rest_from p t) ≡ []
unfolding lines_from rest_from
rest_none p [] h = h
rest_none p (b ∷ t) h = go (eqb b 10) refl (rest_none [] t refl) (λ k. rest_none (p ++ (b ∷ [])) t k)
  where
    go : (q : Bool) → eqb b 10 ≡ q → lines_from [] (rest_from [] t) ≡ [] → (lines_from [] (p ++ (b ∷ [])) ≡ [] → lines_from [] (rest_from (p ++ (b ∷ [])) t) ≡ []) → lines_from [] (cond q (rest_from [] t) (rest_from (p ++ (b ∷ [])) t)) ≡ []
    go true e f g = f
    go false e f g = g (one_goes_on p b h e)

pub no_lines : lines_from [] [] ≡ []
unfolding lines_from
no_lines = refl

kept_all : (r : Replay) (t : List ℕ) → kept_lines r (all_lines t) ≡ kept_lines r (lines_from [] t)
unfolding all_lines
kept_all r t =
    kept_parts r (lines_from [] t) (last_line (rest_from [] t))
    ∙ ap (λ (k : List (List ℕ)). kept_lines r (lines_from [] t) ++ k) (last_dropped (after r (lines_from [] t)) (rest_from [] t) (rest_none [] t no_lines))
    ∙ append-nil (kept_lines r (lines_from [] t))

-- ---- so
pub kept_lines_lem : (t : List ℕ) → all_lines (joined (kept_lines begin (all_lines t))) ≡ kept_lines begin (all_lines t)
kept_lines_lem t = all_joined (kept_lines begin (all_lines t)) (rw (kept_all begin t) (kept_end begin (lines_from [] t) (lines_end [] t no_lines)))

pub mended_lines : (t : List ℕ) → mended_of t ≡ input_header ++ joined (kept_lines begin (all_lines t))
unfolding mended_of
mended_lines t = refl

none_listed : (t : List ℕ) → listed_lines begin (all_lines t) ≡ [] → list_of t ≡ list_header
unfolding list_of entries_text
none_listed t h = rw h (append-nil list_header)

pub twice : (t : List ℕ) → let k = joined (kept_lines begin (all_lines t)) in (mended_of k ≡ mended_of t) × (list_of k ≡ list_header)
twice t =
    let k = kept_lines begin (all_lines t) in
    let a = again begin begin (all_lines t) refl in (
      mended_lines (joined k) ∙ ap (λ (ls : List (List ℕ)). input_header ++ joined ls) (ap (kept_lines begin) (kept_lines_lem t) ∙ a.kept) ∙ sym (mended_lines t),
      none_listed (joined k) (ap (listed_lines begin) (kept_lines_lem t) ∙ a.listed),
    )

pub whole : (t : List ℕ) → listed_lines begin (all_lines t) ≡ [] → (mended_of t ≡ input_header ++ t) × (list_of t ≡ list_header)
whole t h = (mended_lines t ∙ ap (λ (u : List ℕ). input_header ++ u) (ap joined (sound begin (all_lines t) h) ∙ joined_all t), none_listed t h)

-- ---- the rows that the replay writes
rows_list : (r : Replay) (ls : List (List ℕ)) → rows_of r ls ≡ row_texts (row_list r ls)
unfolding rows_of row_texts row_list
rows_list r [] = refl
rows_list r (l ∷ ls) = ap (λ (t : List ℕ). row_text (stepped r l).row ++ t) (rows_list (stepped r l).replay ls)

rows_parts : (r : Replay) (a b : List (List ℕ)) → row_texts (row_list r (a ++ b)) ≡ row_texts (row_list r a) ++ row_texts (row_list (after r a) b)
unfolding row_texts row_list after
rows_parts r [] b = refl
rows_parts r (l ∷ a) b = ap (λ (t : List ℕ). row_text (stepped r l).row ++ t) (rows_parts (stepped r l).replay a b) ∙ sym (append_assoc (row_text (stepped r l).row) (row_texts (row_list (stepped r l).replay a)) _)

last_rows : (r : Replay) (s : List ℕ) → last_row r s ≡ row_texts (row_list r (last_line s))
unfolding last_row row_texts row_list
last_rows r [] = refl
last_rows r (b ∷ s) = sym (append-nil (row_text (stepped r (b ∷ s)).row))

pub rows_are : (t : List ℕ) → rows_after t ≡ row_texts (row_list begin (all_lines t))
unfolding rows_after all_lines
rows_are t =
    ap₂ (λ (a b : List ℕ). a ++ b) (rows_list begin (lines_from [] t)) (last_rows (after begin (lines_from [] t)) (rest_from [] t))
    ∙ sym (rows_parts begin (lines_from [] t) (last_line (rest_from [] t)))
