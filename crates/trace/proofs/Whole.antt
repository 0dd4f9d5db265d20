-- The rows of a text, however it is cut into pieces, and what is held between two pieces. Assumes nothing.
use Rattle.std.specs.Prelude.{Result}
use Prim.Native.Nat.{ℕ, ◌<◌}
use mathlib.Core.Path.{◌≡◌, refl, sym, ap, ◌∙◌}
use mathlib.Core.Bool.{Bool, true, false, cond}
use mathlib.Core.List.{List, [], ◌∷◌, ◌++◌, map, append_assoc, append-nil}
use native.Mathlib.Omega.{arith}
use lib.Dec.{eqb}
use lib.ListN.{length, take, drop, take-append-drop}
use Rattle.text.specs.declared.line.Line.{Line}
use Rattle.text.specs.declared.line.BadField.{BadField}
use Rattle.text.specs.Line.{line_of}
use Rattle.text.proofs.Lines.{line_long}
use Rattle.rows.specs.Row.{row_text}
use Rattle.trace.specs.declared.replay.Replay.{Replay}
use Rattle.trace.specs.declared.replay.Stepped.{Stepped}
use Rattle.trace.specs.Replay.{stepped, read_line}
use Rattle.trace.specs.Stream.{lines_from, rest_from, kept_of, after, rows_of}
use Rattle.trace.specs.Output.{last_row, last_replay}
use Rattle.trace.specs.Pieces.{joined}
use Rattle.trace.proofs.Pieces.{Alike, alike, longs, lines_in, rest_in, lines_append, rest_append, any_pieces, rest_pieces}

-- rows and states by the lines as they are read
rows_by : Replay → List (Result Line BadField) → List ℕ
rows_by r [] = []
rows_by r (l ∷ ls) = row_text (read_line r l).row ++ rows_by (read_line r l).replay ls

after_by : Replay → List (Result Line BadField) → Replay
after_by r [] = r
after_by r (l ∷ ls) = after_by (read_line r l).replay ls

rows_by_lem : (r : Replay) (ls : List (List ℕ)) → rows_of r ls ≡ rows_by r (map line_of ls)
unfolding rows_of stepped rows_by
rows_by_lem r [] = refl
rows_by_lem r (l ∷ ls) = ap (λ (t : List ℕ). row_text (read_line r (line_of l)).row ++ t) (rows_by_lem (read_line r (line_of l)).replay ls)

after_by_lem : (r : Replay) (ls : List (List ℕ)) → after r ls ≡ after_by r (map line_of ls)
unfolding after stepped after_by
after_by_lem r [] = refl
after_by_lem r (l ∷ ls) = after_by_lem (read_line r (line_of l)).replay ls

long_same : (l m : List ℕ) → 4096 < length l → 4096 < length m → line_of l ≡ line_of m
long_same l m h g = sym (line_long l h) ∙ line_long m g

step_same : (r : Replay) (l m : List ℕ) → 4096 < length l → 4096 < length m → stepped r l ≡ stepped r m
unfolding stepped
step_same r l m h g = ap (read_line r) (long_same l m h g)

same_lines : (cs : List (List ℕ)) → map line_of (lines_in [] cs) ≡ map line_of (lines_from [] (joined cs))
same_lines cs = any_pieces (Result Line BadField) line_of long_same [] [] cs alike

-- any cutting of the input into pieces gives the same rows, and the same state
pub any_cut_rows : (r : Replay) (cs : List (List ℕ)) → rows_of r (lines_in [] cs) ≡ rows_of r (lines_from [] (joined cs))
any_cut_rows r cs = rows_by_lem r (lines_in [] cs) ∙ ap (rows_by r) (same_lines cs) ∙ sym (rows_by_lem r (lines_from [] (joined cs)))

pub any_cut_state : (r : Replay) (cs : List (List ℕ)) → after r (lines_in [] cs) ≡ after r (lines_from [] (joined cs))
any_cut_state r cs = after_by_lem r (lines_in [] cs) ∙ ap (after_by r) (same_lines cs) ∙ sym (after_by_lem r (lines_from [] (joined cs)))

-- what is left after the last piece is answered as the bytes after the last line feed are
pub any_cut_rest : (cs : List (List ℕ)) → Alike (rest_in [] cs) (rest_from [] (joined cs))
any_cut_rest cs = rest_pieces [] [] cs alike

-- no line feed: all of it is held
pub none_rest : (p t : List ℕ) → lines_from p t ≡ [] → rest_from p t ≡ p ++ t
unfolding lines_from rest_from
none_rest p [] h = sym (append-nil p)
none_rest p (b ∷ t) h = go (none_rest (p ++ (b ∷ [])) t) (eqb b 10) h
  where
    go : (lines_from (p ++ (b ∷ [])) t ≡ [] → rest_from (p ++ (b ∷ [])) t ≡ (p ++ (b ∷ [])) ++ t) → (q : Bool) → cond q ((p ++ (b ∷ [])) ∷ lines_from [] t) (lines_from (p ++ (b ∷ [])) t) ≡ [] → cond q (rest_from [] t) (rest_from (p ++ (b ∷ [])) t) ≡ p ++ (b ∷ t)
    go again true e = absurd (let z : ◌≡◌ {A = ℕ} 0 1 = cc in omega arith)
    go again false e = again e ∙ append_assoc p (b ∷ []) t

-- bytes held before a piece: the lines of the buffer are the lines of the piece, of which the first goes on from them
pub held_lines : (p c : List ℕ) → lines_from [] p ≡ [] → lines_from [] (p ++ c) ≡ lines_from p c
held_lines p c h = lines_append [] p c ∙ rw (h, none_rest [] p h)

pub held_rest : (p c : List ℕ) → lines_from [] p ≡ [] → rest_from [] (p ++ c) ≡ rest_from p c
held_rest p c h = rest_append [] p c ∙ rw (none_rest [] p h)

-- what `keep` keeps has no line feed either
nil_left : (a b : List (List ℕ)) → a ++ b ≡ [] → a ≡ []
nil_left [] b h = refl
nil_left (x ∷ a) b h = absurd (let z : ◌≡◌ {A = ℕ} 0 1 = cc in omega arith)

pub kept_none : (t : List ℕ) → lines_from [] t ≡ [] → lines_from [] (kept_of t) ≡ []
unfolding kept_of
kept_none t h = nil_left (lines_from [] (take 4097 t)) (lines_from (rest_from [] (take 4097 t)) (drop 4097 t)) (sym (lines_append [] (take 4097 t) (drop 4097 t)) ∙ rw (take-append-drop 4097 t) h)

-- what is held at the end is answered as the bytes after the last line feed are
pub last_alike : (r : Replay) (p q : List ℕ) → Alike p q → (last_row r p ≡ last_row r q) × (last_replay r p ≡ last_replay r q)
unfolding last_row last_replay
last_alike r p _ alike = (refl, refl)
last_alike r p q (longs h g) = go p q h g
  where
    go : (p q : List ℕ) → 4096 < length p → 4096 < length q → (last_row r p ≡ last_row r q) × (last_replay r p ≡ last_replay r q)
    go [] q h g = absurd (omega (arith, h))
    go (a ∷ p) [] h g = absurd (omega (arith, g))
    go (a ∷ p) (b ∷ q) h g = both (a ∷ p) (b ∷ q) h g
      where
        both : (l m : List ℕ) → 4096 < length l → 4096 < length m → (row_text (stepped r l).row ≡ row_text (stepped r m).row) × ((stepped r l).replay ≡ (stepped r m).replay)
        both l m h g = (ap (λ (x : Stepped). row_text x.row) (step_same r l m h g), ap (λ (x : Stepped). x.replay) (step_same r l m h g))
