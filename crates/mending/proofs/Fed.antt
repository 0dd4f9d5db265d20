-- What the program writes for the pieces of an input is what it would write for the whole. Assumes nothing.
use Rattle.std.specs.Prelude.{Result, is_ok}
use Prim.Native.Nat.{ℕ, ◌^◌, ◌≤◌, ◌<◌}
use native.Mathlib.Nat.{zero-add}
use mathlib.Core.Bool.{Bool, true, false, cond}
use mathlib.Core.List.{List, [], ◌∷◌, ◌++◌, map, map-append, append_assoc, append-nil}
use mathlib.Core.Path.{◌≡◌, refl, sym, ap, ap₂, ◌∙◌}
use native.Mathlib.Omega.{arith}
use lib.Dec.{leb}
use lib.ListN.{length}
use borrow.Author.Tests.{le-leb, lt-leb}
use Rattle.text.specs.declared.line.Line.{Line}
use Rattle.text.specs.declared.line.BadField.{BadField}
use Rattle.text.specs.Line.{line_of}
use Rattle.text.proofs.Lines.{line_long}
use Rattle.trace.specs.Replay.{begin}
use Rattle.trace.specs.Stream.{lines_from, rest_from, kept_of}
use Rattle.trace.specs.Output.{input_header}
use Rattle.trace.specs.Pieces.{joined}
use Rattle.trace.proofs.Pieces.{Alike, alike, longs, lines_in, rest_in, any_pieces}
use Rattle.trace.proofs.Whole.{any_cut_rest, held_lines, held_rest, kept_none}
use Rattle.mending.specs.declared.mend.Mend.{Mend}
use Rattle.mending.specs.Mend.{kept_lines, listed_lines, last_line, all_lines, mended_of, list_header, list_of}
use Rattle.mending.specs.Sorted.{unread, sorted_as, sorted, kept_text, list_text}
use Rattle.mending.specs.Pieces.{mend_after, kept_texts, list_texts, Fed, unfed, fed_lines, fed_piece, fed_pieces, fed_end}
use Rattle.mending.proofs.Lines.{kept_few}
use Rattle.mending.proofs.Beside.{beside_begin, kept_follows, list_follows, count_follows}
use Rattle.mending.proofs.Bytes.{rest_none, no_lines}

-- ---- two lists of lines, one after the other
mend_append : (m : Mend) (a b : List (List ℕ)) → mend_after m (a ++ b) ≡ mend_after (mend_after m a) b
unfolding mend_after
mend_append m [] b = refl
mend_append m (l ∷ a) b = mend_append (sorted m l).mend a b

kept_append : (m : Mend) (a b : List (List ℕ)) → kept_texts m (a ++ b) ≡ kept_texts m a ++ kept_texts (mend_after m a) b
unfolding kept_texts mend_after
kept_append m [] b = refl
kept_append m (l ∷ a) b = ap (λ (t : List ℕ). kept_text (sorted m l) l ++ t) (kept_append (sorted m l).mend a b) ∙ sym (append_assoc (kept_text (sorted m l) l) (kept_texts (sorted m l).mend a) _)

list_append : (m : Mend) (a b : List (List ℕ)) → list_texts m (a ++ b) ≡ list_texts m a ++ list_texts (mend_after m a) b
unfolding list_texts mend_after
list_append m [] b = refl
list_append m (l ∷ a) b = ap (λ (t : List ℕ). list_text (sorted m l) ++ t) (list_append (sorted m l).mend a b) ∙ sym (append_assoc (list_text (sorted m l)) (list_texts (sorted m l).mend a) _)

fed_append : (x : Fed) (a b : List (List ℕ)) (held : List ℕ) (h : List ℕ) → fed_lines (fed_lines x a h) b held ≡ fed_lines x (a ++ b) held
unfolding fed_lines
fed_append x a b held h =
    λ i. record {
      mend = sym (mend_append x.mend a b) i;
      held = held;
      kept = (append_assoc x.kept (kept_texts x.mend a) (kept_texts (mend_after x.mend a) b) ∙ ap (λ (t : List ℕ). x.kept ++ t) (sym (kept_append x.mend a b))) i;
      list = (append_assoc x.list (list_texts x.mend a) (list_texts (mend_after x.mend a) b) ∙ ap (λ (t : List ℕ). x.list ++ t) (sym (list_append x.mend a b))) i;
    }

-- ---- pieces: the lines that are sifted, and the bytes that are held after them
fed_none : (x : Fed) → x ≡ fed_lines x [] x.held
unfolding fed_lines mend_after kept_texts list_texts
fed_none x = λ i. record { mend = x.mend; held = x.held; kept = sym (append-nil x.kept) i; list = sym (append-nil x.list) i }

fed_held : (x : Fed) (ls : List (List ℕ)) (held : List ℕ) → (fed_lines x ls held).held ≡ held
unfolding fed_lines
fed_held x ls held = refl

piece_is : (x : Fed) (c : List ℕ) → lines_from [] x.held ≡ [] → fed_piece x c ≡ fed_lines x (lines_from x.held c) (kept_of (rest_from x.held c))
unfolding fed_piece
piece_is x c h = ap₂ (λ (ls : List (List ℕ)) (s : List ℕ). fed_lines x ls (kept_of s)) (held_lines x.held c h) (held_rest x.held c h)

pieces_are : (x : Fed) (cs : List (List ℕ)) → lines_from [] x.held ≡ [] → fed_pieces x cs ≡ fed_lines x (lines_in x.held cs) (rest_in x.held cs)
unfolding fed_pieces lines_in rest_in
pieces_are x [] h = fed_none x
pieces_are x (c ∷ cs) h =
    let rest = kept_of (rest_from x.held c) in
    let y = fed_lines x (lines_from x.held c) rest in
    let e = fed_held x (lines_from x.held c) rest in
    ap (λ (z : Fed). fed_pieces z cs) (piece_is x c h)
    ∙ pieces_are y cs (ap (lines_from []) e ∙ kept_none (rest_from x.held c) (rest_none x.held c h))
    ∙ ap (λ (s : List ℕ). fed_lines y (lines_in s cs) (rest_in s cs)) e
    ∙ fed_append x (lines_from x.held c) (lines_in rest cs) (rest_in rest cs) rest

-- the end of the input
end_is_lem : (x : Fed) (ls : List (List ℕ)) (held : List ℕ) → fed_end (fed_lines x ls held) ≡ fed_lines x (ls ++ last_line held) []
unfolding fed_end
end_is_lem x ls held = ap (λ (s : List ℕ). fed_lines (fed_lines x ls held) (last_line s) []) (fed_held x ls held) ∙ fed_append x ls (last_line held) [] held

-- ---- lines that are too long are all alike
record Seen : Type 0 where
  pub line : Result Line BadField
  pub text : List ℕ

short : List ℕ → List ℕ
short l = cond (leb (length l) 4096) l []

seen : List ℕ → Seen
seen l = record { line = line_of l; text = short l }

long_seen : (l k : List ℕ) → 4096 < length l → 4096 < length k → seen l ≡ seen k
unfolding seen short
long_seen l k g h = λ i. record { line = (sym (line_long l g) ∙ line_long k h) i; text = (brief l g ∙ sym (brief k h)) i }
  where
    brief : (s : List ℕ) → 4096 < length s → cond (leb (length s) 4096) s [] ≡ []
    brief s h = rw (lt-leb (length s) 4096 h)

-- all that is made of a line is made of this
mend_by : Mend → List Seen → Mend
mend_by m [] = m
mend_by m (s ∷ ss) = mend_by (sorted_as m s.line).mend ss

kept_by : Mend → List Seen → List ℕ
kept_by m [] = []
kept_by m (s ∷ ss) = kept_text (sorted_as m s.line) s.text ++ kept_by (sorted_as m s.line).mend ss

list_by : Mend → List Seen → List ℕ
list_by m [] = []
list_by m (s ∷ ss) = list_text (sorted_as m s.line) ++ list_by (sorted_as m s.line).mend ss

short_kept : (m : Mend) (l : List ℕ) → kept_text (sorted m l) l ≡ kept_text (sorted m l) (short l)
unfolding kept_text short
short_kept m l = go (is_ok (sorted m l).reply) (kept_few m l (sorted m l) refl)
  where
    go : (t : Bool) → (t ≡ true → length l ≤ 4096) → cond t l [] ≡ cond t (cond (leb (length l) 4096) l []) []
    go true h = rw (le-leb (length l) 4096 (h refl))
    go false h = refl

mend_by_lem : (m : Mend) (ls : List (List ℕ)) → mend_after m ls ≡ mend_by m (map seen ls)
unfolding mend_after mend_by seen sorted
mend_by_lem m [] = refl
mend_by_lem m (l ∷ ls) = mend_by_lem (sorted m l).mend ls

kept_by_lem : (m : Mend) (ls : List (List ℕ)) → kept_texts m ls ≡ kept_by m (map seen ls)
unfolding kept_texts kept_by seen sorted
kept_by_lem m [] = refl
kept_by_lem m (l ∷ ls) = ap₂ (λ (s t : List ℕ). s ++ t) (short_kept m l) (kept_by_lem (sorted m l).mend ls)

list_by_lem : (m : Mend) (ls : List (List ℕ)) → list_texts m ls ≡ list_by m (map seen ls)
unfolding list_texts list_by seen sorted
list_by_lem m [] = refl
list_by_lem m (l ∷ ls) = ap (λ (t : List ℕ). list_text (sorted m l) ++ t) (list_by_lem (sorted m l).mend ls)

last_seen : (p q : List ℕ) → Alike p q → map seen (last_line p) ≡ map seen (last_line q)
last_seen p _ alike = refl
last_seen p q (longs g h) = go p q g h
  where
    go : (p q : List ℕ) → 4096 < length p → 4096 < length q → map seen (last_line p) ≡ map seen (last_line q)
    go [] q g h = absurd (omega (arith, g))
    go (a ∷ p) [] g h = absurd (omega (arith, h))
    go (a ∷ p) (b ∷ q) g h = ap (λ (s : Seen). s ∷ []) (long_seen (a ∷ p) (b ∷ q) g h)

same_seen : (cs : List (List ℕ)) → map seen (lines_in [] cs ++ last_line (rest_in [] cs)) ≡ map seen (all_lines (joined cs))
unfolding all_lines
same_seen cs =
    map-append seen (lines_in [] cs) (last_line (rest_in [] cs))
    ∙ ap₂ (λ (a b : List Seen). a ++ b) (any_pieces Seen seen long_seen [] [] cs alike) (last_seen (rest_in [] cs) (rest_from [] (joined cs)) (any_cut_rest cs))
    ∙ sym (map-append seen (lines_from [] (joined cs)) (last_line (rest_from [] (joined cs))))

-- ---- so the whole
ended : (cs : List (List ℕ)) → fed_end (fed_pieces unfed cs) ≡ fed_lines unfed (lines_in [] cs ++ last_line (rest_in [] cs)) []
ended cs = ap fed_end (pieces_are unfed cs no_lines) ∙ end_is_lem unfed (lines_in [] cs) (rest_in [] cs)

whole : (cs : List (List ℕ)) → fed_end (fed_pieces unfed cs) ≡ fed_lines unfed (all_lines (joined cs)) []
unfolding fed_lines
whole cs =
    let a = lines_in [] cs ++ last_line (rest_in [] cs) in
    let b = all_lines (joined cs) in
    let s = same_seen cs in
    ended cs
    ∙ (λ i. record {
      mend = (mend_by_lem unread a ∙ ap (mend_by unread) s ∙ sym (mend_by_lem unread b)) i;
      held = [];
      kept = (kept_by_lem unread a ∙ ap (kept_by unread) s ∙ sym (kept_by_lem unread b)) i;
      list = (list_by_lem unread a ∙ ap (list_by unread) s ∙ sym (list_by_lem unread b)) i;
    })

pub pieces : (cs : List (List ℕ)) → let x = fed_end (fed_pieces unfed cs) in (input_header ++ x.kept ≡ mended_of (joined cs)) × (list_header ++ x.list ≡ list_of (joined cs))
unfolding fed_lines mended_of list_of
pieces cs =
    let ls = all_lines (joined cs) in (
      ap (λ (x : Fed). input_header ++ x.kept) (whole cs) ∙ ap (λ (t : List ℕ). input_header ++ t) (kept_follows unread begin ls beside_begin),
      ap (λ (x : Fed). list_header ++ x.list) (whole cs) ∙ ap (λ (t : List ℕ). list_header ++ t) (list_follows unread begin ls beside_begin),
    )

pub counts : (cs : List (List ℕ)) → let x = fed_end (fed_pieces unfed cs) in let ls = all_lines (joined cs) in length ls < 2 ^ 64 → (x.mend.line ≡ length ls) × (x.mend.kept ≡ length (kept_lines begin ls)) × (x.mend.listed ≡ length (listed_lines begin ls))
unfolding fed_lines
counts cs h =
    let ls = all_lines (joined cs) in
    let c = count_follows unread begin ls beside_begin refl (omega (arith, h)) in
    let e = whole cs in (
      ap (λ (x : Fed). x.mend.line) e ∙ c.line ∙ zero-add (length ls),
      ap (λ (x : Fed). x.mend.kept) e ∙ c.kept ∙ zero-add (length (kept_lines begin ls)),
      ap (λ (x : Fed). x.mend.listed) e ∙ c.listed ∙ zero-add (length (listed_lines begin ls)),
    )
