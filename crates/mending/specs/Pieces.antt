-- An input that comes in pieces, as the program `mend` takes it: each piece behind the bytes that are held of the line
-- before it that is not ended. It sifts what it has then, run after run, until one sifts no line, and holds of a line
-- that is not ended what `keep` keeps (crates/trace/specs/Stream.antt). That it reads the pieces, and writes the texts,
-- is not proved.
use Rattle.std.specs.Prelude.{ℕ, List, [], ◌∷◌, ◌++◌}
use Rattle.trace.specs.Stream.{lines_from, rest_from, kept_of}
use Rattle.mending.specs.declared.mend.Mend.{Mend}
use Rattle.mending.specs.Mend.{last_line}
use Rattle.mending.specs.Sorted.{unread, sorted, kept_text, list_text}

-- what is known after lines, and the texts of the lines kept and of the entries, one after the other
unfoldable pub mend_after : Mend → List (List ℕ) → Mend
mend_after m [] = m
mend_after m (l ∷ ls) = mend_after (sorted m l).mend ls

unfoldable pub kept_texts : Mend → List (List ℕ) → List ℕ
kept_texts m [] = []
kept_texts m (l ∷ ls) = kept_text (sorted m l) l ++ kept_texts (sorted m l).mend ls

unfoldable pub list_texts : Mend → List (List ℕ) → List ℕ
list_texts m [] = []
list_texts m (l ∷ ls) = list_text (sorted m l) ++ list_texts (sorted m l).mend ls

-- what the program has: what is known, the bytes held, and what it has written behind the two headers
pub record Fed : Type 0 where
  pub mend : Mend
  pub held : List ℕ
  pub kept : List ℕ
  pub list : List ℕ

abbrev pub unfed : Fed
unfed = record { mend = unread; held = []; kept = []; list = [] }

-- lines are sifted, and these bytes held
unfoldable pub fed_lines : Fed → List (List ℕ) → (held : List ℕ) → Fed
fed_lines x ls held =
    record {
      mend = mend_after x.mend ls;
      held = held;
      kept = x.kept ++ kept_texts x.mend ls;
      list = x.list ++ list_texts x.mend ls;
    }

-- one piece more, and pieces
unfoldable pub fed_piece : Fed → List ℕ → Fed
fed_piece x c = fed_lines x (lines_from [] (x.held ++ c)) (kept_of (rest_from [] (x.held ++ c)))

unfoldable pub fed_pieces : Fed → List (List ℕ) → Fed
fed_pieces x [] = x
fed_pieces x (c ∷ cs) = fed_pieces (fed_piece x c) cs

-- the end of the input: the bytes held are one more line
unfoldable pub fed_end : Fed → Fed
fed_end x = fed_lines x (last_line x.held) []
