-- What holds of every mended trace: document 02, request k. Statements only; proofs/ proves them.
use Rattle.std.specs.Prelude.{ℕ, ◌+◌, ◌-◌, ◌^◌, ◌≤◌, ◌<◌, true, cond, List, [], ◌∷◌, ◌++◌, map, ◌≡◌, length, drop}
use Rattle.text.specs.Line.{refused, line_of}
use Rattle.rows.specs.declared.row.Row.{Row}
use Rattle.rows.specs.Row.{row_text}
use Rattle.trace.specs.declared.replay.Replay.{Replay}
use Rattle.trace.specs.Placed.{placed_at}
use Rattle.trace.specs.Replay.{begin, stepped}
use Rattle.trace.specs.Stream.{lines_from, after}
use Rattle.trace.specs.Output.{input_header, rows_after}
use Rattle.trace.specs.Pieces.{joined}
use Rattle.mending.specs.declared.mend.Mend.{Mend}
use Rattle.mending.specs.Mend.{gives_six, field_of, Entry, kept_lines, listed_lines, all_lines, mended_of, list_header, list_of}
use Rattle.mending.specs.Sift.{sifting, sift_of}
use Rattle.mending.specs.Pieces.{mend_after, kept_texts, list_texts, unfed, fed_pieces, fed_end}

-- the rows that the replay gives lines, and those of them that are not 6
unfoldable pub row_list : Replay → List (List ℕ) → List Row
row_list r [] = []
row_list r (l ∷ ls) = (stepped r l).row ∷ row_list (stepped r l).replay ls

unfoldable pub other_rows : Replay → List (List ℕ) → List Row
other_rows r [] = []
other_rows r (l ∷ ls) =
    let others = other_rows (stepped r l).replay ls in cond (gives_six r l) others ((stepped r l).row ∷ others)

unfoldable pub row_texts : List Row → List ℕ
row_texts [] = []
row_texts (w ∷ ws) = row_text w ++ row_texts ws

-- a row with 0 in the place of its line's number
abbrev pub aside : Row → Row
aside w = record { line = 0; refusal = w.refusal; part = w.part; state = w.state }

-- each number is above the one before it, and the first above n
abbrev pub Rising : (n : ℕ) → List Entry → Type 0
Rising n [] = Unit {0}
Rising n (e ∷ es) = (n < e.line) × Rising e.line es

pub record MendLaws : Type 0 where
  -- A line gives 6 exactly where it is refused where it stands: by itself, or as a send or an event before any accepted
  -- start; and the field that is listed is the one that is named there
  pub six : (r : Replay) (l : List ℕ) → gives_six r l ≡ true → (k : ℕ) × (placed_at r.started (line_of l) ≡ refused k)
  pub six_where : (r : Replay) (l : List ℕ) (k : ℕ) → placed_at r.started (line_of l) ≡ refused k →
      (gives_six r l ≡ true) × (field_of (line_of l) ≡ k)
  -- Lines in two parts: in each the lines kept are kept in order, and the others listed
  pub kept_parts : (r : Replay) (a b : List (List ℕ)) →
      kept_lines r (a ++ b) ≡ kept_lines r a ++ kept_lines (after r a) b
  pub listed_parts : (r : Replay) (a b : List (List ℕ)) →
      listed_lines r (a ++ b) ≡ listed_lines r a ++ listed_lines (after r a) b
  -- "kept plus listed equals lines read"
  pub sum : (r : Replay) (ls : List (List ℕ)) → length (kept_lines r ls) + length (listed_lines r ls) ≡ length ls
  -- The number of a line is its place, from 1 on, and the numbers listed rise. (Numbers stay at 2^64 - 1)
  pub place : (ls : List (List ℕ)) (l : List ℕ) → length ls < 2 ^ 64 - 1 →
      (stepped (after begin ls) l).row.line ≡ length ls + 1
  pub rising : (ls : List (List ℕ)) → length ls < 2 ^ 64 → Rising 0 (listed_lines begin ls)
  -- The replay of what is kept has the rows that the replay of the whole has, without those with 6, line numbers aside
  pub replayed : (ls : List (List ℕ)) →
      map aside (row_list begin (kept_lines begin ls)) ≡ map aside (other_rows begin ls)
  -- Mending again changes nothing, and lists nothing: in what is kept no line gives 6
  pub again : (ls : List (List ℕ)) →
      (kept_lines begin (kept_lines begin ls) ≡ kept_lines begin ls) × (listed_lines begin (kept_lines begin ls) ≡ [])
  -- Lines of which none is listed are all kept
  pub sound : (r : Replay) (ls : List (List ℕ)) → listed_lines r ls ≡ [] → kept_lines r ls ≡ ls
  --
  -- ---- in bytes. The mended trace has the lines that are kept as its lines; so mending it gives it again, byte for
  -- byte, with a list of only its header; and so does mending a trace of which no line gives 6
  pub lines : (t : List ℕ) →
      let k = kept_lines begin (all_lines t) in (mended_of t ≡ input_header ++ joined k) × (all_lines (joined k) ≡ k)
  pub twice : (t : List ℕ) →
      let k = joined (kept_lines begin (all_lines t)) in (mended_of k ≡ mended_of t) × (list_of k ≡ list_header)
  pub whole : (t : List ℕ) → listed_lines begin (all_lines t) ≡ [] →
      (mended_of t ≡ input_header ++ t) × (list_of t ≡ list_header)
  -- The rows that are spoken of here are those that the program `replay` writes (crates/trace/specs/Output.antt)
  pub rows : (t : List ℕ) → rows_after t ≡ row_texts (row_list begin (all_lines t))
  --
  -- ---- the program. A run of `sift` that has room for a line and for an entry writes the first part of the texts of
  -- the lines from an index on, and what is left is the rest; where it sifts no line, there is none
  pub run : (m : Mend) (s : List ℕ) (at room places : ℕ) →
      let ls = lines_from [] (drop at s) in
      let x = sift_of room places ls (sifting m at) in
      let left = lines_from [] (drop x.at s) in
      (kept_texts m ls ≡ x.kept ++ kept_texts x.mend left)
      × (list_texts m ls ≡ x.list ++ list_texts x.mend left)
      × (mend_after m ls ≡ mend_after x.mend left)
  pub stops : (m : Mend) (s : List ℕ) (at room places : ℕ) → 4096 ≤ room → 43 ≤ places →
      let ls = lines_from [] (drop at s) in (sift_of room places ls (sifting m at)).at ≤ at → ls ≡ []
  -- However what follows the header is cut into pieces, what is written for them is the mended trace and the list
  pub pieces : (cs : List (List ℕ)) →
      let x = fed_end (fed_pieces unfed cs) in
      (input_header ++ x.kept ≡ mended_of (joined cs)) × (list_header ++ x.list ≡ list_of (joined cs))
  -- and the counts at its end are those of the lines read, kept and listed
  pub counts : (cs : List (List ℕ)) →
      let x = fed_end (fed_pieces unfed cs) in
      let ls = all_lines (joined cs) in
      length ls < 2 ^ 64 →
      (x.mend.line ≡ length ls)
      × (x.mend.kept ≡ length (kept_lines begin ls))
      × (x.mend.listed ≡ length (listed_lines begin ls))
