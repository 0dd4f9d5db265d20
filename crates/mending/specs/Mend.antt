-- A trace mended: document 02, request k. "A second program copies a trace, drops every line that gives 6 in the replay
-- as it then stands, and writes a separate list, also RFC 4180, of line number and first field at fault, in order ..
-- The lines kept are unchanged and in order".
use Rattle.std.specs.Prelude.{ℕ, Bool, cond, List, [], ◌∷◌, ◌++◌, eqb, Result, Ok, Err}
use Rattle.text.specs.declared.line.Line.{Line}
use Rattle.text.specs.declared.line.BadField.{BadField}
use Rattle.text.specs.Line.{line_of}
use Rattle.text.specs.Text.{line}
use Rattle.rows.specs.Entry.{entry_text}
use Rattle.trace.specs.declared.replay.Replay.{Replay}
use Rattle.trace.specs.Replay.{begin, stepped}
use Rattle.trace.specs.Stream.{lines_from, rest_from}
use Rattle.trace.specs.Output.{input_header}
use Rattle.trace.specs.Pieces.{joined}

-- a line that gives 6 in the replay, r being the replay before it
unfoldable pub gives_six : Replay → List ℕ → Bool
gives_six r l = eqb (stepped r l).row.refusal 6

-- "first field at fault .. (0 for length, a missing CR LF or field count, and for a missing start where no field is at
-- fault)": of a line that is none by itself it is in the error (crates/text/specs/Line.antt)
abbrev pub field_of : Result Line BadField → ℕ
field_of (Err b) = b.field
field_of (Ok l) = 0

pub record Entry : Type 0 where
  pub line : ℕ
  pub field : ℕ

-- the lines kept of lines
unfoldable pub kept_lines : Replay → List (List ℕ) → List (List ℕ)
kept_lines r [] = []
kept_lines r (l ∷ ls) =
    let next = (stepped r l).replay in cond (gives_six r l) (kept_lines next ls) (l ∷ kept_lines next ls)

-- the entries of the others, each with the number that the replay gives its line
unfoldable pub listed_lines : Replay → List (List ℕ) → List Entry
listed_lines r [] = []
listed_lines r (l ∷ ls) =
    let next = (stepped r l).replay in
    let entry : Entry = record { line = (stepped r l).row.line; field = field_of (line_of l) } in
    cond (gives_six r l) (entry ∷ listed_lines next ls) (listed_lines next ls)

-- ---- in bytes. The lines of what follows the header: the bytes after the last LF are one more line, if there are any
abbrev pub last_line : List ℕ → List (List ℕ)
last_line [] = []
last_line (b ∷ s) = (b ∷ s) ∷ []

unfoldable pub all_lines : List ℕ → List (List ℕ)
all_lines t = lines_from [] t ++ last_line (rest_from [] t)

unfoldable pub entries_text : List Entry → List ℕ
entries_text [] = []
entries_text (e ∷ es) = entry_text e.line e.field ++ entries_text es

-- "with a list of only its header, `line,field`"
abbrev pub list_header : List ℕ
list_header = line "line,field"

-- what is written for the right header and what follows it: the mended trace, and the list
unfoldable pub mended_of : List ℕ → List ℕ
mended_of t = input_header ++ joined (kept_lines begin (all_lines t))

unfoldable pub list_of : List ℕ → List ℕ
list_of t = list_header ++ entries_text (listed_lines begin (all_lines t))
