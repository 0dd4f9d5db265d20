-- The lines of an input, and what `run` and `keep` do with a piece of it.
use Rattle.std.specs.Prelude.{ℕ, ◌+◌, ◌-◌, cond, List, [], ◌∷◌, ◌++◌, eqb, leb, length, take, drop}
use Rattle.rows.specs.Row.{row_text}
use Rattle.trace.specs.declared.replay.Replay.{Replay}
use Rattle.trace.specs.declared.stream.Ran.{Ran}
use Rattle.trace.specs.Replay.{stepped}

-- ---- LF, 10, ends a line, whether CR stands before it or not (docs/DECISIONS.md, 157). The ended lines of a text,
-- each with its LF; the first goes on from p
unfoldable pub lines_from : (p : List ℕ) → List ℕ → List (List ℕ)
lines_from p [] = []
lines_from p (b ∷ s) = cond (eqb b 10) ((p ++ (b ∷ [])) ∷ lines_from [] s) (lines_from (p ++ (b ∷ [])) s)

-- the bytes after the last LF
unfoldable pub rest_from : (p : List ℕ) → List ℕ → List ℕ
rest_from p [] = p
rest_from p (b ∷ s) = cond (eqb b 10) (rest_from [] s) (rest_from (p ++ (b ∷ [])) s)

-- ---- the replay after lines, and the rows of lines, in bytes
unfoldable pub after : Replay → List (List ℕ) → Replay
after r [] = r
after r (l ∷ ls) = after (stepped r l).replay ls

unfoldable pub rows_of : Replay → List (List ℕ) → List ℕ
rows_of r [] = []
rows_of r (l ∷ ls) = row_text (stepped r l).row ++ rows_of (stepped r l).replay ls

-- ---- `run`: lines are answered as long as there is room for a row, of which none is longer than 148 bytes. `at` is
-- where the lines begin, `written` how much is written of the `room` bytes that are lent
unfoldable pub ran_of : Replay → List (List ℕ) → (at written room : ℕ) → Ran
ran_of r [] at written room = record { replay = r; at = at; written = written }
ran_of r (l ∷ ls) at written room =
    let x = stepped r l in
    cond (leb (written + 148) room)
    (ran_of x.replay ls (at + length l) (written + length (row_text x.row)) room)
    (record { replay = r; at = at; written = written })

-- and what it writes, one row after the other
unfoldable pub ran_text : Replay → List (List ℕ) → (written room : ℕ) → List ℕ
ran_text r [] written room = []
ran_text r (l ∷ ls) written room =
    let x = stepped r l in
    cond (leb (written + 148) room)
    (row_text x.row ++ ran_text x.replay ls (written + length (row_text x.row)) room)
    []

-- ---- `keep`: as much of a line that is not ended as is kept until the next piece. With 4,097 bytes it is too long,
-- whatever follows
unfoldable pub kept_of : List ℕ → List ℕ
kept_of p = take 4097 p

-- the bytes from one index to another
abbrev pub between : List ℕ → (from to : ℕ) → List ℕ
between l from to = take (to - from) (drop from l)
