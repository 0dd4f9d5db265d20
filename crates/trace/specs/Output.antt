-- The whole output of a whole input: document 02, request j.
use Rattle.std.specs.Prelude.{ℕ, cond, List, [], ◌∷◌, ◌++◌, take, drop}
use Rattle.text.specs.Text.{line}
use Rattle.text.specs.Word.{same}
use Rattle.rows.specs.Row.{row_text}
use Rattle.trace.specs.declared.replay.Replay.{Replay}
use Rattle.trace.specs.Replay.{begin, stepped}
use Rattle.trace.specs.Stream.{lines_from, rest_from, after, rows_of}

-- the first line of an input, 64 bytes with CR LF, and of an output
abbrev pub input_header : List ℕ
input_header = line "kind,time,cwnd,inflight,number,bytes,acked,lost,bw,rtt,probing"

abbrev pub output_header : List ℕ
output_header = line "line,refusal,round,max_bw,lo,hi"

-- "A wrong or missing header gives the output header and `0,6,,,,` alone"
abbrev pub wrong_header : List ℕ
wrong_header = line "0,6,,,,"

-- ---- the bytes after the last LF are one more line, "without CR LF" (docs/DECISIONS.md, 159); where there are none,
-- there is none
unfoldable pub last_row : Replay → List ℕ → List ℕ
last_row r [] = []
last_row r (b ∷ s) = row_text (stepped r (b ∷ s)).row

unfoldable pub last_replay : Replay → List ℕ → Replay
last_replay r [] = r
last_replay r (b ∷ s) = (stepped r (b ∷ s)).replay

-- ---- what follows the header: its rows, and the replay after it
unfoldable pub rows_after : List ℕ → List ℕ
rows_after s = rows_of begin (lines_from [] s) ++ last_row (after begin (lines_from [] s)) (rest_from [] s)

unfoldable pub replay_after : List ℕ → Replay
replay_after s = last_replay (after begin (lines_from [] s)) (rest_from [] s)

-- ---- the whole
unfoldable pub output_of : List ℕ → List ℕ
output_of input = output_header ++ cond (same (take 64 input) input_header) (rows_after (drop 64 input)) wrong_header
