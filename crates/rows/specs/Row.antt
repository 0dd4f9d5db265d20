-- A row of a replay: document 02, request j. Its fields are those of the output's header,
-- `line,refusal,round,max_bw,lo,hi`, and it ends in CR LF: "lines ended by CR LF".
use Rattle.std.specs.Prelude.{ℕ, List, [], ◌∷◌, ◌++◌, Option, None, Some}
use Rattle.rows.specs.declared.row.State.{State}
use Rattle.rows.specs.declared.row.Row.{Row}
use Rattle.rows.specs.Digits.{decimal}

abbrev pub comma : List ℕ
comma = 44 ∷ []

-- "An unset bound is an empty field"
unfoldable pub given_text : Option ℕ → List ℕ
given_text None = []
given_text (Some n) = decimal n

-- "2 is written 2.1 to 2.9": the kind of the bound is the part. 46 is a full stop
unfoldable pub refusal_text : (refusal : ℕ) (part : Option ℕ) → List ℕ
refusal_text refusal None = decimal refusal
refusal_text refusal (Some part) = (decimal refusal ++ (46 ∷ [])) ++ decimal part

unfoldable pub head_text : (line refusal : ℕ) (part : Option ℕ) → List ℕ
head_text line refusal part = ((decimal line ++ comma) ++ refusal_text refusal part) ++ comma

-- "Before an accepted start, the state columns are empty"
unfoldable pub state_text : (shown : Option State) → List ℕ
state_text None = (comma ++ comma) ++ comma
state_text (Some s) =
    (((((decimal s.round ++ comma) ++ decimal s.maxbw) ++ comma) ++ given_text s.lo) ++ comma) ++ given_text s.hi

-- a row with CR LF
unfoldable pub row_text : Row → List ℕ
row_text r =
    ((head_text r.line r.refusal r.part ++ state_text r.state) ++ (13 ∷ [])) ++ (10 ∷ [])
