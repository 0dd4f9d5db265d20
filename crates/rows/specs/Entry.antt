-- An entry of the list of a mended trace: document 02, request k. "a separate list, also RFC 4180, of line number and
-- first field at fault"; its header is `line,field`.
use Rattle.std.specs.Prelude.{ℕ, List, [], ◌∷◌, ◌++◌}
use Rattle.rows.specs.Digits.{decimal}
use Rattle.rows.specs.Row.{comma}

-- with CR LF
unfoldable pub entry_text : (line field : ℕ) → List ℕ
entry_text line field = (((decimal line ++ comma) ++ decimal field) ++ (13 ∷ [])) ++ (10 ∷ [])
