-- The bytes that an exported call leaves, by the number that it replies: document 01, "Replies and bounds".
use Rattle.std.specs.Prelude.{ℕ, cond, List, eqb}
use Rattle.std.proofs.lemmas.List.Edits.{sets}
use Rattle.words.specs.Words.{all_bytes}

-- done, the answer's words stand in the first bytes: "Output bytes past the answer keep what they held". Refused, "lent
-- memory keeps its bytes"
unfoldable pub answered : ℕ → List ℕ → List ℕ → List ℕ
answered row answer out = cond (eqb row 0) (sets out 0 (all_bytes answer)) out
