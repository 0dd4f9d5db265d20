-- Two calls that differ in their acked numbers alone: in words 18 to 21, and in the lists after word 48. Definitions
-- only.
use Rattle.std.specs.Prelude.{ℕ, Bool, true, ◌&&◌, ◌||◌, List, ◌≡◌, ltb}
use Rattle.words.specs.Word.{word}

-- a word of a call's own that says nothing of its acked numbers
abbrev pub is_other : ℕ → Bool
is_other i = ltb i 18 || (ltb 21 i && ltb i 49)

abbrev pub AreAlike : List ℕ → List ℕ → Type 0
AreAlike v w = (i : ℕ) → is_other i ≡ true → word v i ≡ word w i
