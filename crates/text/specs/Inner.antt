-- How the code goes over the bytes of a line. The contracts of private functions cite it, and no statement of the
-- page of theorems is made of it.
use Rattle.std.specs.Prelude.{ℕ, ◌+◌, ◌-◌, ◌*◌, ◌^◌, cond, ◌&&◌, List, [], ◌∷◌, map, eqb, ltb, length, Option, None, Some}
use Rattle.text.specs.declared.number.Cell.{Cell}
use Rattle.text.specs.Number.{is_digit, digits_only, value_from, cell_of}

-- the bytes before the first b
unfoldable pub before : (b : ℕ) → List ℕ → List ℕ
before b [] = []
before b (x ∷ s) = cond (eqb x b) [] (x ∷ before b s)

-- before the first comma
abbrev pub upto : List ℕ → List ℕ
upto s = before 44 s

-- a number after one byte more, where that is a digit and the number stays below 2^64
abbrev pub pushed : ℕ → ℕ → Option ℕ
pushed n b = cond (is_digit b && ltb (n * 10 + (b - 48)) (2 ^ 64)) (Some (n * 10 + (b - 48))) None

-- the number whose digits are those of acc and then the bytes
unfoldable pub read_from : (acc : ℕ) → List ℕ → Option ℕ
read_from acc s = cond (digits_only s && ltb (value_from acc s) (2 ^ 64)) (Some (value_from acc s)) None

-- ---- the fields after the kind, where they are ten
unfoldable pub cells_of : List (List ℕ) → Option (List Cell)
cells_of fs = cond (eqb (length fs) 10) (Some (map cell_of fs)) None
