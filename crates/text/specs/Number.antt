-- Numbers of a trace. Document 02, request j: "a number not in plain digits (no quotes, no leading zero but in 0
-- itself) or above 2^64 - 1" is refused.
use Rattle.std.specs.Prelude.{ℕ, ◌+◌, ◌-◌, ◌*◌, ◌^◌, Bool, true, false, cond, not, ◌&&◌, List, [], ◌∷◌, eqb, ltb, leb, length}
use Rattle.text.specs.declared.number.Cell.{Cell}
use Rattle.text.specs.declared.number.Cell.TheVariants.{Empty, Number, Other}

-- ---- "plain digits": '0' is 48, '9' is 57
abbrev pub is_digit : ℕ → Bool
is_digit b = leb 48 b && leb b 57

unfoldable pub digits_only : List ℕ → Bool
digits_only [] = true
digits_only (b ∷ s) = is_digit b && digits_only s

-- the number whose decimal digits are those of acc and then the bytes
unfoldable pub value_from : (acc : ℕ) → List ℕ → ℕ
value_from acc [] = acc
value_from acc (b ∷ s) = value_from (acc * 10 + (b - 48)) s

-- "no leading zero but in 0 itself", and at least one byte
unfoldable pub leads : List ℕ → Bool
leads [] = false
leads (b ∷ []) = true
leads (b ∷ c ∷ s) = not (eqb b 48)

unfoldable pub plain : List ℕ → Bool
plain s = leads s && (digits_only s && ltb (value_from 0 s) (2 ^ 64))

-- ---- a field: empty, a number, or neither
unfoldable pub cell_of : List ℕ → Cell
cell_of s = cond (eqb (length s) 0) Empty (cond (plain s) (Number (value_from 0 s)) Other)

-- its number, or 0 where it is none
abbrev pub number_of : Cell → ℕ
number_of Empty = 0
number_of (Number n) = n
number_of Other = 0
