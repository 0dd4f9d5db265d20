-- Numbers in decimal digits, and what it is to write a text into lent bytes.
use Rattle.std.specs.Prelude.{ℕ, zero, suc, ◌+◌, ◌*◌, ◌/◌, ◌%◌, ◌≡◌, ◌≤◌, cond, List, [], ◌∷◌, ◌++◌, ltb, length}
use Rattle.std.proofs.lemmas.List.Edits.{sets}
use Rattle.rows.specs.declared.digits.Writer.{Writer}

-- the least k from here on with n below limit, which grows tenfold, or where it is after so many times
unfoldable pub places_from : (times k limit n : ℕ) → ℕ
places_from zero k limit n = k
places_from (suc f) k limit n = cond (ltb n limit) k (places_from f (k + 1) (limit * 10) n)

-- how many digits a number below 10^20 has
unfoldable pub places_of : ℕ → ℕ
places_of n = places_from 19 1 10 n

-- the last k digits of a number, the first first
unfoldable pub digits_of : (k n : ℕ) → List ℕ
digits_of zero n = []
digits_of (suc k) n = digits_of k (n / 10) ++ ((48 + n % 10) ∷ [])

-- a number in plain decimal digits
unfoldable pub decimal : ℕ → List ℕ
decimal n = digits_of (places_of n) n

-- the text stands at an index, nothing else is changed, and r is the index after it
pub record Put (before after : List ℕ) (at : ℕ) (text : List ℕ) (r : ℕ) : Type 0 where
  pub stored : after ≡ sets before at text
  pub next : r ≡ at + length text
  pub kept : length after ≡ length before

-- a writer puts a text of at most so many bytes where it stands, and stands after it
pub record Puts (before after : Writer) (text : List ℕ) (most : ℕ) : Type 0 where
  pub same : after.out.ghost_name ≡ before.out.ghost_name
  pub put : Put before.out.now after.out.now before.at text after.at
  pub within : after.at ≤ before.at + most
