-- What the greatest number of a list is (`greatest` in RoundTripCounter.antt), and that in a list that rises it is the
-- last: there the rule is document 01's and the Rust's. Statements only.
use Rattle.std.specs.Prelude.{ℕ, ◌≤◌, List, [], ◌∷◌, ◌⊎◌, ◌≡◌, length, get_or, None, Some}
use Rattle.filters.specs.RoundTripCounter.{greatest}

-- n is one of them
abbrev pub Has : List ℕ → ℕ → Type 0
Has [] n = ⊥
Has (k ∷ l) n = (k ≡ n) ⊎ Has l n

-- none of them is above n
abbrev pub NoneAbove : List ℕ → ℕ → Type 0
NoneAbove [] n = Unit {0}
NoneAbove (k ∷ l) n = (k ≤ n) × NoneAbove l n

-- each is at least the one before it
abbrev pub RisesFrom : ℕ → List ℕ → Type 0
RisesFrom n [] = Unit {0}
RisesFrom n (k ∷ l) = (n ≤ k) × RisesFrom k l

pub record Greatest : Type 0 where
  -- "The empty list" has none
  pub none : greatest [] ≡ None
  -- any other has one: a number of the list that none of the list is above
  pub some : (n : ℕ) (l : List ℕ) →
      (most : ℕ) × (greatest (n ∷ l) ≡ Some most) × Has (n ∷ l) most × NoneAbove (n ∷ l) most
  -- in a list that rises it is the last
  pub last : (n : ℕ) (l : List ℕ) → RisesFrom n l → greatest (n ∷ l) ≡ Some (get_or (n ∷ l) (length l) 0)
