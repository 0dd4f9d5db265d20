-- What holds of each number below k, one by one, holds of every number below k. Assumes nothing.
use Prim.Native.Nat.{ℕ, zero, suc, ◌<◌, ◌≤◌}
use mathlib.Core.Bool.{true, false}
use mathlib.Core.Logic.{inl, inr}
use mathlib.Core.Path.{◌≡◌, subst}
use native.Mathlib.Omega.{arith}
use lib.Dec.{leb, eqb}
use borrow.Author.Tests.{le-leb, lt-leb, ne_eqb}
use Rattle.std.proofs.lemmas.Bool.{cases_lt}

-- what holds of every number below k
pub data Below (P : ℕ → Type 0) : ℕ → Type 0 where
  nothing : Below P 0
  also : (k : ℕ) → P k → Below P k → Below P (suc k)

pub below : (P : ℕ → Type 0) (k : ℕ) → Below P k → (n : ℕ) → n < k → P n
below P zero nothing n l = absurd (omega (arith, l))
below P (suc k) (also _ p h) n l = elim (cases_lt n k) [ inl less ↦ below P k h n less | inr least ↦ subst P (omega (arith, least, l)) p ]

-- and where it holds of those from k on too, of all
pub every : (P : ℕ → Type 0) (k : ℕ) → Below P k → ((n : ℕ) → k ≤ n → P n) → (n : ℕ) → P n
every P k h more n = elim (cases_lt n k) [ inl less ↦ below P k h n less | inr least ↦ more n least ]

-- ---- the tests of a number that is at least 46
pub record Above (n : ℕ) : Type 0 where
  pub none : (k : ℕ) → k < 46 → eqb n k ≡ false
  pub over : (k : ℕ) → k < 46 → leb n k ≡ false
  pub up : (k : ℕ) → k ≤ 46 → leb k n ≡ true

pub above_46 : (n : ℕ) → 46 ≤ n → Above n
above_46 n h =
    record {
      none = λ k l. ne_eqb n k (λ p. omega (arith, p, l, h));
      over = λ k l. lt-leb n k (omega (arith, l, h));
      up = λ k l. le-leb k n (omega (arith, l, h));
    }
