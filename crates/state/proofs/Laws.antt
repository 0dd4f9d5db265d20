-- Laws over plain variables, for the proofs of this crate and those above. Assumes nothing.
use Prim.Native.Nat.{ℕ, max, ◌+◌, ◌-◌, ◌^◌, ◌≤◌, ◌<◌}
use mathlib.Core.Bool.{Bool, true, false, cond, not, ◌&&◌, ◌||◌, true≢false}
use mathlib.Core.Path.{◌≡◌, refl, sym, ◌∙◌}
use mathlib.Core.Logic.{⊎_elim, inl, inr}
use lib.Dec.{eqb, ltb}
use borrow.Author.Tests.{eqb-false, lt-ltb, le-ltb, ltb-true, ltb-false}
use native.Mathlib.Nat.{eq-or-lt_of_le}
use native.Mathlib.Omega.{arith}
use Rattle.numbers.proofs.Closest.{le_or_lt}

-- a number of 64 bits that is not the largest has room for one more
pub not_most : (n : ℕ) → n < 2 ^ 64 → eqb n (2 ^ 64 - 1) ≡ false → n < 2 ^ 64 - 1
not_most n f h = ⊎_elim (λ p. absurd (eqb-false n (2 ^ 64 - 1) h p)) (λ p. p) (eq-or-lt_of_le (omega arith))

-- the arm of a test
pub arm_true : {A : Type 0} (t : Bool) (x y : A) → t ≡ true → x ≡ cond t x y
arm_true t x y h = simp h

pub arm_false : {A : Type 0} (t : Bool) (x y : A) → t ≡ false → y ≡ cond t x y
arm_false t x y h = simp h

-- a count that is refused only where it is full
pub full_is : (d t : Bool) (n : ℕ) → d ≡ eqb n 0 → n ≡ cond t 5 0 → not d ≡ t
full_is d true n p q = simp (p, q)
full_is d false n p q = simp (p, q)

-- a sum is compared without being made
pub below_sum : (l n k : ℕ) → k ≤ l → ltb (l - k) n ≡ ltb l (n + k)
below_sum l n k h = elim (le_or_lt n (l - k)) [
  | inl g ↦ le-ltb (l - k) n g ∙ sym (le-ltb l (n + k) (omega arith))
  | inr g ↦ lt-ltb (l - k) n g ∙ sym (lt-ltb l (n + k) (omega arith))
]

-- a number is below one of two where it is below the larger
pub below_larger : (l a b : ℕ) → (ltb l a || ltb l b) ≡ ltb l (max a b)
below_larger l a b = go (ltb l a) (ltb l b) refl refl
  where
    go : (x y : Bool) → ltb l a ≡ x → ltb l b ≡ y → (x || y) ≡ ltb l (max a b)
    go true y p q = sym (lt-ltb l (max a b) (omega (arith, ltb-true l a p)))
    go false true p q = sym (lt-ltb l (max a b) (omega (arith, ltb-true l b q)))
    go false false p q = sym (le-ltb l (max a b) (omega (arith, ltb-false l a p, ltb-false l b q)))

-- of a conjunction that fails, where the first part holds the second fails
pub fails_right : (a b : Bool) → (a && b) ≡ false → a ≡ true → b ≡ false
fails_right true b h p = h
fails_right false b h p = absurd (true≢false (sym p))
