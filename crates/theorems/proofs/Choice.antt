-- A choice by a test, and what a number settles: what holds of both arms holds of it. Assumes nothing.
use Prim.Native.Nat.{ℕ}
use mathlib.Core.Bool.{Bool, true, false, cond}
use mathlib.Core.Path.{◌≡◌, refl}
use lib.Dec.{eqb}
use borrow.Author.Tests.{ne_eqb}
use Rattle.std.proofs.lemmas.Bool.{cond_both}
use Rattle.state.specs.Answers.{settled}

pub either : {A : Type 0} (P : A → Type 0) (t : Bool) (x y : A) → P x → P y → P (cond t x y)
either P t x y p q = cond_both t x y P (λ e. p) (λ e. q)

-- of two choices by one test
pub both : {A B : Type 0} (R : A → B → Type 0) (t : Bool) (x y : A) (c d : B) → R x c → R y d → R (cond t x y) (cond t c d)
both R true x y c d p q = p
both R false x y c d p q = q

-- ---- what is done is taken, what is refused stays as it was, and one thing stays either way
pub settled_taken : {A : Type 0} (n : ℕ) (next old : A) → n ≡ 0 → settled n next old ≡ next
unfolding settled
settled_taken n next old h = rw h

pub settled_kept : {A : Type 0} (n : ℕ) (next old : A) → (n ≡ 0 → ⊥) → settled n next old ≡ old
unfolding settled
settled_kept n next old h = rw (ne_eqb n 0 h)

pub settled_same : {A : Type 0} (n : ℕ) (x : A) → settled n x x ≡ x
unfolding settled
settled_same n x = either (λ y. y ≡ x) (eqb n 0) x x refl refl
