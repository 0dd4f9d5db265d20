-- What a call leaves, by its reply: laws over plain variables. Assumes nothing.
use Prim.Native.Nat.{ℕ}
use mathlib.Core.Bool.{Bool, true, false}
use mathlib.Core.Path.{◌≡◌, sym, ◌∙◌}
use lib.Dec.{eqb}
use Rattle.state.specs.Answers.{settled}

module _ {A : Type 0} where
  -- t is the test that the code made
  pub done : (n : ℕ) (t : Bool) (next old : A) → t ≡ eqb n 0 → t ≡ true → next ≡ settled n next old
  unfolding settled
  done n t next old e h = simp (sym e ∙ h)

  pub refused : (n : ℕ) (t : Bool) (next old : A) → t ≡ eqb n 0 → t ≡ false → old ≡ settled n next old
  unfolding settled
  refused n t next old e h = simp (sym e ∙ h)

  pub settled_as : (k n : ℕ) (x y old : A) → k ≡ n → x ≡ y → settled k x old ≡ settled n y old
  settled_as k n x y old p q = cc

  -- the same with what the code has for the number and for what is left
  pub done_as : (k n : ℕ) (t : Bool) (got next old : A) → k ≡ n → t ≡ eqb k 0 → t ≡ true → got ≡ next → got ≡ settled n next old
  done_as k n t got next old p e h q = q ∙ rw (← p) (done k t next old e h)

  pub refused_as : (k n : ℕ) (t : Bool) (got next old : A) → k ≡ n → t ≡ eqb k 0 → t ≡ false → got ≡ old → got ≡ settled n next old
  refused_as k n t got next old p e h q = q ∙ rw (← p) (refused k t next old e h)

-- ---- a function of several parts, each put for its equal
pub ap4 : {A B C D R : Type 0} (f : A → B → C → D → R) {a a' : A} {b b' : B} {c c' : C} {d d' : D} → a ≡ a' → b ≡ b' → c ≡ c' → d ≡ d' → f a b c d ≡ f a' b' c' d'
ap4 f p q r s = cc

pub ap6 : {A B C D E F R : Type 0} (f : A → B → C → D → E → F → R) {a a' : A} {b b' : B} {c c' : C} {d d' : D} {e e' : E} {x x' : F}
    → a ≡ a' → b ≡ b' → c ≡ c' → d ≡ d' → e ≡ e' → x ≡ x' → f a b c d e x ≡ f a' b' c' d' e' x'
ap6 f p q r s t u = cc
