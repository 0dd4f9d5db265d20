-- The first of faults. Laws over plain variables. Assumes nothing.
use Prim.Native.Nat.{ℕ, suc, ◌+◌, ◌≤◌, ◌<◌}
use mathlib.Core.Bool.{Bool, true, false, cond, ◌&&◌}
use mathlib.Core.List.{List, [], ◌∷◌}
use mathlib.Core.Path.{◌≡◌, refl, sym, ap, ap₂, ◌∙◌}
use native.Mathlib.Omega.{arith}
use lib.Dec.{eqb}
use borrow.Author.Tests.{eq-eqb, ne_eqb, eqb-true}
use Rattle.std.specs.Prelude.{Result}
use Rattle.units.specs.declared.refusal.Refusal.{Refusal}
use Rattle.units.specs.Reply.{number, fault}
use Rattle.state.specs.Faults.{first, named}
use Rattle.state.specs.Refusals.{row_of, up_to_four, asked_of, or_short}
use Rattle.state.proofs.Rows.{in_turn}

-- ---- what a reply names: nothing where row 2 does not hold
pub no_two : (s e l u f : Bool) → eqb (asked_of s false e l u f) 2 ≡ false
unfolding up_to_four
no_two s e l u f = rw (in_turn s false e l u f) (go s e l u f)
  where
    go : (s e l u f : Bool) → eqb (up_to_four s false e l (cond u 10 (cond f 5 0))) 2 ≡ false
    go true e l u f = refl
    go false true l u f = refl
    go false false true u f = refl
    go false false false true f = refl
    go false false false false true = refl
    go false false false false false = refl

-- a reply's number and its fault, each put for its equal
pub asked : {A : Type 0} (r : Result A Refusal) (k n x y : ℕ) → (number r ≡ k) × (fault r ≡ named k x) → k ≡ n → x ≡ y → (number r ≡ n) × (fault r ≡ named n y)
asked r k n x y h p q = (h.0 ∙ p, h.1 ∙ ap₂ (λ (i j : ℕ). named i j) p q)

-- the same where every argument is within its bounds: there is no fault to be named, whatever would be the first
pub all_fine : {A : Type 0} (r : Result A Refusal) (s a e l u f : Bool) (n y : ℕ) → a ≡ false → (number r ≡ asked_of s a e l u f) × (fault r ≡ named (asked_of s a e l u f) 0) →
    asked_of s a e l u f ≡ n → (number r ≡ n) × (fault r ≡ named n y)
unfolding named
all_fine r s a e l u f n y h k p =
    let no : eqb (asked_of s a e l u f) 2 ≡ false = rw h (no_two s e l u f) in
    let none : eqb n 2 ≡ false = sym (ap (λ (i : ℕ). eqb i 2) p) ∙ no in
    (k.0 ∙ p, k.1 ∙ simp (no, none))

pub fine : {A : Type 0} (r : Result A Refusal) (s a e l f : Bool) (n y : ℕ) → a ≡ false → (number r ≡ row_of s a e l f) × (fault r ≡ named (row_of s a e l f) 0) →
    row_of s a e l f ≡ n → (number r ≡ n) × (fault r ≡ named n y)
fine r s a e l f n y h k p = all_fine r s a e l false f n y h k p

-- a fault is named by row 2 alone, whether the output is short or not
pub short_named : (row : ℕ) (short : Bool) (x : ℕ) → named row x ≡ named (or_short row short) x
unfolding named or_short
short_named row short x = go (eqb row 0) refl short
  where
    go : (t : Bool) → eqb row 0 ≡ t → (short : Bool) → cond (eqb row 2) x 0 ≡ cond (eqb (cond (t && short) 7 row) 2) x 0
    go true e true = rw (eqb-true row 0 e)
    go true e false = refl
    go false e short = refl

-- and of one fault alone
pub alone : (f : ℕ) → f ≡ first (f ∷ [])
unfolding first
alone f = go (eqb f 0) refl
  where
    go : (t : Bool) → eqb f 0 ≡ t → f ≡ cond t 0 f
    go true e = eqb-true f 0 e
    go false e = refl

-- the reply of an exported run: that of its rows, or 7
pub or_short_lem : {A B : Type 0} (r : Result A Refusal) (s : Result B Refusal) (row x : ℕ) (short : Bool) → (number r ≡ row) × (fault r ≡ named row x) →
    (number s ≡ or_short (number r) short) × (fault s ≡ fault r) → (number s ≡ or_short row short) × (fault s ≡ named (or_short row short) x)
or_short_lem r s row x short p q = (q.0 ∙ ap (λ (n : ℕ). or_short n short) p.0, q.1 ∙ p.1 ∙ short_named row short x)
