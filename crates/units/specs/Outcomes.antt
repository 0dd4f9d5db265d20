-- Statements of what a contract allows. `Reads.Learnt` of a function is its contract as the checker reads it. It speaks
-- of lifetimes κ, of the arguments a in the order of the source, written (first, (second, tt)), of a reply x and of
-- what is left at the exit, e. `a.0` is the first argument, `a.1.0` the second, and so on; where the first is a lent
-- slice, `a.0.now` is what it holds. `(x : A) × B` is "there is an x of the kind A, of which B".
use Rattle.std.specs.Prelude.{◌≡◌}

-- P holds of some outcome that the contract allows. That there is one for all arguments is what the checker proves of
-- each function
abbrev pub Allowed : {K : Type 0} {A E : K → Type 0} {R : Type 0} →
    ((κ : K) → A κ → R → E κ → Type 0) → ((κ : K) → A κ → R → E κ → Type 0) → Type 0
Allowed {K} {A} {E} {R} learnt P = (κ : K) × (a : A κ) × (x : R) × (e : E κ) × learnt κ a x e × P κ a x e

-- the same, of the arguments and the reply alone
abbrev pub Returned : {K : Type 0} {A E : K → Type 0} {R : Type 0} →
    ((κ : K) → A κ → R → E κ → Type 0) → ((κ : K) → A κ → R → Type 0) → Type 0
Returned learnt P = Allowed learnt (λ κ a x e. P κ a x)

-- a reply to these arguments, and t is what is made of it
abbrev pub Leaves : {K : Type 0} {A E : K → Type 0} {R S : Type 0} →
    ((κ : K) → A κ → R → E κ → Type 0) → (args : (κ : K) → A κ) → (left : R → S) → (t : S) → Type 0
Leaves learnt args left t = Returned learnt (λ κ a x. (a ≡ args κ) × (t ≡ left x))
