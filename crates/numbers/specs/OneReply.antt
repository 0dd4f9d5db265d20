-- Document 01, "How much a contract says": "Show that any two replies allowed by it coincide". What that means of a
-- function that changes no lent memory. A contract as the checker reads it, `Reads.Learnt` of the function, speaks of
-- lifetimes, arguments, a reply and what is left at the exit. A definition only.
use Rattle.std.specs.Prelude.{◌≡◌}

-- whatever the arguments, two replies of which the contract holds are equal
abbrev pub OneReply : {K : Type 0} {A R E : K → Type 0} → ((κ : K) → A κ → R κ → E κ → Type 0) → Type 0
OneReply {K} {A} {R} {E} learnt = (κ : K) (a : A κ) (x y : R κ) (s t : E κ) → learnt κ a x s → learnt κ a y t → x ≡ y

-- the same of a function that changes what it is lent, and of what it leaves there
abbrev pub OneOutcome : {K : Type 0} {A R E : K → Type 0} {S : Type 0} → ((κ : K) → A κ → R κ → E κ → Type 0) →
    ((κ : K) → E κ → S) → Type 0
OneOutcome {K} {A} {R} {E} learnt left =
    (κ : K) (a : A κ) (x y : R κ) (s t : E κ) → learnt κ a x s → learnt κ a y t → (x ≡ y) × (left κ s ≡ left κ t)
