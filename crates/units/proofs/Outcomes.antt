-- What a contract says of the arguments given. Assumes nothing.
use Rattle.std.proofs.Common.{◌≡◌, subst}
use Rattle.units.specs.Outcomes.{Leaves}

pub said :
    {K : Type 0} {A E : K → Type 0} {R S : Type 0} (learnt : (κ : K) → A κ → R → E κ → Type 0) (args : (κ : K) → A κ) (left : R → S) (t : S) →
    Leaves learnt args left t → (κ : K) × (x : R) × (e : E κ) × learnt κ (args κ) x e × (t ≡ left x)
said {K} {A} learnt args left t r = (r.0, r.2, r.3, subst (λ (a : A r.0). learnt r.0 a r.2 r.3) r.5.0 r.4, r.5.1)
