-- Two replies of a run with one number are one. Assumes nothing.
use Rattle.std.proofs.Common.{◌≡◌, ℕ, [], ◌∷◌, get_or, sym, refl, ap, ◌∙◌, arith}
use Rattle.std.specs.Prelude.{Result, Ok, Err}
use Rattle.state.specs.declared.refusals.Cause.{Cause}
use Rattle.state.specs.declared.refusals.Cause.TheVariants.{Stored, Argument, Earlier, Lower, Full, Text, Short, Unsent}
use Rattle.state.specs.Refusals.{cause_row, caused, given}

abbrev cause_of : ℕ → Cause
cause_of n = get_or (Unsent ∷ Stored ∷ Argument ∷ Earlier ∷ Lower ∷ Full ∷ Text ∷ Short ∷ []) n Unsent

back : (c : Cause) → cause_of (cause_row c) ≡ c
back Stored = refl
back Argument = refl
back Earlier = refl
back Lower = refl
back Full = refl
back Text = refl
back Short = refl
back Unsent = refl

no_row : (c : Cause) → cause_row c ≡ 0 → ⊥
no_row Stored e = omega (arith, e)
no_row Argument e = omega (arith, e)
no_row Earlier e = omega (arith, e)
no_row Lower e = omega (arith, e)
no_row Full e = omega (arith, e)
no_row Text e = omega (arith, e)
no_row Short e = omega (arith, e)
no_row Unsent e = omega (arith, e)

pub cause_injective : (c d : Cause) → cause_row c ≡ cause_row d → c ≡ d
cause_injective c d e = sym (back c) ∙ ap cause_of e ∙ back d

pub only_cause : (x y : Result (Unit {0}) Cause) → caused x ≡ caused y → x ≡ y
only_cause (Ok a) (Ok b) e = refl
only_cause (Ok a) (Err d) e = absurd (no_row d (sym e))
only_cause (Err c) (Ok b) e = absurd (no_row c e)
only_cause (Err c) (Err d) e = ap (λ k. Err k) (cause_injective c d e)

-- the same of two that answer
pub cause_answer : {A : Type 0} (x y : Result A Cause) (d : A) → caused x ≡ caused y → given x d ≡ given y d → x ≡ y
cause_answer (Ok a) (Ok b) d e k = ap (λ c. Ok c) k
cause_answer (Ok a) (Err c) d e k = absurd (no_row c (sym e))
cause_answer (Err c) (Ok b) d e k = absurd (no_row c e)
cause_answer (Err c) (Err b) d e k = ap (λ k. Err k) (cause_injective c b e)
