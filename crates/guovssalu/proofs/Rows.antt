-- What a reply's number says of the rows, and of the bytes that are left. Assumes nothing.
use Prim.Native.Nat.{ℕ}
use mathlib.Core.Bool.{Bool, true, false, cond, ◌&&◌, true≢false}
use mathlib.Core.List.{List}
use mathlib.Core.Path.{◌≡◌, refl, sym, ap₂, ◌∙◌}
use borrow.Author.Tests.{eqb-true}
use lib.Dec.{eqb}
use lib.Seq.{sets}
use Rattle.words.specs.Words.{all_bytes}
use Rattle.units.specs.Reply.{row_of, fault_of, reply_word}
use Rattle.units.specs.declared.refusal.Refusal.{Refusal}
use Rattle.units.specs.declared.refusal.Refusal.TheVariants.{OutOfBounds, BadArgument, EarlierMoment, LowerTotal, FullCounter, BadText, ShortOutput, NeverSent}
use Rattle.state.specs.Refusals.{or_short}
use Rattle.guovssalu.specs.Reply.{answered}

-- done, the output is not short
pub done_room : (row : ℕ) (short : Bool) → eqb (or_short row short) 0 ≡ true → short ≡ false
unfolding or_short
done_room row false h = refl
done_room row true h = absurd (go (eqb row 0) refl h)
  where
    go : (t : Bool) → eqb row 0 ≡ t → eqb (cond (t && true) 7 row) 0 ≡ true → ⊥
    go true e g = true≢false (sym g)
    go false e g = true≢false (sym g ∙ e)

-- and no lower row holds
pub done_first : (row : ℕ) (short : Bool) → eqb (or_short row short) 0 ≡ true → row ≡ 0
unfolding or_short
done_first row short h = eqb-true row 0 (go (eqb row 0) refl h)
  where
    go : (t : Bool) → eqb row 0 ≡ t → eqb (cond (t && short) 7 row) 0 ≡ true → eqb row 0 ≡ true
    go true e g = e
    go false e g = g

-- a call that is refused says why, and leaves what it was lent
no_row : (e : Refusal) → eqb (row_of e) 0 ≡ false
no_row OutOfBounds = refl
no_row (BadArgument f) = refl
no_row EarlierMoment = refl
no_row LowerTotal = refl
no_row FullCounter = refl
no_row BadText = refl
no_row ShortOutput = refl
no_row NeverSent = refl

pub refused :
    {row g n : ℕ} (e : Refusal) (answer out : List ℕ) → row_of e ≡ row → fault_of e ≡ g → n ≡ reply_word (row_of e) (fault_of e) →
    (n ≡ reply_word row g) × (out ≡ answered row answer out)
unfolding answered
refused e answer out p q h = (h ∙ ap₂ (λ (i j : ℕ). reply_word i j) p q, rw (← p, no_row e))

-- a call that goes on answers 0, and writes its answer
pub done_row : {row : ℕ} → 0 ≡ row → eqb row 0 ≡ true
done_row p = rw (← p)

pub written :
    {row g : ℕ} {left : List ℕ} (answer out : List ℕ) → 0 ≡ row → 0 ≡ g → left ≡ sets out 0 (all_bytes answer) →
    (0 ≡ reply_word row g) × (left ≡ answered row answer out)
unfolding answered
written answer out p q w = (ap₂ (λ (i j : ℕ). reply_word i j) p q, rw (← p) w)
