-- Two refusals with one row and one fault are one refusal; two replies with one number and one fault that answer the same
-- are one reply.
use Rattle.std.proofs.Common.{◌≡◌, ℕ, ◌<◌, Bool, true, false, cond, eqb, [], ◌∷◌, get_or, sym, refl, ap, ◌∙◌, ap₂, true≢false, arith}
use Rattle.std.specs.Prelude.{Result, Ok, Err}
use Rattle.units.specs.declared.refusal.Refusal.{Refusal}
use Rattle.units.specs.declared.refusal.Refusal.TheVariants.{OutOfBounds, BadArgument, EarlierMoment, LowerTotal, FullCounter, BadText, ShortOutput, NeverSent}
use Rattle.units.specs.Reply.{row_of, fault_of, number, fault, kept, reply_word, row_in, fault_in}

abbrev refusal_of : (n f : ℕ) → Refusal
refusal_of n f = get_or (NeverSent ∷ OutOfBounds ∷ BadArgument f ∷ EarlierMoment ∷ LowerTotal ∷ FullCounter ∷ BadText ∷ ShortOutput ∷ []) n NeverSent

back : (r : Refusal) → refusal_of (row_of r) (fault_of r) ≡ r
back OutOfBounds = refl
back (BadArgument f) = refl
back EarlierMoment = refl
back LowerTotal = refl
back FullCounter = refl
back BadText = refl
back ShortOutput = refl
back NeverSent = refl

pub refusal_injective : (r s : Refusal) → row_of r ≡ row_of s → fault_of r ≡ fault_of s → r ≡ s
refusal_injective r s e g = sym (back r) ∙ ap₂ (λ (n f : ℕ). refusal_of n f) e g ∙ back s

-- a refusal has a row
pub no_row : (r : Refusal) → row_of r ≡ 0 → ⊥
no_row OutOfBounds e = omega (arith, e)
no_row (BadArgument f) e = omega (arith, e)
no_row EarlierMoment e = omega (arith, e)
no_row LowerTotal e = omega (arith, e)
no_row FullCounter e = omega (arith, e)
no_row BadText e = omega (arith, e)
no_row ShortOutput e = omega (arith, e)
no_row NeverSent e = omega (arith, e)

pub reply_injective : {A : Type 0} (x y : Result A Refusal) (d : A) → number x ≡ number y → fault x ≡ fault y →
    kept x d ≡ kept y d → x ≡ y
reply_injective (Ok a) (Ok b) d e g p = ap (λ c. Ok c) p
reply_injective (Ok a) (Err s) d e g p = absurd (no_row s (sym e))
reply_injective (Err r) (Ok b) d e g p = absurd (no_row r e)
reply_injective (Err r) (Err s) d e g p = ap (λ c. Err c) (refusal_injective r s e g)

-- a refusal that is no 2 is about no argument
row_faultless : (r : Refusal) (n : ℕ) → row_of r ≡ n → eqb n 2 ≡ false → fault_of r ≡ 0
row_faultless OutOfBounds n e h = refl
row_faultless (BadArgument f) n e h = absurd (true≢false (ap (λ (k : ℕ). eqb k 2) e ∙ h))
row_faultless EarlierMoment n e h = refl
row_faultless LowerTotal n e h = refl
row_faultless FullCounter n e h = refl
row_faultless BadText n e h = refl
row_faultless ShortOutput n e h = refl
row_faultless NeverSent n e h = refl

pub faultless : {A : Type 0} (x : Result A Refusal) (n : ℕ) → number x ≡ n → eqb n 2 ≡ false → fault x ≡ 0
faultless (Ok a) n e h = refl
faultless (Err r) n e h = row_faultless r n e h

-- so its number alone leads back to it
pub number_injective : {A : Type 0} (x y : Result A Refusal) (d : A) (n : ℕ) → eqb n 2 ≡ false → number x ≡ n → number y ≡ n →
    kept x d ≡ kept y d → x ≡ y
number_injective x y d n h p q k = reply_injective x y d (p ∙ sym q) (faultless x n p h ∙ sym (faultless y n q h)) k

-- a reply that answers nothing else
pub only_number : (x y : Result (Unit {0}) Refusal) (n : ℕ) → eqb n 2 ≡ false → number x ≡ n → number y ≡ n → x ≡ y
only_number x y n h p q = number_injective x y tt n h p q refl

pub only_reply : (x y : Result (Unit {0}) Refusal) → number x ≡ number y → fault x ≡ fault y → x ≡ y
only_reply x y e g = reply_injective x y tt e g refl

-- a row that is given where a test holds, and that is no 2
pub no_argument : (t : Bool) (n : ℕ) → eqb n 2 ≡ false → eqb (cond t n 0) 2 ≡ false
no_argument true n h = h
no_argument false n h = refl

-- ---- a row and a fault in one word, read back
pub row_back : (row f : ℕ) → row < 256 → row_in (reply_word row f) ≡ row
row_back row f h = omega (arith, h)

pub fault_back : (row f : ℕ) → row < 256 → fault_in (reply_word row f) ≡ f
fault_back row f h = omega (arith, h)

-- only a reply that is done crosses as 0
pub row_zero : (row f : ℕ) → reply_word row f ≡ 0 → row ≡ 0
row_zero row f h = omega (arith, h)
