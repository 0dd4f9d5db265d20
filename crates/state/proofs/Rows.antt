-- The table of refusals: what a reply's number says of its rows. Laws over plain variables. Assumes nothing.
use Prim.Native.Nat.{ℕ, zero, suc}
use mathlib.Core.Bool.{Bool, true, false, cond, not, ◌&&◌, ◌||◌}
use mathlib.Core.List.{List, [], ◌∷◌}
use mathlib.Core.Path.{◌≡◌, refl, sym, subst, ◌∙◌}
use native.Mathlib.Omega.{arith}
use lib.ListN.{get_or, set}
use borrow.Author.Tests.{not-false}
use Rattle.state.specs.Bounds.{all, all_from}
use Rattle.state.specs.Refusals.{row_of, up_to_four, asked_of}

-- no row holds
pub record None (stored argument earlier lower full : Bool) : Type 0 where
  pub stored_fine : stored ≡ false
  pub argument_fine : argument ≡ false
  pub in_order : earlier ≡ false
  pub no_lower : lower ≡ false
  pub not_full : full ≡ false

clash : {A : Type 0} (k : ℕ) → suc k ≡ 0 → A
clash k e = absurd (omega (arith, e))

-- the call is done only where no row holds
pub none : (s a e l f : Bool) → row_of s a e l f ≡ 0 → None s a e l f
unfolding row_of
none true a e l f h = clash 0 h
none false true e l f h = clash 1 h
none false false true l f h = clash 2 h
none false false false true f h = clash 3 h
none false false false false true h = clash 4 h
none false false false false false h = record { stored_fine = refl; argument_fine = refl; in_order = refl; no_lower = refl; not_full = refl }

-- ---- with row 10 among them: one row after the other, in the order in which they are asked
pub in_turn : (s a e l u f : Bool) → asked_of s a e l u f ≡ up_to_four s a e l (cond u 10 (cond f 5 0))
unfolding row_of up_to_four
in_turn s a e l true f = refl
in_turn s a e l false f = refl

pub none_asked : (s a e l u f : Bool) → asked_of s a e l u f ≡ 0 → (u ≡ false) × None s a e l f
unfolding up_to_four
none_asked true a e l true f h = clash 0 h
none_asked false true e l true f h = clash 1 h
none_asked false false true l true f h = clash 2 h
none_asked false false false true true f h = clash 3 h
none_asked false false false false true f h = clash 9 h
none_asked s a e l false f h = (refl, none s a e l f h)

-- so of a call that is done the stored numbers and the arguments are within their bounds
pub row_stored : (s a e l f : Bool) → row_of (not s) a e l f ≡ 0 → s ≡ true
row_stored s a e l f h = not-false s (none (not s) a e l f h).stored_fine

pub row_argument : (s a e l f : Bool) → row_of s (not a) e l f ≡ 0 → a ≡ true
row_argument s a e l f h = not-false a (none s (not a) e l f h).argument_fine

-- ---- tests that hold together
pub and_left : (a b : Bool) → (a && b) ≡ true → a ≡ true
and_left true b h = refl
and_left false b h = h

pub and_right : (a b : Bool) → (a && b) ≡ true → b ≡ true
and_right true b h = h
and_right false true h = refl
and_right false false h = h

pub and_both : (a b : Bool) → a ≡ true → b ≡ true → (a && b) ≡ true
and_both a b p q = simp (p, q)

pub or_left : (a b : Bool) → (a || b) ≡ false → a ≡ false
or_left true b h = h
or_left false b h = refl

pub or_right : (a b : Bool) → (a || b) ≡ false → b ≡ false
or_right true true h = h
or_right true false h = refl
or_right false b h = h

from_true : (l : List Bool) (t : Bool) → all_from t l ≡ true → t ≡ true
from_true [] t h = h
from_true (b ∷ l) t h = and_left t b (from_true l (t && b) h)

from_at : (l : List Bool) (t : Bool) (i : ℕ) → all_from t l ≡ true → get_or l i true ≡ true
from_at [] t i h = refl
from_at (b ∷ l) t zero h = and_right t b (from_true l (t && b) h)
from_at (b ∷ l) t (suc i) h = from_at l (t && b) i h

-- where all tests hold, the test at each place does
pub all_at : (l : List Bool) (i : ℕ) → all l ≡ true → get_or l i true ≡ true
all_at l i h = from_at l true i h

from_put : (l : List Bool) (t : Bool) (i : ℕ) (u : Bool) → all_from t l ≡ true → u ≡ true → all_from t (set l i u) ≡ true
from_put [] t i u h p = h
from_put (b ∷ l) t zero u h p = let g = from_true l (t && b) h in subst (λ (x : Bool). all_from x l ≡ true) (g ∙ sym (and_both t u (and_left t b g) p)) h
from_put (b ∷ l) t (suc i) u h p = from_put l (t && b) i u h p

-- a test that holds, put for another
pub all_put : (l : List Bool) (i : ℕ) (u : Bool) → all l ≡ true → u ≡ true → all (set l i u) ≡ true
all_put l i u h p = from_put l true i u h p
