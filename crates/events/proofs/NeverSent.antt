-- Which lists give refusal 10 (specs/NeverSent.antt), and that the greatest number decides. Assumes nothing.
use Rattle.std.specs.Prelude.{Option, None, Some}
use Prim.Native.Nat.{ℕ, max, ◌+◌, ◌≤◌}
use mathlib.Core.Bool.{Bool, true, false, not, ◌||◌, or-true, or-false, or_assoc}
use mathlib.Core.List.{List, [], ◌∷◌}
use mathlib.Core.Path.{◌≡◌, refl, sym, ap, ◌∙◌}
use native.Mathlib.Nat.{le_refl}
use native.Mathlib.Omega.{arith}
use lib.Dec.{ltb}
use borrow.Author.Tests.{ltb-false, lt-ltb, le-ltb, not-false}
use Rattle.filters.specs.Greatest.{NoneAbove}
use Rattle.filters.specs.RoundTripCounter.{most_of, greatest, listed}
use Rattle.filters.proofs.Greatest.{listed_back}
use Rattle.state.specs.declared.network_model.NetworkModel.{NetworkModel}
use Rattle.state.proofs.Laws.{below_larger}
use Rattle.state.proofs.Rows.{or_left, or_right}
use Rattle.events.specs.Event.{never_sent, is_unsent}
use Rattle.events.specs.NeverSent.{NeverSent}

-- ---- of two numbers the larger decides
larger : (m : NetworkModel) (n k : ℕ) → (never_sent m n || never_sent m k) ≡ never_sent m (max n k)
larger m n k = go m.begun
  where
    go : (b : Bool) → ((not b || ltb m.rounds.sent n) || (not b || ltb m.rounds.sent k)) ≡ (not b || ltb m.rounds.sent (max n k))
    go true = below_larger m.rounds.sent n k
    go false = refl

from_first : (m : NetworkModel) (n : ℕ) (l : List ℕ) → (never_sent m n || is_unsent m l) ≡ never_sent m (most_of n l)
unfolding is_unsent
from_first m n [] = or-false (never_sent m n)
from_first m n (k ∷ l) = sym (or_assoc (never_sent m n) (never_sent m k) (is_unsent m l)) ∙ ap (λ (t : Bool). t || is_unsent m l) (larger m n k) ∙ from_first m (max n k) l

-- the test of the greatest
abbrev of_greatest : NetworkModel → Option ℕ → Bool
of_greatest m None = false
of_greatest m (Some n) = never_sent m n

by_greatest : (m : NetworkModel) (l : List ℕ) → is_unsent m l ≡ of_greatest m (greatest l)
unfolding is_unsent
by_greatest m [] = refl
by_greatest m (n ∷ l) = from_first m n l

pub unsent_same : (m : NetworkModel) (k l : List ℕ) → greatest k ≡ greatest l → is_unsent m k ≡ is_unsent m l
unsent_same m k l e = by_greatest m k ∙ ap (of_greatest m) e ∙ sym (by_greatest m l)

-- what the code tests
pub one_unsent : (m : NetworkModel) (n : ℕ) → never_sent m n ≡ is_unsent m (n ∷ [])
one_unsent m n = sym (by_greatest m (n ∷ []))

-- ---- exactly which lists pass
passes_one : (m : NetworkModel) (n : ℕ) → never_sent m n ≡ false → (m.begun ≡ true) × (n ≤ m.rounds.sent)
passes_one m n h = (not-false m.begun (or_left (not m.begun) (ltb m.rounds.sent n) h), ltb-false m.rounds.sent n (or_right (not m.begun) (ltb m.rounds.sent n) h))

one_passes : (m : NetworkModel) (n : ℕ) → m.begun ≡ true → n ≤ m.rounds.sent → never_sent m n ≡ false
one_passes m n b h = simp (b, le-ltb m.rounds.sent n h)

none_above : (m : NetworkModel) (l : List ℕ) → is_unsent m l ≡ false → NoneAbove l m.rounds.sent
unfolding is_unsent
none_above m [] h = tt
none_above m (n ∷ l) h = ((passes_one m n (or_left (never_sent m n) (is_unsent m l) h)).1, none_above m l (or_right (never_sent m n) (is_unsent m l) h))

all_pass : (m : NetworkModel) (l : List ℕ) → m.begun ≡ true → NoneAbove l m.rounds.sent → is_unsent m l ≡ false
unfolding is_unsent
all_pass m [] b h = refl
all_pass m (n ∷ l) b h = simp (one_passes m n b h.0, all_pass m l b h.1)

pub never_sent_lem : NeverSent
unfolding is_unsent
never_sent_lem =
    record {
      empty = λ m. refl;
      passes = λ m n l. (λ h. ((passes_one m n (or_left (never_sent m n) (is_unsent m l) h)).0, none_above m (n ∷ l) h), λ h. all_pass m (n ∷ l) h.0 h.1);
      last = λ m b. all_pass m (m.rounds.sent ∷ []) b (le_refl m.rounds.sent, tt);
      next = λ m. sym (one_unsent m (m.rounds.sent + 1)) ∙ rw (lt-ltb m.rounds.sent (m.rounds.sent + 1) (omega arith)) (or-true (not m.begun));
      before = λ m n l b. simp b;
      decides = λ m l. unsent_same m l (listed (greatest l)) (sym (listed_back (greatest l)));
    }
