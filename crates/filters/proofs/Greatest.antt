-- The greatest number of a list, and that the end of a round depends on a list by that alone. Assumes nothing.
use Rattle.std.specs.Prelude.{Option, None, Some}
use Prim.Native.Nat.{ℕ, suc, max, ◌+◌, ◌-◌, ◌≤◌, ◌<◌}
use mathlib.Core.Bool.{Bool, true, false}
use mathlib.Core.List.{List, [], ◌∷◌, ◌++◌}
use mathlib.Core.Logic.{◌⊎◌, inl, inr, ⊎_elim}
use mathlib.Core.Path.{◌≡◌, refl, sym, ap, ◌∙◌}
use native.Mathlib.Nat.{le_refl, le_trans, le-max_left, le-max_right, max-eq_left, max-eq_right}
use native.Mathlib.Omega.{arith}
use lib.Dec.{leb}
use lib.ListN.{length, get_or, take, drop, take-append-drop, length-drop, drop_of_length-le}
use lib.Seq.{drop-cons, take_all}
use borrow.Author.Tests.{leb-true, leb-false}
use Rattle.filters.specs.declared.round_trip_counter.RoundTripCounter.{RoundTripCounter}
use Rattle.filters.specs.RoundTripCounter.{most_of, greatest, listed, is_passed_by, ends_round, rounds_full, rounds_number, rounds_ended, rounds_acked}
use Rattle.filters.specs.Greatest.{Has, NoneAbove, RisesFrom, Greatest}

-- ---- one turn of a fold that has seen the first i
pub turn : (l : List ℕ) (i n : ℕ) → i < length l → most_of n (drop i l) ≡ most_of (max n (get_or l i 0)) (drop (i + 1) l)
turn l i n h = let next : suc i ≡ i + 1 = omega arith in ap (most_of n) (drop-cons l i 0 h) ∙ ap (λ (k : ℕ). most_of (max n (get_or l i 0)) (drop k l)) next

-- after the last
pub over : (l : List ℕ) (i n : ℕ) → length l ≤ i → most_of n (drop i l) ≡ n
over l i n h = ap (most_of n) (drop_of_length-le l h)

-- ---- from the first, and by halves
pub none : (l : List ℕ) → length l ≡ 0 → None ≡ greatest l
none [] h = refl
none (n ∷ l) h = absurd (omega (arith, h))

-- the part from an index on
abbrev pub part_from : ℕ → List ℕ → List ℕ
part_from i l = take (length l - i) (drop i l)

part_from_lem : (i : ℕ) (l : List ℕ) → part_from i l ≡ drop i l
part_from_lem i l = take_all (length l - i) (drop i l) (omega (arith, length-drop i l))

pub some : (l : List ℕ) → (length l ≡ 0 → ⊥) → Some (most_of (get_or l 0 0) (part_from 1 l)) ≡ greatest l
some l h = rw (part_from_lem 1 l) (go l h)
  where
    go : (l : List ℕ) → (length l ≡ 0 → ⊥) → Some (most_of (get_or l 0 0) (drop 1 l)) ≡ greatest l
    go [] h = absurd (h refl)
    go (n ∷ l) h = refl

joined : (n : ℕ) (k l : List ℕ) → most_of (most_of n k) l ≡ most_of n (k ++ l)
joined n [] l = refl
joined n (m ∷ k) l = joined (max n m) k l

pub halves : (n i : ℕ) (l : List ℕ) → most_of (most_of n (take i l)) (part_from i l) ≡ most_of n l
halves n i l = rw (part_from_lem i l) (joined n (take i l) (drop i l) ∙ ap (most_of n) (take-append-drop i l))

-- ---- what it is
larger_is : (n k : ℕ) → (n ≡ max n k) ⊎ (k ≡ max n k)
larger_is n k = go (leb n k) refl
  where
    go : (t : Bool) → leb n k ≡ t → (n ≡ max n k) ⊎ (k ≡ max n k)
    go true e = inr (sym (max-eq_right (leb-true n k e)))
    go false e = inl (sym (max-eq_left (omega (arith, leb-false n k e))))

from_first : (n : ℕ) (l : List ℕ) → n ≤ most_of n l
from_first n [] = le_refl n
from_first n (k ∷ l) = le_trans (le-max_left n k) (from_first (max n k) l)

none_above : (n : ℕ) (l : List ℕ) → NoneAbove l (most_of n l)
none_above n [] = tt
none_above n (k ∷ l) = (le_trans (le-max_right n k) (from_first (max n k) l), none_above (max n k) l)

has : (n : ℕ) (l : List ℕ) → Has (n ∷ l) (most_of n l)
has n [] = inl refl
has n (k ∷ l) =
    let most = most_of (max n k) l in
    ⊎_elim {C = Has (n ∷ k ∷ l) most}
    (λ e. ⊎_elim {C = Has (n ∷ k ∷ l) most} (λ p. inl (p ∙ e)) (λ p. inr (inl (p ∙ e))) (larger_is n k))
    (λ h. inr (inr h))
    (has (max n k) l)

at_last : (n : ℕ) (l : List ℕ) → RisesFrom n l → most_of n l ≡ get_or (n ∷ l) (length l) 0
at_last n [] h = refl
at_last n (k ∷ l) h = ap (λ (m : ℕ). most_of m l) (max-eq_right h.0) ∙ at_last k l h.1

pub greatest_is : Greatest
greatest_is =
    record {
      none = refl;
      some = λ n l. (most_of n l, refl, has n l, (from_first n l, none_above n l));
      last = λ n l h. ap Some (at_last n l h);
    }

-- ---- a list of the greatest alone has it
pub listed_back : (g : Option ℕ) → greatest (listed g) ≡ g
listed_back None = refl
listed_back (Some n) = refl

pub alone : {g : Option ℕ} (l : List ℕ) → g ≡ greatest l → greatest (listed g) ≡ greatest l
alone {g} l e = listed_back g ∙ e

-- ---- two lists of the same greatest number do the same
module _ (c : RoundTripCounter) (k l : List ℕ) (e : greatest k ≡ greatest l) where
  pub ends_same : ends_round c.end k ≡ ends_round c.end l
  unfolding ends_round
  ends_same = ap (is_passed_by c.end) e

  pub full_same : rounds_full c k ≡ rounds_full c l
  unfolding rounds_full
  full_same = rw ends_same

  pub number_same : rounds_number c k ≡ rounds_number c l
  unfolding rounds_number
  number_same = rw full_same

  pub ended_same : rounds_ended c k ≡ rounds_ended c l
  unfolding rounds_ended
  ended_same = rw (ends_same, full_same)

  pub acked_same : rounds_acked c k ≡ rounds_acked c l
  unfolding rounds_acked
  acked_same = rw ended_same
