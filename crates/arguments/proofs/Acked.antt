-- Where the acked numbers stand, over plain variables. Assumes nothing.
use Rattle.std.specs.Prelude.{None, Some}
use Prim.Native.Nat.{ℕ, zero, suc, max, ◌+◌, ◌-◌, ◌≤◌, ◌<◌}
use mathlib.Core.Bool.{Bool, true, false, ◌&&◌, ◌||◌}
use mathlib.Core.List.{List, [], ◌∷◌, ◌++◌}
use mathlib.Core.Path.{◌≡◌, refl, sym, ap, ◌∙◌}
use native.Mathlib.Omega.{arith}
use lib.Dec.{leb}
use lib.ListN.{length, get_or, take, drop, length-append, length-take, length-drop}
use lib.Seq.{take-nil, drop-append-add}
use borrow.Author.Tests.{leb-true, leb-false, le-leb, lt-leb}
use Rattle.filters.specs.RoundTripCounter.{greatest}
use Rattle.arguments.specs.Sample.{acked_fits, acked_of}
use Rattle.arguments.proofs.Alike.{own}

-- a place, tested without a sum
pub place : (count start room : ℕ) → (leb count room && leb start (room - count)) ≡ leb (49 + start + count) (49 + room)
place count start room = go (leb count room) refl (leb start (room - count)) refl
  where
    go : (a : Bool) → leb count room ≡ a → (b : Bool) → leb start (room - count) ≡ b → (a && b) ≡ leb (49 + start + count) (49 + room)
    go true e true f = sym (le-leb (49 + start + count) (49 + room) (omega (arith, leb-true count room e, leb-true start (room - count) f)))
    go true e false f = sym (lt-leb (49 + start + count) (49 + room) (omega (arith, leb-true count room e, leb-false start (room - count) f)))
    go false e b f = sym (lt-leb (49 + start + count) (49 + room) (omega (arith, leb-false count room e)))

-- as many as the count says
pub many_long : (l : List ℕ) → leb (get_or l 18 0) 3 ≡ false → acked_fits l ≡ true → length (take (get_or l 18 0) (drop (49 + get_or l 19 0) l)) ≡ get_or l 18 0
unfolding acked_fits
many_long l many fits = rw (length-take, length-drop) (omega (arith, leb-true (49 + get_or l 19 0 + get_or l 18 0) (length l) (rw many at fits)))

module _ (l lists : List ℕ) (h : length l ≡ 49) where
  long : length (l ++ lists) ≡ 49 + length lists
  long = length-append l lists ∙ rw h

  fits_is : acked_fits (l ++ lists) ≡ (leb (get_or l 18 0) 3 || (leb (get_or l 18 0) (length lists) && leb (get_or l 19 0) (length lists - get_or l 18 0)))
  unfolding acked_fits
  fits_is = rw (own l lists h 18 refl, own l lists h 19 refl, long, place (get_or l 18 0) (get_or l 19 0) (length lists))

  pub fits_few : get_or l 18 0 ≤ 3 → true ≡ acked_fits (l ++ lists)
  fits_few few = rw (fits_is, le-leb (get_or l 18 0) 3 few)

  pub fits_many : 3 < get_or l 18 0 → (leb (get_or l 18 0) (length lists) && leb (get_or l 19 0) (length lists - get_or l 18 0)) ≡ acked_fits (l ++ lists)
  fits_many more = rw (fits_is, lt-leb (get_or l 18 0) 3 more)

  -- up to three stand in the call
  pub acked_few : get_or l 18 0 ≤ 3 → acked_of (l ++ lists) ≡ take (get_or l 18 0) (get_or l 19 0 ∷ get_or l 20 0 ∷ get_or l 21 0 ∷ [])
  unfolding acked_of
  acked_few few = rw (own l lists h 18 refl, own l lists h 19 refl, own l lists h 20 refl, own l lists h 21 refl, le-leb (get_or l 18 0) 3 few)

  module _ (more : 3 < get_or l 18 0) where
    many : leb (get_or l 18 0) 3 ≡ false
    many = lt-leb (get_or l 18 0) 3 more

    -- a place outside
    pub acked_outside : acked_fits (l ++ lists) ≡ false → acked_of (l ++ lists) ≡ []
    unfolding acked_of
    acked_outside e = rw (own l lists h 18 refl, many, e)

    pub acked_listed : acked_fits (l ++ lists) ≡ true → acked_of (l ++ lists) ≡ take (get_or l 18 0) (drop (get_or l 19 0) lists)
    unfolding acked_of
    acked_listed e =
        rw (own l lists h 18 refl, own l lists h 19 refl, many, e)
        (ap (take (get_or l 18 0)) (rw h at (drop-append-add l lists (get_or l 19 0))))

    pub place_fits : acked_fits (l ++ lists) ≡ true → get_or l 19 0 + get_or l 18 0 ≤ length lists
    unfolding acked_fits
    place_fits e = omega (arith, leb-true (49 + get_or l 19 0 + get_or l 18 0) (49 + length lists) (rw (own l lists h 18 refl, own l lists h 19 refl, long, many) at e))
