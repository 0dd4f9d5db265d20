-- What is read of two calls that differ in their acked numbers alone. Assumes nothing.
use Prim.Native.Nat.{ℕ}
use mathlib.Core.Bool.{Bool, true, false, ◌&&◌, ◌||◌}
use mathlib.Core.List.{List, ◌++◌}
use mathlib.Core.Path.{◌≡◌, refl}
use native.Mathlib.Omega.{arith}
use lib.Dec.{ltb}
use lib.ListN.{length, get_or, get_or-append}
use borrow.Author.Tests.{ltb-true, lt-ltb}
use Rattle.state.proofs.Rows.{and_right}
use Rattle.arguments.specs.Alike.{is_other, AreAlike}
use Rattle.arguments.specs.CongestionEvent.{event_fits, event_from_word, event_from, words_from, event_in}
use Rattle.arguments.specs.Sample.{acked_fits, sample_fits, sample_from}
use Rattle.arguments.specs.Params.{params_from}

-- ---- a call's own words, whatever the lists are
pub own : (l lists : List ℕ) → length l ≡ 49 → (i : ℕ) → ltb i 49 ≡ true → get_or (l ++ lists) i 0 ≡ get_or l i 0
own l lists h i e = get_or-append l lists 0 i (omega (arith, h, ltb-true i 49 e))

other_below : (i : ℕ) → is_other i ≡ true → ltb i 49 ≡ true
other_below i h = go (ltb i 18) refl h
  where
    go : (t : Bool) → ltb i 18 ≡ t → (t || (ltb 21 i && ltb i 49)) ≡ true → ltb i 49 ≡ true
    go true e g = lt-ltb i 49 (omega (arith, ltb-true i 18 e))
    go false e g = and_right (ltb 21 i) (ltb i 49) g

pub own_alike : (l lists : List ℕ) → length l ≡ 49 → AreAlike (l ++ lists) l
own_alike l lists n i h = own l lists n i (other_below i h)

-- ---- what they are read as
module _ (v w : List ℕ) (h : AreAlike v w) where
  pub params_alike : params_from v ≡ params_from w
  unfolding params_from
  params_alike = rw (h 38 refl, h 39 refl, h 40 refl, h 41 refl, h 42 refl, h 43 refl, h 44 refl, h 45 refl, h 46 refl, h 47 refl, h 48 refl)

  pub event_alike : event_from v ≡ event_from w
  unfolding event_from_word event_fits
  event_alike =
      rw (h 22 refl, h 23 refl, h 24 refl, h 25 refl, h 26 refl, h 27 refl, h 28 refl, h 29 refl, h 30 refl, h 31 refl, h 32 refl, h 33 refl, h 34 refl, h 35 refl, h 36 refl, h 37 refl)

  pub event_in_alike : event_in v ≡ event_in w
  unfolding words_from
  event_in_alike =
      rw (h 22 refl, h 23 refl, h 24 refl, h 25 refl, h 26 refl, h 27 refl, h 28 refl, h 29 refl, h 30 refl, h 31 refl, h 32 refl, h 33 refl, h 34 refl, h 35 refl, h 36 refl, h 37 refl)

  pub sample_alike : acked_fits v ≡ acked_fits w → sample_from v ≡ sample_from w
  unfolding sample_from sample_fits
  sample_alike fits =
      rw (h 1 refl, h 2 refl, h 3 refl, h 4 refl, h 5 refl, h 6 refl, h 7 refl, h 8 refl, h 9 refl, h 10 refl, h 11 refl, h 12 refl, h 13 refl, h 14 refl, h 15 refl, h 16 refl, h 17 refl, fits)
