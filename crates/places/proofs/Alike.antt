-- The faults of two calls that differ in their acked numbers alone, and of a call with and without the lists that a run was lent. Assumes nothing.
use Prim.Native.Nat.{ℕ}
use mathlib.Core.Bool.{false}
use mathlib.Core.List.{List, ◌++◌}
use mathlib.Core.Path.{◌≡◌, refl}
use lib.Dec.{eqb}
use lib.ListN.{length, get_or}
use Rattle.units.specs.declared.time.Moment.{Moment}
use Rattle.state.specs.Faults.{started_faults}
use Rattle.arguments.specs.Alike.{AreAlike}
use Rattle.arguments.specs.Sample.{acked_fits}
use Rattle.arguments.proofs.Alike.{own, own_alike, event_alike, sample_alike}
use Rattle.places.specs.Places.{record_fits, record_in, sample_fits_in, sample_in, other_faults, faults_of}

module _ (v w : List ℕ) (h : AreAlike v w) where
  pub record_fits_alike : record_fits v ≡ record_fits w
  unfolding record_fits
  record_fits_alike = rw (h 28 refl, h 29 refl, h 30 refl, h 31 refl, h 32 refl, h 33 refl, h 34 refl, h 35 refl)

  pub record_in_alike : record_in v ≡ record_in w
  unfolding record_in
  record_in_alike = rw (h 22 refl, event_alike v w h)

  pub sample_fits_alike : sample_fits_in v ≡ sample_fits_in w
  unfolding sample_fits_in
  sample_fits_alike = rw (h 1 refl, h 2 refl, h 3 refl, h 4 refl, h 5 refl, h 6 refl, h 7 refl, h 8 refl, h 9 refl, h 12 refl, h 13 refl)

  sample_in_alike : acked_fits v ≡ acked_fits w → sample_in v ≡ sample_in w
  unfolding sample_in
  sample_in_alike fits = rw (h 11 refl, sample_alike v w h fits)

  other_alike : (least : Moment) → other_faults v least ≡ other_faults w least
  unfolding other_faults
  other_alike least = rw (h 0 refl, h 1 refl, h 2 refl, h 3 refl, h 4 refl, record_fits_alike, record_in_alike)

  -- so what a call of a run is blamed for depends on its acked numbers only by whether they are there
  pub faults_alike : acked_fits v ≡ acked_fits w → (least : Moment) → faults_of v least ≡ faults_of w least
  unfolding faults_of
  faults_alike fits least = rw (h 0 refl, fits, record_fits_alike, record_in_alike, sample_fits_alike, sample_in_alike fits, other_alike least)

-- ---- a call's own words, and the lists after them
module _ (l lists : List ℕ) (long : length l ≡ 49) (least : Moment) where
  pub starts : get_or l 0 0 ≡ 3 →
      started_faults (acked_fits (l ++ lists)) (record_fits l) (record_in l) (sample_fits_in l) (sample_in (l ++ lists)) ≡ faults_of (l ++ lists) least
  unfolding faults_of
  starts e =
      let h = own_alike l lists long in
      rw (own l lists long 0 refl, e, record_fits_alike (l ++ lists) l h, record_in_alike (l ++ lists) l h, sample_fits_alike (l ++ lists) l h)

  pub others : eqb (get_or l 0 0) 3 ≡ false → other_faults l least ≡ faults_of (l ++ lists) least
  unfolding faults_of
  others e = rw (own l lists long 0 refl, e, other_alike (l ++ lists) l (own_alike l lists long) least)
