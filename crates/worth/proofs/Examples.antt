-- The runs worked out, and two that miss a sample, at any window. Assumes nothing.
use Rattle.std.specs.Prelude.{Some}
use Prim.Native.Nat.{ℕ, ◌+◌, ◌-◌, ◌/◌, ◌^◌, ◌≤◌, ◌<◌}
use mathlib.Core.Bool.{Bool, true, false}
use mathlib.Core.List.{List, [], ◌∷◌}
use mathlib.Core.Path.{◌≡◌, refl, ap, subst, ◌∙◌}
use native.Mathlib.Nat.{max-le}
use native.Mathlib.Omega.{arith}
use lib.Dec.{leb, eqb}
use borrow.Author.Tests.{lt-ltb, le-ltb, leb-true, leb-false}
use Rattle.filters.specs.declared.windowed_filter.Estimates.{Estimates}
use Rattle.filters.specs.declared.windowed_filter.Sample.{Sample}
use Rattle.filters.specs.WindowedFilter.{sample_at, estimates, is_replaced, raised, shifted, lingers, renewed, aged, windowed_new, windowed_number, windowed_update}
use Rattle.worth.specs.Worth.{Step, update, Ran, fed_by, step, go_on, ran, Stands, latest}
use Rattle.worth.specs.Examples.{IsMost, missing, unheld, Ends, AreWords, Worked}
use Rattle.worth.proofs.Worth.{among}

-- ---- an accepted update by the tests of the steps
abbrev at : (w : ℕ) (a b c : Sample) → List Sample → Ran
at w a b c fed = record { filter = record { window = w; held = Some (estimates a b c) }; fed = fed }

module _ (w s t : ℕ) (a b c : Sample) (fed : List Sample) where
  abbrev new : Sample
  new = sample_at s t

  -- no time is later, the sample is not above the third, and the third is not too old
  abbrev Quiet : Type 0
  Quiet =
      (a.time ≤ t)
      × (b.time ≤ t)
      × (c.time ≤ t)
      × (s ≤ a.sample)
      × (s ≤ b.sample)
      × (s ≤ c.sample)
      × (t - c.time ≤ w)

  taken : Quiet → step (at w a b c fed) (update s t) ≡ record { filter = record { window = w; held = Some (aged (estimates a b c) new w) }; fed = new ∷ fed }
  unfolding fed_by windowed_number windowed_update is_replaced raised
  taken q =
      rw (le-ltb t a.time q.0, le-ltb t b.time q.1, le-ltb t c.time q.2, le-ltb a.sample s q.3, le-ltb b.sample s q.4, le-ltb c.sample s q.5, le-ltb w (t - c.time) q.6)

  -- step 3: the best is too old, the second is not
  promoted : Quiet → w < t - a.time → t - b.time ≤ w → step (at w a b c fed) (update s t) ≡ at w b c new (new ∷ fed)
  unfolding aged shifted
  promoted q old young = taken q ∙ rw (lt-ltb w (t - a.time) old, le-ltb w (t - b.time) young)

  -- step 4: the best is not too old, and the second has repeated it for longer than a quarter of the window
  refreshed : Quiet → t - a.time ≤ w → eqb b.sample a.sample ≡ true → w / 4 < t - b.time → step (at w a b c fed) (update s t) ≡ at w a new new (new ∷ fed)
  unfolding aged renewed lingers
  refreshed q young same long = taken q ∙ rw (le-ltb w (t - a.time) young, same, lt-ltb (w / 4) (t - b.time) long)

up_to : {n : ℕ} (x : Sample) (l : List Sample) → x.time ≤ n → latest l ≤ n → latest (x ∷ l) ≤ n
up_to x l p q = max-le p q

-- a sample that is not too old, and above the best
above_best :
    (w : ℕ) (steps : List Step) (e : Estimates) (fed : List Sample) (x : Sample) → Ends w steps e fed → Stands fed x → latest fed ≤ x.time + w → e.best.sample < x.sample →
    IsMost w (ran w steps).fed (ran w steps).filter.held → ⊥
above_best w steps e fed x ends stands fine above most =
    omega (arith, above, among w (latest fed) fed x stands fine, subst (λ (r : Ran). IsMost w r.fed r.filter.held) ends most)

-- ---- at every window above 0
module _ (w : ℕ) (h : 1 ≤ w) where
  abbrev three : Sample
  three = sample_at 3 0

  abbrev two : Sample
  two = sample_at 2 w

  abbrev one : Sample
  one = sample_at 1 (w + w)

  abbrev zero : Sample
  zero = sample_at 0 (w + w)

  abbrev last : Sample
  last = sample_at 0 (w + w + 1)

  quarter : w / 4 < w
  quarter = omega (arith, h)

  after_two : (fed : List Sample) → step (at w three three three fed) (update 2 w) ≡ at w three two two (two ∷ fed)
  after_two fed =
      refreshed w 2 w three three three fed
      (omega arith, omega arith, omega arith, omega arith, omega arith, omega arith, omega arith)
      (omega arith) refl (omega (arith, h, quarter))

  after_one : (fed : List Sample) → step (at w three two two fed) (update 1 (w + w)) ≡ at w two two one (one ∷ fed)
  after_one fed =
      promoted w 1 (w + w) three two two fed
      (omega arith, omega arith, omega arith, omega arith, omega arith, omega arith, omega arith)
      (omega (arith, h)) (omega arith)

  after_zero : (fed : List Sample) → step (at w two two one fed) (update 0 (w + w)) ≡ at w two zero zero (zero ∷ fed)
  after_zero fed =
      refreshed w 0 (w + w) two two one fed
      (omega arith, omega arith, omega arith, omega arith, omega arith, omega arith, omega arith)
      (omega arith) refl (omega (arith, h, quarter))

  after_last : (fed : List Sample) → step (at w two zero zero fed) (update 0 (w + w + 1)) ≡ at w zero zero last (last ∷ fed)
  after_last fed =
      promoted w 0 (w + w + 1) two zero zero fed
      (omega arith, omega arith, omega arith, omega arith, omega arith, omega arith, omega (arith, h))
      (omega arith) (omega (arith, h))

  after_three : step (record { filter = windowed_new w; fed = [] }) (update 3 0) ≡ at w three three three (three ∷ [])
  unfolding fed_by windowed_number windowed_update
  after_three = refl

  missed_at : Ends w (missing w) (estimates zero zero last) (last ∷ zero ∷ one ∷ two ∷ three ∷ [])
  missed_at =
      ap (λ (r : Ran). go_on r (update 2 w ∷ update 1 (w + w) ∷ update 0 (w + w) ∷ update 0 (w + w + 1) ∷ [])) after_three
      ∙ ap (λ (r : Ran). go_on r (update 1 (w + w) ∷ update 0 (w + w) ∷ update 0 (w + w + 1) ∷ [])) (after_two _)
      ∙ ap (λ (r : Ran). go_on r (update 0 (w + w) ∷ update 0 (w + w + 1) ∷ [])) (after_one _)
      ∙ ap (λ (r : Ran). go_on r (update 0 (w + w + 1) ∷ [])) (after_zero _)
      ∙ after_last _

  -- 1 is not too old, and the best is 0
  in_time : latest (last ∷ zero ∷ one ∷ two ∷ three ∷ []) ≤ w + w + w
  in_time =
      up_to last (zero ∷ one ∷ two ∷ three ∷ []) (omega (arith, h))
      (up_to zero (one ∷ two ∷ three ∷ []) (omega arith)
      (up_to one (two ∷ three ∷ []) (omega arith) (up_to two (three ∷ []) (omega arith) (up_to three [] (omega arith) (omega arith)))))

  one_missed : IsMost w (ran w (missing w)).fed (ran w (missing w)).filter.held → ⊥
  one_missed =
      above_best w (missing w) (estimates zero zero last) (last ∷ zero ∷ one ∷ two ∷ three ∷ []) one missed_at
      (last ∷ zero ∷ [], two ∷ three ∷ [], refl, (omega arith, (omega arith, tt))) in_time (omega arith)

-- ---- at every window from 4 on
module _ (w : ℕ) (h : 4 ≤ w) where
  abbrev five : Sample
  five = sample_at 5 0

  abbrev four : Sample
  four = sample_at 4 1

  abbrev late : Sample
  late = sample_at 3 (w + 1)

  after_five : step (record { filter = windowed_new w; fed = [] }) (update 5 0) ≡ at w five five five (five ∷ [])
  unfolding fed_by windowed_number windowed_update
  after_five = refl

  -- no step acts
  after_four : (fed : List Sample) → step (at w five five five fed) (update 4 1) ≡ at w five five five (four ∷ fed)
  unfolding fed_by windowed_number windowed_update is_replaced raised aged renewed lingers
  after_four fed = rw (le-ltb w 1 (omega (arith, h)), le-ltb (w / 4) 1 (omega (arith, h)), le-ltb (w / 2) 1 (omega (arith, h)))

  -- the third is too old
  after_late : (fed : List Sample) → step (at w five five five fed) (update 3 (w + 1)) ≡ at w late late late (late ∷ fed)
  unfolding fed_by windowed_number windowed_update is_replaced
  after_late fed = rw (le-ltb (w + 1) 0 (omega arith), lt-ltb w (w + 1 - 0) (omega arith))

  unheld_at : Ends w (unheld w) (estimates late late late) (late ∷ four ∷ five ∷ [])
  unheld_at =
      ap (λ (r : Ran). go_on r (update 4 1 ∷ update 3 (w + 1) ∷ [])) after_five
      ∙ ap (λ (r : Ran). go_on r (update 3 (w + 1) ∷ [])) (after_four _)
      ∙ after_late _

  four_missed : IsMost w (ran w (unheld w)).fed (ran w (unheld w)).filter.held → ⊥
  four_missed =
      above_best w (unheld w) (estimates late late late) (late ∷ four ∷ five ∷ []) four unheld_at
      (late ∷ [], five ∷ [], refl, (omega arith, tt))
      (up_to late (four ∷ five ∷ []) (omega arith) (up_to four (five ∷ []) (omega arith) (up_to five [] (omega arith) (omega arith)))) (omega arith)

-- ---- at every window from 1 to 2^64 - 2
not_most : (w : ℕ) → 1 ≤ w → w < 2 ^ 64 - 1 → ((steps : List Step) → AreWords steps → let r = ran w steps in IsMost w r.fed r.filter.held) → ⊥
not_most w h l most = go (leb 4 w) refl
  where
    go : (t : Bool) → leb 4 w ≡ t → ⊥
    go true e = four_missed w (leb-true 4 w e) (most (unheld w) (omega arith, omega arith, (omega arith, omega arith, (omega arith, omega (arith, l), tt))))
    go false e =
        let small = leb-false 4 w e in
        let zeros : AreWords (update 0 (w + w) ∷ update 0 (w + w + 1) ∷ []) = (omega arith, omega (arith, small), (omega arith, omega (arith, small), tt)) in
        one_missed w h (most (missing w) (omega arith, omega arith, (omega arith, omega (arith, l), (omega arith, omega (arith, small), zeros))))

-- ---- at window 8
pub worked : Worked
unfolding fed_by windowed_number windowed_update is_replaced raised aged shifted renewed lingers
worked =
    record {
      row1 = (refl, refl);
      row2 = (refl, refl);
      row3 = (refl, refl);
      row4 = (refl, refl);
      row5 = (refl, refl);
      at_eight = refl;
      missed_at = missed_at;
      unheld_at = unheld_at;
      not_most = not_most;
      oldest = refl;
      fallen = refl;
    }
