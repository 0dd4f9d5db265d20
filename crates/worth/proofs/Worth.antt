-- What the estimates are worth: an update keeps the promises, step by step. Assumes nothing.
use Rattle.std.specs.Prelude.{Option, None, Some}
use Prim.Native.Nat.{ℕ, ◌+◌, ◌-◌, ◌/◌, ◌≤◌}
use mathlib.Core.Bool.{Bool, true, false, cond, ◌||◌}
use mathlib.Core.List.{List, [], ◌∷◌, ◌++◌}
use mathlib.Core.Path.{◌≡◌, refl, sym, ap, subst}
use mathlib.Mathlib.Data.Bool.Basic.{or-eq-false-eq-eq-false-and-eq-false}
use native.Mathlib.Nat.{sub_self, le_refl, le_trans, max-le, le-max_left, le-max_right, le-add_right}
use native.Mathlib.Omega.{arith}
use lib.Dec.{ltb, eqb}
use borrow.Author.Tests.{ltb-false, le-ltb}
use Rattle.filters.specs.declared.windowed_filter.Estimates.{Estimates}
use Rattle.filters.specs.declared.windowed_filter.Sample.{Sample}
use Rattle.filters.specs.declared.windowed_filter.WindowedFilter.{WindowedFilter}
use Rattle.filters.specs.WindowedFilter.{sample_at, estimates, all_three, is_older, is_replaced, raised, shifted, lingers, renewed, aged, updated, is_after, windowed_reset, windowed_number, windowed_update}
use Rattle.worth.specs.Worth.{Step, update, reset, clear, Ran, fed_by, step, go_on, NoneAbove, Stands, largest, latest, within, Worth, Promised, Holds, EveryRun}

-- what holds on both sides of a test holds of the choice
choose : {A : Type 0} (P : A → Type 0) {x y : A} (b : Bool) → (b ≡ true → P x) → (b ≡ false → P y) → P (cond b x y)
choose P true p q = p refl
choose P false p q = q refl

neither : (a b : Bool) → (a || b) ≡ false → (a ≡ false) × (b ≡ false)
neither a b h = (or-eq-false-eq-eq-false-and-eq-false a b).0 h

-- ---- what was fed: one more
here : (new : Sample) (fed : List Sample) → Stands (new ∷ fed) new
here new fed = ([], fed, refl, tt)

still : {x new : Sample} {fed : List Sample} → new.sample ≤ x.sample → Stands fed x → Stands (new ∷ fed) x
still {x} {new} p s = (new ∷ s.0, s.1, ap (λ l. new ∷ l) s.2, (p, s.3))

-- one that is not too old is not above the largest of the window
pub among : (w t : ℕ) (fed : List Sample) (x : Sample) → Stands fed x → t ≤ x.time + w → x.sample ≤ largest (within w t fed)
among w t fed x s fine = subst (λ (l : List Sample). x.sample ≤ largest (within w t l)) (sym s.2) (go s.0)
  where
    go : (later : List Sample) → x.sample ≤ largest (within w t (later ++ (x ∷ s.1)))
    go [] = rw (le-ltb w (t - x.time) (omega (arith, fine))) (le-max_left x.sample (largest (within w t s.1)))
    go (y ∷ later) =
        let rest = within w t (later ++ (x ∷ s.1)) in
        choose (λ l. x.sample ≤ largest l) (is_older y w t) (λ _. go later) (λ _. le_trans (go later) (le-max_right y.sample (largest rest)))

-- an estimate that is not too old
young : (x : Sample) (w t : ℕ) → is_older x w t ≡ false → t ≤ x.time + w
young x w t h = omega (arith, ltb-false w (t - x.time) h)

module _ (w : ℕ) (fed : List Sample) (s t : ℕ) where
  abbrev new : Sample
  new = sample_at s t

  -- the promises but the age's, with what the later steps need: no time is later than the new one's, and the best one's
  -- is not before `since`
  record Kept (since : ℕ) (y : Estimates) : Type 0 where
    second_sample : y.second.sample ≤ y.best.sample
    third_sample : y.third.sample ≤ y.second.sample
    newest : s ≤ y.third.sample
    best_time : since ≤ y.best.time
    second_time : y.best.time ≤ y.second.time
    third_time : y.second.time ≤ y.third.time
    past : y.third.time ≤ t
    best : Stands (new ∷ fed) y.best
    second : Stands (new ∷ fed) y.second
    third : Stands (new ∷ fed) y.third

  worth : (since : ℕ) (y : Estimates) → Kept since y → latest fed ≤ since + w → t ≤ y.best.time + w → Worth w (new ∷ fed) y
  worth since y k before now =
      let age : latest (new ∷ fed) ≤ y.best.time + w = max-le now (omega (arith, before, k.best_time)) in
      record {
        second_sample = k.second_sample;
        third_sample = k.third_sample;
        second_time = k.second_time;
        third_time = k.third_time;
        newest = k.newest;
        best = k.best;
        second = k.second;
        third = k.third;
        age = age;
        in_window_lem = among w (latest (new ∷ fed)) (new ∷ fed) y.best k.best age;
      }

  -- what a step leaves: the second and the third are new, the third alone is, or none
  both_new : {since : ℕ} (x : Sample) → since ≤ x.time → x.time ≤ t → s ≤ x.sample → Stands (new ∷ fed) x → Kept since (estimates x new new)
  both_new x from past above stands =
      record {
        second_sample = above;
        third_sample = le_refl s;
        newest = le_refl s;
        best_time = from;
        second_time = past;
        third_time = le_refl t;
        past = le_refl t;
        best = stands;
        second = here new fed;
        third = here new fed;
      }

  one_new :
      {since : ℕ} (x y : Sample) → since ≤ x.time → x.time ≤ y.time → y.time ≤ t → y.sample ≤ x.sample → s ≤ y.sample →
      Stands (new ∷ fed) x → Stands (new ∷ fed) y → Kept since (estimates x y new)
  one_new x y from order past falls above stands also =
      record {
        second_sample = falls;
        third_sample = above;
        newest = le_refl s;
        best_time = from;
        second_time = order;
        third_time = past;
        past = le_refl t;
        best = stands;
        second = also;
        third = here new fed;
      }

  -- step 2: an estimate that the new sample exceeds gives way to it
  raised_kept : (e : Estimates) → Worth w fed e → e.third.time ≤ t → s ≤ e.best.sample → Kept e.best.time (raised e new)
  unfolding raised
  raised_kept e p past under-best =
      let second_past = le_trans p.third_time past in
      let first = still under-best p.best in
      choose (Kept e.best.time) (ltb e.second.sample s)
      (λ _. both_new e.best (le_refl e.best.time) (le_trans p.second_time second_past) under-best first)
      (λ no_second.
      let under-second = ltb-false e.second.sample s no_second in
      let next = still under-second p.second in
      choose (Kept e.best.time) (ltb e.third.sample s)
      (λ _. one_new e.best e.second (le_refl e.best.time) p.second_time second_past p.second_sample under-second first next)
      (λ no_third.
      let under-third = ltb-false e.third.sample s no_third in
      record {
        second_sample = p.second_sample;
        third_sample = p.third_sample;
        newest = under-third;
        best_time = le_refl e.best.time;
        second_time = p.second_time;
        third_time = p.third_time;
        past = past;
        best = first;
        second = next;
        third = still under-third p.third;
      }))

  -- its third is not too old either
  fresh : is_older new w t ≡ false
  fresh = rw sub_self (le-ltb w 0 (omega arith))

  raised_young : (e : Estimates) → is_older e.third w t ≡ false → is_older (raised e new).third w t ≡ false
  unfolding raised
  raised_young e is =
      let Young : Estimates → Type 0 = λ y. is_older y.third w t ≡ false in
      choose Young (ltb e.second.sample s) (λ _. fresh) (λ _. choose Young (ltb e.third.sample s) (λ _. fresh) (λ _. is))

  -- steps 3 to 5: what they leave is kept, and its best is not too old
  abbrev Good : ℕ → Estimates → Type 0
  Good since y = Kept since y × (t ≤ y.best.time + w)

  aged_good : {since : ℕ} (y : Estimates) → Kept since y → is_older y.third w t ≡ false → Good since (aged y new w)
  unfolding aged shifted renewed
  aged_good {since} y k third_young =
      let second_past = le_trans k.third_time k.past in
      let best-past = le_trans k.second_time second_past in
      let from_Second = le_trans k.best_time k.second_time in
      let under-second = le_trans k.newest k.third_sample in
      choose (Good since) (is_older y.best w t)
      (λ _.
      choose (Good since) (is_older y.second w t)
      (λ _. (both_new y.third (le_trans from_Second k.third_time) k.past k.newest k.third, young y.third w t third_young))
      (λ second-young. (one_new y.second y.third from_Second k.third_time k.past k.third_sample k.newest k.second k.third, young y.second w t second-young)))
      (λ best-young.
      let fine = young y.best w t best-young in
      choose (Good since) (lingers y.second y.best (w / 4) t)
      (λ _. (both_new y.best k.best_time best-past (le_trans under-second k.second_sample) k.best, fine))
      (λ _.
      choose (Good since) (lingers y.third y.second (w / 2) t)
      (λ _. (one_new y.best y.second k.best_time k.second_time second_past k.second_sample under-second k.best k.second, fine))
      (λ _. (k, fine))))

  -- an update of three estimates whose times are not later
  updated_worth : (e : Estimates) → Worth w fed e → e.third.time ≤ t → Worth w (new ∷ fed) (updated (Some e) new w)
  unfolding is_replaced
  updated_worth e p past =
      let best-past = le_trans p.second_time (le_trans p.third_time past) in
      let made : (y : Estimates) → Good e.best.time y → Worth w (new ∷ fed) y = λ y g. worth e.best.time y g.0 p.age g.1 in
      choose (Worth w (new ∷ fed)) (is_replaced e new w)
      (λ _. made (all_three new) (both_new new best-past (le_refl t) (le_refl s) (here new fed), le-add_right t w))
      (λ none.
      let tests = neither (ltb e.best.sample s) (is_older e.third w t) none in
      made (aged (raised e new) new w)
      (aged_good (raised e new) (raised_kept e p past (ltb-false e.best.sample s tests.0)) (raised_young e tests.1)))

-- ---- a run
third_past : (e : Estimates) (t : ℕ) → is_after (Some e) t ≡ false → e.third.time ≤ t
third_past e t h =
    let last = ltb t e.third.time in
    ltb-false t e.third.time (neither (ltb t e.best.time || ltb t e.second.time) last h).1

updated_promised : (w : ℕ) (fed : List Sample) (h : Option Estimates) (s t : ℕ) → Promised w fed h → is_after h t ≡ false → Worth w (sample_at s t ∷ fed) (updated h (sample_at s t) w)
updated_promised w fed None s t empty in_order =
    let new = sample_at s t in
    worth w fed s t t (all_three new) (both_new w fed s t new (le_refl t) (le_refl t) (le_refl s) (here new fed))
    (subst (λ (l : List Sample). latest l ≤ t + w) (sym empty) (omega arith)) (le-add_right t w)
updated_promised w fed (Some e) s t p in_order = updated_worth w fed s t e p (third_past e t in_order)

updated_holds : (w : ℕ) (r : Ran) (s t : ℕ) → Holds w r → Holds w (step r (update s t))
unfolding fed_by windowed_update windowed_number
updated_holds w r s t p = go (is_after r.filter.held t) refl
  where
    after : WindowedFilter
    after = record { window = r.filter.window; held = Some (updated r.filter.held (sample_at s t) r.filter.window) }

    go :
        (b : Bool) → is_after r.filter.held t ≡ b →
        Holds w (record { filter = cond b r.filter after; fed = cond (eqb (cond b 3 0) 0) (sample_at s t ∷ r.fed) r.fed })
    go true is = p
    go false is =
        record {
          window_kept = p.window_kept;
          promised = subst (λ (n : ℕ). Worth w (sample_at s t ∷ r.fed) (updated r.filter.held (sample_at s t) n)) (sym p.window_kept) (updated_promised w r.fed r.filter.held s t p.promised is);
        }

reset_is : (r : Ran) (s t : ℕ) → step r (reset s t) ≡ step (step r clear) (update s t)
unfolding fed_by windowed_reset windowed_update windowed_number
reset_is r s t = refl

cleared_holds : (w : ℕ) (r : Ran) → Holds w r → Holds w (step r clear)
cleared_holds w r p = record { window_kept = p.window_kept; promised = refl }

pub step_holds : (w : ℕ) (r : Ran) (c : Step) → Holds w r → Holds w (step r c)
step_holds w r (update s t) p = updated_holds w r s t p
step_holds w r (reset s t) p = subst (Holds w) (sym (reset_is r s t)) (updated_holds w (step r clear) s t (cleared_holds w r p))
step_holds w r clear p = cleared_holds w r p

go_on_holds : (w : ℕ) (r : Ran) (steps : List Step) → Holds w r → Holds w (go_on r steps)
go_on_holds w r [] p = p
go_on_holds w r (c ∷ steps) p = go_on_holds w (step r c) steps (step_holds w r c p)

-- ---- the largest sample
under_more : {n m : ℕ} (l : List Sample) → n ≤ m → NoneAbove l n → NoneAbove l m
under_more [] h p = tt
under_more (x ∷ l) h p = (le_trans p.0 h, under_more l h p.1)

largest_bounds : (l : List Sample) → NoneAbove l (largest l)
largest_bounds [] = tt
largest_bounds (x ∷ l) = (le-max_left x.sample (largest l), under_more l (le-max_right x.sample (largest l)) (largest_bounds l))

largest_least : (l : List Sample) (n : ℕ) → NoneAbove l n → largest l ≤ n
largest_least [] n p = omega arith
largest_least (x ∷ l) n p = max-le p.0 (largest_least l n p.1)

pub every_run : EveryRun
every_run =
    record {
      run = λ w steps. go_on_holds w _ steps (record { window_kept = refl; promised = refl });
      reset_is = reset_is;
      largest_bounds = largest_bounds;
      largest_least = largest_least;
    }

-- ---- what it says of one estimate
-- it is not later than the latest that was fed
pub stands_by : (fed : List Sample) (x : Sample) → Stands fed x → x.time ≤ latest fed
stands_by fed x s = subst (λ (l : List Sample). x.time ≤ latest l) (sym s.2) (go s.0)
  where
    go : (later : List Sample) → x.time ≤ latest (later ++ (x ∷ s.1))
    go [] = le-max_left x.time (latest s.1)
    go (y ∷ later) = le_trans (go later) (le-max_right y.time (latest (later ++ (x ∷ s.1))))

-- what was fed is not above n, so an estimate is not
pub stands_under : (n : ℕ) (fed : List Sample) (x : Sample) → NoneAbove fed n → Stands fed x → x.sample ≤ n
stands_under n fed x all s = go s.0 (subst (λ (l : List Sample). NoneAbove l n) s.2 all)
  where
    go : (later : List Sample) → NoneAbove (later ++ (x ∷ s.1)) n → x.sample ≤ n
    go [] p = p.0
    go (y ∷ later) p = go later p.1
