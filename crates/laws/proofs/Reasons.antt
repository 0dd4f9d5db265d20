-- Why a windowed filter's estimates moved: the laws of the reason, by the tests of the steps. Assumes nothing.
use Rattle.std.specs.Prelude.{Option, None, Some}
use Rattle.std.proofs.Math.Bool.{and-false}
use Prim.Native.Nat.{ℕ, ◌/◌}
use mathlib.Core.Bool.{Bool, true, false, cond, ◌||◌, true≢false, false≢true}
use mathlib.Core.Logic.{◌⊎◌, inl, inr, ◌↔◌}
use mathlib.Core.Path.{◌≡◌, refl, sym, ap, ◌∙◌, subst}
use native.Mathlib.Nat.{sub_self, le_refl}
use native.Mathlib.Omega.{arith}
use lib.Dec.{ltb, eqb}
use borrow.Author.Tests.{le-ltb}
use Rattle.filters.specs.declared.windowed_filter.Estimates.{Estimates}
use Rattle.filters.specs.declared.windowed_filter.Reason.{Reason}
use Rattle.filters.specs.declared.windowed_filter.Reason.TheVariants.{AllReplaced, SecondRaised, ThirdRaised, PromotedOnce, PromotedTwice, QuarterRefresh, HalfRefresh, Unchanged}
use Rattle.filters.specs.declared.windowed_filter.Sample.{Sample}
use Rattle.filters.specs.declared.windowed_filter.WindowedFilter.{WindowedFilter}
use Rattle.filters.specs.Reason.{raised_reason, shifted_reason, renewed_reason, aged_reason, later_reason, reason_of, windowed_reason}
use Rattle.filters.specs.WindowedFilter.{sample_at, estimates, all_three, is_older, is_replaced, raised, shifted, lingers, renewed, aged, updated, best_of, is_after, windowed_update}
use Rattle.state.proofs.Rows.{and_right, or_right}
use Rattle.laws.specs.Reasons.{Acts, moves_best, Reasons}

-- ---- a name is Unchanged or not
abbrev is_unchanged : Reason → Bool
is_unchanged AllReplaced = false
is_unchanged SecondRaised = false
is_unchanged ThirdRaised = false
is_unchanged PromotedOnce = false
is_unchanged PromotedTwice = false
is_unchanged QuarterRefresh = false
is_unchanged HalfRefresh = false
is_unchanged Unchanged = true

names : {r : Reason} → is_unchanged r ≡ false → r ≡ Unchanged → ⊥
names {r} named is = true≢false (sym (ap is_unchanged is) ∙ named)

-- ---- a sample has no age at its own time
fresh : (new : Sample) (limit : ℕ) → is_older new limit new.time ≡ false
fresh new limit = rw sub_self (le-ltb limit 0 (omega arith))

never_lingers : (new better : Sample) (limit : ℕ) → lingers new better limit new.time ≡ false
unfolding lingers
never_lingers new better limit = rw (fresh new limit) (and-false (eqb new.sample better.sample))

lingers_older : (s better : Sample) (limit t : ℕ) → lingers s better limit t ≡ true → is_older s limit t ≡ true
unfolding lingers
lingers_older s better limit t h = and_right (eqb s.sample better.sample) (is_older s limit t) h

-- what holds on both sides of a test holds of the choice
choose : {A B : Type 0} (P : A → B → Type 0) {x y : A} {r q : B} (b : Bool) → (b ≡ true → P x r) → (b ≡ false → P y q) → P (cond b x y) (cond b r q)
choose P true p q = p refl
choose P false p q = q refl

-- ---- Unchanged exactly when the estimates are as they were
module _ (e : Estimates) (new : Sample) (w : ℕ) where
  abbrev Agree : Estimates → Reason → Type 0
  Agree x r = (r ≡ Unchanged) ↔ (x ≡ e)

  moved : {x : Estimates} {r : Reason} → is_unchanged r ≡ false → (x ≡ e → ⊥) → Agree x r
  moved named differs = (λ is. absurd (names named is), λ same. absurd (differs same))

  -- the new sample is above another, or younger: they are two
  above : (s : Sample) → ltb s.sample new.sample ≡ true → new ≡ s → ⊥
  above s is same = true≢false (sym is ∙ subst (λ (x : Sample). ltb x.sample new.sample ≡ false) same (le-ltb new.sample new.sample (le_refl new.sample)))

  same_age : (s : Sample) (limit : ℕ) → new ≡ s → is_older s limit new.time ≡ false
  same_age s limit same = subst (λ (x : Sample). is_older x limit new.time ≡ false) same (fresh new limit)

  -- an estimate that is not too old is not the best that is
  younger : (s : Sample) → is_older e.best w new.time ≡ true → is_older s w new.time ≡ false → s ≡ e.best → ⊥
  younger s old young same = true≢false (sym old ∙ sym (ap (λ (x : Sample). is_older x w new.time) same) ∙ young)

  -- step 1
  replaced : (a b : Bool) → ltb e.best.sample new.sample ≡ a → is_older e.third w new.time ≡ b → (a || b) ≡ true → all_three new ≡ e → ⊥
  replaced true b p q h same = above e.best p (ap (λ (x : Estimates). x.best) same)
  replaced false true p q h same = true≢false (sym q ∙ same_age e.third w (ap (λ (x : Estimates). x.third) same))
  replaced false false p q h same = absurd (false≢true h)

  -- step 2: what it leaves, for the steps after it
  abbrev Left : Estimates → Reason → Type 0
  Left y r =
      (y.best ≡ e.best)
      × (is_older y.third w new.time ≡ false)
      × ((limit : ℕ) → new ≡ e.second → is_older y.second limit new.time ≡ false)
      × ((limit : ℕ) → new ≡ e.third → is_older y.third limit new.time ≡ false)
      × Agree y r

  raised_left : is_older e.third w new.time ≡ false → Left (raised e new) (raised_reason e new)
  unfolding raised raised_reason
  raised_left young =
      choose Left (ltb e.second.sample new.sample)
      (λ is. (refl, fresh new w, (λ l same. fresh new l), (λ l same. fresh new l), moved refl (λ same. above e.second is (ap (λ (x : Estimates). x.second) same))))
      (λ _.
      choose Left (ltb e.third.sample new.sample)
      (λ is. (refl, fresh new w, same_age e.second, (λ l same. fresh new l), moved refl (λ same. above e.third is (ap (λ (x : Estimates). x.third) same))))
      (λ _. (refl, young, same_age e.second, same_age e.third, (λ _. refl, λ _. refl))))

  -- steps 3 to 5
  aged_agrees : (y : Estimates) (r : Reason) → Left y r → Agree (aged y new w) (aged_reason y new w r)
  unfolding aged aged_reason shifted shifted_reason renewed renewed_reason
  aged_agrees y r left =
      let older : Sample → Bool = λ s. is_older s w new.time in
      choose Agree (is_older y.best w new.time)
      (λ old.
      let old-best = sym (ap older left.0) ∙ old in
      choose Agree (is_older y.second w new.time)
      (λ _. moved refl (λ same. younger y.third old-best left.1 (ap (λ (x : Estimates). x.best) same)))
      (λ young. moved refl (λ same. younger y.second old-best young (ap (λ (x : Estimates). x.best) same))))
      (λ _.
      choose Agree (lingers y.second y.best (w / 4) new.time)
      (λ long. moved refl (λ same. true≢false (sym (lingers_older y.second y.best (w / 4) new.time long) ∙ left.2 (w / 4) (ap (λ (x : Estimates). x.second) same))))
      (λ _.
      choose Agree (lingers y.third y.second (w / 2) new.time)
      (λ long. moved refl (λ same. true≢false (sym (lingers_older y.third y.second (w / 2) new.time long) ∙ left.3 (w / 2) (ap (λ (x : Estimates). x.third) same))))
      (λ _. left.4)))

  third_young : is_replaced e new w ≡ false → is_older e.third w new.time ≡ false
  unfolding is_replaced
  third_young none = or_right (ltb e.best.sample new.sample) (is_older e.third w new.time) none

  pub updated_agrees : Agree (updated (Some e) new w) (reason_of (Some e) new w)
  unfolding is_replaced
  updated_agrees =
      choose Agree (is_replaced e new w)
      (λ yes. moved refl (replaced (ltb e.best.sample new.sample) (is_older e.third w new.time) refl refl yes))
      (λ none. aged_agrees (raised e new) (raised_reason e new) (raised_left (third_young none)))

-- ---- and so is the filter
abbrev is_set : Option Estimates → Bool
is_set None = false
is_set (Some e) = true

abbrev estimates_in : Estimates → Option Estimates → Estimates
estimates_in e None = e
estimates_in e (Some x) = x

abbrev filter : ℕ → Option Estimates → WindowedFilter
filter w h = record { window = w; held = h }

refused_or : (b : Bool) (f g : WindowedFilter) (r : Reason) → (r ≡ Unchanged) ↔ (g ≡ f) → (cond b Unchanged r ≡ Unchanged) ↔ (cond b f g ≡ f)
refused_or true f g r h = (λ _. refl, λ _. refl)
refused_or false f g r h = h

agrees : (w : ℕ) (h : Option Estimates) (s t : ℕ) → (windowed_reason (filter w h) s t ≡ Unchanged) ↔ (windowed_update (filter w h) s t ≡ filter w h)
unfolding windowed_reason windowed_update
agrees w None s t = (λ is. absurd (names refl is), λ same. absurd (true≢false (ap (λ (f : WindowedFilter). is_set f.held) same)))
agrees w (Some e) s t =
    let new = sample_at s t in
    let both = updated_agrees e new w in
    refused_or (is_after (Some e) t) (filter w (Some e)) (filter w (Some (updated (Some e) new w))) (reason_of (Some e) new w)
    (λ is. ap (λ (x : Estimates). filter w (Some x)) (both.0 is), λ same. both.1 (ap (λ (f : WindowedFilter). estimates_in e f.held) same))

-- ---- the best moves with step 1 and step 3 alone
module _ (e : Estimates) (new : Sample) (w : ℕ) where
  abbrev Stays : Estimates → Reason → Type 0
  Stays x r = moves_best r ≡ false → x.best ≡ e.best

  aged_stays : (y : Estimates) (r : Reason) → y.best ≡ e.best → Stays (aged y new w) (aged_reason y new w r)
  unfolding aged aged_reason shifted shifted_reason renewed renewed_reason
  aged_stays y r same =
      choose Stays (is_older y.best w new.time)
      (λ _.
      choose Stays (is_older y.second w new.time) (λ _ moves. absurd (true≢false moves)) (λ _ moves. absurd (true≢false moves)))
      (λ _.
      choose Stays (lingers y.second y.best (w / 4) new.time) (λ _ _. same)
      (λ _. choose Stays (lingers y.third y.second (w / 2) new.time) (λ _ _. same) (λ _ _. same)))

  pub updated_stays : Stays (updated (Some e) new w) (reason_of (Some e) new w)
  updated_stays =
      choose Stays (is_replaced e new w) (λ _ moves. absurd (true≢false moves))
      (λ none. aged_stays (raised e new) (raised_reason e new) (raised_left e new w (third_young e new w none)).0)

refused_best : (b : Bool) (f g : WindowedFilter) (r : Reason) → (moves_best r ≡ false → best_of g.held ≡ best_of f.held) → moves_best (cond b Unchanged r) ≡ false → best_of (cond b f g).held ≡ best_of f.held
refused_best true f g r p moves = refl
refused_best false f g r p moves = p moves

best_stays : (w : ℕ) (h : Option Estimates) (s t : ℕ) → moves_best (windowed_reason (filter w h) s t) ≡ false → best_of (windowed_update (filter w h) s t).held ≡ best_of h
unfolding windowed_reason windowed_update
best_stays w None s t moves = absurd (true≢false moves)
best_stays w (Some e) s t moves =
    let new = sample_at s t in
    refused_best (is_after (Some e) t) (filter w (Some e)) (filter w (Some (updated (Some e) new w))) (reason_of (Some e) new w)
    (λ stays. ap (λ (x : Sample). best_of (Some (all_three x))) (updated_stays e new w stays)) moves

-- ---- the later step is named
-- a step's name, by the tests of step 3, of step 4 and of step 5, and what acted before them
abbrev name_by : (a d b c : Bool) (before : Reason) → Reason
name_by a d b c before = cond a (cond d PromotedTwice PromotedOnce) (cond b QuarterRefresh (cond c HalfRefresh before))

abbrev later_by : (a d b c : Bool) → Reason
later_by a d b c = name_by a d b c Unchanged

named_later : (a d b c : Bool) (before : Reason) → Acts (later_by a d b c) → name_by a d b c before ≡ later_by a d b c
named_later true d b c before acts = refl
named_later false d true c before acts = refl
named_later false d false true before acts = refl
named_later false d false false before acts = absurd (acts refl)

named_earlier : (a d b c : Bool) (before : Reason) → later_by a d b c ≡ Unchanged → name_by a d b c before ≡ before
named_earlier true true b c before idle = absurd (names refl idle)
named_earlier true false b c before idle = absurd (names refl idle)
named_earlier false d true c before idle = absurd (names refl idle)
named_earlier false d false true before idle = absurd (names refl idle)
named_earlier false d false false before idle = refl

module _ (e : Estimates) (new : Sample) (w : ℕ) where
  abbrev y : Estimates
  y = raised e new

  later : is_replaced e new w ≡ false → Acts (later_reason e new w) → reason_of (Some e) new w ≡ later_reason e new w
  unfolding aged_reason renewed_reason shifted_reason
  later none acts =
      rw none
      (named_later (is_older y.best w new.time) (is_older y.second w new.time) (lingers y.second y.best (w / 4) new.time) (lingers y.third y.second (w / 2) new.time) (raised_reason e new) acts)

  earlier : is_replaced e new w ≡ false → later_reason e new w ≡ Unchanged → reason_of (Some e) new w ≡ raised_reason e new
  unfolding aged_reason renewed_reason shifted_reason
  earlier none idle =
      rw none
      (named_earlier (is_older y.best w new.time) (is_older y.second w new.time) (lingers y.second y.best (w / 4) new.time) (lingers y.third y.second (w / 2) new.time) (raised_reason e new) idle)

-- ---- step 2 and a later step
abbrev Four : (raised later : Reason) → Type 0
Four r l =
    ((r ≡ SecondRaised) × (l ≡ PromotedOnce))
    ⊎ (((r ≡ ThirdRaised) × (l ≡ PromotedOnce))
    ⊎ (((r ≡ ThirdRaised) × (l ≡ PromotedTwice))
    ⊎ ((r ≡ ThirdRaised) × (l ≡ QuarterRefresh))))

after_second : (a d b c : Bool) → d ≡ false → b ≡ false → c ≡ false → Acts (later_by a d b c) → Four SecondRaised (later_by a d b c)
after_second true true b c p q r acts = absurd (true≢false p)
after_second true false b c p q r acts = inl (refl, refl)
after_second false d true c p q r acts = absurd (true≢false q)
after_second false d false true p q r acts = absurd (true≢false r)
after_second false d false false p q r acts = absurd (acts refl)

after_third : (a d b c : Bool) → c ≡ false → Acts (later_by a d b c) → Four ThirdRaised (later_by a d b c)
after_third true true b c r acts = inr (inr (inl (refl, refl)))
after_third true false b c r acts = inr (inl (refl, refl))
after_third false d true c r acts = inr (inr (inr (refl, refl)))
after_third false d false true r acts = absurd (true≢false r)
after_third false d false false r acts = absurd (acts refl)

module _ (e : Estimates) (new : Sample) (w : ℕ) where
  abbrev at : Sample → ℕ → Bool
  at s limit = is_older s limit new.time

  abbrev reason_by : Bool → Bool → Reason
  reason_by b c = cond b SecondRaised (cond c ThirdRaised Unchanged)

  abbrev raised_by : Bool → Bool → Estimates
  raised_by b c = cond b (estimates e.best new new) (cond c (estimates e.best e.second new) e)

  both_by : (b c : Bool) → Acts (reason_by b c) → Acts (aged_reason (raised_by b c) new w Unchanged) → Four (reason_by b c) (aged_reason (raised_by b c) new w Unchanged)
  unfolding aged_reason shifted_reason renewed_reason
  both_by true c first acts =
      after_second (at e.best w) (at new w) (lingers new e.best (w / 4) new.time) (lingers new new (w / 2) new.time) (fresh new w) (never_lingers new e.best (w / 4)) (never_lingers new new (w / 2)) acts
  both_by false true first acts =
      after_third (at e.best w) (at e.second w) (lingers e.second e.best (w / 4) new.time) (lingers new e.second (w / 2) new.time) (never_lingers new e.second (w / 2)) acts
  both_by false false first acts = absurd (first refl)

  both : Acts (raised_reason e new) → Acts (later_reason e new w) → Four (raised_reason e new) (later_reason e new w)
  unfolding raised raised_reason
  both first acts = both_by (ltb e.second.sample new.sample) (ltb e.third.sample new.sample) first acts

pub reasons : Reasons
reasons =
    record {
      unchanged = λ κ a x e p.
          let same = agrees a.0.now.window a.0.now.held a.1.0 a.1.1.0 in
          (λ is. p.1.0 ∙ same.0 (sym p.1.1 ∙ is), λ is. p.1.1 ∙ same.1 (sym p.1.0 ∙ is));
      best = λ κ a x e p moves.
          ap (λ (g : WindowedFilter). best_of g.held) p.1.0 ∙ best_stays a.0.now.window a.0.now.held a.1.0 a.1.1.0 (sym (ap moves_best p.1.1) ∙ moves);
      later = later;
      earlier = earlier;
      both = both;
    }
