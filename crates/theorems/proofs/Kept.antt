-- Every step leaves a state in form, and within document 01's bounds where it was: by crates/laws, and its counters by row 5 of the refusals. Assumes nothing.
use Rattle.std.specs.Prelude.{Some}
use Prim.Native.Nat.{ℕ, ◌+◌, ◌-◌, ◌^◌, ◌<◌}
use mathlib.Core.Bool.{Bool, true, false, cond, not, ◌&&◌}
use mathlib.Core.List.{List}
use mathlib.Core.Logic.{◌⊎◌, inl, inr}
use mathlib.Core.Path.{◌≡◌, refl, sym, subst}
use native.Mathlib.Omega.{arith}
use lib.Dec.{leb, ltb, eqb}
use lib.Ieee as Ieee
use lib.Ieee.{Float, binary32}
use borrow.Author.Tests.{eqb-true, eqb-false}
use Rattle.std.proofs.lemmas.Bool.{cond_both}
use Rattle.filters.specs.declared.round_trip_counter.RoundTripCounter.{RoundTripCounter}
use Rattle.units.specs.declared.time.Duration.{Duration}
use Rattle.units.specs.declared.time.Moment.{Moment}
use Rattle.filters.specs.MaxBandwidthFilter.{max_get}
use Rattle.filters.specs.RoundTripCounter.{rounds_sent, rounds_restart, ends_round, rounds_full, rounds_ended, rounds_acked}
use Rattle.state.specs.declared.network_model.NetworkModel.{NetworkModel}
use Rattle.state.specs.declared.params.Params.{Params}
use Rattle.state.specs.declared.parts.Growth.{Growth}
use Rattle.state.specs.Answers.{settled, zero_length, zero_moment}
use Rattle.state.specs.Bounds.{bytes_or_unset_ok, gain_ok, within}
use Rattle.state.specs.Refusals.{row_of}
use Rattle.state.specs.Parts.{round_ok, round_new, round_sent}
use Rattle.state.specs.NetworkModel.{model_tests, model_ok, with_maxbw, with_rounds, with_round, with_lower, with_minrtt, with_high, with_gains, with_growth, with_moment, with_begun, growth_restarted, model_new, one, start_number, start_model, restart_next, cap_next, clear_inflight_next, clear_bandwidth_next, advance_next}
use Rattle.changes.specs.Changes.{sent_next, reached_next, pacing_next, cwnd_next, postpone_next}
use Rattle.state.proofs.Rows.{none, or_right}
use Rattle.state.specs.declared.congestion_event.CongestionEvent.{CongestionEvent}
use Rattle.state.specs.declared.congestion_event.CongestionEventSample.{CongestionEventSample}
use Rattle.events.specs.Event as E
use Rattle.events.proofs.Room.{no_row}
use Rattle.judge.specs.Judge as J
use Rattle.state.specs.declared.cycle.Cycle.{Cycle}
use Rattle.state.specs.Cycle.{cycle_ok, stay_from, cycle_new, fresh_number, fresh_cycle}
use Rattle.phases.specs.Phases.{restarted_at, is_down, exit_model, exit_cycle, left_model, left_cycle, slope_cycle, down_cycle, cycle_in, cruise_model, cruise_cycle, refill_model, refilled, refill_cycle, up_cycle}
use Rattle.laws.proofs.Model as M
use Rattle.laws.proofs.Events as N
use Rattle.laws.proofs.Phases as P
use Rattle.drift.specs.Calls as C
use Rattle.drift.specs.Calls.{Call, Other, State, other_number, number_of, other_next, next_of, after}
use lib.Ieee.Bits.{of_bits-fits}
use lib.ListN.{get_or}
use Rattle.arguments.specs.Params.{params_from}
use Rattle.words.proofs.Back.{float_fits_lem}
use Rattle.dispatch.specs.Outcome.{is_judged, is_asked}
use Rattle.theorems.specs.Steps.{Step, begins, makes, keeps, judge_step, enter_step, change_step, step_of, after_start, after_step}
use Rattle.theorems.proofs.Choice.{either}
use Rattle.theorems.proofs.Decoded.{state}
use Rattle.theorems.proofs.Form.{Word, Single, PlainForm, FreeModel, Bound, FreeCycle, BoundCycle, InForm, bound_ok, bound_cycle_ok}

-- ---- what a call is given: only what its tests don't bound
abbrev pub OtherForm : Other → Type 0
OtherForm (C.sent now inflight packet bytes) = Word packet
OtherForm (C.finish e) = Unit {0}
OtherForm (C.expire p e) = Unit {0}
OtherForm (C.growth p e) = Unit {0}
OtherForm (C.queue p gain) = Unit {0}
OtherForm C.restart = Unit {0}
OtherForm C.reached = Unit {0}
OtherForm (C.pacing gain) = Single gain
OtherForm (C.cwnd gain) = Single gain
OtherForm (C.high bytes) = Unit {0}
OtherForm C.advance = Unit {0}
OtherForm (C.postpone d) = Unit {0}
OtherForm (C.down p hi risky now) = Unit {0}
OtherForm (C.up now window) = Unit {0}
OtherForm C.exit = Unit {0}
OtherForm (C.slope window) = Unit {0}

abbrev pub CallForm : Call → Type 0
CallForm (C.event p e x acked) = Single p.beta
CallForm (C.cap bytes) = Unit {0}
CallForm C.clear_inflight = Unit {0}
CallForm C.clear_bandwidth = Unit {0}
CallForm (C.cruise now) = Unit {0}
CallForm (C.refill rounds now) = Unit {0}
CallForm (C.other c) = OtherForm c

abbrev pub StepForm : Step → Type 0
StepForm (begins p rtt now) = Word rtt.0 × Word now.0 × Single p.cwnd × Single p.pacing
StepForm (makes c) = CallForm c
StepForm keeps = Unit {0}

-- one more, where the counter is not full
one_more_lem : (n : ℕ) → Word n → eqb n (2 ^ 64 - 1) ≡ false → Word (n + 1)
one_more_lem n h e = omega (arith, h, eqb-false n (2 ^ 64 - 1) e)

-- ---- the counters, the packet numbers and the gains, where they are put anew: in every other call they are those that were there
free_restart : (m : NetworkModel) → FreeModel m → FreeModel (restart_next m)
unfolding restart_next with_growth with_rounds with_round rounds_restart growth_restarted
free_restart m f = record { count = f.count; sent = f.sent; end = f.sent; losses = omega arith; flat = f.flat; queueing = omega arith; cwnd = f.cwnd; pacing = f.pacing }

free_finish : (m : NetworkModel) (e : CongestionEvent) → FreeModel m → FreeModel (E.finish_next m e)
unfolding E.finish_next with_round
free_finish m e f =
    either FreeModel e.ended (with_round m round_new) m
    (record { count = f.count; sent = f.sent; end = f.end; losses = omega arith; flat = f.flat; queueing = f.queueing; cwnd = f.cwnd; pacing = f.pacing }) f

-- with the growth's two counters put anew
free_counted : (m : NetworkModel) (g : Growth) → Word g.flat → Word g.queueing → FreeModel m → FreeModel (with_growth m g)
unfolding with_growth
free_counted m g p q f = record { count = f.count; sent = f.sent; end = f.end; losses = f.losses; flat = p; queueing = q; cwnd = f.cwnd; pacing = f.pacing }

free_growth : (m : NetworkModel) (p : Params) (e : CongestionEvent) → J.judged_number m p e (J.growth_full m p e) ≡ 0 → FreeModel m → FreeModel (J.growth_next m p e)
unfolding J.judged_number J.growth_full J.growth_next J.growth_after J.growth_flat J.flat_after
free_growth m p e done f = go (J.has_grown m.growth (max_get m.maxbw) p) (none _ _ _ _ _ done).not_full
  where
    flat : (c : Bool) → (c && eqb m.growth.flat (2 ^ 64 - 1)) ≡ false → Word (cond c (m.growth.flat + 1) m.growth.flat)
    flat true h = one_more_lem m.growth.flat f.flat h
    flat false h = f.flat

    go : (t : Bool) → (not t && J.counts_flat m.growth e.state && eqb m.growth.flat (2 ^ 64 - 1)) ≡ false →
        FreeModel (with_growth m (cond t (record { reached = m.growth.reached; baseline = max_get m.maxbw; flat = 0; queueing = m.growth.queueing; ignore = m.growth.ignore }) (J.growth_flat m.growth e.state p)))
    go true h = free_counted m _ (omega arith) f.queueing f
    go false h = free_counted m _ (flat (J.counts_flat m.growth e.state) h) f.queueing f

free_queue : (m : NetworkModel) (p : Params) (gain : Float) → J.queue_number m p gain ≡ 0 → FreeModel m → FreeModel (J.queue_next m p gain)
unfolding J.queue_number J.queue_next J.queue_after
free_queue m p gain done f = go (J.is_queueing m gain) (none _ _ _ _ _ done).not_full
  where
    go : (t : Bool) → (t && eqb m.growth.queueing (2 ^ 64 - 1)) ≡ false → FreeModel (with_growth m (J.queue_after m.growth t p))
    go true h = free_counted m (J.queue_after m.growth true p) f.flat (one_more_lem m.growth.queueing f.queueing h) f
    go false h = free_counted m (J.queue_after m.growth false p) f.flat (omega arith) f

-- an event counts a round and a loss
abbrev Counted : RoundTripCounter → Type 0
Counted r = Word r.count × Word r.sent × PlainForm r.end

counted : (r : RoundTripCounter) (acked : List ℕ) → Counted r → Counted (rounds_acked r acked)
unfolding rounds_acked rounds_ended rounds_full
counted r acked h = go (ends_round r.end acked) (eqb r.count (2 ^ 64 - 1)) refl
  where
    go : (t u : Bool) → eqb r.count (2 ^ 64 - 1) ≡ u → Counted (cond (t && not (t && u)) (record { count = r.count + 1; sent = r.sent; end = Some r.sent }) r)
    go true true e = h
    go true false e = (one_more_lem r.count h.0 e, h.1, h.1)
    go false u e = h

free_event : (m : NetworkModel) (p : Params) (e : CongestionEvent) (s : CongestionEventSample) (acked : List ℕ) → E.event_number m p e s acked ≡ 0 → FreeModel m → FreeModel (E.model_next m p e s acked)
unfolding E.event_number E.is_full E.model_next E.model_after E.event_next E.event_after E.round_next E.round_after
free_event m p e s acked done f =
    let r = counted m.rounds acked (f.count, f.sent, f.end) in
    let lost = losses (ltb 0 (E.bytes_lost m s)) (or_right (rounds_full m.rounds acked) _ (no_row m p e s acked done).1.not_full) in
    record { count = r.0; sent = r.1; end = r.2; losses = lost; flat = f.flat; queueing = f.queueing; cwnd = f.cwnd; pacing = f.pacing }
  where
    losses : (t : Bool) → (t && eqb m.round.losses (2 ^ 64 - 1)) ≡ false → Word (cond t (m.round.losses + 1) m.round.losses)
    losses true h = one_more_lem m.round.losses f.losses h
    losses false h = f.losses

free_exit : (m : NetworkModel) (y : Cycle) → FreeModel m → FreeModel (exit_model m y)
unfolding exit_model advance_next with_maxbw
free_exit m y f = either FreeModel y.advanced m (advance_next m) f f

free_left : (m : NetworkModel) (y : Cycle) → FreeModel m → FreeModel (left_model m y)
unfolding left_model
free_left m y f = either FreeModel (is_down y.stay.phase) (exit_model m y) m (free_exit m y f) f

-- ---- the cycle's two counters
free_exit_cycle : (y : Cycle) → FreeCycle y → FreeCycle (exit_cycle y)
unfolding exit_cycle
free_exit_cycle y f = either FreeCycle y.advanced y (record { stay = y.stay; wait = y.wait; slope = y.slope; advanced = true; probing = y.probing; last = y.last }) f f

free_left_cycle : (y : Cycle) → FreeCycle y → FreeCycle (left_cycle y)
unfolding left_cycle
free_left_cycle y f = either FreeCycle (is_down y.stay.phase) (exit_cycle y) y (free_exit_cycle y f) f

-- ---- a call that is done: model and cycle are within their bounds, or as they were
abbrev Fine : {A : Type 0} → (A → Bool) → A → A → Type 0
Fine ok x y = (ok x ≡ true) ⊎ (x ≡ y)

abbrev Bounds : State → State → Type 0
Bounds t s = Fine model_ok t.model s.model × Fine cycle_ok t.cycle s.cycle

on_both : (s : State) (m : NetworkModel) (y : Cycle) → (model_ok m ≡ true) × (cycle_ok y ≡ true) → Bounds (state m y) s
on_both s m y h = (inl h.0, inl h.1)

module _ (s : State) where
  abbrev m₀ : NetworkModel
  m₀ = s.model

  abbrev y₀ : Cycle
  y₀ = s.cycle

  other_bounds : (c : Other) → other_number c s ≡ 0 → Bounds (other_next c s) s
  unfolding other_number other_next
  other_bounds (C.sent now inflight packet bytes) d = (inl (M.sent_kept m₀ now inflight packet bytes d), inr refl)
  other_bounds (C.finish e) d = (inl (N.finish_kept m₀ e d), inr refl)
  other_bounds (C.expire p e) d = (inl (N.expire_kept m₀ p e d), inr refl)
  other_bounds (C.growth p e) d = (inl (N.growth_kept m₀ p e d), inr refl)
  other_bounds (C.queue p gain) d = (inl (N.queue_kept m₀ p gain d), inr refl)
  other_bounds C.restart d = (inl (M.restart_kept m₀ (M.stored m₀ d)), inr refl)
  other_bounds C.reached d = (inl (M.reached_kept m₀ (M.stored m₀ d)), inr refl)
  other_bounds (C.pacing gain) d = (inl (M.pacing_kept m₀ gain (M.given_stored m₀ _ d) (M.given_fine m₀ (gain_ok gain) d)), inr refl)
  other_bounds (C.cwnd gain) d = (inl (M.cwnd_kept m₀ gain (M.given_stored m₀ _ d) (M.given_fine m₀ (gain_ok gain) d)), inr refl)
  other_bounds (C.high bytes) d = (inl (M.high_kept m₀ bytes (M.given_stored m₀ _ d) (M.given_fine m₀ (bytes_or_unset_ok bytes) d)), inr refl)
  other_bounds C.advance d = (inl (M.advance_kept m₀ (M.stored m₀ d)), inr refl)
  other_bounds (C.postpone l) d = (inl (M.postpone_kept m₀ l d), inr refl)
  other_bounds (C.down p hi risky now) d = on_both s _ _ (P.down_kept m₀ y₀ p hi risky now d)
  other_bounds (C.up now window) d = on_both s _ _ (P.up_kept m₀ y₀ now window d)
  other_bounds C.exit d = on_both s _ _ (P.exit_kept m₀ y₀ d)
  other_bounds (C.slope window) d = (inr refl, inl (P.slope_kept y₀ window d))

  next_bounds : (c : Call) → CallForm c → number_of c s ≡ 0 → Bounds (next_of c s) s
  unfolding number_of next_of
  next_bounds (C.event p e x acked) g d = (inl (N.event_model_kept m₀ p e x acked d g), inr refl)
  next_bounds (C.cap bytes) g d = (inl (M.cap_kept m₀ bytes (M.given_stored m₀ _ d) (M.given_fine m₀ (bytes_or_unset_ok bytes) d)), inr refl)
  next_bounds C.clear_inflight g d = (inl (M.clear_inflight_kept m₀ (M.stored m₀ d)), inr refl)
  next_bounds C.clear_bandwidth g d = (inl (M.clear_bandwidth_kept m₀ (M.stored m₀ d)), inr refl)
  next_bounds (C.cruise now) g d = on_both s _ _ (P.cruise_kept m₀ y₀ now d)
  next_bounds (C.refill rounds now) g d = on_both s _ _ (P.refill_kept m₀ y₀ rounds now d)
  next_bounds (C.other c) g d = other_bounds c d

  -- ---- and what the bounds don't test is in form
  abbrev Freed : State → Type 0
  Freed t = FreeModel t.model × FreeCycle t.cycle

  module _ (f : FreeModel m₀) (g : FreeCycle y₀) where
    other_free : (c : Other) → OtherForm c → other_number c s ≡ 0 → Freed (other_next c s)
    unfolding other_number other_next sent_next with_moment with_begun with_rounds with_round rounds_sent round_sent J.expire_next with_minrtt reached_next with_growth pacing_next cwnd_next with_gains with_high advance_next with_maxbw postpone_next restarted_at down_cycle up_cycle slope_cycle cycle_in stay_from
    other_free (C.sent now inflight packet bytes) h d =
        (record { count = f.count; sent = h; end = f.end; losses = f.losses; flat = f.flat; queueing = f.queueing; cwnd = f.cwnd; pacing = f.pacing }, g)
    other_free (C.finish e) h d = (free_finish m₀ e f, g)
    other_free (C.expire p e) h d = (f, g)
    other_free (C.growth p e) h d = (free_growth m₀ p e d f, g)
    other_free (C.queue p gain) h d = (free_queue m₀ p gain d f, g)
    other_free C.restart h d = (free_restart m₀ f, g)
    other_free C.reached h d = (f, g)
    other_free (C.pacing gain) h d =
        (record { count = f.count; sent = f.sent; end = f.end; losses = f.losses; flat = f.flat; queueing = f.queueing; cwnd = f.cwnd; pacing = h }, g)
    other_free (C.cwnd gain) h d =
        (record { count = f.count; sent = f.sent; end = f.end; losses = f.losses; flat = f.flat; queueing = f.queueing; cwnd = h; pacing = f.pacing }, g)
    other_free (C.high bytes) h d = (f, g)
    other_free C.advance h d = (f, g)
    other_free (C.postpone l) h d = (f, g)
    other_free (C.down p hi risky now) h d = (free_restart m₀ f, (omega arith, omega arith))
    other_free (C.up now window) h d = (free_restart m₀ f, (omega arith, g.1))
    other_free C.exit h d = (free_exit m₀ y₀ f, free_exit_cycle y₀ g)
    other_free (C.slope window) h d = (f, g)

    next_free : (c : Call) → CallForm c → number_of c s ≡ 0 → Freed (next_of c s)
    unfolding number_of next_of cap_next clear_inflight_next clear_bandwidth_next with_lower cruise_model with_moment refill_model restarted_at cruise_cycle refill_cycle refilled cycle_in stay_from
    next_free (C.event p e x acked) h d = (free_event m₀ p e x acked d f, g)
    next_free (C.cap bytes) h d = (f, g)
    next_free C.clear_inflight h d = (f, g)
    next_free C.clear_bandwidth h d = (f, g)
    next_free (C.cruise now) h d = (free_left m₀ y₀ f, (omega arith, (free_left_cycle y₀ g).1))
    next_free (C.refill rounds now) h d =
        (free_restart (clear_inflight_next (clear_bandwidth_next (left_model m₀ y₀))) (free_left m₀ y₀ f), (omega arith, (free_left_cycle y₀ g).1))
    next_free (C.other c) h d = other_free c h d

-- ---- so every call keeps the form, and the bounds where they held
kept_where : {A : Type 0} (Q : A → Type 0) (ok : A → Bool) (x y : A) → ((z : A) → ok z ≡ true → Q z) → Fine ok x y → Q y → Q x
kept_where Q ok x y p (inl h) q = p x h
kept_where Q ok x y p (inr e) q = subst Q (sym e) q

abbrev pub Within : State → Type 0
Within s = (model_ok s.model ≡ true) × (cycle_ok s.cycle ≡ true)

next_form : (c : Call) (s : State) → CallForm c → number_of c s ≡ 0 → InForm s → InForm (next_of c s)
next_form c s g d f =
    let b = next_bounds s c g d in
    let k = next_free s f.free f.free_cycle c g d in
    record {
      free = k.0;
      bound = kept_where Bound model_ok _ _ bound_ok b.0 f.bound;
      free_cycle = k.1;
      bound_cycle = kept_where BoundCycle cycle_ok _ _ bound_cycle_ok b.1 f.bound_cycle;
    }

next_within : (c : Call) (s : State) → CallForm c → number_of c s ≡ 0 → Within s → Within (next_of c s)
next_within c s g d h =
    let b = next_bounds s c g d in
    (kept_where (λ m. model_ok m ≡ true) model_ok _ _ (λ m e. e) b.0 h.0, kept_where (λ y. cycle_ok y ≡ true) cycle_ok _ _ (λ y e. e) b.1 h.1)

after_kept : (Q : State → Type 0) (c : Call) (s : State) → (number_of c s ≡ 0 → Q (next_of c s)) → Q s → Q (after c s)
unfolding after settled
after_kept Q c s p q = cond_both (eqb (number_of c s) 0) (next_of c s) s Q (λ e. p (eqb-true (number_of c s) 0 e)) (λ e. q)

-- ---- a start
new_free : (cwnd pacing : Float) (ignore : Bool) (rtt : Duration) (now : Moment) → Single cwnd → Single pacing → FreeModel (model_new cwnd pacing ignore rtt now)
unfolding model_new
new_free cwnd pacing ignore rtt now c p = record { count = omega arith; sent = omega arith; end = tt; losses = omega arith; flat = omega arith; queueing = omega arith; cwnd = c; pacing = p }

new_bound : (cwnd pacing : Float) (ignore : Bool) (rtt : Duration) (now : Moment) → Word rtt.0 → Word now.0 → Bound (model_new cwnd pacing ignore rtt now)
unfolding model_new
new_bound cwnd pacing ignore rtt now r t =
    record {
      slot0 = omega arith;
      slot1 = omega arith;
      rtt = r;
      timestamp = t;
      lost = omega arith;
      delivered = omega arith;
      mininflight = omega arith;
      bandwidth = omega arith;
      inflight = omega arith;
      low_bandwidth = tt;
      low_inflight = omega arith;
      high = omega arith;
      baseline = omega arith;
      send = tt;
      ack = tt;
      acked_total = omega arith;
      lost_total = omega arith;
      moment = t;
    }

new_cycle_free : (now : Moment) → FreeCycle (cycle_new now)
unfolding cycle_new stay_from
new_cycle_free now = (omega arith, omega arith)

new_cycle_bound : (now : Moment) → Word now.0 → BoundCycle (cycle_new now)
unfolding cycle_new stay_from
new_cycle_bound now t = record { entered = t; start = t; length = tt; rounds = omega arith; bytes = tt; acked = omega arith }

one_single : Single one
one_single = of_bits-fits binary32 0x3f80_0000

start_form : (p : Params) (rtt : Duration) (now : Moment) → StepForm (begins p rtt now) → InForm (after_start p rtt now)
unfolding after_start start_model fresh_cycle settled
start_form p rtt now g =
    let n = start_number p rtt now in
    let fresh = cond (eqb n 0) now zero_moment in
    let t : Word fresh.0 = either (λ (x : Moment). Word x.0) (eqb n 0) now zero_moment g.1 (omega arith) in
    let done = model_new p.cwnd p.pacing p.ignore rtt now in
    let refused = model_new one one false zero_length zero_moment in
    record {
      free = either FreeModel (eqb n 0) done refused (new_free _ _ p.ignore rtt now g.2 g.3) (new_free _ _ false zero_length zero_moment one_single one_single);
      bound = either Bound (eqb n 0) done refused (new_bound p.cwnd p.pacing p.ignore rtt now g.0 g.1) (new_bound one one false zero_length zero_moment (omega arith) (omega arith));
      free_cycle = either FreeCycle (eqb (fresh_number fresh) 0) (cycle_new fresh) (cycle_new zero_moment) (new_cycle_free fresh) (new_cycle_free zero_moment);
      bound_cycle = either BoundCycle (eqb (fresh_number fresh) 0) (cycle_new fresh) (cycle_new zero_moment) (new_cycle_bound fresh t) (new_cycle_bound zero_moment (omega arith));
    }

pub step_kept : (c : Step) (s : State) → StepForm c → InForm s → InForm (after_step c s)
unfolding after_step
step_kept (begins p rtt now) s g f = start_form p rtt now g
step_kept (makes c) s g f = after_kept InForm c s (λ d. next_form c s g d f) f
step_kept keeps s g f = f

-- a start leaves what is within its bounds, whatever was there, and a refused one too
refused_within : model_ok (model_new one one false zero_length zero_moment) ≡ true
unfolding model_new model_tests round_ok within Ieee.of_bits Ieee.le
refused_within = refl

fresh_within : (t : Moment) → cycle_ok (fresh_cycle t) ≡ true
unfolding fresh_cycle fresh_number settled row_of
fresh_within t = cond_both (eqb (fresh_number t) 0) (cycle_new t) (cycle_new zero_moment) (λ y. cycle_ok y ≡ true) (λ e. P.fresh_kept t (eqb-true (fresh_number t) 0 e)) (λ e. P.fresh_kept zero_moment refl)

pub start_within : (p : Params) (rtt : Duration) (now : Moment) → Within (after_start p rtt now)
unfolding after_start start_model settled
start_within p rtt now =
    let n = start_number p rtt now in (
      cond_both (eqb n 0) (model_new p.cwnd p.pacing p.ignore rtt now) (model_new one one false zero_length zero_moment) (λ m. model_ok m ≡ true)
          (λ e. M.start_kept p rtt now (eqb-true n 0 e))
          (λ e. refused_within),
      fresh_within (settled n now zero_moment),
    )

pub step_within : (c : Step) (s : State) → StepForm c → Within s → Within (after_step c s)
unfolding after_step
step_within (begins p rtt now) s g h = start_within p rtt now
step_within (makes c) s g h = after_kept Within c s (λ d. next_within c s g d h) h
step_within keeps s g h = h

-- ---- what is read from a call's words is in form: of the words after its own, the lists', nothing is asked
abbrev pub OwnWords : List ℕ → Type 0
OwnWords w = (i : ℕ) → ltb i 49 ≡ true → get_or w i 0 < 2 ^ 64

module _ (w : List ℕ) (h : OwnWords w) where
  beta_single : Single (params_from w).beta
  unfolding params_from
  beta_single = float_fits_lem (get_or w 38 0)

  gains_single : Single (params_from w).cwnd × Single (params_from w).pacing
  unfolding params_from
  gains_single = (float_fits_lem (get_or w 42 0), float_fits_lem (get_or w 43 0))

  judge_form : StepForm (judge_step w)
  unfolding judge_step
  judge_form =
      let n = get_or w 0 0 in
      either StepForm (eqb n 5) _ _ tt (either StepForm (eqb n 6) _ _ tt (either StepForm (eqb n 7) _ _ tt (either StepForm (eqb n 9) _ _ tt tt)))

  enter_form : StepForm (enter_step w)
  unfolding enter_step
  enter_form =
      let n = get_or w 0 0 in
      either StepForm (eqb n 40) _ _ tt (either StepForm (eqb n 41) _ _ tt (either StepForm (eqb n 42) _ _ tt (either StepForm (eqb n 43) _ _ tt (either StepForm (eqb n 44) _ _ tt (either StepForm (eqb n 45) _ _ tt tt)))))

  change_form : StepForm (change_step w)
  unfolding change_step
  change_form =
      let n = get_or w 0 0 in
      either StepForm (eqb n 8) _ _ tt
      (either StepForm (eqb n 14) _ _ tt
      (either StepForm (eqb n 15) _ _ (float_fits_lem (get_or w 1 0))
      (either StepForm (eqb n 16) _ _ (float_fits_lem (get_or w 1 0))
      (either StepForm (eqb n 17) _ _ tt
      (either StepForm (eqb n 18) _ _ tt (either StepForm (eqb n 19) _ _ tt (either StepForm (eqb n 20) _ _ tt (either StepForm (eqb n 21) _ _ tt (either StepForm (eqb n 22) _ _ tt tt)))))))))

  pub step_form : StepForm (step_of w)
  unfolding step_of
  step_form =
      let n = get_or w 0 0 in
      either StepForm (eqb n 1) _ _ (h 3 refl)
      (either StepForm (eqb n 3) _ _ beta_single
      (either StepForm (eqb n 4) _ _ tt
      (either StepForm (eqb n 0) _ _ (h 2 refl, h 1 refl, gains_single.0, gains_single.1)
      (either StepForm (is_judged n) _ _ judge_form (either StepForm (is_asked n) _ _ tt (either StepForm (leb 40 n) _ _ enter_form change_form))))))
