-- What a call of a run does to the note of whether anything was sent, and to the last sent number (specs/Steps.antt, `note_after`, `last_after`). Assumes nothing.
use Rattle.std.specs.Prelude.{Some}
use Prim.Native.Nat.{ℕ, zero, suc, ◌+◌}
use mathlib.Core.Bool.{Bool, true, false, cond, ◌&&◌, true≢false}
use mathlib.Core.List.{List}
use mathlib.Core.Path.{◌≡◌, refl, sym, ap, ◌∙◌}
use native.Mathlib.Omega.{arith}
use lib.Dec.{eqb}
use lib.ListN.{get_or}
use borrow.Author.Tests.{ne_eqb, eqb-true}
use Rattle.units.specs.declared.time.Duration.{Duration}
use Rattle.units.specs.declared.time.Moment.{Moment}
use Rattle.filters.specs.declared.round_trip_counter.RoundTripCounter.{RoundTripCounter}
use Rattle.filters.specs.RoundTripCounter.{rounds_sent, rounds_restart, rounds_ended, rounds_acked}
use Rattle.state.specs.declared.network_model.NetworkModel.{NetworkModel}
use Rattle.state.specs.declared.params.Params.{Params}
use Rattle.state.specs.declared.cycle.Cycle.{Cycle}
use Rattle.state.specs.Answers.{settled, zero_length, zero_moment}
use Rattle.state.specs.Parts.{round_new}
use Rattle.state.specs.NetworkModel.{with_maxbw, with_rounds, with_round, with_minrtt, with_lower, with_high, with_gains, with_growth, with_moment, with_begun, one, model_new, start_number, start_model, restart_next, cap_next, clear_inflight_next, clear_bandwidth_next, advance_next}
use Rattle.changes.specs.Changes.{sent_next, reached_next, pacing_next, cwnd_next, postpone_next}
use Rattle.events.specs.Event.{finish_next, model_next, model_after}
use Rattle.judge.specs.Judge.{expire_next, growth_next, queue_next}
use Rattle.phases.specs.Phases.{restarted_at, exit_model, is_down, left_model, cruise_model, refill_model}
use Rattle.dispatch.specs.Outcome.{send_number, send_outcome, outcome_of}
use Rattle.drift.specs.Calls as C
use Rattle.drift.specs.Calls.{Other, Call, State, other_next, next_of, after}
use Rattle.theorems.specs.Steps.{Step, begins, makes, keeps, after_start, after_step, Numbered, step_of, outcome_in, note_after, last_after}
use Rattle.theorems.proofs.Choice.{either, both}
use Rattle.theorems.proofs.Decoded.{every_outcome}
use Rattle.theorems.proofs.Numbers.{every_number}

-- both at once
abbrev sent_in : NetworkModel → Bool × ℕ
sent_in m = (m.begun, m.rounds.sent)

-- ---- a send: of a model, done or refused
settles : (k : ℕ) (next m : NetworkModel) (t : Bool × ℕ) → sent_in next ≡ t → sent_in (settled k next m) ≡ cond (eqb k 0) t (sent_in m)
unfolding settled
settles k next m t h = both (λ (x : NetworkModel) (y : Bool × ℕ). sent_in x ≡ y) (eqb k 0) next m t (sent_in m) h refl

module _ (w : List ℕ) (s : State) where
  send : get_or w 0 0 ≡ 1 → sent_in (outcome_in w s).model ≡ cond (eqb (outcome_in w s).reply 0) (true, get_or w 3 0) (sent_in s.model)
  unfolding outcome_of send_outcome sent_next with_moment with_begun with_rounds with_round rounds_sent
  send e = rw e (settles (send_number w s.model) _ s.model (true, get_or w 3 0) refl)

-- ---- any other call: of a state, done or refused
stays : (k : ℕ) (next s : State) → sent_in next.model ≡ sent_in s.model → sent_in (settled k next s).model ≡ sent_in s.model
unfolding settled
stays k next s h = either (λ (x : State). sent_in x.model ≡ sent_in s.model) (eqb k 0) next s h refl

keeps_either : (t : Bool) (a b m : NetworkModel) → sent_in a ≡ sent_in m → sent_in b ≡ sent_in m → sent_in (cond t a b) ≡ sent_in m
keeps_either t a b m p q = either (λ (x : NetworkModel). sent_in x ≡ sent_in m) t a b p q

-- leaving Down
exit_kept : (m : NetworkModel) (c : Cycle) → sent_in (exit_model m c) ≡ sent_in m
unfolding exit_model advance_next with_maxbw
exit_kept m c = keeps_either c.advanced m (advance_next m) m refl refl

left_kept : (m : NetworkModel) (c : Cycle) → sent_in (left_model m c) ≡ sent_in m
unfolding left_model
left_kept m c = keeps_either (is_down c.stay.phase) (exit_model m c) m m (exit_kept m c) refl

-- an ack moves the count and the end
acked_kept : (c : RoundTripCounter) (acked : List ℕ) → (rounds_acked c acked).sent ≡ c.sent
unfolding rounds_acked
acked_kept c acked = either (λ (x : RoundTripCounter). x.sent ≡ c.sent) (rounds_ended c acked) (record { count = c.count + 1; sent = c.sent; end = Some c.sent }) c refl refl

abbrev Kept : Step → Type 0
Kept c = (n : ℕ) (s : State) → Numbered c n → eqb n 1 ≡ false → sent_in (after_step c s).model ≡ cond (eqb n 0) (false, 0) (sent_in s.model)

other_kept : (c : Other) → Kept (makes (C.other c))
unfolding after_step after next_of other_next finish_next with_round expire_next with_minrtt growth_next with_growth queue_next restart_next with_rounds rounds_restart reached_next pacing_next with_gains cwnd_next with_high advance_next with_maxbw postpone_next restarted_at with_moment
other_kept (C.sent now inflight packet bytes) n s h not-send = absurd (true≢false (rw h at not-send))
other_kept (C.finish e) n s h not-send = rw h (stays _ _ s (keeps_either e.ended (with_round s.model round_new) s.model s.model refl refl))
other_kept (C.expire q e) n s h not-send = rw h (stays _ _ s refl)
other_kept (C.growth q e) n s h not-send = rw h (stays _ _ s refl)
other_kept (C.queue q gain) n s h not-send = rw h (stays _ _ s refl)
other_kept C.restart n s h not-send = rw h (stays _ _ s refl)
other_kept C.reached n s h not-send = rw h (stays _ _ s refl)
other_kept (C.pacing gain) n s h not-send = rw h (stays _ _ s refl)
other_kept (C.cwnd gain) n s h not-send = rw h (stays _ _ s refl)
other_kept (C.high bytes) n s h not-send = rw h (stays _ _ s refl)
other_kept C.advance n s h not-send = rw h (stays _ _ s refl)
other_kept (C.postpone d) n s h not-send = rw h (stays _ _ s refl)
other_kept (C.down q hi risky now) n s h not-send = rw h (stays _ _ s refl)
other_kept (C.up now window) n s h not-send = rw h (stays _ _ s refl)
other_kept C.exit n s h not-send = rw h (stays _ _ s (exit_kept s.model s.cycle))
other_kept (C.slope window) n s h not-send = rw h (stays _ _ s refl)

call_kept : (c : Call) → Kept (makes c)
unfolding after_step after next_of model_next model_after cap_next clear_inflight_next clear_bandwidth_next with_lower cruise_model refill_model restarted_at restart_next with_moment with_growth with_rounds rounds_restart with_round
call_kept (C.event q e x acked) n s h not-send = rw h (stays _ _ s (ap (λ (k : ℕ). (s.model.begun, k)) (acked_kept s.model.rounds acked)))
call_kept (C.cap bytes) n s h not-send = rw h (stays _ _ s refl)
call_kept C.clear_inflight n s h not-send = rw h (stays _ _ s refl)
call_kept C.clear_bandwidth n s h not-send = rw h (stays _ _ s refl)
call_kept (C.cruise now) n s h not-send = rw h (stays _ _ s (left_kept s.model s.cycle))
call_kept (C.refill rounds now) n s h not-send = rw h (stays _ _ s (left_kept s.model s.cycle))
call_kept (C.other c) n s h not-send = other_kept c n s h not-send

new_kept : (q : Params) (rtt : Duration) (now : Moment) → sent_in (start_model q rtt now) ≡ (false, 0)
unfolding start_model settled model_new
new_kept q rtt now = either (λ (x : NetworkModel). sent_in x ≡ (false, 0)) (eqb (start_number q rtt now) 0) (model_new q.cwnd q.pacing q.ignore rtt now) (model_new one one false zero_length zero_moment) refl refl

step_kept : (c : Step) → Kept c
unfolding after_step after_start
step_kept (begins q rtt now) n s h not-send = rw h (new_kept q rtt now)
step_kept (makes c) n s h not-send = call_kept c n s h not-send
step_kept keeps zero s h not-send = absurd (true≢false (sym h))
step_kept keeps (suc n) s h not-send = rw (ne_eqb (suc n) 0 (λ e. omega arith))

-- ---- every call
module _ (w : List ℕ) (s : State) where
  sent_both : sent_in (outcome_in w s).model ≡ cond (eqb (get_or w 0 0) 0) (false, 0) (cond (eqb (get_or w 0 0) 1 && eqb (outcome_in w s).reply 0) (true, get_or w 3 0) (sent_in s.model))
  sent_both = go (eqb (get_or w 0 0) 1) refl
    where
      go : (t : Bool) → eqb (get_or w 0 0) 1 ≡ t → sent_in (outcome_in w s).model ≡ cond (eqb (get_or w 0 0) 0) (false, 0) (cond (t && eqb (outcome_in w s).reply 0) (true, get_or w 3 0) (sent_in s.model))
      go true e = let is = eqb-true (get_or w 0 0) 1 e in send w s is ∙ rw (ne_eqb (get_or w 0 0) 0 (λ z. omega (arith, is, z)))
      go false e = ap (λ (x : State). sent_in x.model) (every_outcome w s).leaves ∙ step_kept (step_of w) (get_or w 0 0) s (every_number w) e

  -- either of the two
  of_both : {A : Type 0} (f : Bool × ℕ → A) (a b : Bool) (x y z : Bool × ℕ) → f (cond a x (cond b y z)) ≡ cond a (f x) (cond b (f y) (f z))
  of_both f true b x y z = refl
  of_both f false true x y z = refl
  of_both f false false x y z = refl

  pub noted : (outcome_in w s).model.begun ≡ note_after w s
  noted = ap (λ (p : Bool × ℕ). p.0) sent_both ∙ of_both (λ p. p.0) (eqb (get_or w 0 0) 0) (eqb (get_or w 0 0) 1 && eqb (outcome_in w s).reply 0) (false, 0) (true, get_or w 3 0) (sent_in s.model)

  pub last_noted : (outcome_in w s).model.rounds.sent ≡ last_after w s
  last_noted = ap (λ (p : Bool × ℕ). p.1) sent_both ∙ of_both (λ p. p.1) (eqb (get_or w 0 0) 0) (eqb (get_or w 0 0) 1 && eqb (outcome_in w s).reply 0) (false, 0) (true, get_or w 3 0) (sent_in s.model)
