-- Each call is refused exactly when its rows say (specs/Replies.antt): a line a call. Assumes nothing.
use Prim.Native.Nat.{ℕ, zero, suc}
use mathlib.Core.Bool.{Bool, true, false, cond, not, ◌&&◌}
use mathlib.Core.Path.{◌≡◌, refl, sym, subst, ◌∙◌}
use borrow.Author.Tests.{eq-eqb, ne_eqb}
use Rattle.std.specs.Prelude.{Result}
use Rattle.units.specs.declared.refusal.Refusal.{Refusal}
use Rattle.units.specs.Reply.{number}
use Rattle.filters.specs.RoundTripCounter.{ends_round, rounds_full, rounds_number, rounds_ended, rounds_acked}
use Rattle.filters.specs.declared.windowed_filter.Reason.TheVariants.{Unchanged}
use Rattle.filters.specs.Reason.{windowed_reason}
use Rattle.filters.specs.WindowedFilter.{is_after, windowed_number, windowed_update}
use Rattle.state.specs.Answers.{settled}
use Rattle.state.specs.declared.refusals.Rows.{Rows}
use Rattle.state.specs.Refusals.{is_full_counter, row_of, up_to_four, first_of}
use Rattle.state.specs.NetworkModel.{start_number, start_model, stored_number, given_number, headroom_number}
use Rattle.changes.specs.Changes.{sent_number, postpone_number}
use Rattle.state.proofs.Rows.{None, in_turn}
use Rattle.events.specs.Event.{event_number, finish_number}
use Rattle.judge.specs.Judge.{judged_number, growth_full, queue_number}
use Rattle.state.specs.Cycle.{fresh_number, fresh_cycle}
use Rattle.phases.specs.Phases.{entry_number, exit_number, slope_number}
use Rattle.laws.specs.Replies.{Exactly, Answered, EveryAnswer, EveryChange, EveryEvent, EveryPhase, EveryFilter, EveryReply}
use Rattle.laws.proofs.Contracts.{settled_both}

-- ---- refusal n is given exactly when row n holds and none that is asked before it does
abbrev Row : ℕ → Bool → Bool → Bool → Bool → Bool → Bool → Type 0
Row zero s a e l u f = (u ≡ false) × None s a e l f
Row (suc zero) s a e l u f = s ≡ true
Row (suc (suc zero)) s a e l u f = (s ≡ false) × (a ≡ true)
Row (suc (suc (suc zero))) s a e l u f = (s ≡ false) × (a ≡ false) × (e ≡ true)
Row (suc (suc (suc (suc zero)))) s a e l u f = (s ≡ false) × (a ≡ false) × (e ≡ false) × (l ≡ true)
Row (suc (suc (suc (suc (suc zero))))) s a e l u f = (s ≡ false) × (a ≡ false) × (e ≡ false) × (l ≡ false) × (u ≡ false) × (f ≡ true)
-- 10, and none of the others
Row (suc (suc (suc (suc (suc (suc n)))))) s a e l u f = (n ≡ 4) × (s ≡ false) × (a ≡ false) × (e ≡ false) × (l ≡ false) × (u ≡ true)

row_holds : (s a e l u f : Bool) → Row (up_to_four s a e l (cond u 10 (cond f 5 0))) s a e l u f
unfolding up_to_four
row_holds true a e l u f = refl
row_holds false true e l u f = (refl, refl)
row_holds false false true l u f = (refl, refl, refl)
row_holds false false false true u f = (refl, refl, refl, refl)
row_holds false false false false true f = (refl, refl, refl, refl, refl, refl)
row_holds false false false false false true = (refl, refl, refl, refl, refl, refl)
row_holds false false false false false false = (refl, record { stored_fine = refl; argument_fine = refl; in_order = refl; no_lower = refl; not_full = refl })

row_only : (n : ℕ) (s a e l u f : Bool) → Row n s a e l u f → up_to_four s a e l (cond u 10 (cond f 5 0)) ≡ n
unfolding up_to_four
row_only zero s a e l u f h = simp (h.0, h.1.stored_fine, h.1.argument_fine, h.1.in_order, h.1.no_lower, h.1.not_full)
row_only (suc zero) s a e l u f h = simp h
row_only (suc (suc zero)) s a e l u f h = simp (h.0, h.1)
row_only (suc (suc (suc zero))) s a e l u f h = simp (h.0, h.1, h.2)
row_only (suc (suc (suc (suc zero)))) s a e l u f h = simp (h.0, h.1, h.2, h.3)
row_only (suc (suc (suc (suc (suc zero))))) s a e l u f h = simp (h.0, h.1, h.2, h.3, h.4, h.5)
row_only (suc (suc (suc (suc (suc (suc n)))))) s a e l u f h = simp (h.0, h.1, h.2, h.3, h.4, h.5)

-- ---- the table's number
module _ (r : Rows) where
  abbrev Of : ℕ → Type 0
  Of k = Row k r.stored r.argument r.earlier r.lower r.unsent r.full

  turn : first_of r ≡ up_to_four r.stored r.argument r.earlier r.lower (cond r.unsent 10 (cond r.full 5 0))
  turn = in_turn r.stored r.argument r.earlier r.lower r.unsent r.full

  given : (n k : ℕ) → n ≡ first_of r → n ≡ k → Of k
  given n k p h = subst Of (sym turn ∙ sym p ∙ h) (row_holds r.stored r.argument r.earlier r.lower r.unsent r.full)

  only : (n k : ℕ) → n ≡ first_of r → Of k → n ≡ k
  only n k p h = p ∙ turn ∙ row_only k r.stored r.argument r.earlier r.lower r.unsent r.full h

  pub exactly : (n : ℕ) → n ≡ first_of r → Exactly n r
  exactly n p =
      record {
        is0 = (λ h. let z = given n 0 p h in (z.1.stored_fine, z.1.argument_fine, z.1.in_order, z.1.no_lower, z.0, z.1.not_full), λ h. only n 0 p (h.4, record { stored_fine = h.0; argument_fine = h.1; in_order = h.2; no_lower = h.3; not_full = h.5 }));
        is1 = (given n 1 p, only n 1 p);
        is2 = (given n 2 p, only n 2 p);
        is3 = (given n 3 p, only n 3 p);
        is4 = (given n 4 p, only n 4 p);
        is10 = (λ h. let z = given n 10 p h in (z.1, z.2, z.3, z.4, z.5), λ h. only n 10 p (refl, h.0, h.1, h.2, h.3, h.4));
        is5 = (given n 5 p, only n 5 p);
      }

-- ---- a contract says a reply's number by its rows, and what is left by that number
pub answered : {A B : Type 0} {reply : Result B Refusal} {got next old : A} (r : Rows) → number reply ≡ first_of r → got ≡ settled (first_of r) next old → Answered reply r got next old
unfolding settled
answered {A} {B} {reply} {got} {next} {old} r p q =
    record {
      row = exactly r (number reply) p;
      done = λ h. q ∙ simp (eq-eqb (first_of r) 0 (sym p ∙ h));
      refused = λ h. q ∙ simp (ne_eqb (first_of r) 0 (λ z. h (p ∙ z)));
    }

pub answered_both : {X Y B : Type 0} {reply : Result B Refusal} {a x x' : X} {b y y' : Y} (r : Rows) → number reply ≡ first_of r → a ≡ settled (first_of r) x x' → b ≡ settled (first_of r) y y' → Answered {A = X × Y} reply r (a, b) (x, y) (x', y')
answered_both {X} {Y} {B} {reply} {a} {x} {x'} {b} {y} {y'} r p q t = answered r p (settled_both (first_of r) a x x' b y y' q t)

-- ---- the calls
answers : EveryAnswer
unfolding stored_number given_number headroom_number judged_number
answers = record {
  bdp = λ m b gain κ x s p. answered _ p.0 p.1.0;
  bdp1 = λ m b κ x s p. answered _ p.0 p.1.0;
  bdp0 = λ m κ x s p. answered _ p.0 p.1;
  inflight_hi_with_headroom = λ m q κ x s p. answered _ p.0 p.1;
  is_inflight_too_high = λ m q e limit κ x s p. answered _ p.0 p.1.0;
  bandwidth_estimate = λ m κ x s p. answered _ p.0 p.1;
  max_bandwidth = λ m κ x s p. answered _ p.0 p.1;
  min_rtt = λ m κ x s p. answered _ p.0 p.1;
  min_rtt_timestamp = λ m κ x s p. answered _ p.0 p.1;
  full_bandwidth_reached = λ m κ x s p. answered _ p.0 p.1;
  pacing_gain = λ m κ x s p. answered _ p.0 p.1;
  cwnd_gain = λ m κ x s p. answered _ p.0 p.1;
  max_bytes_delivered_in_round = λ m κ x s p. answered _ p.0 p.1;
  total_bytes_acked = λ m κ x s p. answered _ p.0 p.1;
  total_bytes_lost = λ m κ x s p. answered _ p.0 p.1;
  inflight_hi = λ m κ x s p. answered _ p.0 p.1;
  inflight_lo = λ m κ x s p. answered _ p.0 p.1;
  loss_events_in_round = λ m κ x s p. answered _ p.0 p.1;
  rounds_with_queueing = λ m κ x s p. answered _ p.0 p.1;
  inflight_hi_default = λ m κ x s p. answered _ p.0 p.1;
  queueing_threshold_extra_bytes = λ m κ x s p. answered _ p.0 p.1;
}

changes : EveryChange
unfolding start_number start_model stored_number given_number sent_number postpone_number
changes = record {
  start = λ κ a x e p. answered _ p.0 p.1.0;
  made = λ q rtt t κ x s p. answered _ p.0 p.1.0;
  sent = λ κ a x e p. answered _ p.0 p.1.0;
  restart = λ κ a x e p. answered _ p.0 p.1;
  reached = λ κ a x e p. answered _ p.0 p.1;
  pacing = λ κ a x e p. answered _ p.0 p.1.0;
  cwnd = λ κ a x e p. answered _ p.0 p.1.0;
  high = λ κ a x e p. answered _ p.0 p.1.0;
  cap = λ κ a x e p. answered _ p.0 p.1.0;
  clear_inflight = λ κ a x e p. answered _ p.0 p.1;
  clear_bandwidth = λ κ a x e p. answered _ p.0 p.1;
  advance = λ κ a x e p. answered _ p.0 p.1;
  postpone = λ κ a x e p. answered _ p.0 p.1.0;
}

events : EveryEvent
unfolding event_number finish_number judged_number growth_full queue_number
events = record {
  starts = λ κ a x e p. answered_both _ p.0 p.1.0 p.1.1.0;
  finish = λ κ a x e p. answered _ p.0 p.1.0;
  expire = λ κ a x e p. answered_both _ p.0 p.1.0 p.1.1.0;
  growth = λ κ a x e p. answered_both _ p.0 p.1.0 p.1.1.0;
  queue = λ κ a x e p. answered _ p.0 p.1.0;
}

entries : EveryPhase
unfolding fresh_number fresh_cycle entry_number exit_number slope_number
entries = record {
  fresh = λ κ a x e p. answered _ p.0 p.1.0;
  made = λ t κ x s p. answered _ p.0 p.1.0;
  down = λ κ a x e p. answered_both _ p.0 p.1.0 p.1.1.0;
  cruise = λ κ a x e p. answered_both _ p.0 p.1.0 p.1.1.0;
  refill = λ κ a x e p. answered_both _ p.0 p.1.0 p.1.1.0;
  up = λ κ a x e p. answered_both _ p.0 p.1.0 p.1.1.0;
  exit = λ κ a x e p. answered_both _ p.0 p.1.0 p.1.1;
  slope = λ κ a x e p. answered _ p.0 p.1.0;
}

-- what a refusing test leaves: of the windowed filter; of the count of rounds, and whether one ended
stays : {A : Type 0} (t : Bool) (new old : A) → cond t old new ≡ settled (row_of false false t false false) (cond t old new) old
unfolding settled row_of
stays true new old = refl
stays false new old = refl

counts : {A : Type 0} (ends most : Bool) (new old : A) → cond (ends && not (ends && most)) new old ≡ settled (row_of false false false false (ends && most)) (cond (ends && not (ends && most)) new old) old
unfolding settled row_of
counts true true new old = refl
counts true false new old = refl
counts false most new old = refl

ended : (ends most : Bool) → (ends && not (ends && most)) ≡ settled (row_of false false false false (ends && most)) (ends && not (ends && most)) false
unfolding settled row_of
ended true true = refl
ended true false = refl
ended false most = refl

filters : EveryFilter
unfolding row_of windowed_number windowed_update windowed_reason rounds_number rounds_full rounds_ended rounds_acked
filters = record {
  windowed_updates = λ κ a x e p.
      let refused = is_after a.0.now.held a.1.1.0 in
      answered_both _ p.0 (p.1.0 ∙ stays refused _ a.0.now) (p.1.1 ∙ stays refused _ Unchanged);
  rounds_ack = λ κ a x e p.
      let ends = ends_round a.0.now.end a.1.0.now in
      let most = is_full_counter a.0.now.count in
      answered_both _ p.0 (p.1.0 ∙ counts ends most _ a.0.now) (p.1.1 ∙ ended ends most);
}

pub every_reply : EveryReply
every_reply = record { answers = answers; changes = changes; events = events; entries = entries; filters = filters }
