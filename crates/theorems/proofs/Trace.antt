-- The lo that a row shows follows the exact run. Assumes nothing.
use Rattle.std.specs.Prelude.{Option, None, Result, Ok, Err}
use Rattle.std.specs.Bool.{then_some}
use Prim.Native.Nat.{ℕ, ◌-◌, ◌^◌, ◌≤◌}
use mathlib.Core.Bool.{Bool, true, false, cond, true≢false}
use mathlib.Core.List.{List, [], ◌∷◌, ◌++◌}
use mathlib.Core.Path.{◌≡◌, refl, sym, ap, subst, ◌∙◌}
use native.Mathlib.Omega.{arith}
use lib.Dec.{eqb}
use borrow.Author.Tests.{eqb-true}
use Rattle.units.specs.declared.time.Duration.{Duration}
use Rattle.units.specs.declared.time.Moment.{Moment}
use Rattle.state.specs.declared.network_model.NetworkModel.{NetworkModel}
use Rattle.state.specs.declared.params.Params.{Params}
use Rattle.state.specs.declared.cycle.Cycle.{Cycle}
use Rattle.state.specs.declared.congestion_event.CongestionEvent.{CongestionEvent}
use Rattle.state.specs.Answers.{settled, zero_moment, zero_length}
use Rattle.state.specs.NetworkModel.{one, start_number, start_model, model_new}
use Rattle.state.specs.Faults.{sent_faults, started_faults, whole_record, whole_sample}
use Rattle.state.specs.Cycle.{fresh_cycle}
use Rattle.changes.specs.Changes.{sent_number, sent_next}
use Rattle.drift.specs.Calls as C
use Rattle.drift.specs.Calls.{Call, State, number_of, other_number, next_of, other_next, run, started}
use Rattle.drift.specs.Exact as X
use Rattle.drift.specs.Exact.{Exact, unset, inflight_effect, exactly, exact_run}
use Rattle.drift.specs.Drift.{inflight_low, Follows, Along, OfEvent, usual_beta, usual_parts, Under}
use Rattle.drift.proofs.Usual.{usual_inflight_drift, usual_inflight_follows}
use Rattle.text.specs.declared.line.Event as line
use Rattle.text.specs.declared.line.Line.{Line}
use Rattle.text.specs.declared.line.Line.TheVariants.{Start, Sent, Event}
use Rattle.text.specs.declared.line.BadField.{BadField}
use Rattle.text.specs.Line.{line_of}
use Rattle.trace.specs.declared.replay.Replay.{Replay}
use Rattle.trace.specs.Made.{params, acked_by, record_of, sample_of, occurs_number, record_after, started_model, occurs_next, ends_round}
use Rattle.trace.specs.Replay as Read
use Rattle.trace.specs.Replay.{begin, bound, state_of, answered, answered_by, bad_text, counted, start_read, sent_read, event_read, read_line, stepped}
use Rattle.trace.specs.Stream.{after}
use Rattle.trace.proofs.Occur.{occurs_finish}
use Rattle.theorems.specs.Steps.{makes, begins, keeps, moment, duration, after_start, after_step, exact_step}
use Rattle.theorems.specs.Trace.{line_step, beside, exact_line, exact_lines, window_of, shown_lo, SmallLines, InRows, TraceUnasked, TraceDefined}
use Rattle.theorems.proofs.Choice.{settled_taken, settled_same}
use Rattle.theorems.proofs.Decoded.{state, settled_model}
use Rattle.theorems.proofs.Reached.{Reached, reached_start, reached_step, of_reached}
use Rattle.theorems.proofs.Follow.{Small, fixed, small}

-- ---- the calls of a line, on a model beside any cycle
sent_after_lem : (m : NetworkModel) (t : Moment) (inflight packet bytes : ℕ) (y : Cycle) → C.after (C.other (C.sent t inflight packet bytes)) (state m y) ≡ state (settled (sent_number m t inflight bytes) (sent_next m t inflight packet bytes) m) y
unfolding C.after number_of other_number next_of other_next
sent_after_lem m t inflight packet bytes y = sym (settled_model (sent_number m t inflight bytes) m (sent_next m t inflight packet bytes) y)

abbrev event_call : line.Event → Call
event_call e = C.event params (record_of e) (sample_of e) (acked_by e.number)

event_after_lem : (m : NetworkModel) (e : line.Event) (y : Cycle) → C.after (event_call e) (state m y) ≡ state (settled (occurs_number m e) (started_model m e) m) y
unfolding C.after number_of next_of occurs_number started_model
event_after_lem m e y = sym (settled_model _ m _ y)

finish_after : (m : NetworkModel) (e : line.Event) (y : Cycle) → occurs_number m e ≡ 0 → C.after (C.other (C.finish (record_after m e))) (state (started_model m e) y) ≡ state (occurs_next m e) y
unfolding C.after number_of other_number next_of other_next occurs_next settled
finish_after m e y h = rw (occurs_finish m e h)

finish_state : (m : NetworkModel) (e : line.Event) (y : Cycle) → occurs_number m e ≡ 0 → after_step (makes (C.other (C.finish (record_after m e)))) (state (started_model m e) y) ≡ state (occurs_next m e) y
unfolding after_step
finish_state m e y h = finish_after m e y h

finish_exact : (parts : ℕ) (m : NetworkModel) (r : CongestionEvent) (y : Cycle) (x : Exact) → exact_step inflight_effect parts (makes (C.other (C.finish r))) (state m y) x ≡ x
unfolding exact_step inflight_effect number_of exactly
finish_exact parts m r y x = ap (λ (f : X.Effect). exactly parts f x) (settled_same (other_number (C.finish r) (state m y)) X.stays)

settled_false : {A : Type 0} (n : ℕ) → eqb n 0 ≡ false → (a b old : A) → settled n a old ≡ settled n b old
unfolding settled
settled_false n h a b old = rw h

-- ---- what a row shows is the state after its line
abbrev lo_of : (shown : Bool) → NetworkModel → Option ℕ
lo_of shown m = shown_lo (then_some shown (Read.state_of m))

answered_lo : (n : ℕ) (part : Option ℕ) (ended : Bool) (r : Replay) → let s = answered n part ended r in shown_lo s.row.state ≡ lo_of s.replay.started s.replay.model
unfolding answered Read.row_of
answered_lo n part ended r = refl

chosen_lo : (t : Bool) (n : ℕ) (part : Option ℕ) (ended : Bool) (q r : Replay) → let s = cond t (answered n part ended q) (bad_text r) in shown_lo s.row.state ≡ lo_of s.replay.started s.replay.model
chosen_lo true n part ended q r = answered_lo n part ended q
chosen_lo false n part ended q r = answered_lo 6 None false r

read_lo : (r : Replay) (l : Result Line BadField) → let s = read_line r l in shown_lo s.row.state ≡ lo_of s.replay.started s.replay.model
unfolding read_line start_read sent_read event_read answered_by
read_lo r (Err b) = answered_lo 6 None false (counted r)
read_lo r (Ok (Start time rtt)) = answered_lo _ _ _ _
read_lo r (Ok (Sent time inflight packet bytes)) = chosen_lo (counted r).started _ _ _ _ (counted r)
read_lo r (Ok (Event e)) = chosen_lo (counted r).started _ _ _ _ (counted r)

step_lo : (r : Replay) (l : List ℕ) → let s = stepped r l in shown_lo s.row.state ≡ lo_of s.replay.started s.replay.model
unfolding stepped
step_lo r l = read_lo r (line_of l)

after_last : (r : Replay) (ls : List (List ℕ)) (l : List ℕ) → after r (ls ++ (l ∷ [])) ≡ (stepped (after r ls) l).replay
unfolding after
after_last r [] l = refl
after_last r (k ∷ ls) l = after_last (stepped r k).replay ls l

module _ (parts : ℕ) where
  abbrev P : Call → Type 0
  P = OfEvent (Small usual_beta)

  abbrev At : NetworkModel → Cycle → Exact → Type 0
  At m y x = Reached inflight_effect parts P (state m y) x

  -- ---- before an accepted start nothing is set; after it the state is reached by calls
  data Inv (started : Bool) (m : NetworkModel) (x : Exact) : Type 0 where
    idle : started ≡ false → m.lower.inflight ≡ 2 ^ 64 - 1 → x ≡ unset → Inv started m x
    on : (y : Cycle) → started ≡ true → At m y x → Inv started m x

  reached_in : (m : NetworkModel) (x : Exact) (t : Bool) → t ≡ true → Inv t m x → (y : Cycle) × At m y x
  reached_in m x t h (idle f u e) = absurd (true≢false (sym h ∙ f))
  reached_in m x t h (on y s r) = (y, r)

  -- ---- a start
  from : (p : Params) (d : Duration) (t : Moment) → At (start_model p d t) (fresh_cycle (settled (start_number p d t) t zero_moment)) unset
  unfolding after_start
  from p d t = reached_start inflight_effect parts P p d t

  start_inv : (r : Replay) (x : Exact) (time rtt : ℕ) → Inv r.started r.model x → let q = (start_read r time rtt).replay in Inv q.started q.model (exact_line parts r (Ok (Start time rtt)) x)
  unfolding start_read answered_by answered exact_line line_step exact_step settled
  start_inv r x time rtt h = go (eqb (start_number params (duration rtt) (moment time)) 0)
    where
      go : (t : Bool) → let q = cond t (Read.begun_with r (start_model params (duration rtt) (moment time))) r in Inv q.started q.model (exact_step inflight_effect parts (cond t (begins params (duration rtt) (moment time)) keeps) (beside r.model) x)
      go true = on (fresh_cycle (settled (start_number params (duration rtt) (moment time)) (moment time) zero_moment)) refl (from params (duration rtt) (moment time))
      go false = h

  -- ---- a send
  sent_step : (m : NetworkModel) (x : Exact) (t : Moment) (inflight packet bytes : ℕ) (y : Cycle) → At m y x → At (settled (sent_number m t inflight bytes) (sent_next m t inflight packet bytes) m) y (exactly parts (settled (sent_number m t inflight bytes) X.stays X.stays) x)
  unfolding after_step exact_step number_of other_number inflight_effect
  sent_step m x t inflight packet bytes y a =
      subst (λ (s : State). Reached inflight_effect parts P s (exactly parts (settled (sent_number m t inflight bytes) X.stays X.stays) x)) (sent_after_lem m t inflight packet bytes y)
      (reached_step inflight_effect parts P (makes (C.other (C.sent t inflight packet bytes))) (state m y) x (λ _. tt) a)

  sent_inv : (r : Replay) (x : Exact) (time inflight packet bytes : ℕ) → Inv r.started r.model x → let q = (sent_read r time inflight packet bytes).replay in Inv q.started q.model (exact_line parts r (Ok (Sent time inflight packet bytes)) x)
  unfolding sent_read answered_by answered exact_line line_step exact_step number_of other_number inflight_effect
  sent_inv r x time inflight packet bytes h = go r.started refl
    where
      go : (t : Bool) → r.started ≡ t →
          let m = r.model in
          let n = sent_number m (moment time) inflight bytes in
          let q = (cond t (answered_by n (sent_faults (moment time) inflight bytes) false (Read.with_model r (settled n (sent_next m (moment time) inflight packet bytes) m))) (bad_text r)).replay in
          Inv q.started q.model (exact_step inflight_effect parts (cond t (makes (C.other (C.sent (moment time) inflight packet bytes))) keeps) (beside m) x)
      go true e = let a = reached_in r.model x r.started e h in on a.0 e (sent_step r.model x (moment time) inflight packet bytes a.0 a.1)
      go false e = h

  -- ---- an event, and its finish
  finish_step : (m : NetworkModel) (e : line.Event) (y : Cycle) (x : Exact) → occurs_number m e ≡ 0 → At (settled (occurs_number m e) (started_model m e) m) y x → At (settled (occurs_number m e) (occurs_next m e) m) y x
  finish_step m e y x z a =
      subst (λ (k : NetworkModel). At k y x) (sym (settled_taken (occurs_number m e) (occurs_next m e) m z))
      (ended m e y x z (subst (λ (k : NetworkModel). At k y x) (settled_taken (occurs_number m e) (started_model m e) m z) a))
    where
      ended : (m : NetworkModel) (e : line.Event) (y : Cycle) (x : Exact) → occurs_number m e ≡ 0 → At (started_model m e) y x → At (occurs_next m e) y x
      ended m e y x z a = subst (λ (v : Exact). At (occurs_next m e) y v) (finish_exact parts (started_model m e) (record_after m e) y x) (subst (λ (s : State). Reached inflight_effect parts P s (exact_step inflight_effect parts (makes (C.other (C.finish (record_after m e)))) (state (started_model m e) y) x)) (finish_state m e y z) (reached_step inflight_effect parts P (makes (C.other (C.finish (record_after m e)))) (state (started_model m e) y) x (λ _. tt) a))

  sized : (m : NetworkModel) (e : line.Event) (y : Cycle) → (occurs_number m e ≡ 0 → e.cwnd ≤ 2 ^ 24) → number_of (event_call e) (state m y) ≡ 0 → P (event_call e)
  unfolding number_of occurs_number record_of sample_of
  sized m e y small h = (refl, small h, omega arith)

  event_first : (m : NetworkModel) (x : Exact) (e : line.Event) (y : Cycle) → (occurs_number m e ≡ 0 → e.cwnd ≤ 2 ^ 24) → At m y x → At (settled (occurs_number m e) (started_model m e) m) y (exact_step inflight_effect parts (makes (event_call e)) (state m y) x)
  unfolding after_step
  event_first m x e y small a = subst (λ (s : State). Reached inflight_effect parts P s (exact_step inflight_effect parts (makes (event_call e)) (state m y) x)) (event_after_lem m e y) (reached_step inflight_effect parts P (makes (event_call e)) (state m y) x (sized m e y small) a)

  event_step : (m : NetworkModel) (x : Exact) (e : line.Event) (y : Cycle) → (occurs_number m e ≡ 0 → e.cwnd ≤ 2 ^ 24) → At m y x
      → At (settled (occurs_number m e) (occurs_next m e) m) y (exact_step inflight_effect parts (makes (event_call e)) (state m y) x)
  event_step m x e y small a = go (eqb (occurs_number m e) 0) refl
    where
      go : (t : Bool) → eqb (occurs_number m e) 0 ≡ t → At (settled (occurs_number m e) (occurs_next m e) m) y (exact_step inflight_effect parts (makes (event_call e)) (state m y) x)
      go true q = let z = eqb-true (occurs_number m e) 0 q in finish_step m e y _ z (event_first m x e y small a)
      go false q = subst (λ (k : NetworkModel). At k y (exact_step inflight_effect parts (makes (event_call e)) (state m y) x)) (settled_false (occurs_number m e) q (started_model m e) (occurs_next m e) m) (event_first m x e y small a)

  event_inv : (r : Replay) (x : Exact) (e : line.Event) → ((event_read r e).row.refusal ≡ 0 → e.cwnd ≤ 2 ^ 24) → Inv r.started r.model x → let q = (event_read r e).replay in Inv q.started q.model (exact_line parts r (Ok (Event e)) x)
  unfolding event_read answered_by answered Read.row_of exact_line line_step exact_step number_of inflight_effect
  event_inv r x e small h = go r.started refl small
    where
      go : (t : Bool) → r.started ≡ t →
          let m = r.model in
          let n = occurs_number m e in
          let s = cond t (answered_by n (started_faults true whole_record (record_of e) whole_sample (sample_of e)) (ends_round m e) (Read.with_model r (settled n (occurs_next m e) m))) (bad_text r) in
          (s.row.refusal ≡ 0 → e.cwnd ≤ 2 ^ 24) →
          Inv s.replay.started s.replay.model (exact_step inflight_effect parts (cond t (makes (event_call e)) keeps) (beside m) x)
      go true f k = let a = reached_in r.model x r.started f h in on a.0 f (event_step r.model x e a.0 k a.1)
      go false f k = h

  -- ---- a line, and lines
  none : (r : Replay) (x : Exact) (b : BadField) → Inv r.started r.model x → let q = (bad_text (counted r)).replay in Inv q.started q.model (exact_line parts r (Err b) x)
  unfolding answered counted exact_line line_step exact_step
  none r x b h = h

  read_inv : (r : Replay) (x : Exact) (l : Result Line BadField) → ((read_line r l).row.refusal ≡ 0 → window_of l ≤ 2 ^ 24) → Inv r.started r.model x → let q = (read_line r l).replay in Inv q.started q.model (exact_line parts r l x)
  unfolding read_line counted exact_line line_step
  read_inv r x (Err b) small h = none r x b h
  read_inv r x (Ok (Start time rtt)) small h = start_inv (counted r) x time rtt h
  read_inv r x (Ok (Sent time inflight packet bytes)) small h = sent_inv (counted r) x time inflight packet bytes h
  read_inv r x (Ok (Event e)) small h = event_inv (counted r) x e small h

  lines_inv : (ls : List (List ℕ)) (r : Replay) (x : Exact) → SmallLines r ls → Inv r.started r.model x → let q = after r ls in Inv q.started q.model (exact_lines parts r ls x)
  unfolding after exact_lines stepped
  lines_inv [] r x s h = h
  lines_inv (l ∷ ls) r x s h = lines_inv ls (stepped r l).replay (exact_line parts r (line_of l) x) s.1 (read_inv r x (line_of l) s.0 h)

  begins_idle : Inv begin.started begin.model unset
  unfolding begin start_model model_new settled
  begins_idle = idle refl (go (eqb (start_number params zero_length zero_moment) 0)) refl
    where
      go : (t : Bool) → (cond t (model_new params.cwnd params.pacing params.ignore zero_length zero_moment) (model_new one one false zero_length zero_moment)).lower.inflight ≡ 2 ^ 64 - 1
      go true = refl
      go false = refl

  -- ---- for any theorem of runs of calls
  module _ (Near : Option ℕ → Exact → Type 0) (none-set : Near None unset)
      (theorem : (p : Params) (rtt : Duration) (now : Moment) (y : Cycle) (calls : List Call) → Along P calls (started p rtt now y) → Near (inflight_low (run calls (started p rtt now y))) (exact_run inflight_effect parts calls (started p rtt now y) unset)) where
    near : (t : Bool) (m : NetworkModel) (x : Exact) → Inv t m x → Near (lo_of t m) x
    unfolding Read.state_of bound inflight_low
    near t m x (idle f u e) = rw (f, e) none-set
    near t m x (on y f r) = rw f (of_reached inflight_effect parts P (λ s x. Near (inflight_low s) x) theorem (state m y) x r)

    in_rows : InRows parts Near
    in_rows lines last s =
        let q = after begin (lines ++ (last ∷ [])) in
        let x = exact_lines parts begin (lines ++ (last ∷ [])) unset in
        let inv = lines_inv (lines ++ (last ∷ [])) begin unset s begins_idle in
        subst (λ (n : Option ℕ). Near n x)
        (sym (step_lo (after begin lines) last ∙ ap (λ (r : Replay). lo_of r.started r.model) (sym (after_last begin lines last))))
        (near q.started q.model x inv)

-- ---- less than k bytes and less than 1 / (1 - b), and so under 3.34
pub trace_follows : InRows usual_parts (Follows 1 1 usual_parts)
trace_follows = in_rows usual_parts (Follows 1 1 usual_parts) tt (λ p rtt now y calls h. usual_inflight_follows p rtt now y calls (fixed usual_beta calls _ h) (small usual_beta calls _ h))

pub trace_under : InRows usual_parts (Under 334)
trace_under = in_rows usual_parts (Under 334) tt (λ p rtt now y calls h. usual_inflight_drift p rtt now y calls (fixed usual_beta calls _ h) (small usual_beta calls _ h))

-- ---- the contracts
pub unasked : TraceUnasked
unasked = record { line = λ κ a. tt; same_text = λ κ a. tt; new = λ κ a. tt; step = λ κ a. tt; run = λ κ a. tt; keep = λ κ a. tt }

pub defined : TraceDefined
defined = record { line = λ κ a n e h. h; same_text = λ κ a n e h. h; row = λ κ a x e h. h; new = λ κ a n e h. h; step = λ κ a n e h. h; run = λ κ a x e h. (h.0, h.1); keep = λ κ a x e h. (h.0, h.1) }
