-- What one call writes: laws over plain variables. Assumes nothing.
use Prim.Native.Nat.{ℕ}
use mathlib.Core.Bool.{Bool, true, false, cond}
use mathlib.Core.List.{List}
use mathlib.Core.Path.{◌≡◌, refl}
use lib.Dec.{eqb, leb}
use lib.ListN.{length, get_or}
use Rattle.state.specs.declared.network_model.NetworkModel.{NetworkModel}
use Rattle.state.specs.Answers.{settled}
use Rattle.state.specs.declared.congestion_event.CongestionEvent.{CongestionEvent}
use Rattle.state.specs.declared.cycle.Cycle.{Cycle}
use Rattle.events.specs.Event.{event_next}
use Rattle.arguments.specs.CongestionEvent.{event_from, words_from, event_in, event_words}
use Rattle.arguments.specs.Sample.{sample_from, acked_of}
use Rattle.std.specs.Prelude.{Result, Ok, Err}
use Rattle.std.specs.Result.{result_unwrap_or}
use Rattle.state.specs.declared.refusals.Cause.{Cause}
use Rattle.state.specs.Refusals.{given}
use Rattle.dispatch.specs.Outcome.{Outcome, no_event, event_start_number, event_start_words, is_judged, is_asked, start_outcome, judge_outcome, ask_outcome, enter_outcome, change_outcome}
use Rattle.dispatch.specs.Inner.{other_outcome}
use Rattle.dispatch.proofs.RoundTrip.{round_trip}

either : (b : Bool) (s t : Outcome) → s.event ≡ no_event → t.event ≡ no_event → (cond b s t).event ≡ no_event
either true s t p q = p
either false s t p q = q

-- a call that is no event's start has no record
pub event_other : (w : List ℕ) (m : NetworkModel) (y : Cycle) → (other_outcome w m y).event ≡ no_event
unfolding other_outcome start_outcome judge_outcome ask_outcome enter_outcome change_outcome
event_other w m y =
    let call = get_or w 0 0 in
    let more = cond (leb 40 call) (enter_outcome w m y) (change_outcome w m y) in
    let asks = cond (is_asked call) (ask_outcome w m y) more in
    let judges = cond (is_judged call) (judge_outcome w m y) asks in
    either (eqb call 0) (start_outcome w) judges refl
    (either (is_judged call) (judge_outcome w m y) asks refl
    (either (is_asked call) (ask_outcome w m y) more refl
    (either (leb 40 call) (enter_outcome w m y) (change_outcome w m y) refl refl)))

-- an event's start has a record of 16 words, done or refused
pub length_started : (w : List ℕ) (m : NetworkModel) → length (event_start_words w m) ≡ 16
unfolding settled words_from
length_started w m = go (eqb (event_start_number w m) 0)
  where
    go : (t : Bool) → length (cond t (event_words (event_next m (event_from w) (sample_from w) (acked_of w))) (event_in w)) ≡ 16
    go true = round_trip.event_length (event_next m (event_from w) (sample_from w) (acked_of w))
    go false = refl

pub unwrapped : {A : Type 0} (r : Result A Cause) (d : A) → result_unwrap_or r d ≡ given r d
unwrapped (Ok a) d = refl
unwrapped (Err c) d = refl

-- an event's record, by its reply
pub left_by_lem : (k n : ℕ) (e next old : CongestionEvent) (given : List ℕ) → k ≡ n → e ≡ settled n next old → settled k (event_words e) given ≡ settled n (event_words next) given
unfolding settled
left_by_lem k n e next old given p q = rw (p, q) (go (eqb n 0))
  where
    go : (t : Bool) → cond t (event_words (cond t next old)) given ≡ cond t (event_words next) given
    go true = refl
    go false = refl
