-- Which argument a refusal 2 names, call by call. Document 02, request b: "If several are out of range the first in
-- argument order, then field order, is named." The tests of a call, each with its place and its kind, stand in
-- crates/state/specs/Faults.antt. Below stands a line for each public call that is given something; the others never
-- give 2. It is said of every reply that the call's contract allows. How to read it says Replies.antt beside it.
-- Statements only; proofs/Named.antt proves them.
use Rattle.std.specs.Prelude.{ℕ, ◌<◌, true, false, not, ◌&&◌, List, ◌≡◌, eqb, Float, get_or, Result}
use Rattle.units.specs.declared.bandwidth.Bandwidth.{Bandwidth}
use Rattle.units.specs.declared.refusal.Refusal.{Refusal}
use Rattle.units.specs.declared.time.Duration.{Duration}
use Rattle.units.specs.declared.time.Moment.{Moment}
use Rattle.units.specs.Reply.{number, fault}
use Rattle.state.specs.declared.network_model.NetworkModel.{NetworkModel}
use Rattle.state.specs.declared.params.Params.{Params}
use Rattle.state.specs.declared.refusals.Rows.{Rows}
use Rattle.state.specs.declared.congestion_event.CongestionEvent.{CongestionEvent}
use Rattle.state.specs.Params.{params_ok}
use Rattle.state.specs.Bounds.{bytes_ok, bytes_or_unset_ok, bandwidth_ok, length_ok, moment_ok, gain_ok}
use Rattle.state.specs.CongestionEvent.{event_ok}
use Rattle.state.specs.NetworkModel.{start_rows, given_rows, judged_rows}
use Rattle.state.specs.Cycle.{rounds_ok, fresh_rows}
use Rattle.state.specs.Faults.{first, whole_record, whole_sample, start_faults, sent_faults, started_faults, event_faults, gain_faults, bdp_faults, bdp1_faults, limit_faults, postpone_faults, down_faults, now_faults, refill_faults, up_faults, slope_faults}
use Rattle.changes.specs.Changes.{sent_rows, postponed}
use Rattle.events.specs.Event.{event_rows}
use Rattle.judge.specs.Judge.{growth_rows, queue_rows}
use Rattle.phases.specs.Phases.{entry_rows, slope_rows}
use Rattle.laws.specs.Replies.{Every, EveryLent}
use Rattle.state.proofs.network_model.NetworkModel as model
use Rattle.reads.proofs.reads as reads
use Rattle.changes.proofs.changes as changes
use Rattle.events.proofs.event as event
use Rattle.judge.proofs.judge as judge
use Rattle.state.proofs.cycle.Cycle as cycle
use Rattle.phases.proofs.phases as phases

-- f is the first fault of a list: it stands there, it is one, and before it there is none
pub record IsFirst (faults : List ℕ) (f : ℕ) : Type 0 where
  pub place : ℕ
  pub stands : get_or faults place 0 ≡ f
  pub fault : f ≡ 0 → ⊥
  pub before : (i : ℕ) → i < place → get_or faults i 0 ≡ 0

-- of a list of faults, `first` is the first; and there is none exactly where it is 0
pub record Firsts : Type 0 where
  pub found : (faults : List ℕ) → (first faults ≡ 0 → ⊥) → IsFirst faults (first faults)
  pub none : (faults : List ℕ) → first faults ≡ 0 → (i : ℕ) → get_or faults i 0 ≡ 0

-- the reply to a call with these rows and faults: row 2 holds exactly where there is a fault, a refusal 2 names the
-- first, and no other reply names any
pub record Names {B : Type 0} (reply : Result B Refusal) (r : Rows) (faults : List ℕ) : Type 0 where
  pub asked : r.argument ≡ not (eqb (first faults) 0)
  pub names : number reply ≡ 2 → IsFirst faults (fault reply)
  pub silent : (number reply ≡ 2 → ⊥) → fault reply ≡ 0

pub record EveryFault : Type 0 where
  pub firsts : Firsts
  pub start :
      EveryLent model.begin.Reads.Learnt
      (λ κ a x.
      let rtt = a.1.1.0 in
      let t = a.1.1.1.0 in
      Names x (start_rows a.1.0 rtt t) (start_faults rtt t))
  pub made : (p : Params) (rtt : Duration) (t : Moment) →
      Every model.new.Reads.Learnt (λ κ. (p, (rtt, (t, tt))))
      (λ x. Names x (start_rows p rtt t) (start_faults rtt t))
  pub sent :
      EveryLent changes.on_packet_sent.Reads.Learnt
      (λ κ a x.
      let t = a.1.0 in
      let inflight = a.1.1.0 in
      let bytes = a.1.1.1.1.0 in
      Names x (sent_rows a.0.now t inflight bytes) (sent_faults t inflight bytes))
  pub starts :
      EveryLent event.on_congestion_event_start.Reads.Learnt
      (λ κ a x.
      let m = a.0.now in
      let p = a.1.0 in
      let e = a.1.1.0.now in
      let y = a.1.1.1.0 in
      let acked = a.1.1.1.1.0.now in
      Names x (event_rows m p e y acked) (started_faults true whole_record e whole_sample y))
  pub finish :
      EveryLent event.on_congestion_event_finish.Reads.Learnt
      (λ κ a x.
      let e = a.1.0 in
      Names x (given_rows a.0.now (event_ok e)) (event_faults whole_record e))
  pub expire :
      EveryLent judge.maybe_expire_min_rtt.Reads.Learnt
      (λ κ a x.
      let e = a.1.1.0 in
      Names x (judged_rows a.0.now a.1.0 (event_ok e) false) (event_faults whole_record e))
  pub is_inflight_too_high : (m : NetworkModel) (p : Params) (e : CongestionEvent) (limit : ℕ) →
      Every judge.is_inflight_too_high.Reads.Learnt (λ κ. (m, (p, (e, (limit, tt)))))
      (λ x. Names x (judged_rows m p (event_ok e) false) (event_faults whole_record e))
  pub growth :
      EveryLent judge.has_bandwidth_growth.Reads.Learnt
      (λ κ a x.
      let e = a.1.1.0 in
      Names x (growth_rows a.0.now a.1.0 e) (event_faults whole_record e))
  pub queue :
      EveryLent judge.check_persistent_queue.Reads.Learnt
      (λ κ a x.
      let gain = a.1.1.0 in
      Names x (queue_rows a.0.now a.1.0 gain) (gain_faults true gain))
  pub bdp : (m : NetworkModel) (b : Bandwidth) (gain : Float) →
      Every reads.bdp.Reads.Learnt (λ κ. (m, (b, (gain, tt))))
      (λ x. Names x (given_rows m (bandwidth_ok b && gain_ok gain)) (bdp_faults b true gain))
  pub bdp1 : (m : NetworkModel) (b : Bandwidth) →
      Every reads.bdp1.Reads.Learnt (λ κ. (m, (b, tt)))
      (λ x. Names x (given_rows m (bandwidth_ok b)) (bdp1_faults b))
  pub pacing :
      EveryLent changes.set_pacing_gain.Reads.Learnt
      (λ κ a x.
      let gain = a.1.0 in
      Names x (given_rows a.0.now (gain_ok gain)) (gain_faults true gain))
  pub cwnd :
      EveryLent changes.set_cwnd_gain.Reads.Learnt
      (λ κ a x.
      let gain = a.1.0 in
      Names x (given_rows a.0.now (gain_ok gain)) (gain_faults true gain))
  pub high :
      EveryLent changes.set_inflight_hi.Reads.Learnt
      (λ κ a x.
      let bytes = a.1.0 in
      Names x (given_rows a.0.now (bytes_or_unset_ok bytes)) (limit_faults bytes))
  pub cap :
      EveryLent changes.cap_inflight_lo.Reads.Learnt
      (λ κ a x.
      let bytes = a.1.0 in
      Names x (given_rows a.0.now (bytes_or_unset_ok bytes)) (limit_faults bytes))
  pub postpone :
      EveryLent changes.postpone_min_rtt_timestamp.Reads.Learnt
      (λ κ a x.
      let m = a.0.now in
      let d = a.1.0 in
      Names x (given_rows m (length_ok d && moment_ok (postponed m d))) (postpone_faults d (postponed m d)))
  pub fresh :
      EveryLent cycle.begin.Reads.Learnt
      (λ κ a x.
      let t = a.1.0 in
      Names x (fresh_rows t) (now_faults t))
  pub made_cycle : (t : Moment) →
      Every cycle.new.Reads.Learnt (λ κ. (t, tt))
      (λ x. Names x (fresh_rows t) (now_faults t))
  pub down :
      EveryLent phases.enter_probe_down.Reads.Learnt
      (λ κ a x.
      let t = a.1.1.1.1.1.0 in
      Names x (entry_rows a.0.now a.1.0.now (params_ok a.1.1.0) true t) (down_faults true true t))
  pub cruise :
      EveryLent phases.enter_probe_cruise.Reads.Learnt
      (λ κ a x.
      let t = a.1.1.0 in
      Names x (entry_rows a.0.now a.1.0.now true true t) (now_faults t))
  pub refill :
      EveryLent phases.enter_probe_refill.Reads.Learnt
      (λ κ a x.
      let upRounds = a.1.1.0 in
      let t = a.1.1.1.0 in
      Names x (entry_rows a.0.now a.1.0.now true (rounds_ok upRounds) t) (refill_faults upRounds t))
  pub up :
      EveryLent phases.enter_probe_up.Reads.Learnt
      (λ κ a x.
      let t = a.1.1.0 in
      let window = a.1.1.1.0 in
      Names x (entry_rows a.0.now a.1.0.now true (bytes_ok window) t) (up_faults t window))
  pub slope :
      EveryLent phases.raise_inflight_high_slope.Reads.Learnt
      (λ κ a x.
      let window = a.1.0 in
      Names x (slope_rows a.0.now window) (slope_faults window))
