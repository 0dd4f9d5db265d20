-- "Exactly when", call by call. Document 01, "Replies and bounds": "If several refusals apply, the lowest number is
-- given. A refusal is given exactly when its row holds. Every refusal returns the state unchanged, 0 for a number, no
-- for a yes or no, and an event's record as handed in"; document 02, request i: "10, asked after 4 and before 5". Below
-- stands a line for each public call of document 01. It is said of every reply that the call's contract allows.
-- Statements only; proofs/Replies.antt proves them.
--
-- How to read it. `ℕ` is the whole numbers from 0, `Bool` is yes or no (`true` or `false`), and `Type 0` is the types
-- and the statements. A `record` is several things or several statements at once, `abbrev` gives a name to what stands
-- behind `=`. `f a b` is the function f of a and b, `x.f` the field f of x, and `.0` and `.1` are the first and the
-- rest of a list of arguments. `A × B` is "A and B", `A → B` is "from A follows B", `A ↔ B` is "A exactly when B", `(a
-- : A) → B` is "B for every a of the type A", `a ≡ b` is "a equals b", `⊥` is "never", `λ x. t` is "t, for x". Of
-- tests, `&&` is "and", `||` is "or", `ltb a b` is "a is below b", `eqb a b` is "a equals b". A contract, as the
-- checker reads it, is `Reads.Learnt` of its function. It speaks of lifetimes κ, of the arguments a in the order of the
-- source, written (first, (second, tt)), of a reply x and of what is left at the exit, e, in the same order. Where the
-- first is lent, `a.0.now` is what it holds at the call, and `e.0.now` what it holds after it. `kept x d` is what x
-- gives, or d where it is a refusal.
use Rattle.std.specs.Prelude.{ℕ, ◌-◌, ◌*◌, ◌^◌, Bool, true, false, ◌&&◌, ◌↔◌, ◌≡◌, Float, Result}
use Rattle.units.specs.declared.bandwidth.Bandwidth.{Bandwidth}
use Rattle.units.specs.declared.refusal.Refusal.{Refusal}
use Rattle.filters.specs.declared.round_trip_counter.RoundTripCounter.{RoundTripCounter}
use Rattle.units.specs.declared.time.Duration.{Duration}
use Rattle.units.specs.declared.time.Moment.{Moment}
use Rattle.filters.specs.declared.windowed_filter.Reason.{Reason}
use Rattle.filters.specs.declared.windowed_filter.Reason.TheVariants.{Unchanged}
use Rattle.filters.specs.declared.windowed_filter.WindowedFilter.{WindowedFilter}
use Rattle.filters.specs.MaxBandwidthFilter.{max_get}
use Rattle.units.specs.Reply.{number, kept}
use Rattle.filters.specs.Reason.{windowed_reason}
use Rattle.filters.specs.RoundTripCounter.{ends_round, rounds_acked, rounds_ended}
use Rattle.filters.specs.WindowedFilter.{is_after, windowed_update}
use Rattle.state.specs.declared.network_model.NetworkModel.{NetworkModel}
use Rattle.state.specs.declared.params.Params.{Params}
use Rattle.state.specs.Answers.{zero_bandwidth, zero_length, zero_moment, zero_gain}
use Rattle.state.specs.declared.refusals.Rows.{Rows}
use Rattle.state.specs.Refusals.{no_rows, earlier, full, is_full_counter}
use Rattle.state.specs.Params.{params_ok}
use Rattle.state.specs.Bounds.{bytes_ok, bytes_or_unset_ok, bandwidth_ok, length_ok, moment_ok, gain_ok}
use Rattle.state.specs.NetworkModel.{start_rows, stored_rows, given_rows, judged_rows, one, model_new, restart_next, with_high, cap_next, clear_inflight_next, clear_bandwidth_next, advance_next, bdp_of}
use Rattle.changes.specs.Changes.{sent_rows, sent_next, reached_next, pacing_next, cwnd_next, postponed, postpone_next}
use Rattle.reads.specs.Reads.{estimate_of, headroom_of}
use Rattle.state.specs.declared.congestion_event.CongestionEvent.{CongestionEvent}
use Rattle.state.specs.CongestionEvent.{event_ok}
use Rattle.events.specs.Event.{event_rows, model_next, event_next, finish_next}
use Rattle.judge.specs.Judge.{is_expired, expire_next, is_too_high, has_grown, growth_rows, growth_next, queue_rows, queue_next}
use Rattle.state.specs.declared.cycle.Cycle.{Cycle}
use Rattle.state.specs.Cycle.{rounds_ok, fresh_rows, cycle_new}
use Rattle.phases.specs.Phases.{entry_rows, exit_rows, slope_rows, restarted_at, down_cycle, cruise_model, cruise_cycle, refill_model, refill_cycle, up_cycle, exit_model, exit_cycle, slope_cycle}
use Rattle.filters.proofs.round_trip_counter.RoundTripCounter as rounds
use Rattle.filters.proofs.windowed_filter.WindowedFilter as windowed
use Rattle.state.proofs.network_model.NetworkModel as model
use Rattle.reads.proofs.reads as reads
use Rattle.changes.proofs.changes as changes
use Rattle.events.proofs.event as event
use Rattle.judge.proofs.judge as judge
use Rattle.state.proofs.cycle.Cycle as cycle
use Rattle.phases.proofs.phases as phases

-- ---- the table: `Rows` has a test for each row. Those of a call are its `..Rows`, beside the call's definition;
-- crates/state/specs/Refusals.antt says each row in the documents' words
abbrev pub Holds : Bool → Type 0
Holds test = test ≡ true

abbrev pub Fails : Bool → Type 0
Fails test = test ≡ false

-- the reply's number n is that of the first row that holds, and 0 exactly where none does. They are asked in this
-- order: 1, 2, 3, 4, 10, 5
pub record Exactly (n : ℕ) (r : Rows) : Type 0 where
  pub is0 :
      n ≡ 0 ↔ Fails r.stored × Fails r.argument × Fails r.earlier × Fails r.lower × Fails r.unsent
      × Fails r.full
  pub is1 : n ≡ 1 ↔ Holds r.stored
  pub is2 : n ≡ 2 ↔ Fails r.stored × Holds r.argument
  pub is3 : n ≡ 3 ↔ Fails r.stored × Fails r.argument × Holds r.earlier
  pub is4 : n ≡ 4 ↔ Fails r.stored × Fails r.argument × Fails r.earlier × Holds r.lower
  pub is10 :
      n ≡ 10 ↔ Fails r.stored × Fails r.argument × Fails r.earlier × Fails r.lower × Holds r.unsent
  pub is5 :
      n ≡ 5 ↔ Fails r.stored × Fails r.argument × Fails r.earlier × Fails r.lower × Fails r.unsent
      × Holds r.full

-- the reply to a call with such rows, and what it left or answered: `next` where it is done, `old` where it is refused
pub record Answered {A B : Type 0} (reply : Result B Refusal) (r : Rows) (got next old : A) : Type 0 where
  pub row : Exactly (number reply) r
  pub done : number reply ≡ 0 → got ≡ next
  pub refused : (number reply ≡ 0 → ⊥) → got ≡ old

-- P of every reply to these arguments that a contract allows
abbrev pub Every : {K : Type 0} {A E : K → Type 0} {R : Type 0} →
    ((κ : K) → A κ → R → E κ → Type 0) → ((κ : K) → A κ) → (R → Type 0) → Type 0
Every {K} {A} {E} {R} learnt args P = (κ : K) (x : R) (s : E κ) → learnt κ (args κ) x s → P x

-- the same where an argument is lent: P is told all arguments
abbrev pub EveryLent : {K : Type 0} {A E : K → Type 0} {R : Type 0} →
    ((κ : K) → A κ → R → E κ → Type 0) → ((κ : K) → A κ → R → Type 0) → Type 0
EveryLent {K} {A} {E} {R} learnt P = (κ : K) (a : A κ) (x : R) (s : E κ) → learnt κ a x s → P κ a x

-- the same where the call changes what it is lent: P is told what it leaves there too
abbrev pub EveryOutcome : {K : Type 0} {A E : K → Type 0} {R : Type 0} →
    ((κ : K) → A κ → R → E κ → Type 0) → ((κ : K) → A κ → R → E κ → Type 0) → Type 0
EveryOutcome {K} {A} {E} {R} learnt P = (κ : K) (a : A κ) (x : R) (e : E κ) → learnt κ a x e → P κ a x e

-- ---- calls that only answer
pub record EveryAnswer : Type 0 where
  pub bdp : (m : NetworkModel) (b : Bandwidth) (gain : Float) →
      Every reads.bdp.Reads.Learnt (λ κ. (m, (b, (gain, tt))))
      (λ x. Answered x (given_rows m (bandwidth_ok b && gain_ok gain)) (kept x 0) (bdp_of m b gain) 0)
  pub bdp1 : (m : NetworkModel) (b : Bandwidth) →
      Every reads.bdp1.Reads.Learnt (λ κ. (m, (b, tt)))
      (λ x. Answered x (given_rows m (bandwidth_ok b)) (kept x 0) (bdp_of m b one) 0)
  pub bdp0 : (m : NetworkModel) →
      Every reads.bdp0.Reads.Learnt (λ κ. (m, tt))
      (λ x. Answered x (stored_rows m) (kept x 0) (bdp_of m (max_get m.maxbw) one) 0)
  pub inflight_hi_with_headroom : (m : NetworkModel) (p : Params) →
      Every reads.inflight_hi_with_headroom.Reads.Learnt (λ κ. (m, (p, tt)))
      (λ x. Answered x (judged_rows m p true false) (kept x 0) (headroom_of m.high p.headroom) 0)
  pub is_inflight_too_high : (m : NetworkModel) (p : Params) (e : CongestionEvent) (limit : ℕ) →
      Every judge.is_inflight_too_high.Reads.Learnt (λ κ. (m, (p, (e, (limit, tt)))))
      (λ x. Answered x (judged_rows m p (event_ok e) false) (kept x false)
      (is_too_high m.round e.state limit p.loss) false)
  pub bandwidth_estimate : (m : NetworkModel) →
      Every reads.bandwidth_estimate.Reads.Learnt (λ κ. (m, tt))
      (λ x. Answered x (stored_rows m) (kept x zero_bandwidth)
      (estimate_of m.lower.bandwidth (max_get m.maxbw)) zero_bandwidth)
  pub max_bandwidth : (m : NetworkModel) →
      Every reads.max_bandwidth.Reads.Learnt (λ κ. (m, tt))
      (λ x. Answered x (stored_rows m) (kept x zero_bandwidth) (max_get m.maxbw) zero_bandwidth)
  pub min_rtt : (m : NetworkModel) →
      Every reads.min_rtt.Reads.Learnt (λ κ. (m, tt))
      (λ x. Answered x (stored_rows m) (kept x zero_length) m.minrtt.rtt zero_length)
  pub min_rtt_timestamp : (m : NetworkModel) →
      Every reads.min_rtt_timestamp.Reads.Learnt (λ κ. (m, tt))
      (λ x. Answered x (stored_rows m) (kept x zero_moment) m.minrtt.timestamp zero_moment)
  pub full_bandwidth_reached : (m : NetworkModel) →
      Every reads.full_bandwidth_reached.Reads.Learnt (λ κ. (m, tt))
      (λ x. Answered x (stored_rows m) (kept x false) m.growth.reached false)
  pub pacing_gain : (m : NetworkModel) →
      Every reads.pacing_gain.Reads.Learnt (λ κ. (m, tt))
      (λ x. Answered x (stored_rows m) (kept x zero_gain) m.gains.pacing zero_gain)
  pub cwnd_gain : (m : NetworkModel) →
      Every reads.cwnd_gain.Reads.Learnt (λ κ. (m, tt))
      (λ x. Answered x (stored_rows m) (kept x zero_gain) m.gains.cwnd zero_gain)
  pub max_bytes_delivered_in_round : (m : NetworkModel) →
      Every reads.max_bytes_delivered_in_round.Reads.Learnt (λ κ. (m, tt))
      (λ x. Answered x (stored_rows m) (kept x 0) m.round.delivered 0)
  pub total_bytes_acked : (m : NetworkModel) →
      Every reads.total_bytes_acked.Reads.Learnt (λ κ. (m, tt))
      (λ x. Answered x (stored_rows m) (kept x 0) m.totals.acked 0)
  pub total_bytes_lost : (m : NetworkModel) →
      Every reads.total_bytes_lost.Reads.Learnt (λ κ. (m, tt))
      (λ x. Answered x (stored_rows m) (kept x 0) m.totals.lost 0)
  pub inflight_hi : (m : NetworkModel) →
      Every reads.inflight_hi.Reads.Learnt (λ κ. (m, tt))
      (λ x. Answered x (stored_rows m) (kept x 0) m.high 0)
  pub inflight_lo : (m : NetworkModel) →
      Every reads.inflight_lo.Reads.Learnt (λ κ. (m, tt))
      (λ x. Answered x (stored_rows m) (kept x 0) m.lower.inflight 0)
  pub loss_events_in_round : (m : NetworkModel) →
      Every reads.loss_events_in_round.Reads.Learnt (λ κ. (m, tt))
      (λ x. Answered x (stored_rows m) (kept x 0) m.round.losses 0)
  pub rounds_with_queueing : (m : NetworkModel) →
      Every reads.rounds_with_queueing.Reads.Learnt (λ κ. (m, tt))
      (λ x. Answered x (stored_rows m) (kept x 0) m.growth.queueing 0)
  pub inflight_hi_default : (m : NetworkModel) →
      Every reads.inflight_hi_default.Reads.Learnt (λ κ. (m, tt))
      (λ x. Answered x (stored_rows m) (kept x 0) (2 ^ 64 - 1) 0)
  pub queueing_threshold_extra_bytes : (m : NetworkModel) →
      Every reads.queueing_threshold_extra_bytes.Reads.Learnt (λ κ. (m, tt))
      (λ x. Answered x (stored_rows m) (kept x 0) (2 * 1300) 0)

-- ---- calls that leave a model
pub record EveryChange : Type 0 where
  -- "A refused start has no earlier state: it returns a fresh one at moment 0 with round trip 0, both gains 1 and the
  -- app-limited option off"
  pub start :
      EveryOutcome model.begin.Reads.Learnt
      (λ κ a x e.
      let p = a.1.0 in
      let rtt = a.1.1.0 in
      let t = a.1.1.1.0 in
      Answered x (start_rows p rtt t) e.0.now (model_new p.cwnd p.pacing p.ignore rtt t)
      (model_new one one false zero_length zero_moment))
  -- the same start gives a model, where nothing is lent; refused, it leaves none, and that model stands for it
  pub made : (p : Params) (rtt : Duration) (t : Moment) →
      Every model.new.Reads.Learnt (λ κ. (p, (rtt, (t, tt))))
      (λ x. Answered x (start_rows p rtt t) (kept x (model_new one one false zero_length zero_moment))
      (model_new p.cwnd p.pacing p.ignore rtt t) (model_new one one false zero_length zero_moment))
  pub sent :
      EveryOutcome changes.on_packet_sent.Reads.Learnt
      (λ κ a x e.
      let m = a.0.now in
      let t = a.1.0 in
      let inflight = a.1.1.0 in
      let packet = a.1.1.1.0 in
      let bytes = a.1.1.1.1.0 in
      Answered x (sent_rows m t inflight bytes) e.0.now (sent_next m t inflight packet bytes) m)
  pub restart :
      EveryOutcome changes.restart_round_early.Reads.Learnt
      (λ κ a x e.
      let m = a.0.now in
      Answered x (stored_rows m) e.0.now (restart_next m) m)
  pub reached :
      EveryOutcome changes.set_full_bandwidth_reached.Reads.Learnt
      (λ κ a x e.
      let m = a.0.now in
      Answered x (stored_rows m) e.0.now (reached_next m) m)
  pub pacing :
      EveryOutcome changes.set_pacing_gain.Reads.Learnt
      (λ κ a x e.
      let m = a.0.now in
      let gain = a.1.0 in
      Answered x (given_rows m (gain_ok gain)) e.0.now (pacing_next m gain) m)
  pub cwnd :
      EveryOutcome changes.set_cwnd_gain.Reads.Learnt
      (λ κ a x e.
      let m = a.0.now in
      let gain = a.1.0 in
      Answered x (given_rows m (gain_ok gain)) e.0.now (cwnd_next m gain) m)
  pub high :
      EveryOutcome changes.set_inflight_hi.Reads.Learnt
      (λ κ a x e.
      let m = a.0.now in
      let bytes = a.1.0 in
      Answered x (given_rows m (bytes_or_unset_ok bytes)) e.0.now (with_high m bytes) m)
  pub cap :
      EveryOutcome changes.cap_inflight_lo.Reads.Learnt
      (λ κ a x e.
      let m = a.0.now in
      let bytes = a.1.0 in
      Answered x (given_rows m (bytes_or_unset_ok bytes)) e.0.now (cap_next m bytes) m)
  pub clear_inflight :
      EveryOutcome changes.clear_inflight_lo.Reads.Learnt
      (λ κ a x e.
      let m = a.0.now in
      Answered x (stored_rows m) e.0.now (clear_inflight_next m) m)
  pub clear_bandwidth :
      EveryOutcome changes.clear_bandwidth_lo.Reads.Learnt
      (λ κ a x e.
      let m = a.0.now in
      Answered x (stored_rows m) e.0.now (clear_bandwidth_next m) m)
  pub advance :
      EveryOutcome changes.advance_max_bandwidth_filter.Reads.Learnt
      (λ κ a x e.
      let m = a.0.now in
      Answered x (stored_rows m) e.0.now (advance_next m) m)
  -- "a postponed moment would exceed 2^62" is row 2's
  pub postpone :
      EveryOutcome changes.postpone_min_rtt_timestamp.Reads.Learnt
      (λ κ a x e.
      let m = a.0.now in
      let d = a.1.0 in
      Answered x (given_rows m (length_ok d && moment_ok (postponed m d))) e.0.now (postpone_next m d) m)

-- ---- calls that carry an event, or count rounds. "A later call that gets an event's record doesn't test its moment
-- for 3"
pub record EveryEvent : Type 0 where
  pub starts :
      EveryOutcome event.on_congestion_event_start.Reads.Learnt
      (λ κ a x e.
      let m = a.0.now in
      let p = a.1.0 in
      let v = a.1.1.0.now in
      let y = a.1.1.1.0 in
      let acked = a.1.1.1.1.0.now in
      Answered {A = NetworkModel × CongestionEvent} x (event_rows m p v y acked) (e.0.now, e.1.1.0.now)
      (model_next m p v y acked, event_next m v y acked) (m, v))
  pub finish :
      EveryOutcome event.on_congestion_event_finish.Reads.Learnt
      (λ κ a x e.
      let m = a.0.now in
      let v = a.1.0 in
      Answered x (given_rows m (event_ok v)) e.0.now (finish_next m v) m)
  pub expire :
      EveryOutcome judge.maybe_expire_min_rtt.Reads.Learnt
      (λ κ a x e.
      let m = a.0.now in
      let p = a.1.0 in
      let v = a.1.1.0 in
      Answered {A = NetworkModel × Bool} x (judged_rows m p (event_ok v) false) (e.0.now, kept x false)
      (expire_next m p v, is_expired v.rtt v.time m.minrtt p.period) (m, false))
  pub growth :
      EveryOutcome judge.has_bandwidth_growth.Reads.Learnt
      (λ κ a x e.
      let m = a.0.now in
      let p = a.1.0 in
      let v = a.1.1.0 in
      Answered {A = NetworkModel × Bool} x (growth_rows m p v) (e.0.now, kept x false)
      (growth_next m p v, has_grown m.growth (max_get m.maxbw) p) (m, false))
  pub queue :
      EveryOutcome judge.check_persistent_queue.Reads.Learnt
      (λ κ a x e.
      let m = a.0.now in
      let p = a.1.0 in
      let gain = a.1.1.0 in
      Answered x (queue_rows m p gain) e.0.now (queue_next m p gain) m)

-- ---- calls that leave a cycle
pub record EveryPhase : Type 0 where
  -- a refused fresh cycle is one at moment 0
  pub fresh :
      EveryOutcome cycle.begin.Reads.Learnt
      (λ κ a x e.
      let t = a.1.0 in
      Answered x (fresh_rows t) e.0.now (cycle_new t) (cycle_new zero_moment))
  -- the same where nothing is lent; refused, it leaves none, and that cycle stands for it
  pub made : (t : Moment) →
      Every cycle.new.Reads.Learnt (λ κ. (t, tt))
      (λ x. Answered x (fresh_rows t) (kept x (cycle_new zero_moment))
      (cycle_new t) (cycle_new zero_moment))
  pub down :
      EveryOutcome phases.enter_probe_down.Reads.Learnt
      (λ κ a x e.
      let m = a.0.now in
      let c = a.1.0.now in
      let p = a.1.1.0 in
      let high = a.1.1.1.0 in
      let risky = a.1.1.1.1.0 in
      let t = a.1.1.1.1.1.0 in
      Answered {A = NetworkModel × Cycle} x (entry_rows m c (params_ok p) true t) (e.0.now, e.1.0.now)
      (restarted_at m t, down_cycle c p high risky t) (m, c))
  pub cruise :
      EveryOutcome phases.enter_probe_cruise.Reads.Learnt
      (λ κ a x e.
      let m = a.0.now in
      let c = a.1.0.now in
      let t = a.1.1.0 in
      Answered {A = NetworkModel × Cycle} x (entry_rows m c true true t) (e.0.now, e.1.0.now)
      (cruise_model m c t, cruise_cycle c t) (m, c))
  pub refill :
      EveryOutcome phases.enter_probe_refill.Reads.Learnt
      (λ κ a x e.
      let m = a.0.now in
      let c = a.1.0.now in
      let upRounds = a.1.1.0 in
      let t = a.1.1.1.0 in
      Answered {A = NetworkModel × Cycle} x (entry_rows m c true (rounds_ok upRounds) t) (e.0.now, e.1.0.now)
      (refill_model m c t, refill_cycle c upRounds t) (m, c))
  pub up :
      EveryOutcome phases.enter_probe_up.Reads.Learnt
      (λ κ a x e.
      let m = a.0.now in
      let c = a.1.0.now in
      let t = a.1.1.0 in
      let window = a.1.1.1.0 in
      Answered {A = NetworkModel × Cycle} x (entry_rows m c true (bytes_ok window) t) (e.0.now, e.1.0.now)
      (restarted_at m t, up_cycle c t window) (m, c))
  pub exit :
      EveryOutcome phases.exit_probe_down.Reads.Learnt
      (λ κ a x e.
      let m = a.0.now in
      let c = a.1.0.now in
      Answered {A = NetworkModel × Cycle} x (exit_rows m c) (e.0.now, e.1.0.now)
      (exit_model m c, exit_cycle c) (m, c))
  pub slope :
      EveryOutcome phases.raise_inflight_high_slope.Reads.Learnt
      (λ κ a x e.
      let c = a.0.now in
      let window = a.1.0 in
      Answered x (slope_rows c window) e.0.now (slope_cycle c window) c)

-- ---- the filters: "A windowed filter's update takes any u64 and gives only 0 or 3". A count of rounds that is full is
-- row 5's
pub record EveryFilter : Type 0 where
  pub windowed_updates :
      EveryOutcome windowed.update.Reads.Learnt
      (λ κ a x e.
      let f = a.0.now in
      let sample = a.1.0 in
      let time = a.1.1.0 in
      Answered {A = WindowedFilter × Reason} x (earlier (is_after f.held time) no_rows)
      (e.0.now, kept x Unchanged) (windowed_update f sample time, windowed_reason f sample time) (f, Unchanged))
  pub rounds_ack :
      EveryOutcome rounds.on_packets_acked.Reads.Learnt
      (λ κ a x e.
      let c = a.0.now in
      let acked = a.1.0.now in
      Answered {A = RoundTripCounter × Bool} x
      (full (ends_round c.end acked && is_full_counter c.count) no_rows)
      (e.0.now, kept x false) (rounds_acked c acked, rounds_ended c acked) (c, false))

-- ---- every public call
pub record EveryReply : Type 0 where
  pub answers : EveryAnswer
  pub changes : EveryChange
  pub events : EveryEvent
  pub entries : EveryPhase
  pub filters : EveryFilter
