-- The same of the code: a run made by the public functions themselves, of which no more is known than their contracts.
-- A contract is `Reads.Learnt` of its function, as the checker reads it: so this page cites the modules that hold them.
-- crates/theorems/specs/Theorems.antt says more: it speaks of the bytes of the exported run, which makes these calls.
--
-- How to read it. The symbols are those of Drift.antt; crates/units/specs/Outcomes.antt says how a statement speaks of
-- a contract (`Allowed`, `Returned`), and what the symbols in it are. Where the first argument is lent, `a.0.now` is
-- what it holds at the call, and `e.0.now` what it holds after it. `A ⊎ B` is "A or B".
use Rattle.std.specs.Prelude.{ℕ, ◌^◌, false, List, [], ◌∷◌, ◌⊎◌, ◌≡◌, Float, Option}
use Rattle.std.specs.Float.Ieee.Exact.{HasValue}
use Rattle.numbers.specs.Scaling.{complement, parts_of}
use Rattle.units.specs.Outcomes.{Allowed, Returned}
use Rattle.units.specs.Reply.{kept}
use Rattle.units.specs.declared.time.Duration.{Duration}
use Rattle.units.specs.declared.time.Moment.{Moment}
use Rattle.state.specs.declared.params.Params.{Params}
use Rattle.state.specs.Answers.{zero_length, zero_moment}
use Rattle.state.specs.NetworkModel.{model_new, one}
use Rattle.state.proofs.network_model.NetworkModel as model
use Rattle.changes.proofs.changes as changes
use Rattle.events.proofs.event as events
use Rattle.judge.proofs.judge as judge
use Rattle.phases.proofs.phases as phases
use Rattle.drift.specs.Calls as Calls
use Rattle.drift.specs.Calls.{Call, Other, State}
use Rattle.drift.specs.Exact.{Effect, unset, inflight_effect, bandwidth_effect, exact_run}
use Rattle.drift.specs.Drift.{inflight_low, bandwidth_low, Follows, Along, HasBeta, IsSmall, IsAny, IsBeta, usual_beta, usual_parts, Under}

-- ---- a call that was lent and given what `told` says of its arguments a, and the state t is what is made of what it
-- left there, e
abbrev pub Turns : {K : Type 0} {A E : K → Type 0} {R : Type 0} →
    ((κ : K) → A κ → R → E κ → Type 0) → (told : (κ : K) → A κ → Type 0) → (left : (κ : K) → E κ → State) → (t : State)
    → Type 0
Turns learnt told left t = Allowed learnt (λ κ a x e. told κ a × (t ≡ left κ e))

-- ---- a call by the public function of its name: the state s becomes t. Each line names the function, its arguments,
-- and the state that is made of what it leaves: of that, and of what the call does not change
abbrev pub MadeOther : Other → State → State → Type 0
MadeOther (Calls.sent time inflight packet bytes) s t =
    Turns changes.on_packet_sent.Reads.Learnt
    (λ κ a. (a.0.now ≡ s.model) × (a.1 ≡ (time, (inflight, (packet, (bytes, tt))))))
    (λ κ e. record { model = e.0.now; cycle = s.cycle }) t
MadeOther (Calls.finish v) s t =
    Turns events.on_congestion_event_finish.Reads.Learnt
    (λ κ a. (a.0.now ≡ s.model) × (a.1 ≡ (v, tt)))
    (λ κ e. record { model = e.0.now; cycle = s.cycle }) t
MadeOther (Calls.expire p v) s t =
    Turns judge.maybe_expire_min_rtt.Reads.Learnt
    (λ κ a. (a.0.now ≡ s.model) × (a.1 ≡ (p, (v, tt))))
    (λ κ e. record { model = e.0.now; cycle = s.cycle }) t
MadeOther (Calls.growth p v) s t =
    Turns judge.has_bandwidth_growth.Reads.Learnt
    (λ κ a. (a.0.now ≡ s.model) × (a.1 ≡ (p, (v, tt))))
    (λ κ e. record { model = e.0.now; cycle = s.cycle }) t
MadeOther (Calls.queue p gain) s t =
    Turns judge.check_persistent_queue.Reads.Learnt
    (λ κ a. (a.0.now ≡ s.model) × (a.1 ≡ (p, (gain, tt))))
    (λ κ e. record { model = e.0.now; cycle = s.cycle }) t
MadeOther Calls.restart s t =
    Turns changes.restart_round_early.Reads.Learnt
    (λ κ a. a.0.now ≡ s.model)
    (λ κ e. record { model = e.0.now; cycle = s.cycle }) t
MadeOther Calls.reached s t =
    Turns changes.set_full_bandwidth_reached.Reads.Learnt
    (λ κ a. a.0.now ≡ s.model)
    (λ κ e. record { model = e.0.now; cycle = s.cycle }) t
MadeOther (Calls.pacing gain) s t =
    Turns changes.set_pacing_gain.Reads.Learnt
    (λ κ a. (a.0.now ≡ s.model) × (a.1 ≡ (gain, tt)))
    (λ κ e. record { model = e.0.now; cycle = s.cycle }) t
MadeOther (Calls.cwnd gain) s t =
    Turns changes.set_cwnd_gain.Reads.Learnt
    (λ κ a. (a.0.now ≡ s.model) × (a.1 ≡ (gain, tt)))
    (λ κ e. record { model = e.0.now; cycle = s.cycle }) t
MadeOther (Calls.high bytes) s t =
    Turns changes.set_inflight_hi.Reads.Learnt
    (λ κ a. (a.0.now ≡ s.model) × (a.1 ≡ (bytes, tt)))
    (λ κ e. record { model = e.0.now; cycle = s.cycle }) t
MadeOther Calls.advance s t =
    Turns changes.advance_max_bandwidth_filter.Reads.Learnt
    (λ κ a. a.0.now ≡ s.model)
    (λ κ e. record { model = e.0.now; cycle = s.cycle }) t
MadeOther (Calls.postpone d) s t =
    Turns changes.postpone_min_rtt_timestamp.Reads.Learnt
    (λ κ a. (a.0.now ≡ s.model) × (a.1 ≡ (d, tt)))
    (λ κ e. record { model = e.0.now; cycle = s.cycle }) t
MadeOther (Calls.down p hi risky time) s t =
    Turns phases.enter_probe_down.Reads.Learnt
    (λ κ a. (a.0.now ≡ s.model) × (a.1.0.now ≡ s.cycle) × (a.1.1 ≡ (p, (hi, (risky, (time, tt))))))
    (λ κ e. record { model = e.0.now; cycle = e.1.0.now }) t
MadeOther (Calls.up time window) s t =
    Turns phases.enter_probe_up.Reads.Learnt
    (λ κ a. (a.0.now ≡ s.model) × (a.1.0.now ≡ s.cycle) × (a.1.1 ≡ (time, (window, tt))))
    (λ κ e. record { model = e.0.now; cycle = e.1.0.now }) t
MadeOther Calls.exit s t =
    Turns phases.exit_probe_down.Reads.Learnt
    (λ κ a. (a.0.now ≡ s.model) × (a.1.0.now ≡ s.cycle))
    (λ κ e. record { model = e.0.now; cycle = e.1.0.now }) t
MadeOther (Calls.slope window) s t =
    Turns phases.raise_inflight_high_slope.Reads.Learnt
    (λ κ a. (a.0.now ≡ s.cycle) × (a.1 ≡ (window, tt)))
    (λ κ e. record { model = s.model; cycle = e.0.now }) t

abbrev pub Made : Call → State → State → Type 0
Made (Calls.event p v y acked) s t =
    Turns events.on_congestion_event_start.Reads.Learnt
    (λ κ a.
    (a.0.now ≡ s.model)
    × (a.1.0 ≡ p)
    × (a.1.1.0.now ≡ v)
    × (a.1.1.1.0 ≡ y)
    × (a.1.1.1.1.0.now ≡ acked))
    (λ κ e. record { model = e.0.now; cycle = s.cycle }) t
Made (Calls.cap bytes) s t =
    Turns changes.cap_inflight_lo.Reads.Learnt
    (λ κ a. (a.0.now ≡ s.model) × (a.1 ≡ (bytes, tt)))
    (λ κ e. record { model = e.0.now; cycle = s.cycle }) t
Made Calls.clear_inflight s t =
    Turns changes.clear_inflight_lo.Reads.Learnt
    (λ κ a. a.0.now ≡ s.model)
    (λ κ e. record { model = e.0.now; cycle = s.cycle }) t
Made Calls.clear_bandwidth s t =
    Turns changes.clear_bandwidth_lo.Reads.Learnt
    (λ κ a. a.0.now ≡ s.model)
    (λ κ e. record { model = e.0.now; cycle = s.cycle }) t
Made (Calls.cruise time) s t =
    Turns phases.enter_probe_cruise.Reads.Learnt
    (λ κ a. (a.0.now ≡ s.model) × (a.1.0.now ≡ s.cycle) × (a.1.1 ≡ (time, tt)))
    (λ κ e. record { model = e.0.now; cycle = e.1.0.now }) t
Made (Calls.refill rounds time) s t =
    Turns phases.enter_probe_refill.Reads.Learnt
    (λ κ a. (a.0.now ≡ s.model) × (a.1.0.now ≡ s.cycle) × (a.1.1 ≡ (rounds, (time, tt))))
    (λ κ e. record { model = e.0.now; cycle = e.1.0.now }) t
Made (Calls.other c) s t = MadeOther c s t

-- a fresh model: what a start leaves in any that it is lent, where it is refused too
abbrev pub Started : Params → Duration → Moment → State → Type 0
Started p rtt time s =
    Allowed model.begin.Reads.Learnt
    (λ κ a x e.
    (a.1 ≡ (p, (rtt, (time, tt))))
    × (s.model ≡ e.0.now))

-- or what it gives where nothing is lent, and document 01's where that is refused
abbrev pub Given : Params → Duration → Moment → State → Type 0
Given p rtt time s =
    Returned model.new.Reads.Learnt
    (λ κ a x.
    (a ≡ (p, (rtt, (time, tt))))
    × (s.model ≡ kept x (model_new one one false zero_length zero_moment)))

abbrev pub Begun : Params → Duration → Moment → State → Type 0
Begun p rtt time s = Started p rtt time s ⊎ Given p rtt time s

-- ---- a run: each call on what the one before it left
abbrev pub Ran : List Call → State → State → Type 0
Ran [] s t = t ≡ s
Ran (c ∷ calls) s t =
    (u : State)
    × Made c s u
    × Ran calls u t

-- ---- the theorems of specs/Drift.antt, of the states that the public functions leave
abbrev pub CodeDrift : (u v : ℕ) → (Call → State → Effect) → (State → Option ℕ) → (Call → Type 0) → Type 0
CodeDrift u v effect low P =
    (beta : Float) → IsBeta beta →
    let parts = parts_of (complement beta) in
    HasValue (complement beta) false parts (2 ^ 24)
    × ((p : Params) (rtt : Duration) (time : Moment) (calls : List Call) (s t : State) →
    Along (HasBeta beta) calls s →
    Along P calls s →
    Begun p rtt time s →
    Ran calls s t →
    Follows u v parts (low t) (exact_run effect parts calls s unset))

abbrev pub CodeInflightDrift : Type 0
CodeInflightDrift = CodeDrift 1 1 inflight_effect inflight_low IsSmall

abbrev pub CodeBandwidthDrift : Type 0
CodeBandwidthDrift = CodeDrift 4097 8192 bandwidth_effect bandwidth_low IsAny

-- at beta 0.3: under 3.34 bytes, and under 1.67 bits per second
abbrev pub CodeUsualDrift : (hundredths : ℕ) → (Call → State → Effect) → (State → Option ℕ) → (Call → Type 0)
    → Type 0
CodeUsualDrift h effect low P =
    (p : Params) (rtt : Duration) (time : Moment) (calls : List Call) (s t : State) →
    Along (HasBeta usual_beta) calls s →
    Along P calls s →
    Begun p rtt time s →
    Ran calls s t →
    Under h (low t) (exact_run effect usual_parts calls s unset)

abbrev pub CodeUsualInflightDrift : Type 0
CodeUsualInflightDrift = CodeUsualDrift 334 inflight_effect inflight_low IsSmall

abbrev pub CodeUsualBandwidthDrift : Type 0
CodeUsualBandwidthDrift = CodeUsualDrift 167 bandwidth_effect bandwidth_low IsAny
