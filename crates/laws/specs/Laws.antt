-- What holds of every call that changes the state and tests what it is given, said of its contract. A contract as the
-- checker reads it, `Reads.Learnt` of a function, speaks of lifetimes κs, arguments a, a reply x and what is left at
-- the exit, e. `Kinds.ps` lists the kinds of the arguments, and `GoodsP` says that they are values of their types.
-- `a.0` is the first argument, `a.1.0` the second, `a.1.1.0` the third; of one that is lent, `a.0.now` is what it holds
-- at the call, and `e.0.now` what it holds after it. Definitions only; proofs/ proves that `EveryCall` holds.
use Rattle.std.specs.Prelude.{ℕ, Bool, true, false, ◌&&◌, List, ◌≡◌, Result}
use contract.Lifetimes.{Lfts}
use borrow.Fn.Kinds.{ParamKind, Dens, GoodsP}
use Rattle.units.specs.declared.refusal.Refusal.{Refusal}
use Rattle.units.specs.Reply.{number, kept}
use Rattle.state.specs.declared.network_model.NetworkModel.{NetworkModel}
use Rattle.state.specs.Answers.{zero_length, zero_moment}
use Rattle.state.specs.NetworkModel.{model_ok, model_new, one}
use Rattle.state.specs.declared.congestion_event.CongestionEvent.{CongestionEvent}
use Rattle.state.specs.CongestionEvent.{event_ok}
use Rattle.state.specs.declared.cycle.Cycle.{Cycle}
use Rattle.state.specs.Cycle.{cycle_ok, cycle_new}
use Rattle.state.proofs.network_model.NetworkModel as model
use Rattle.changes.proofs.changes as changes
use Rattle.events.proofs.event as event
use Rattle.judge.proofs.judge as judge
use Rattle.state.proofs.cycle.Cycle as cycle
use Rattle.phases.proofs.phases as phases

-- A refused call leaves what it was given; a call that is done leaves what is within its bounds. `left` picks from a
-- reply and from what is left at the exit what the call leaves, `given` from the arguments what it was given.
abbrev pub Keeps : {n : ℕ} (ps : List (ParamKind n)) {B : Type 0} {E : Lfts n → Type 0} {S : Type 0}
    → (learnt : (κs : Lfts n) → Dens κs ps → Result B Refusal → E κs → Type 0)
    → (left : (κs : Lfts n) → Result B Refusal → E κs → S)
    → (given : (κs : Lfts n) → Dens κs ps → S)
    → (ok : S → Bool)
    → Type 0
Keeps {n} ps {B} {E} learnt left given ok =
    (κs : Lfts n) (a : Dens κs ps) (x : Result B Refusal) (e : E κs) →
    GoodsP κs ps a →
    learnt κs a x e →
    ((number x ≡ 0 → ⊥) → left κs x e ≡ given κs a)
    × (number x ≡ 0 → ok (left κs x e) ≡ true)

-- ---- by what a call leaves: a test of each of two things
abbrev pub both : {X Y : Type 0} → (X → Bool) → (Y → Bool) → X × Y → Bool
both ok fine z = ok z.0 && fine z.1

-- a model
abbrev pub ModelKeeps : {n : ℕ} (ps : List (ParamKind n)) {B : Type 0} {E : Lfts n → Type 0}
    → (learnt : (κs : Lfts n) → Dens κs ps → Result B Refusal → E κs → Type 0)
    → (left : (κs : Lfts n) → Result B Refusal → E κs → NetworkModel)
    → (given : (κs : Lfts n) → Dens κs ps → NetworkModel)
    → Type 0
ModelKeeps ps learnt left given = Keeps ps learnt left given model_ok

-- a model and an event's record
abbrev pub EventKeeps : {n : ℕ} (ps : List (ParamKind n)) {B : Type 0} {E : Lfts n → Type 0}
    → (learnt : (κs : Lfts n) → Dens κs ps → Result B Refusal → E κs → Type 0)
    → (left : (κs : Lfts n) → Result B Refusal → E κs → NetworkModel × CongestionEvent)
    → (given : (κs : Lfts n) → Dens κs ps → NetworkModel × CongestionEvent)
    → Type 0
EventKeeps ps learnt left given = Keeps ps learnt left given (both model_ok event_ok)

-- a model and a cycle
abbrev pub PhaseKeeps : {n : ℕ} (ps : List (ParamKind n)) {B : Type 0} {E : Lfts n → Type 0}
    → (learnt : (κs : Lfts n) → Dens κs ps → Result B Refusal → E κs → Type 0)
    → (left : (κs : Lfts n) → Result B Refusal → E κs → NetworkModel × Cycle)
    → (given : (κs : Lfts n) → Dens κs ps → NetworkModel × Cycle)
    → Type 0
PhaseKeeps ps learnt left given = Keeps ps learnt left given (both model_ok cycle_ok)

-- a cycle
abbrev pub CycleKeeps : {n : ℕ} (ps : List (ParamKind n)) {B : Type 0} {E : Lfts n → Type 0}
    → (learnt : (κs : Lfts n) → Dens κs ps → Result B Refusal → E κs → Type 0)
    → (left : (κs : Lfts n) → Result B Refusal → E κs → Cycle)
    → (given : (κs : Lfts n) → Dens κs ps → Cycle)
    → Type 0
CycleKeeps ps learnt left given = Keeps ps learnt left given cycle_ok

-- ---- the calls
pub record EveryCall : Type 0 where
  -- a refused start leaves document 01's fresh model, whatever it was lent
  pub start :
      ModelKeeps model.begin.Kinds.ps model.begin.Reads.Learnt
      (λ κs x e. e.0.now)
      (λ κs a. model_new one one false zero_length zero_moment)
  -- the same start gives a model, where nothing is lent; refused, it leaves none, and that model stands for it
  pub made :
      ModelKeeps model.new.Kinds.ps model.new.Reads.Learnt
      (λ κs x e. kept x (model_new one one false zero_length zero_moment))
      (λ κs p. model_new one one false zero_length zero_moment)
  pub sent :
      ModelKeeps changes.on_packet_sent.Kinds.ps changes.on_packet_sent.Reads.Learnt
      (λ κs x e. e.0.now)
      (λ κs a. a.0.now)
  pub restart :
      ModelKeeps changes.restart_round_early.Kinds.ps changes.restart_round_early.Reads.Learnt
      (λ κs x e. e.0.now)
      (λ κs a. a.0.now)
  pub reached :
      ModelKeeps changes.set_full_bandwidth_reached.Kinds.ps changes.set_full_bandwidth_reached.Reads.Learnt
      (λ κs x e. e.0.now)
      (λ κs a. a.0.now)
  pub pacing :
      ModelKeeps changes.set_pacing_gain.Kinds.ps changes.set_pacing_gain.Reads.Learnt
      (λ κs x e. e.0.now)
      (λ κs a. a.0.now)
  pub cwnd :
      ModelKeeps changes.set_cwnd_gain.Kinds.ps changes.set_cwnd_gain.Reads.Learnt
      (λ κs x e. e.0.now)
      (λ κs a. a.0.now)
  pub high :
      ModelKeeps changes.set_inflight_hi.Kinds.ps changes.set_inflight_hi.Reads.Learnt
      (λ κs x e. e.0.now)
      (λ κs a. a.0.now)
  pub cap :
      ModelKeeps changes.cap_inflight_lo.Kinds.ps changes.cap_inflight_lo.Reads.Learnt
      (λ κs x e. e.0.now)
      (λ κs a. a.0.now)
  pub clear_inflight :
      ModelKeeps changes.clear_inflight_lo.Kinds.ps changes.clear_inflight_lo.Reads.Learnt
      (λ κs x e. e.0.now)
      (λ κs a. a.0.now)
  pub clear_bandwidth :
      ModelKeeps changes.clear_bandwidth_lo.Kinds.ps changes.clear_bandwidth_lo.Reads.Learnt
      (λ κs x e. e.0.now)
      (λ κs a. a.0.now)
  pub advance :
      ModelKeeps changes.advance_max_bandwidth_filter.Kinds.ps changes.advance_max_bandwidth_filter.Reads.Learnt
      (λ κs x e. e.0.now)
      (λ κs a. a.0.now)
  pub postpone :
      ModelKeeps changes.postpone_min_rtt_timestamp.Kinds.ps changes.postpone_min_rtt_timestamp.Reads.Learnt
      (λ κs x e. e.0.now)
      (λ κs a. a.0.now)
  pub finish :
      ModelKeeps event.on_congestion_event_finish.Kinds.ps event.on_congestion_event_finish.Reads.Learnt
      (λ κs x e. e.0.now)
      (λ κs a. a.0.now)
  pub queue :
      ModelKeeps judge.check_persistent_queue.Kinds.ps judge.check_persistent_queue.Reads.Learnt
      (λ κs x e. e.0.now)
      (λ κs a. a.0.now)
  pub expire :
      ModelKeeps judge.maybe_expire_min_rtt.Kinds.ps judge.maybe_expire_min_rtt.Reads.Learnt
      (λ κs x e. e.0.now)
      (λ κs a. a.0.now)
  pub growth :
      ModelKeeps judge.has_bandwidth_growth.Kinds.ps judge.has_bandwidth_growth.Reads.Learnt
      (λ κs x e. e.0.now)
      (λ κs a. a.0.now)
  pub occurs :
      EventKeeps event.on_congestion_event_start.Kinds.ps event.on_congestion_event_start.Reads.Learnt
      (λ κs x e. (e.0.now, e.1.1.0.now))
      (λ κs a. (a.0.now, a.1.1.0.now))
  pub down :
      PhaseKeeps phases.enter_probe_down.Kinds.ps phases.enter_probe_down.Reads.Learnt
      (λ κs x e. (e.0.now, e.1.0.now))
      (λ κs a. (a.0.now, a.1.0.now))
  pub cruise :
      PhaseKeeps phases.enter_probe_cruise.Kinds.ps phases.enter_probe_cruise.Reads.Learnt
      (λ κs x e. (e.0.now, e.1.0.now))
      (λ κs a. (a.0.now, a.1.0.now))
  pub refill :
      PhaseKeeps phases.enter_probe_refill.Kinds.ps phases.enter_probe_refill.Reads.Learnt
      (λ κs x e. (e.0.now, e.1.0.now))
      (λ κs a. (a.0.now, a.1.0.now))
  pub up :
      PhaseKeeps phases.enter_probe_up.Kinds.ps phases.enter_probe_up.Reads.Learnt
      (λ κs x e. (e.0.now, e.1.0.now))
      (λ κs a. (a.0.now, a.1.0.now))
  pub exit :
      PhaseKeeps phases.exit_probe_down.Kinds.ps phases.exit_probe_down.Reads.Learnt
      (λ κs x e. (e.0.now, e.1.0.now))
      (λ κs a. (a.0.now, a.1.0.now))
  -- a refused fresh cycle is one at moment 0, whatever was lent
  pub fresh :
      CycleKeeps cycle.begin.Kinds.ps cycle.begin.Reads.Learnt
      (λ κs x e. e.0.now)
      (λ κs a. cycle_new zero_moment)
  -- the same where nothing is lent; refused, it leaves none, and that cycle stands for it
  pub made_cycle :
      CycleKeeps cycle.new.Kinds.ps cycle.new.Reads.Learnt
      (λ κs x e. kept x (cycle_new zero_moment))
      (λ κs p. cycle_new zero_moment)
  pub slope :
      CycleKeeps phases.raise_inflight_high_slope.Kinds.ps phases.raise_inflight_high_slope.Reads.Learnt
      (λ κs x e. e.0.now)
      (λ κs a. a.0.now)
