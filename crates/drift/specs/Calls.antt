-- Runs: any list of calls on a model and a cycle, over the definitions that the code is proved equal to. A refused call
-- counts as not made.
use Rattle.std.specs.Prelude.{ℕ, Bool, false, List, [], ◌∷◌, Float}
use Rattle.units.specs.declared.time.Duration.{Duration}
use Rattle.units.specs.declared.time.Moment.{Moment}
use Rattle.state.specs.declared.network_model.NetworkModel.{NetworkModel}
use Rattle.state.specs.declared.params.Params.{Params}
use Rattle.state.specs.Answers.{settled}
use Rattle.state.specs.Bounds.{bytes_or_unset_ok, gain_ok}
use Rattle.state.specs.NetworkModel as M
use Rattle.changes.specs.Changes as N
use Rattle.state.specs.declared.congestion_event.CongestionEvent.{CongestionEvent}
use Rattle.state.specs.declared.congestion_event.CongestionEventSample.{CongestionEventSample}
use Rattle.events.specs.Event as E
use Rattle.judge.specs.Judge as J
use Rattle.state.specs.declared.cycle.Cycle.{Cycle}
use Rattle.phases.specs.Phases as P

-- ---- every call that can change the model or the cycle, with its arguments: all of the public functions that test
-- what they are given (docs/DECISIONS.md, 22, has the steps that don't). First those whose rules name no lower bound
pub data Other : Type 0 where
  sent : (now : Moment) (inflight packet bytes : ℕ) → Other
  finish : CongestionEvent → Other
  expire : Params → CongestionEvent → Other
  growth : Params → CongestionEvent → Other
  queue : Params → (gain : Float) → Other
  restart : Other
  reached : Other
  pacing : (gain : Float) → Other
  cwnd : (gain : Float) → Other
  high : (bytes : ℕ) → Other
  advance : Other
  postpone : Duration → Other
  down : Params → (high risky : Bool) → (now : Moment) → Other
  up : (now : Moment) (window : ℕ) → Other
  exit : Other
  slope : (window : ℕ) → Other

pub data Call : Type 0 where
  event : Params → CongestionEvent → CongestionEventSample → (acked : List ℕ) → Call
  cap : (bytes : ℕ) → Call
  clear_inflight : Call
  clear_bandwidth : Call
  cruise : (now : Moment) → Call
  refill : (rounds : ℕ) (now : Moment) → Call
  other : Other → Call

pub record State : Type 0 where
  pub model : NetworkModel
  pub cycle : Cycle

abbrev on_model : State → NetworkModel → State
on_model s m = record { model = m; cycle = s.cycle }

-- ---- the number of a call's reply
unfoldable pub other_number : Other → State → ℕ
other_number (sent now inflight packet bytes) s = N.sent_number s.model now inflight bytes
other_number (finish e) s = E.finish_number s.model e
other_number (expire p e) s = J.judged_number s.model p e false
other_number (growth p e) s = J.judged_number s.model p e (J.growth_full s.model p e)
other_number (queue p gain) s = J.queue_number s.model p gain
other_number restart s = M.stored_number s.model
other_number reached s = M.stored_number s.model
other_number (pacing gain) s = M.given_number s.model (gain_ok gain)
other_number (cwnd gain) s = M.given_number s.model (gain_ok gain)
other_number (high bytes) s = M.given_number s.model (bytes_or_unset_ok bytes)
other_number advance s = M.stored_number s.model
other_number (postpone d) s = N.postpone_number s.model d
other_number (down p hi risky now) s = P.down_number s.model s.cycle p now
other_number (up now window) s = P.up_number s.model s.cycle now window
other_number exit s = P.exit_number s.model s.cycle
other_number (slope window) s = P.slope_number s.cycle window

unfoldable pub number_of : Call → State → ℕ
number_of (event p e x acked) s = E.event_number s.model p e x acked
number_of (cap bytes) s = M.given_number s.model (bytes_or_unset_ok bytes)
number_of clear_inflight s = M.stored_number s.model
number_of clear_bandwidth s = M.stored_number s.model
number_of (cruise now) s = P.cruise_number s.model s.cycle now
number_of (refill rounds now) s = P.refill_number s.model s.cycle rounds now
number_of (other c) s = other_number c s

-- ---- the state that it leaves where that number is 0
unfoldable pub other_next : Other → State → State
other_next (sent now inflight packet bytes) s = on_model s (N.sent_next s.model now inflight packet bytes)
other_next (finish e) s = on_model s (E.finish_next s.model e)
other_next (expire p e) s = on_model s (J.expire_next s.model p e)
other_next (growth p e) s = on_model s (J.growth_next s.model p e)
other_next (queue p gain) s = on_model s (J.queue_next s.model p gain)
other_next restart s = on_model s (M.restart_next s.model)
other_next reached s = on_model s (N.reached_next s.model)
other_next (pacing gain) s = on_model s (N.pacing_next s.model gain)
other_next (cwnd gain) s = on_model s (N.cwnd_next s.model gain)
other_next (high bytes) s = on_model s (M.with_high s.model bytes)
other_next advance s = on_model s (M.advance_next s.model)
other_next (postpone d) s = on_model s (N.postpone_next s.model d)
other_next (down p hi risky now) s =
    record { model = P.restarted_at s.model now; cycle = P.down_cycle s.cycle p hi risky now }
other_next (up now window) s = record { model = P.restarted_at s.model now; cycle = P.up_cycle s.cycle now window }
other_next exit s = record { model = P.exit_model s.model s.cycle; cycle = P.exit_cycle s.cycle }
other_next (slope window) s = record { model = s.model; cycle = P.slope_cycle s.cycle window }

unfoldable pub next_of : Call → State → State
next_of (event p e x acked) s = on_model s (E.model_next s.model p e x acked)
next_of (cap bytes) s = on_model s (M.cap_next s.model bytes)
next_of clear_inflight s = on_model s (M.clear_inflight_next s.model)
next_of clear_bandwidth s = on_model s (M.clear_bandwidth_next s.model)
next_of (cruise now) s = record { model = P.cruise_model s.model s.cycle now; cycle = P.cruise_cycle s.cycle now }
next_of (refill rounds now) s =
    record { model = P.refill_model s.model s.cycle now; cycle = P.refill_cycle s.cycle rounds now }
next_of (other c) s = other_next c s

-- ---- a run
unfoldable pub after : Call → State → State
after c s = settled (number_of c s) (next_of c s) s

unfoldable pub run : List Call → State → State
run [] s = s
run (c ∷ calls) s = run calls (after c s)

-- from a fresh model, that of a refused start too, beside any cycle
unfoldable pub started : Params → Duration → Moment → Cycle → State
started p rtt now y = record { model = M.start_model p rtt now; cycle = y }
