-- The phase entries, exit_probe_down and raise_inflight_high_slope: probe_bw.rs in BwLoMode::Default, with document
-- 01's refusals. For each call, the number of its reply, and the model and the cycle that it leaves.
use Rattle.std.specs.Prelude.{ℕ, ◌+◌, Bool, true, false, cond, not, ◌&&◌, None, Some}
use Rattle.units.specs.declared.time.Moment.{Moment}
use Rattle.units.specs.Time.{is_before}
use Rattle.state.specs.declared.network_model.NetworkModel.{NetworkModel}
use Rattle.state.specs.declared.params.Params.{Params}
use Rattle.state.specs.declared.refusals.Rows.{Rows}
use Rattle.state.specs.Bounds.{bytes_ok, moment_ok}
use Rattle.state.specs.Refusals.{no_rows, stored, argument, earlier, first_of}
use Rattle.state.specs.NetworkModel.{model_ok, with_moment, restart_next, cap_next, clear_inflight_next, clear_bandwidth_next, advance_next}
use Rattle.state.specs.Params.{params_ok}
use Rattle.state.specs.declared.cycle.Cycle.{Cycle}
use Rattle.state.specs.declared.cycle.CyclePhase.{CyclePhase}
use Rattle.state.specs.declared.cycle.CyclePhase.TheVariants.{NotStarted, Up, Down, Cruise, Refill}
use Rattle.state.specs.Cycle.{cycle_ok, rounds_ok, stay_from}
use Rattle.phases.specs.Slope.{slope_raised}

-- ---- an entry's rows. `params` and `given` say whether the parameters and the arguments beside the moment are within
-- their bounds
abbrev pub entry_rows : NetworkModel → Cycle → (params given : Bool) → Moment → Rows
entry_rows m c params given now =
    stored (not (model_ok m && cycle_ok c && params))
    (argument (not (moment_ok now && given))
    (earlier (is_before now m.moment)
    no_rows))

unfoldable pub entry_number : NetworkModel → Cycle → (params given : Bool) → Moment → ℕ
entry_number m c params given now = first_of (entry_rows m c params given now)

-- an entry that ends with restart_round_early; "sends, events and phase entries share" the last accepted moment
unfoldable pub restarted_at : NetworkModel → Moment → NetworkModel
restarted_at m now = with_moment (restart_next m) now

-- ---- exit_probe_down: "if !self.cycle.has_advanced_max_bw", the filter advances and the flag is set; the phase isn't
-- looked at
abbrev pub exit_rows : NetworkModel → Cycle → Rows
exit_rows m c = stored (not (model_ok m && cycle_ok c)) no_rows

unfoldable pub exit_number : NetworkModel → Cycle → ℕ
exit_number m c = first_of (exit_rows m c)

unfoldable pub exit_model : NetworkModel → Cycle → NetworkModel
exit_model m c = cond c.advanced m (advance_next m)

unfoldable pub exit_cycle : Cycle → Cycle
exit_cycle c =
    cond c.advanced c
    (record {
      stay = c.stay;
      wait = c.wait;
      slope = c.slope;
      advanced = true;
      probing = c.probing;
      last = c.last;
    })

-- "if self.cycle.phase == CyclePhase::Down { self.exit_probe_down(); }"
abbrev pub is_down : CyclePhase → Bool
is_down NotStarted = false
is_down Up = false
is_down Down = true
is_down Cruise = false
is_down Refill = false

unfoldable pub left_model : NetworkModel → Cycle → NetworkModel
left_model m c = cond (is_down c.stay.phase) (exit_model m c) m

unfoldable pub left_cycle : Cycle → Cycle
left_cycle c = cond (is_down c.stay.phase) (exit_cycle c) c

-- ---- raise_inflight_high_slope, which reads the cycle alone
abbrev pub slope_rows : Cycle → (window : ℕ) → Rows
slope_rows c window = stored (not (cycle_ok c)) (argument (not (bytes_ok window)) no_rows)

unfoldable pub slope_number : Cycle → ℕ → ℕ
slope_number c window = first_of (slope_rows c window)

unfoldable pub slope_cycle : Cycle → ℕ → Cycle
slope_cycle c window =
    record {
      stay = c.stay;
      wait = c.wait;
      slope = slope_raised c.slope window;
      advanced = c.advanced;
      probing = c.probing;
      last = c.last;
    }

-- ---- enter_probe_down: the flags, the phase, the cycle's start, the wait, no probe_up_bytes; then restart_round_early
abbrev pub down_number : NetworkModel → Cycle → Params → Moment → ℕ
down_number m c p now = entry_number m c (params_ok p) true now

unfoldable pub down_cycle : Cycle → Params → (high risky : Bool) → Moment → Cycle
down_cycle c p high risky now =
    record {
      stay = stay_from Down now;
      wait = record { start = now; rounds = 0; length = Some (record { 0 = p.base.0 + 500_000 }) };
      slope = record { rounds = c.slope.rounds; bytes = None; acked = c.slope.acked; applimited = false };
      advanced = false;
      probing = c.probing;
      last = record { high = high; risky = risky };
    }

-- phase, phase_start_time, rounds_in_phase and is_sample_from_probing, which the other three entries set
unfoldable pub cycle_in : Cycle → CyclePhase → Moment → Bool → Cycle
cycle_in c phase now probing =
    record {
      stay = stay_from phase now;
      wait = c.wait;
      slope = c.slope;
      advanced = c.advanced;
      probing = probing;
      last = c.last;
    }

-- ---- enter_probe_cruise: out of Down, cap_inflight_lo(inflight_hi), the phase; the round isn't restarted
abbrev pub cruise_number : NetworkModel → Cycle → Moment → ℕ
cruise_number m c now = entry_number m c true true now

abbrev pub capped_by_high : NetworkModel → NetworkModel
capped_by_high m = cap_next m m.high

unfoldable pub cruise_model : NetworkModel → Cycle → Moment → NetworkModel
cruise_model m c now = with_moment (capped_by_high (left_model m c)) now

unfoldable pub cruise_cycle : Cycle → Moment → Cycle
cruise_cycle c now = cycle_in (left_cycle c) Cruise now false

-- ---- enter_probe_refill: out of Down, the phase, no risky probe, both lower bounds cleared, probe_up_rounds given,
-- probe_up_acked 0; then restart_round_early
abbrev pub refill_number : NetworkModel → Cycle → ℕ → Moment → ℕ
refill_number m c rounds now = entry_number m c true (rounds_ok rounds) now

unfoldable pub refill_model : NetworkModel → Cycle → Moment → NetworkModel
refill_model m c now = restarted_at (clear_inflight_next (clear_bandwidth_next (left_model m c))) now

unfoldable pub refilled : Cycle → ℕ → Cycle
refilled c rounds =
    record {
      stay = c.stay;
      wait = c.wait;
      slope = record { rounds = rounds; bytes = c.slope.bytes; acked = 0; applimited = c.slope.applimited };
      advanced = c.advanced;
      probing = c.probing;
      last = record { high = c.last.high; risky = false };
    }

unfoldable pub refill_cycle : Cycle → ℕ → Moment → Cycle
refill_cycle c rounds now = refilled (cycle_in (left_cycle c) Refill now false) rounds

-- ---- enter_probe_up: the phase, the slope with the window; then restart_round_early
abbrev pub up_number : NetworkModel → Cycle → Moment → ℕ → ℕ
up_number m c now window = entry_number m c true (bytes_ok window) now

unfoldable pub up_cycle : Cycle → Moment → ℕ → Cycle
up_cycle c now window = slope_cycle (cycle_in c Up now true) window
