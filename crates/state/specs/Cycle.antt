-- The cycle of probing for bandwidth: mode.rs, Cycle, with document 01's bounds, and what a fresh one is.
use Rattle.std.specs.Prelude.{ℕ, ◌+◌, ◌^◌, Bool, true, false, not, List, [], ◌∷◌, cond, eqb, leb, Option, None, Some, Result, Ok, Err}
use Rattle.units.specs.declared.time.Duration.{Duration}
use Rattle.units.specs.declared.time.Moment.{Moment}
use Rattle.state.specs.Answers.{settled, zero_moment}
use Rattle.state.specs.Bounds.{all, bytes_ok, moment_ok}
use Rattle.state.specs.Refusals.{no_rows, argument, first_of}
use Rattle.state.specs.declared.cycle.Cycle.{Cycle}
use Rattle.state.specs.declared.cycle.CyclePhase.{CyclePhase}
use Rattle.state.specs.declared.cycle.CyclePhase.TheVariants.{NotStarted, Up, Down, Cruise, Refill}
use Rattle.state.specs.declared.cycle.NoPhase.{NoPhase}
use Rattle.state.specs.declared.cycle.Stay.{Stay}
use Rattle.state.specs.declared.refusals.Rows.{Rows}

-- ---- the bounds: document 01, "Replies and bounds"
-- "lengths of time 2^36 ns (the stored probe wait 500,000 ns more)"
abbrev pub wait_ok : Option Duration → Bool
wait_ok None = true
wait_ok (Some d) = leb d.0 (2 ^ 36 + 500_000)

-- "byte counts 2^40"
abbrev pub up_bytes_ok : Option ℕ → Bool
up_bytes_ok None = true
up_bytes_ok (Some n) = bytes_ok n

-- "probe_up_rounds 30"
abbrev pub rounds_ok : ℕ → Bool
rounds_ok n = leb n 30

-- probe_up_acked is a byte count: the rest of the bytes acked after whole probe_up_bytes are taken off. "Counters ..
-- are free": rounds_in_phase, rounds_since_probe
unfoldable pub cycle_tests : Cycle → List Bool
cycle_tests c =
    moment_ok c.stay.entered
    ∷ moment_ok c.wait.start
    ∷ wait_ok c.wait.length
    ∷ rounds_ok c.slope.rounds
    ∷ up_bytes_ok c.slope.bytes
    ∷ bytes_ok c.slope.acked
    ∷ []

abbrev pub cycle_ok : Cycle → Bool
cycle_ok c = all (cycle_tests c)

-- ---- start: "A fresh cycle: NotStarted, both moments the start's, counts 0, flags off, wait and probe_up_bytes unset"
-- each entry sets phase, phase_start_time = now and rounds_in_phase = 0
unfoldable pub stay_from : CyclePhase → Moment → Stay
stay_from phase now = record { phase = phase; rounds = 0; entered = now }

unfoldable pub cycle_new : Moment → Cycle
cycle_new now =
    record {
      stay = stay_from NotStarted now;
      wait = record { start = now; rounds = 0; length = None };
      slope = record { rounds = 0; bytes = None; acked = 0; applimited = false };
      advanced = false;
      probing = false;
      last = record { high = false; risky = false };
    }

-- its moment is an argument; a refused one is fresh at moment 0, as a refused start's model is
abbrev pub fresh_rows : Moment → Rows
fresh_rows now = argument (not (moment_ok now)) no_rows

unfoldable pub fresh_number : Moment → ℕ
fresh_number now = first_of (fresh_rows now)

unfoldable pub fresh_cycle : Moment → Cycle
fresh_cycle now = settled (fresh_number now) (cycle_new now) (cycle_new zero_moment)

-- ---- a phase's number
abbrev pub phase_word : CyclePhase → ℕ
phase_word NotStarted = 0
phase_word Up = 1
phase_word Down = 2
phase_word Cruise = 3
phase_word Refill = 4

-- the phase of a number, where it has one
abbrev pub phase_read : ℕ → Result CyclePhase NoPhase
phase_read n =
    cond (eqb n 0) (Ok NotStarted)
    (cond (eqb n 1) (Ok Up)
    (cond (eqb n 2) (Ok Down)
    (cond (eqb n 3) (Ok Cruise)
    (cond (eqb n 4) (Ok Refill)
    (Err (record { 0 = n }))))))
