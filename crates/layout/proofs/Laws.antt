-- What is written for a phase is read back as it was, and what no phase has is read as the last. Assumes nothing.
use Rattle.std.specs.Prelude.{ℕ, Bool, true, false, cond, eqb, Ok, Err}
use Rattle.std.specs.Result.{result_unwrap_or}
use mathlib.Core.Path.{◌≡◌, refl}
use Rattle.state.specs.declared.cycle.CyclePhase.{CyclePhase}
use Rattle.state.specs.declared.cycle.CyclePhase.TheVariants.{NotStarted, Up, Down, Cruise, Refill}
use Rattle.state.specs.declared.cycle.NoPhase.{NoPhase}
use Rattle.state.specs.Cycle.{phase_read}
use Rattle.layout.specs.Cycle.{phase_word, phase_of}

pub phase_back : (p : CyclePhase) → phase_of (phase_word p) ≡ p
phase_back NotStarted = refl
phase_back Up = refl
phase_back Down = refl
phase_back Cruise = refl
phase_back Refill = refl

pub read_or_last : (w : ℕ) → result_unwrap_or (phase_read w) Refill ≡ phase_of w
read_or_last w = go (eqb w 0) (eqb w 1) (eqb w 2) (eqb w 3) (eqb w 4)
  where
    go : (a b c d e : Bool) →
        result_unwrap_or {E = NoPhase} (cond a (Ok NotStarted) (cond b (Ok Up) (cond c (Ok Down) (cond d (Ok Cruise) (cond e (Ok Refill) (Err (record { 0 = w }))))))) Refill
        ≡ cond a NotStarted (cond b Up (cond c Down (cond d Cruise Refill)))
    go true b c d e = refl
    go false true c d e = refl
    go false false true d e = refl
    go false false false true e = refl
    go false false false false true = refl
    go false false false false false = refl
