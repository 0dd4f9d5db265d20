-- The calls on model and cycle, by their numbers (docs/LAYOUT.md).
use Rattle.std.specs.Prelude.{ℕ, cond, ◌&&◌, eqb}
use Rattle.units.specs.declared.time.Moment.{Moment}
use Rattle.state.specs.declared.network_model.NetworkModel.{NetworkModel}
use Rattle.state.specs.declared.params.Params.{Params}
use Rattle.state.specs.declared.cycle.Cycle.{Cycle}
use Rattle.phases.specs.Phases.{restarted_at, exit_number, exit_model, exit_cycle, slope_number, slope_cycle, down_number, down_cycle, cruise_number, cruise_model, cruise_cycle, refill_number, refill_model, refill_cycle, up_number, up_cycle}
use Rattle.words.specs.Word.{or_outside, flag_of, flag_fits}
use Rattle.calls.specs.Unknown.{unknown_number}

-- the number of the reply; the model and the cycle that the call leaves where that is 0
pub record Entry : Type 0 where
  pub number : ℕ
  pub model : NetworkModel
  pub cycle : Cycle

abbrev at : ℕ → Moment
at n = record { 0 = n }

-- call 40 is given two flags and a moment: with a flag that no writer writes, the moment is out of bounds
abbrev pub down_at : (a b c : ℕ) → Moment
down_at a b c = at (or_outside (flag_fits a && flag_fits b) c)

-- calls 40 to 45, with the numbers that they are given. Any other number is refused
unfoldable pub enter_of : (call a b c : ℕ) → NetworkModel → Cycle → Params → Entry
enter_of call a b c m y p =
    cond (eqb call 40)
    (record {
      number = down_number m y p (down_at a b c);
      model = restarted_at m (down_at a b c);
      cycle = down_cycle y p (flag_of a) (flag_of b) (down_at a b c);
    })
    (cond (eqb call 41)
    (record {
      number = cruise_number m y (at a);
      model = cruise_model m y (at a);
      cycle = cruise_cycle y (at a);
    })
    (cond (eqb call 42)
    (record {
      number = refill_number m y a (at b);
      model = refill_model m y (at b);
      cycle = refill_cycle y a (at b);
    })
    (cond (eqb call 43)
    (record {
      number = up_number m y (at a) b;
      model = restarted_at m (at a);
      cycle = up_cycle y (at a) b;
    })
    (cond (eqb call 44) (record { number = exit_number m y; model = exit_model m y; cycle = exit_cycle y })
    (cond (eqb call 45) (record { number = slope_number y a; model = m; cycle = slope_cycle y a })
    (record { number = unknown_number m; model = m; cycle = y }))))))
