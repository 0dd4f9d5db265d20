-- What a call that is done says of the model, the cycle and its arguments. Assumes nothing.
use Prim.Native.Nat.{ℕ}
use mathlib.Core.Bool.{Bool, true, false, not, ◌&&◌}
use mathlib.Core.Path.{◌≡◌}
use Rattle.units.specs.declared.time.Moment.{Moment}
use Rattle.units.specs.Time.{is_before}
use Rattle.state.specs.declared.network_model.NetworkModel.{NetworkModel}
use Rattle.state.specs.declared.params.Params.{Params}
use Rattle.state.specs.NetworkModel.{model_ok}
use Rattle.state.specs.Params.{params_ok, beta_ok, threshold_ok}
use Rattle.state.specs.Bounds.{fraction_ok, gain_ok, length_ok, moment_ok, bytes_ok}
use Rattle.state.specs.declared.cycle.Cycle.{Cycle}
use Rattle.state.specs.Cycle.{cycle_ok}
use Rattle.phases.specs.Phases.{entry_number, down_number, exit_number, slope_number}
use Rattle.state.proofs.Rows.{and_left, and_right, row_stored, row_argument}

module _ (m : NetworkModel) (c : Cycle) (params argument : Bool) (now : Moment) (done : entry_number m c params argument now ≡ 0) where
  stored : (model_ok m && cycle_ok c && params) ≡ true
  unfolding entry_number
  stored = row_stored (model_ok m && cycle_ok c && params) (not (moment_ok now && argument)) (is_before now m.moment) false false done

  given : (moment_ok now && argument) ≡ true
  unfolding entry_number
  given = row_argument (not (model_ok m && cycle_ok c && params)) (moment_ok now && argument) (is_before now m.moment) false false done

  pub entry_model : model_ok m ≡ true
  entry_model = and_left (model_ok m) (cycle_ok c) (and_left (model_ok m && cycle_ok c) params stored)

  pub entry_cycle : cycle_ok c ≡ true
  entry_cycle = and_right (model_ok m) (cycle_ok c) (and_left (model_ok m && cycle_ok c) params stored)

  pub entry_params : params ≡ true
  entry_params = and_right (model_ok m && cycle_ok c) params stored

  pub entry_moment : moment_ok now ≡ true
  entry_moment = and_left (moment_ok now) argument given

  pub entry_argument : argument ≡ true
  entry_argument = and_right (moment_ok now) argument given

module _ (m : NetworkModel) (c : Cycle) (done : exit_number m c ≡ 0) where
  both : (model_ok m && cycle_ok c) ≡ true
  unfolding exit_number
  both = row_stored (model_ok m && cycle_ok c) false false false false done

  pub exit_model_lem : model_ok m ≡ true
  exit_model_lem = and_left (model_ok m) (cycle_ok c) both

  pub exit_cycle_lem : cycle_ok c ≡ true
  exit_cycle_lem = and_right (model_ok m) (cycle_ok c) both

module _ (c : Cycle) (window : ℕ) (done : slope_number c window ≡ 0) where
  pub slope_cycle_lem : cycle_ok c ≡ true
  unfolding slope_number
  slope_cycle_lem = row_stored (cycle_ok c) (not (bytes_ok window)) false false false done

  pub slope_window : bytes_ok window ≡ true
  unfolding slope_number
  slope_window = row_argument (not (cycle_ok c)) (bytes_ok window) false false false done

pub base_ok : (p : Params) → params_ok p ≡ true → length_ok p.base ≡ true
unfolding params_ok
base_ok p h =
    and_right (beta_ok p.beta && fraction_ok p.loss && fraction_ok p.headroom && threshold_ok p.growth && gain_ok p.cwnd && gain_ok p.pacing && length_ok p.period) (length_ok p.base) h

-- what entering down needs: the base duration is within its bound
pub down_base : (m : NetworkModel) (c : Cycle) (p : Params) (now : Moment) → down_number m c p now ≡ 0 → length_ok p.base ≡ true
down_base m c p now done = base_ok p (entry_params m c (params_ok p) true now done)
