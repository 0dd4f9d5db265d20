-- A count that is full is the last reason to refuse a call that judges. Assumes nothing.
use mathlib.Core.Bool.{Bool, true, false, cond, not, ◌&&◌}
use mathlib.Core.Path.{◌≡◌, refl}
use lib.Dec.{eqb}
use Rattle.state.specs.declared.network_model.NetworkModel.{NetworkModel}
use Rattle.state.specs.declared.params.Params.{Params}
use Rattle.state.specs.declared.congestion_event.CongestionEvent.{CongestionEvent}
use Rattle.state.specs.Refusals.{row_of}
use Rattle.state.specs.NetworkModel.{model_ok}
use Rattle.state.specs.Params.{params_ok}
use Rattle.state.specs.CongestionEvent.{event_ok}
use Rattle.judge.specs.Judge.{judged_number}

last : (s a f : Bool) → row_of (not s) (not a) false false f ≡ cond (eqb (row_of (not s) (not a) false false false) 0) (cond f 5 0) (row_of (not s) (not a) false false false)
unfolding row_of
last true true true = refl
last true true false = refl
last true false f = refl
last false a f = refl

pub full_last : (m : NetworkModel) (p : Params) (e : CongestionEvent) (f : Bool)
    → judged_number m p e f ≡ cond (eqb (judged_number m p e false) 0) (cond f 5 0) (judged_number m p e false)
unfolding judged_number
full_last m p e f = last (model_ok m && params_ok p) (event_ok e) f
