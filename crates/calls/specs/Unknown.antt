-- A number that is no call's: the call's bad argument. It is refused with 2, or with 1 where a stored number is out of
-- bounds: "If several refusals apply, the lowest number is given."
use Rattle.std.specs.Prelude.{ℕ, false}
use Rattle.state.specs.declared.network_model.NetworkModel.{NetworkModel}
use Rattle.state.specs.NetworkModel.{given_number}

abbrev pub unknown_number : NetworkModel → ℕ
unknown_number m = given_number m false
