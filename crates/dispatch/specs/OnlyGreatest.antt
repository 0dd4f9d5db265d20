-- What a call of a run takes from its acked numbers (document 02, request d): whether they are there, whether there are
-- any, and which is the greatest. So two calls that differ in words 18 to 21 and in the lists alone, and agree in that,
-- are answered by the same words and leave the same state. A statement only.
use Rattle.std.specs.Prelude.{List, ◌≡◌, ℕ}
use Rattle.filters.specs.RoundTripCounter.{greatest}
use Rattle.state.specs.declared.network_model.NetworkModel.{NetworkModel}
use Rattle.state.specs.declared.cycle.Cycle.{Cycle}
use Rattle.arguments.specs.Alike.{AreAlike}
use Rattle.arguments.specs.Sample.{acked_fits, acked_of}
use Rattle.dispatch.specs.Outcome.{outcome_of}

abbrev pub OnlyGreatest : Type 0
OnlyGreatest =
    (v w : List ℕ) → AreAlike v w → acked_fits v ≡ acked_fits w → greatest (acked_of v) ≡ greatest (acked_of w) →
    (m : NetworkModel) (y : Cycle) → outcome_of v m y ≡ outcome_of w m y
