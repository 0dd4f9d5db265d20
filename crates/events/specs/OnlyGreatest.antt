-- What an event takes from the list of acked numbers (document 02, request d): whether it is empty, and its greatest
-- number. Two lists that agree in that, in whatever order, of whatever length, make the same reply, the same next model
-- and the same record. Statements only.
use Rattle.std.specs.Prelude.{ℕ, List, ◌≡◌}
use Rattle.filters.specs.RoundTripCounter.{greatest, listed}
use Rattle.state.specs.declared.network_model.NetworkModel.{NetworkModel}
use Rattle.state.specs.declared.params.Params.{Params}
use Rattle.state.specs.declared.congestion_event.CongestionEvent.{CongestionEvent}
use Rattle.state.specs.declared.congestion_event.CongestionEventSample.{CongestionEventSample}
use Rattle.events.specs.Event.{event_number, event_next, model_next}

-- for every model, parameters, record and sampler's answer, the list k does as the list l does
pub record Same (k l : List ℕ) : Type 0 where
  pub reply : (m : NetworkModel) (p : Params) (e : CongestionEvent) (s : CongestionEventSample) →
      event_number m p e s k ≡ event_number m p e s l
  pub model : (m : NetworkModel) (p : Params) (e : CongestionEvent) (s : CongestionEventSample) →
      model_next m p e s k ≡ model_next m p e s l
  pub event : (m : NetworkModel) (e : CongestionEvent) (s : CongestionEventSample) →
      event_next m e s k ≡ event_next m e s l

pub record OnlyGreatest : Type 0 where
  -- `greatest` says both: unset for the empty list, else the number
  pub only : (k l : List ℕ) → greatest k ≡ greatest l → Same k l
  -- so a caller who hands on the greatest alone, or an empty list for an empty one, hands on enough
  pub alone : (l : List ℕ) → Same (listed (greatest l)) l
