-- An event takes from its list the greatest number alone (specs/OnlyGreatest.antt): so does the end of a round. Assumes nothing.
use Rattle.std.specs.Prelude.{Option}
use Prim.Native.Nat.{ℕ}
use mathlib.Core.List.{List}
use mathlib.Core.Path.{◌≡◌}
use Rattle.filters.specs.RoundTripCounter.{greatest, listed}
use Rattle.filters.proofs.Greatest.{alone, listed_back, full_same, ended_same, acked_same}
use Rattle.state.specs.declared.congestion_event.CongestionEvent.{CongestionEvent}
use Rattle.state.specs.declared.congestion_event.CongestionEventSample.{CongestionEventSample}
use Rattle.state.specs.declared.network_model.NetworkModel.{NetworkModel}
use Rattle.state.specs.declared.params.Params.{Params}
use Rattle.events.specs.Event.{is_full, event_number, event_next, model_next}
use Rattle.events.specs.OnlyGreatest.{Same, OnlyGreatest}
use Rattle.events.proofs.NeverSent.{unsent_same}

pub same : (k l : List ℕ) → greatest k ≡ greatest l → Same k l
unfolding event_number is_full model_next event_next
same k l h =
    record {
      reply = λ m p e s. rw (unsent_same m k l h, full_same m.rounds k l h);
      model = λ m p e s. rw (ended_same m.rounds k l h, acked_same m.rounds k l h);
      event = λ m e s. rw (ended_same m.rounds k l h);
    }

pub only_greatest : OnlyGreatest
only_greatest = record { only = same; alone = λ l. same (listed (greatest l)) l (listed_back (greatest l)) }

-- and of what a function finds to be the greatest
module _ (m : NetworkModel) (p : Params) (e : CongestionEvent) (s : CongestionEventSample) (l : List ℕ) (g : Option ℕ) (h : g ≡ greatest l) where
  pub number_of : event_number m p e s (listed g) ≡ event_number m p e s l
  number_of = (same (listed g) l (alone l h)).reply m p e s

  pub model_of : model_next m p e s (listed g) ≡ model_next m p e s l
  model_of = (same (listed g) l (alone l h)).model m p e s

  pub event_of : event_next m e s (listed g) ≡ event_next m e s l
  event_of = (same (listed g) l (alone l h)).event m e s
