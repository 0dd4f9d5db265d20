-- `start_tested` meets its contract: an event of which no row holds has room for its sums.
use mathlib.Core.Path.{◌≡◌, sym, ap, ◌∙◌, subst}
use mathlib.Core.Bool.{true, false}
use Prim.Native.Nat.{◌+◌, ◌-◌, ◌^◌, ◌<◌}
use lib.Dec.{ltb, eqb}
use Rattle.filters.specs.RoundTripCounter.{listed}
use Rattle.state.specs.declared.congestion_event.CongestionEvent.{CongestionEvent}
use Rattle.state.specs.Refusals.{caused, first_of}
use Rattle.events.specs.Event.{event_after, event_number}
use Rattle.events.proofs.Room.{room}
use Rattle.events.proofs.event.start_tested.Goals as goal

pub model_after-requires : goal.model_after-requires
unfolding event_after event_number
model_after-requires c =
    let a = c.args in
    let done = sym (ap first_of c.event_rows.ensures) ∙ sym c.first.ensures ∙ ap caused c.in_ok-first.was in
    rw c.event_after.ensures (room a.model.now a.params a.event.now a.sample (listed a.most) done)
