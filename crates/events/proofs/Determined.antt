-- Any two replies that the contract of a public function allows coincide: a line for each, about what its contract says (`Reads.Learnt`).
use mathlib.Core.Path.{◌≡◌, sym, ◌∙◌}
use borrow.Fn.Enter.{pair≡}
use Rattle.numbers.specs.OneReply.{OneOutcome}
use Rattle.units.proofs.refusal.Number.{only_reply}
use Rattle.state.proofs.Causes.{only_cause}
use Rattle.state.specs.declared.congestion_event.CongestionEvent.{CongestionEvent}
use Rattle.state.specs.declared.network_model.NetworkModel.{NetworkModel}
use Rattle.events.proofs.event as event

pub one_event_on_congestion_event_start : OneOutcome {S = NetworkModel × CongestionEvent} event.on_congestion_event_start.Reads.Learnt (λ κ e. (e.0.now, e.1.1.0.now))
one_event_on_congestion_event_start κ a x y s t p q =
    (only_reply x y (p.0 ∙ sym q.0) (p.1.1.1 ∙ sym q.1.1.1), pair≡ (p.1.0 ∙ sym q.1.0) (p.1.1.0 ∙ sym q.1.1.0))

pub one_event_start_tested : OneOutcome {S = NetworkModel × CongestionEvent} event.start_tested.Reads.Learnt (λ κ e. (e.0.now, e.1.1.1.0.now))
one_event_start_tested κ a x y s t p q = (only_cause x y (p.0 ∙ sym q.0), pair≡ (p.1.0 ∙ sym q.1.0) (p.1.1 ∙ sym q.1.1))

pub one_event_on_congestion_event_finish : OneOutcome event.on_congestion_event_finish.Reads.Learnt (λ κ e. e.0.now)
one_event_on_congestion_event_finish κ a x y s t p q = (only_reply x y (p.0 ∙ sym q.0) (p.1.1 ∙ sym q.1.1), p.1.0 ∙ sym q.1.0)

pub one_event_finish_tested : OneOutcome event.finish_tested.Reads.Learnt (λ κ e. e.0.now)
one_event_finish_tested κ a x y s t p q = (only_cause x y (p.0 ∙ sym q.0), p.1 ∙ sym q.1)
