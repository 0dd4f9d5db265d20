-- Any two outcomes that the contract of a public function allows coincide, the model left and the bytes left in lent memory: a line for each, about what its contract says (`Reads.Learnt`).
use Rattle.std.proofs.Common.{List, ℕ, refl, sym, ◌∙◌}
use borrow.Fn.Enter.{pair≡}
use Rattle.numbers.specs.OneReply.{OneOutcome}
use Rattle.state.specs.declared.network_model.NetworkModel.{NetworkModel}
use Rattle.state.specs.declared.cycle.Cycle.{Cycle}
use Rattle.state.proofs.Causes.{cause_answer}
use Rattle.dispatch.proofs.one_call as call

pub one_send : OneOutcome {S = NetworkModel × List ℕ} call.send.Reads.Learnt (λ κ e. (e.0.now, e.1.1.1.0.now))
one_send κ a x y s t p q = (refl, pair≡ (p.0 ∙ sym q.0) (p.1 ∙ sym q.1))

pub one_event_start : OneOutcome {S = NetworkModel × List ℕ} call.event_start.Reads.Learnt (λ κ e. (e.0.now, e.1.1.1.1.0.now))
one_event_start κ a x y s t p q = (refl, pair≡ (p.0 ∙ sym q.0) (p.1 ∙ sym q.1))

pub one_event_finish : OneOutcome {S = NetworkModel × List ℕ} call.event_finish.Reads.Learnt (λ κ e. (e.0.now, e.1.1.1.1.0.now))
one_event_finish κ a x y s t p q = (refl, pair≡ (p.0 ∙ sym q.0) (p.1 ∙ sym q.1))

pub one_other : OneOutcome {S = NetworkModel × (Cycle × List ℕ)} call.other.Reads.Learnt (λ κ e. (e.0.now, (e.1.0.now, e.1.1.1.1.0.now)))
one_other κ a x y s t p q =
    let left = pair≡ (p.1.1.0 ∙ sym q.1.1.0) (pair≡ (p.1.1.1.0 ∙ sym q.1.1.1.0) (p.1.1.1.1 ∙ sym q.1.1.1.1)) in
    (cause_answer x y 0 (p.0 ∙ sym q.0) (p.1.0 ∙ sym q.1.0), left)
