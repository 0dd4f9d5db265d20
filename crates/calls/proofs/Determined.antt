-- Any two replies that the contract of a public function allows coincide, and what they leave: a line for each, about what its contract says (`Reads.Learnt`).
use Rattle.std.proofs.Common.{sym, ◌∙◌, ap₂}
use Rattle.std.specs.Prelude.{false}
use Rattle.numbers.specs.OneReply.{OneReply, OneOutcome}
use Rattle.state.specs.declared.network_model.NetworkModel.{NetworkModel}
use Rattle.state.specs.declared.cycle.Cycle.{Cycle}
use Rattle.state.proofs.Causes.{only_cause, cause_answer}
use Rattle.calls.proofs.ask as ask
use Rattle.calls.proofs.change as change
use Rattle.calls.proofs.enter as enter
use Rattle.calls.proofs.question as question

pub one_ask_ask : OneReply ask.ask.Reads.Learnt
one_ask_ask κ a x y s t p q = cause_answer x y 0 (p.0 ∙ sym q.0) (p.1 ∙ sym q.1)

pub one_change_change : OneOutcome change.change.Reads.Learnt (λ κ e. e.0.now)
one_change_change κ a x y s t p q = (only_cause x y (p.0 ∙ sym q.0), p.1 ∙ sym q.1)

pub one_enter_enter : OneOutcome {S = NetworkModel × Cycle} enter.enter.Reads.Learnt (λ κ e. (e.0.now, e.1.0.now))
one_enter_enter κ a x y s t p q = (only_cause x y (p.0 ∙ sym q.0), ap₂ (λ (m : NetworkModel) (c : Cycle). (m, c)) (p.1.0 ∙ sym q.1.0) (p.1.1 ∙ sym q.1.1))

pub one_question_judge : OneOutcome question.judge.Reads.Learnt (λ κ e. e.0.now)
one_question_judge κ a x y s t p q = (cause_answer x y false (p.0 ∙ sym q.0) (p.1.1 ∙ sym q.1.1), p.1.0 ∙ sym q.1.0)
