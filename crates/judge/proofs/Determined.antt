-- Any two replies that the contract of a public function allows coincide: a line for each, about what its contract says (`Reads.Learnt`).
use mathlib.Core.Path.{sym, ◌∙◌}
use mathlib.Core.Bool.{false}
use Rattle.numbers.specs.OneReply.{OneReply, OneOutcome}
use Rattle.units.proofs.refusal.Number.{only_reply}
use Rattle.state.proofs.Determined.{one_answer}
use Rattle.judge.proofs.judge as judge

pub one_judge_maybe_expire_min_rtt : OneOutcome judge.maybe_expire_min_rtt.Reads.Learnt (λ κ e. e.0.now)
one_judge_maybe_expire_min_rtt κ a x y s t p q = (one_answer x y false _ _ _ p.0 q.0 p.1.1.1 q.1.1.1 p.1.1.0 q.1.1.0, p.1.0 ∙ sym q.1.0)

pub one_judge_is_inflight_too_high : OneReply judge.is_inflight_too_high.Reads.Learnt
one_judge_is_inflight_too_high κ a x y s t p q = one_answer x y false _ _ _ p.0 q.0 p.1.1 q.1.1 p.1.0 q.1.0

pub one_judge_has_bandwidth_growth : OneOutcome judge.has_bandwidth_growth.Reads.Learnt (λ κ e. e.0.now)
one_judge_has_bandwidth_growth κ a x y s t p q = (one_answer x y false _ _ _ p.0 q.0 p.1.1.1 q.1.1.1 p.1.1.0 q.1.1.0, p.1.0 ∙ sym q.1.0)

pub one_judge_check_persistent_queue : OneOutcome judge.check_persistent_queue.Reads.Learnt (λ κ e. e.0.now)
one_judge_check_persistent_queue κ a x y s t p q = (only_reply x y (p.0 ∙ sym q.0) (p.1.1 ∙ sym q.1.1), p.1.0 ∙ sym q.1.0)
