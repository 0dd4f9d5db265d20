-- Any two outcomes that the contract of a public function allows coincide, the reply and the bytes left in lent memory: a line for each, about what its contract says (`Reads.Learnt`).
use mathlib.Core.Path.{sym, ◌∙◌}
use Rattle.numbers.specs.OneReply.{OneReply, OneOutcome}
use Rattle.units.proofs.refusal.Number.{only_reply}
use Rattle.trips.proofs.trips as trips

pub one_run_reply : OneReply trips.run_reply.Reads.Learnt
one_run_reply κ a x y s t p q = only_reply x y (p.0 ∙ sym q.0) (p.1 ∙ sym q.1)

pub one_stats_in : OneReply trips.stats_in.Reads.Learnt
one_stats_in κ a x y s t p q = p ∙ sym q

pub one_stats_words : OneReply trips.stats_words.Reads.Learnt
one_stats_words κ a x y s t p q = p ∙ sym q

pub one_run_calls : OneOutcome trips.run_calls.Reads.Learnt (λ κ e. e.1.1.0.now)
one_run_calls κ a x y s t p q = (p.0 ∙ sym q.0, p.1 ∙ sym q.1)
