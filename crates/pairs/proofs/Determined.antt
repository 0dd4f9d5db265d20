-- Any two outcomes that the contract of a public function allows coincide, the reply and the bytes left in lent memory: a line for each, about what its contract says (`Reads.Learnt`).
use mathlib.Core.Path.{refl, sym, ◌∙◌}
use Rattle.numbers.specs.OneReply.{OneReply, OneOutcome}
use Rattle.units.proofs.refusal.Number.{only_reply}
use Rattle.pairs.proofs.pairs as pairs

pub one_run_reply : OneReply pairs.run_reply.Reads.Learnt
one_run_reply κ a x y s t p q = only_reply x y (p.0 ∙ sym q.0) (p.1 ∙ sym q.1)

pub one_write_run : OneOutcome pairs.write_run.Reads.Learnt (λ κ e. e.1.1.0.now)
one_write_run κ a x y s t p q = (refl, p ∙ sym q)
