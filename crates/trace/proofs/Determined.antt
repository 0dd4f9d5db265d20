-- Any two outcomes that the contract of a public function allows coincide, the reply and the bytes left in lent memory: a line for each, about what its contract says (`Reads.Learnt`).
use mathlib.Core.Path.{◌≡◌, sym, ◌∙◌}
use contract.Lifetimes.{Lfts}
use denote.Triple.Clauses.{AtExit}
use borrow.Fn.Kinds.{Dens, res_t, ended_of}
use Rattle.numbers.specs.OneReply.{OneReply}
use Rattle.trace.proofs.made as made
use Rattle.trace.proofs.placed as placed
use Rattle.trace.proofs.replay.Replay as replay
use Rattle.trace.proofs.stream as stream

pub one_is_begun : OneReply made.is_begun.Reads.Learnt
one_is_begun κ a x y s t p q = p ∙ sym q

pub one_placed : OneReply placed.placed.Reads.Learnt
one_placed κ a x y s t p q = p ∙ sym q

pub one_new : OneReply replay.new.Reads.Learnt
one_new κ a x y s t p q = p ∙ sym q

pub one_step : OneReply replay.step.Reads.Learnt
one_step κ a x y s t p q = p ∙ sym q

pub one_run :
    (κ : Lfts 2) (a : Dens κ stream.run.Kinds.ps) (x y : (res_t stream.run.Kinds.r κ).Denot) (s t : AtExit (ended_of 2 stream.run.Kinds.ps stream.run.Kinds.r) κ) →
    stream.run.Reads.Learnt κ a x s → stream.run.Reads.Learnt κ a y t → (x ≡ y) × (s.1.1.1.0.now ≡ t.1.1.1.0.now)
one_run κ a x y s t p q = (p.0 ∙ sym q.0, p.1 ∙ sym q.1)

pub one_keep :
    (κ : Lfts 1) (a : Dens κ stream.keep.Kinds.ps) (x y : (res_t stream.keep.Kinds.r κ).Denot) (s t : AtExit (ended_of 1 stream.keep.Kinds.ps stream.keep.Kinds.r) κ) →
    stream.keep.Reads.Learnt κ a x s → stream.keep.Reads.Learnt κ a y t → (x ≡ y) × (s.0.now ≡ t.0.now)
one_keep κ a x y s t p q = (p.0 ∙ sym q.0, p.1 ∙ sym q.1)
