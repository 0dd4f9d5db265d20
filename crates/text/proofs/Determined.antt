-- Any two replies that the contract of a public function allows coincide: a line for each, about what its contract says (`Reads.Learnt`).
use mathlib.Core.Path.{sym, ◌∙◌}
use Rattle.numbers.specs.OneReply.{OneReply}
use Rattle.text.proofs.find.end_of as end
use Rattle.text.proofs.line.parse as parse
use Rattle.text.proofs.word.same_text as alike

pub one_parse : OneReply parse.Reads.Learnt
one_parse κ a x y s t p q = p ∙ sym q

pub one_same_text : OneReply alike.Reads.Learnt
one_same_text κ a x y s t p q = p ∙ sym q

pub one_end_of : OneReply end.Reads.Learnt
one_end_of κ a x y s t p q = p ∙ sym q
