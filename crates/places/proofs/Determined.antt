-- Any two replies that the contract of a public function allows coincide, about what its contract says (`Reads.Learnt`).
use mathlib.Core.Path.{sym, ◌∙◌}
use Rattle.numbers.specs.OneReply.{OneReply}
use Rattle.places.proofs.places as places

pub one_places_fault_of : OneReply places.fault_of.Reads.Learnt
one_places_fault_of κ a x y s t p q = p ∙ sym q
