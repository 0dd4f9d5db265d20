-- Any two replies that the contract of a public function allows coincide: a line for each, about what its contract says (`Reads.Learnt`).
use mathlib.Core.Path.{sym, ◌∙◌}
use Rattle.numbers.specs.OneReply.{OneReply}
use Rattle.layout.proofs.cycle as cycle
use Rattle.layout.proofs.form as form
use Rattle.layout.proofs.network_model as network-model
use Rattle.layout.proofs.state_words as state-words

pub one_cycle_cycle_from : OneReply cycle.cycle_from.Reads.Learnt
one_cycle_cycle_from κ a x y s t p q = p ∙ sym q

pub one_form_is_state : OneReply form.is_state.Reads.Learnt
one_form_is_state κ a x y s t p q = p ∙ sym q

pub one_network_model_model_from : OneReply network-model.model_from.Reads.Learnt
one_network_model_model_from κ a x y s t p q = p ∙ sym q

pub one_state_words_state_words : OneReply state-words.state_words.Reads.Learnt
one_state_words_state_words κ a x y s t p q = p ∙ sym q
