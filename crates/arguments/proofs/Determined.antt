-- Any two replies that the contract of a public function allows coincide: a line for each, about what its contract says (`Reads.Learnt`).
use mathlib.Core.Path.{sym, ◌∙◌}
use Rattle.numbers.specs.OneReply.{OneReply}
use Rattle.arguments.proofs.params as params
use Rattle.arguments.proofs.congestion_event as event
use Rattle.arguments.proofs.sample as sample

pub one_params_params_from : OneReply params.params_from.Reads.Learnt
one_params_params_from κ a x y s t p q = p ∙ sym q

pub one_event_event_from : OneReply event.event_from.Reads.Learnt
one_event_event_from κ a x y s t p q = p ∙ sym q

pub one_event_event_in : OneReply event.event_in.Reads.Learnt
one_event_event_in κ a x y s t p q = p ∙ sym q

pub one_event_event_words : OneReply event.event_words.Reads.Learnt
one_event_event_words κ a x y s t p q = p ∙ sym q

pub one_sample_sample_from : OneReply sample.sample_from.Reads.Learnt
one_sample_sample_from κ a x y s t p q = p ∙ sym q

pub one_sample_acked_fits : OneReply sample.acked_fits.Reads.Learnt
one_sample_acked_fits κ a x y s t p q = p ∙ sym q

pub one_sample_greatest_acked : OneReply sample.greatest_acked.Reads.Learnt
one_sample_greatest_acked κ a x y s t p q = p ∙ sym q
