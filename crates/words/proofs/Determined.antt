-- Any two outcomes that the contract of a function allows coincide, the reply or what is left in lent memory: a line for each, about what its contract says (`Reads.Learnt`).
use mathlib.Core.Path.{◌≡◌, sym, ◌∙◌}
use contract.Lifetimes.{Lfts}
use denote.Triple.Clauses.{AtExit}
use borrow.Fn.Kinds.{Dens, res_t, ended_of}
use Rattle.numbers.specs.OneReply.{OneReply}
use Rattle.words.proofs.maybe as maybe
use Rattle.words.proofs.word as word
use Rattle.words.proofs.get_word as get-word
use Rattle.words.proofs.get_words as get-words
use Rattle.words.proofs.put_word as put_word
use Rattle.words.proofs.put_words as put-words

pub one_flag_fits : OneReply word.flag_fits.Reads.Learnt
one_flag_fits κ a x y s t p q = p ∙ sym q

pub one_or_outside : OneReply word.or_outside.Reads.Learnt
one_or_outside κ a x y s t p q = p ∙ sym q

pub one_float_of : OneReply word.float_of.Reads.Learnt
one_float_of κ a x y s t p q = p ∙ sym q

pub one_float_fits : OneReply word.float_fits.Reads.Learnt
one_float_fits κ a x y s t p q = p ∙ sym q

pub one_float_word : OneReply word.float_word.Reads.Learnt
one_float_word κ a x y s t p q = p ∙ sym q

pub one_is_unset : OneReply maybe.is_unset.Reads.Learnt
one_is_unset κ a x y s t p q = p ∙ sym q

pub one_number_in : OneReply maybe.number_in.Reads.Learnt
one_number_in κ a x y s t p q = p ∙ sym q

pub one_maybe_fits : OneReply maybe.maybe_fits.Reads.Learnt
one_maybe_fits κ a x y s t p q = p ∙ sym q

pub one_maybe_of : (g : _) (laws : _) (ghosts : _) (calls : _) → OneReply (maybe.maybe_of.Reads.Learnt g laws ghosts calls)
one_maybe_of g laws ghosts calls κ a x y s t p q = p ∙ sym q

pub one_pair_of : (g : _) (laws : _) (ghosts : _) (calls : _) → OneReply (maybe.pair_of.Reads.Learnt g laws ghosts calls)
one_pair_of g laws ghosts calls κ a x y s t p q = p ∙ sym q

pub one_get_word : OneReply get-word.Reads.Learnt
one_get_word κ a x y s t p q = p ∙ sym q

pub one_get_words :
    (κ : Lfts 2) (a : Dens κ get-words.Kinds.ps) (x y : (res_t get-words.Kinds.r κ).Denot) (s t : AtExit (ended_of 2 get-words.Kinds.ps get-words.Kinds.r) κ) →
    get-words.Reads.Learnt κ a x s → get-words.Reads.Learnt κ a y t → s.1.1.0.now ≡ t.1.1.0.now
one_get_words κ a x y s t p q = p ∙ sym q

pub one_put_word :
    (κ : Lfts 1) (a : Dens κ put_word.Kinds.ps) (x y : (res_t put_word.Kinds.r κ).Denot) (s t : AtExit (ended_of 1 put_word.Kinds.ps put_word.Kinds.r) κ) →
    put_word.Reads.Learnt κ a x s → put_word.Reads.Learnt κ a y t → s.0.now ≡ t.0.now
one_put_word κ a x y s t p q = p ∙ sym q

pub one_put_words :
    (κ : Lfts 2) (a : Dens κ put-words.Kinds.ps) (x y : (res_t put-words.Kinds.r κ).Denot) (s t : AtExit (ended_of 2 put-words.Kinds.ps put-words.Kinds.r) κ) →
    put-words.Reads.Learnt κ a x s → put-words.Reads.Learnt κ a y t → s.0.now ≡ t.0.now
one_put_words κ a x y s t p q = p ∙ sym q
