-- Any two replies that the contract of a public function allows coincide: one line for each public function.
use Rattle.std.proofs.Common.{sym, ◌∙◌}
use Rattle.numbers.specs.OneReply.{OneReply}
use Rattle.numbers.proofs.int_to_float as int_to_float
use Rattle.numbers.proofs.float_to_int as float_to_int
use Rattle.numbers.proofs.scaling as scaling

pub one_to_f32 : OneReply int_to_float.to_f32.Reads.Learnt
one_to_f32 κs a x y s t p q = p ∙ sym q

pub one_to_f64 : OneReply int_to_float.to_f64.Reads.Learnt
one_to_f64 κs a x y s t p q = p ∙ sym q

pub one_to_u64 : OneReply float_to_int.to_u64.Reads.Learnt
one_to_u64 κs a x y s t p q = p ∙ sym q

pub one_round_to_u64 : OneReply float_to_int.round_to_u64.Reads.Learnt
one_round_to_u64 κs a x y s t p q = p ∙ sym q

pub one_pattern_to_u64 : OneReply float_to_int.pattern_to_u64.Reads.Learnt
one_pattern_to_u64 κs a x y s t p q = p ∙ sym q

pub one_pattern_round_to_u64 : OneReply float_to_int.pattern_round_to_u64.Reads.Learnt
one_pattern_round_to_u64 κs a x y s t p q = p ∙ sym q

pub one_scale : OneReply scaling.scale.Reads.Learnt
one_scale κs a x y s t p q = p ∙ sym q

pub one_scale_f64 : OneReply scaling.scale_f64.Reads.Learnt
one_scale_f64 κs a x y s t p q = p ∙ sym q
