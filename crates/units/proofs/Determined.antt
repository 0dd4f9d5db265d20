-- Any two replies that the contract of a public function allows coincide: a line for each, about what its contract says (`Reads.Learnt`).
use Rattle.std.proofs.Common.{sym, ◌∙◌}
use Rattle.numbers.specs.OneReply.{OneReply}
use Rattle.units.proofs.bandwidth.Bandwidth as bandwidth-bandwidth
use Rattle.units.proofs.refusal as refusal
use Rattle.units.proofs.refusal.Refusal as refusal-refusal
use Rattle.units.proofs.time.Moment as time-moment

pub one_bandwidth_bandwidth_max : OneReply bandwidth-bandwidth.max.Reads.Learnt
one_bandwidth_bandwidth_max κ a x y s t p q = p ∙ sym q

pub one_bandwidth_bandwidth_min : OneReply bandwidth-bandwidth.min.Reads.Learnt
one_bandwidth_bandwidth_min κ a x y s t p q = p ∙ sym q

pub one_bandwidth_bandwidth_lt : OneReply bandwidth-bandwidth.lt.Reads.Learnt
one_bandwidth_bandwidth_lt κ a x y s t p q = p ∙ sym q

pub one_bandwidth_bandwidth_mul_f32 : OneReply bandwidth-bandwidth.mul_f32.Reads.Learnt
one_bandwidth_bandwidth_mul_f32 κ a x y s t p q = p ∙ sym q

pub one_bandwidth_bandwidth_to_bytes_per_period : OneReply bandwidth-bandwidth.to_bytes_per_period.Reads.Learnt
one_bandwidth_bandwidth_to_bytes_per_period κ a x y s t p q = p ∙ sym q

pub one_refusal_refusal_row : OneReply refusal-refusal.row.Reads.Learnt
one_refusal_refusal_row κ a x y s t p q = p ∙ sym q

pub one_refusal_refusal_word : OneReply refusal-refusal.word.Reads.Learnt
one_refusal_refusal_word κ a x y s t p q = p ∙ sym q

pub one_refusal_fault_word : OneReply refusal.fault_word.Reads.Learnt
one_refusal_fault_word κ a x y s t p q = p ∙ sym q

pub one_time_moment_plus : OneReply time-moment.plus.Reads.Learnt
one_time_moment_plus κ a x y s t p q = p ∙ sym q

pub one_time_moment_since : OneReply time-moment.since.Reads.Learnt
one_time_moment_since κ a x y s t p q = p ∙ sym q

pub one_time_moment_is_before : OneReply time-moment.is_before.Reads.Learnt
one_time_moment_is_before κ a x y s t p q = p ∙ sym q
