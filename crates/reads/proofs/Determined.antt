-- Any two replies that the contract of a public function allows coincide: a line for each, about what its contract says (`Reads.Learnt`).
use mathlib.Core.Bool.{false}
use Rattle.numbers.specs.OneReply.{OneReply}
use Rattle.state.specs.Answers.{zero_bandwidth, zero_length, zero_moment, zero_gain}
use Rattle.state.proofs.Determined.{one_answer, by_stored, by_stored_with}
use Rattle.reads.proofs.reads as reads

pub one_reads_bdp : OneReply reads.bdp.Reads.Learnt
one_reads_bdp κ a x y s t p q = one_answer x y 0 _ _ _ p.0 q.0 p.1.1 q.1.1 p.1.0 q.1.0

pub one_reads_bdp1 : OneReply reads.bdp1.Reads.Learnt
one_reads_bdp1 κ a x y s t p q = one_answer x y 0 _ _ _ p.0 q.0 p.1.1 q.1.1 p.1.0 q.1.0

pub one_reads_bdp0 : OneReply reads.bdp0.Reads.Learnt
one_reads_bdp0 κ a x y s t p q = by_stored x y 0 _ a.0 p.0 q.0 p.1 q.1

pub one_reads_inflight_hi_with_headroom : OneReply reads.inflight_hi_with_headroom.Reads.Learnt
one_reads_inflight_hi_with_headroom κ a x y s t p q = by_stored_with x y 0 _ a.0 a.1.0 p.0 q.0 p.1 q.1

pub one_reads_bandwidth_estimate : OneReply reads.bandwidth_estimate.Reads.Learnt
one_reads_bandwidth_estimate κ a x y s t p q = by_stored x y zero_bandwidth _ a.0 p.0 q.0 p.1 q.1

pub one_reads_max_bandwidth : OneReply reads.max_bandwidth.Reads.Learnt
one_reads_max_bandwidth κ a x y s t p q = by_stored x y zero_bandwidth _ a.0 p.0 q.0 p.1 q.1

pub one_reads_min_rtt : OneReply reads.min_rtt.Reads.Learnt
one_reads_min_rtt κ a x y s t p q = by_stored x y zero_length _ a.0 p.0 q.0 p.1 q.1

pub one_reads_min_rtt_timestamp : OneReply reads.min_rtt_timestamp.Reads.Learnt
one_reads_min_rtt_timestamp κ a x y s t p q = by_stored x y zero_moment _ a.0 p.0 q.0 p.1 q.1

pub one_reads_full_bandwidth_reached : OneReply reads.full_bandwidth_reached.Reads.Learnt
one_reads_full_bandwidth_reached κ a x y s t p q = by_stored x y false _ a.0 p.0 q.0 p.1 q.1

pub one_reads_pacing_gain : OneReply reads.pacing_gain.Reads.Learnt
one_reads_pacing_gain κ a x y s t p q = by_stored x y zero_gain _ a.0 p.0 q.0 p.1 q.1

pub one_reads_cwnd_gain : OneReply reads.cwnd_gain.Reads.Learnt
one_reads_cwnd_gain κ a x y s t p q = by_stored x y zero_gain _ a.0 p.0 q.0 p.1 q.1

pub one_reads_max_bytes_delivered_in_round : OneReply reads.max_bytes_delivered_in_round.Reads.Learnt
one_reads_max_bytes_delivered_in_round κ a x y s t p q = by_stored x y 0 _ a.0 p.0 q.0 p.1 q.1

pub one_reads_total_bytes_acked : OneReply reads.total_bytes_acked.Reads.Learnt
one_reads_total_bytes_acked κ a x y s t p q = by_stored x y 0 _ a.0 p.0 q.0 p.1 q.1

pub one_reads_total_bytes_lost : OneReply reads.total_bytes_lost.Reads.Learnt
one_reads_total_bytes_lost κ a x y s t p q = by_stored x y 0 _ a.0 p.0 q.0 p.1 q.1

pub one_reads_inflight_hi : OneReply reads.inflight_hi.Reads.Learnt
one_reads_inflight_hi κ a x y s t p q = by_stored x y 0 _ a.0 p.0 q.0 p.1 q.1

pub one_reads_inflight_lo : OneReply reads.inflight_lo.Reads.Learnt
one_reads_inflight_lo κ a x y s t p q = by_stored x y 0 _ a.0 p.0 q.0 p.1 q.1

pub one_reads_loss_events_in_round : OneReply reads.loss_events_in_round.Reads.Learnt
one_reads_loss_events_in_round κ a x y s t p q = by_stored x y 0 _ a.0 p.0 q.0 p.1 q.1

pub one_reads_rounds_with_queueing : OneReply reads.rounds_with_queueing.Reads.Learnt
one_reads_rounds_with_queueing κ a x y s t p q = by_stored x y 0 _ a.0 p.0 q.0 p.1 q.1

pub one_reads_inflight_hi_default : OneReply reads.inflight_hi_default.Reads.Learnt
one_reads_inflight_hi_default κ a x y s t p q = by_stored x y 0 _ a.0 p.0 q.0 p.1 q.1

pub one_reads_queueing_threshold_extra_bytes : OneReply reads.queueing_threshold_extra_bytes.Reads.Learnt
one_reads_queueing_threshold_extra_bytes κ a x y s t p q = by_stored x y 0 _ a.0 p.0 q.0 p.1 q.1
