-- Any two outcomes that the contract of a public function allows coincide: a line for each, about what its contract says (`Reads.Learnt`).
use Rattle.std.specs.Prelude.{Result, None}
use mathlib.Core.Bool.{false, not}
use mathlib.Core.Path.{◌≡◌, sym, ◌∙◌}
use Rattle.numbers.specs.OneReply.{OneReply, OneOutcome}
use Rattle.units.specs.Reply as Replies
use Rattle.units.specs.declared.refusal.Refusal.{Refusal}
use Rattle.units.proofs.refusal.Number.{number_injective, only_reply}
use Rattle.state.specs.Answers.{zero_length}
use Rattle.state.proofs.Determined.{one_answer}
use Rattle.state.proofs.FirstFault.{no_two}
use Rattle.rtt.specs.declared.rtt.RttStats.{RttStats}
use Rattle.rtt.specs.Rtt.{stats_ok, stats_new, stored_number}
use Rattle.rtt.proofs.rtt as rtt
use Rattle.rtt.proofs.rtt.RttStats as stats

by_stored : {A : Type 0} (x y : Result A Refusal) (d v : A) (s : RttStats) → Replies.number x ≡ stored_number s →
    Replies.number y ≡ stored_number s → Replies.kept x d ≡ v → Replies.kept y d ≡ v → x ≡ y
unfolding stored_number
by_stored x y d v s p q h k = number_injective x y d (stored_number s) (no_two (not (stats_ok s)) false false false false) p q (h ∙ sym k)

pub one_rtt_rttstats_new : OneReply stats.new.Reads.Learnt
one_rtt_rttstats_new κ a x y s t p q = one_answer x y (stats_new zero_length zero_length) _ _ _ p.0 q.0 p.1.1 q.1.1 p.1.0 q.1.0

pub one_rtt_rttstats_begin : OneOutcome stats.begin.Reads.Learnt (λ κ e. e.0.now)
one_rtt_rttstats_begin κ a x y s t p q = (only_reply x y (p.0 ∙ sym q.0) (p.1.1 ∙ sym q.1.1), p.1.0 ∙ sym q.1.0)

pub one_rtt_rttstats_update_rtt : OneOutcome stats.update_rtt.Reads.Learnt (λ κ e. e.0.now)
one_rtt_rttstats_update_rtt κ a x y s t p q = (only_reply x y (p.0 ∙ sym q.0) (p.1.1 ∙ sym q.1.1), p.1.0 ∙ sym q.1.0)

pub one_rtt_rttstats_update_taken : OneOutcome stats.update_taken.Reads.Learnt (λ κ e. e.0.now)
one_rtt_rttstats_update_taken κ a x y s t p q = (only_reply x y (p.0 ∙ sym q.0) (p.1.1 ∙ sym q.1.1), p.1.0 ∙ sym q.1.0)

pub one_rtt_rttstats_given : OneReply stats.given.Reads.Learnt
one_rtt_rttstats_given κ a x y s t p q = only_reply x y (p.0 ∙ sym q.0) (p.1 ∙ sym q.1)

pub one_rtt_rttstats_update_max_ack_delay : OneOutcome stats.update_max_ack_delay.Reads.Learnt (λ κ e. e.0.now)
one_rtt_rttstats_update_max_ack_delay κ a x y s t p q = (only_reply x y (p.0 ∙ sym q.0) (p.1.1 ∙ sym q.1.1), p.1.0 ∙ sym q.1.0)

pub one_rtt_rttstats_latest_rtt : OneReply stats.latest_rtt.Reads.Learnt
one_rtt_rttstats_latest_rtt κ a x y s t p q = by_stored x y zero_length _ a.0 p.0 q.0 p.1 q.1

pub one_rtt_rttstats_rtt : OneReply stats.rtt.Reads.Learnt
one_rtt_rttstats_rtt κ a x y s t p q = by_stored x y zero_length _ a.0 p.0 q.0 p.1 q.1

pub one_rtt_rttstats_rttvar : OneReply stats.rttvar.Reads.Learnt
one_rtt_rttstats_rttvar κ a x y s t p q = by_stored x y zero_length _ a.0 p.0 q.0 p.1 q.1

pub one_rtt_rttstats_min_rtt : OneReply stats.min_rtt.Reads.Learnt
one_rtt_rttstats_min_rtt κ a x y s t p q = by_stored x y None _ a.0 p.0 q.0 p.1 q.1

pub one_rtt_new_fault : OneReply rtt.new_fault.Reads.Learnt
one_rtt_new_fault κ a x y s t p q = p ∙ sym q

pub one_rtt_update_fault : OneReply rtt.update_fault.Reads.Learnt
one_rtt_update_fault κ a x y s t p q = p ∙ sym q

pub one_rtt_delay_fault : OneReply rtt.delay_fault.Reads.Learnt
one_rtt_delay_fault κ a x y s t p q = p ∙ sym q
