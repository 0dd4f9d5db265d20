-- Any two replies that the contract of a public function allows coincide: a line for each, about what its contract says (`Reads.Learnt`).
use mathlib.Core.Path.{refl, sym, ◌∙◌}
use Rattle.numbers.specs.OneReply.{OneOutcome}
use Rattle.units.proofs.refusal.Number.{only_reply}
use Rattle.state.proofs.Causes.{only_cause}
use Rattle.state.proofs.Determined.{by_stored}
use Rattle.changes.proofs.changes as changes

pub one_changes_on_packet_sent : OneOutcome changes.on_packet_sent.Reads.Learnt (λ κ e. e.0.now)
one_changes_on_packet_sent κ a x y s t p q = (only_reply x y (p.0 ∙ sym q.0) (p.1.1 ∙ sym q.1.1), p.1.0 ∙ sym q.1.0)

pub one_changes_sent_tested : OneOutcome changes.sent_tested.Reads.Learnt (λ κ e. e.0.now)
one_changes_sent_tested κ a x y s t p q = (only_cause x y (p.0 ∙ sym q.0), p.1 ∙ sym q.1)

pub one_changes_restart_round_early : OneOutcome changes.restart_round_early.Reads.Learnt (λ κ e. e.0.now)
one_changes_restart_round_early κ a x y s t p q = (by_stored x y tt tt a.0.now p.0 q.0 refl refl, p.1 ∙ sym q.1)

pub one_changes_set_full_bandwidth_reached : OneOutcome changes.set_full_bandwidth_reached.Reads.Learnt (λ κ e. e.0.now)
one_changes_set_full_bandwidth_reached κ a x y s t p q = (by_stored x y tt tt a.0.now p.0 q.0 refl refl, p.1 ∙ sym q.1)

pub one_changes_set_pacing_gain : OneOutcome changes.set_pacing_gain.Reads.Learnt (λ κ e. e.0.now)
one_changes_set_pacing_gain κ a x y s t p q = (only_reply x y (p.0 ∙ sym q.0) (p.1.1 ∙ sym q.1.1), p.1.0 ∙ sym q.1.0)

pub one_changes_set_cwnd_gain : OneOutcome changes.set_cwnd_gain.Reads.Learnt (λ κ e. e.0.now)
one_changes_set_cwnd_gain κ a x y s t p q = (only_reply x y (p.0 ∙ sym q.0) (p.1.1 ∙ sym q.1.1), p.1.0 ∙ sym q.1.0)

pub one_changes_set_inflight_hi : OneOutcome changes.set_inflight_hi.Reads.Learnt (λ κ e. e.0.now)
one_changes_set_inflight_hi κ a x y s t p q = (only_reply x y (p.0 ∙ sym q.0) (p.1.1 ∙ sym q.1.1), p.1.0 ∙ sym q.1.0)

pub one_changes_cap_inflight_lo : OneOutcome changes.cap_inflight_lo.Reads.Learnt (λ κ e. e.0.now)
one_changes_cap_inflight_lo κ a x y s t p q = (only_reply x y (p.0 ∙ sym q.0) (p.1.1 ∙ sym q.1.1), p.1.0 ∙ sym q.1.0)

pub one_changes_clear_inflight_lo : OneOutcome changes.clear_inflight_lo.Reads.Learnt (λ κ e. e.0.now)
one_changes_clear_inflight_lo κ a x y s t p q = (by_stored x y tt tt a.0.now p.0 q.0 refl refl, p.1 ∙ sym q.1)

pub one_changes_clear_bandwidth_lo : OneOutcome changes.clear_bandwidth_lo.Reads.Learnt (λ κ e. e.0.now)
one_changes_clear_bandwidth_lo κ a x y s t p q = (by_stored x y tt tt a.0.now p.0 q.0 refl refl, p.1 ∙ sym q.1)

pub one_changes_advance_max_bandwidth_filter : OneOutcome changes.advance_max_bandwidth_filter.Reads.Learnt (λ κ e. e.0.now)
one_changes_advance_max_bandwidth_filter κ a x y s t p q = (by_stored x y tt tt a.0.now p.0 q.0 refl refl, p.1 ∙ sym q.1)

pub one_changes_postpone_min_rtt_timestamp : OneOutcome changes.postpone_min_rtt_timestamp.Reads.Learnt (λ κ e. e.0.now)
one_changes_postpone_min_rtt_timestamp κ a x y s t p q = (only_reply x y (p.0 ∙ sym q.0) (p.1.1 ∙ sym q.1.1), p.1.0 ∙ sym q.1.0)
