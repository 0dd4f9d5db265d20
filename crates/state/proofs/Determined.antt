-- Any two replies that the contract of a public function allows coincide: a line for each, about what its contract says (`Reads.Learnt`).
use mathlib.Core.Path.{◌≡◌, refl, sym, ◌∙◌}
use Rattle.numbers.specs.OneReply.{OneReply, OneOutcome}
use Rattle.units.proofs.refusal.Number.{number_injective, reply_injective, refusal_injective, only_reply}
use Rattle.state.specs.declared.network_model.NetworkModel.{NetworkModel}
use Rattle.std.specs.Prelude.{Result}
use Rattle.units.specs.declared.refusal.Refusal.{Refusal}
use Rattle.state.specs.declared.cycle.Cycle.{Cycle}
use Prim.Native.Nat.{ℕ}
use mathlib.Core.Bool.{Bool, false, not, ◌&&◌}
use Rattle.units.specs.Reply as Replies
use Rattle.state.specs.declared.params.Params.{Params}
use Rattle.state.specs.NetworkModel.{model_ok, model_new, one, stored_number, headroom_number}
use Rattle.state.specs.Cycle.{cycle_new}
use Rattle.state.specs.Answers.{zero_length, zero_moment}
use Rattle.state.specs.Params.{params_ok}
use Rattle.state.proofs.FirstFault.{no_two}
use lib.Ieee.{Float}
use Rattle.units.specs.declared.bandwidth.Bandwidth.{Bandwidth}
use Rattle.units.specs.declared.time.Duration.{Duration}
use Rattle.units.specs.declared.time.Moment.{Moment}
use Rattle.state.proofs.bounds as bounds
use Rattle.state.proofs.congestion_event.CongestionEvent as congestion-event-record
use Rattle.state.proofs.congestion_event.CongestionEventSample as congestion-event-sample
use Rattle.state.proofs.cycle.Stay as cycle-stay
use Rattle.state.proofs.cycle.Cycle as cycle-cycle
use Rattle.state.proofs.faults as faults
use Rattle.state.proofs.faults.Kind as faults-kind
use Rattle.state.proofs.network_model.NetworkModel as network-model-networkmodel
use Rattle.state.proofs.params.Params as params-params
use Rattle.state.proofs.parts.Round as parts-round
use Rattle.state.proofs.parts.Totals as parts-totals
use Rattle.state.proofs.refusals as refusals
use Rattle.state.proofs.refusals.Rows as refusals-rows
use Rattle.state.proofs.refusals.Cause as refusals-cause
use Rattle.state.proofs.Causes.{only_cause}

-- a reply by its number, its fault and what it answers; by its number alone where that is of a call that is given nothing
pub one_answer : {A : Type 0} (x y : Result A Refusal) (d v : A) (n f : ℕ) → Replies.number x ≡ n → Replies.number y ≡ n →
    Replies.fault x ≡ f → Replies.fault y ≡ f → Replies.kept x d ≡ v → Replies.kept y d ≡ v → x ≡ y
one_answer x y d v n f p q e g h k = reply_injective x y d (p ∙ sym q) (e ∙ sym g) (h ∙ sym k)

pub by_stored : {A : Type 0} (x y : Result A Refusal) (d v : A) (m : NetworkModel) → Replies.number x ≡ stored_number m →
    Replies.number y ≡ stored_number m → Replies.kept x d ≡ v → Replies.kept y d ≡ v → x ≡ y
unfolding stored_number
by_stored x y d v m p q h k = number_injective x y d (stored_number m) (no_two (not (model_ok m)) false false false false) p q (h ∙ sym k)

pub by_stored_with : {A : Type 0} (x y : Result A Refusal) (d v : A) (m : NetworkModel) (ps : Params) → Replies.number x ≡ headroom_number m ps →
    Replies.number y ≡ headroom_number m ps → Replies.kept x d ≡ v → Replies.kept y d ≡ v → x ≡ y
unfolding headroom_number
by_stored_with x y d v m ps p q h k = number_injective x y d (headroom_number m ps) (no_two (not (model_ok m && params_ok ps)) false false false false) p q (h ∙ sym k)

pub one_bounds_bytes_ok : OneReply bounds.bytes_ok.Reads.Learnt
one_bounds_bytes_ok κ a x y s t p q = p ∙ sym q

pub one_bounds_bytes_or_unset_ok : OneReply bounds.bytes_or_unset_ok.Reads.Learnt
one_bounds_bytes_or_unset_ok κ a x y s t p q = p ∙ sym q

pub one_bounds_total_ok : OneReply bounds.total_ok.Reads.Learnt
one_bounds_total_ok κ a x y s t p q = p ∙ sym q

pub one_bounds_moment_ok : OneReply bounds.moment_ok.Reads.Learnt
one_bounds_moment_ok κ a x y s t p q = p ∙ sym q

pub one_bounds_length_ok : OneReply bounds.length_ok.Reads.Learnt
one_bounds_length_ok κ a x y s t p q = p ∙ sym q

pub one_bounds_bandwidth_ok : OneReply bounds.bandwidth_ok.Reads.Learnt
one_bounds_bandwidth_ok κ a x y s t p q = p ∙ sym q

pub one_bounds_maybe_ok : OneReply bounds.maybe_ok.Reads.Learnt
one_bounds_maybe_ok κ a x y s t p q = p ∙ sym q

pub one_bounds_gain_ok : OneReply bounds.gain_ok.Reads.Learnt
one_bounds_gain_ok κ a x y s t p q = p ∙ sym q

pub one_refusals_or_short : OneReply refusals.or_short.Reads.Learnt
one_refusals_or_short κ a x y s t p q = only_reply x y (p.0 ∙ sym q.0) (p.1 ∙ sym q.1)

pub one_refusals_refusal : OneReply refusals.refusal.Reads.Learnt
one_refusals_refusal κ a x y s t p q = only_reply x y (p.0 ∙ sym q.0) (p.1 ∙ sym q.1)

pub one_refusals_rows_first : OneReply refusals-rows.first.Reads.Learnt
one_refusals_rows_first κ a x y s t p q = only_cause x y (p ∙ sym q)

pub one_refusals_cause_row : OneReply refusals-cause.row.Reads.Learnt
one_refusals_cause_row κ a x y s t p q = p ∙ sym q

pub one_refusals_cause_named : OneReply refusals-cause.named.Reads.Learnt
one_refusals_cause_named κ a x y s t p q = refusal_injective x y (p.0 ∙ sym q.0) (p.1 ∙ sym q.1)

pub one_congestion_event_record_ok : OneReply congestion-event-record.ok.Reads.Learnt
one_congestion_event_record_ok κ a x y s t p q = p ∙ sym q

pub one_congestion_event_sample_ok : OneReply congestion-event-sample.ok.Reads.Learnt
one_congestion_event_sample_ok κ a x y s t p q = p ∙ sym q

pub one_faults_unless : OneReply faults.unless.Reads.Learnt
one_faults_unless κ a x y s t p q = p ∙ sym q

pub one_faults_kind_unless : OneReply faults-kind.unless.Reads.Learnt
one_faults_kind_unless κ a x y s t p q = p ∙ sym q

pub one_faults_first_of : OneReply faults.first_of.Reads.Learnt
one_faults_first_of κ a x y s t p q = p ∙ sym q

pub one_faults_start_fault : OneReply faults.start_fault.Reads.Learnt
one_faults_start_fault κ a x y s t p q = p ∙ sym q

pub one_faults_sent_fault : OneReply faults.sent_fault.Reads.Learnt
one_faults_sent_fault κ a x y s t p q = p ∙ sym q

pub one_faults_started_fault : OneReply faults.started_fault.Reads.Learnt
one_faults_started_fault κ a x y s t p q = p ∙ sym q

pub one_faults_gain_fault : OneReply faults.gain_fault.Reads.Learnt
one_faults_gain_fault κ a x y s t p q = p ∙ sym q

pub one_faults_bdp_fault : OneReply faults.bdp_fault.Reads.Learnt
one_faults_bdp_fault κ a x y s t p q = p ∙ sym q

pub one_faults_bdp1_fault : OneReply faults.bdp1_fault.Reads.Learnt
one_faults_bdp1_fault κ a x y s t p q = p ∙ sym q

pub one_faults_limit_fault : OneReply faults.limit_fault.Reads.Learnt
one_faults_limit_fault κ a x y s t p q = p ∙ sym q

pub one_faults_postpone_fault : OneReply faults.postpone_fault.Reads.Learnt
one_faults_postpone_fault κ a x y s t p q = p ∙ sym q

pub one_faults_down_fault : OneReply faults.down_fault.Reads.Learnt
one_faults_down_fault κ a x y s t p q = p ∙ sym q

pub one_faults_now_fault : OneReply faults.now_fault.Reads.Learnt
one_faults_now_fault κ a x y s t p q = p ∙ sym q

pub one_faults_refill_fault : OneReply faults.refill_fault.Reads.Learnt
one_faults_refill_fault κ a x y s t p q = p ∙ sym q

pub one_faults_up_fault : OneReply faults.up_fault.Reads.Learnt
one_faults_up_fault κ a x y s t p q = p ∙ sym q

pub one_faults_slope_fault : OneReply faults.slope_fault.Reads.Learnt
one_faults_slope_fault κ a x y s t p q = p ∙ sym q

pub one_congestion_event_record_fault : OneReply congestion-event-record.fault.Reads.Learnt
one_congestion_event_record_fault κ a x y s t p q = p ∙ sym q

pub one_congestion_event_sample_fault : OneReply congestion-event-sample.fault.Reads.Learnt
one_congestion_event_sample_fault κ a x y s t p q = p ∙ sym q

pub one_cycle_stay_from : OneReply cycle-stay.from.Reads.Learnt
one_cycle_stay_from κ a x y s t p q = p ∙ sym q

pub one_cycle_cycle_new : OneReply cycle-cycle.new.Reads.Learnt
one_cycle_cycle_new κ a x y s t p q = one_answer x y (cycle_new zero_moment) _ _ _ p.0 q.0 p.1.1 q.1.1 p.1.0 q.1.0

pub one_cycle_cycle_begin : OneOutcome cycle-cycle.begin.Reads.Learnt (λ κ e. e.0.now)
one_cycle_cycle_begin κ a x y s t p q = (only_reply x y (p.0 ∙ sym q.0) (p.1.1 ∙ sym q.1.1), p.1.0 ∙ sym q.1.0)

pub one_cycle_cycle_ok : OneReply cycle-cycle.ok.Reads.Learnt
one_cycle_cycle_ok κ a x y s t p q = p ∙ sym q

pub one_network_model_networkmodel_ok : OneReply network-model-networkmodel.ok.Reads.Learnt
one_network_model_networkmodel_ok κ a x y s t p q = p ∙ sym q

pub one_network_model_networkmodel_new : OneReply network-model-networkmodel.new.Reads.Learnt
one_network_model_networkmodel_new κ a x y s t p q = one_answer x y (model_new one one false zero_length zero_moment) _ _ _ p.0 q.0 p.1.1 q.1.1 p.1.0 q.1.0

pub one_network_model_networkmodel_begin : OneOutcome network-model-networkmodel.begin.Reads.Learnt (λ κ e. e.0.now)
one_network_model_networkmodel_begin κ a x y s t p q = (only_reply x y (p.0 ∙ sym q.0) (p.1.1 ∙ sym q.1.1), p.1.0 ∙ sym q.1.0)

pub one_network_model_networkmodel_stored : OneReply network-model-networkmodel.stored.Reads.Learnt
one_network_model_networkmodel_stored κ a x y s t p q = by_stored x y tt tt a.0 p q refl refl

pub one_network_model_networkmodel_stored_with : OneReply network-model-networkmodel.stored_with.Reads.Learnt
one_network_model_networkmodel_stored_with κ a x y s t p q = by_stored_with x y tt tt a.0 a.1.0 p q refl refl

pub one_network_model_networkmodel_given : OneReply network-model-networkmodel.given.Reads.Learnt
one_network_model_networkmodel_given κ a x y s t p q = only_reply x y (p.0 ∙ sym q.0) (p.1 ∙ sym q.1)

pub one_network_model_networkmodel_restart_next : OneReply network-model-networkmodel.restart_next.Reads.Learnt
one_network_model_networkmodel_restart_next κ a x y s t p q = p ∙ sym q

pub one_network_model_networkmodel_cap_next : OneReply network-model-networkmodel.cap_next.Reads.Learnt
one_network_model_networkmodel_cap_next κ a x y s t p q = p ∙ sym q

pub one_network_model_networkmodel_clear_inflight_next : OneReply network-model-networkmodel.clear_inflight_next.Reads.Learnt
one_network_model_networkmodel_clear_inflight_next κ a x y s t p q = p ∙ sym q

pub one_network_model_networkmodel_clear_bandwidth_next : OneReply network-model-networkmodel.clear_bandwidth_next.Reads.Learnt
one_network_model_networkmodel_clear_bandwidth_next κ a x y s t p q = p ∙ sym q

pub one_network_model_networkmodel_advance_next : OneReply network-model-networkmodel.advance_next.Reads.Learnt
one_network_model_networkmodel_advance_next κ a x y s t p q = p ∙ sym q

pub one_network_model_networkmodel_bdp_of : OneReply network-model-networkmodel.bdp_of.Reads.Learnt
one_network_model_networkmodel_bdp_of κ a x y s t p q = p ∙ sym q

pub one_params_params_ok : OneReply params-params.ok.Reads.Learnt
one_params_params_ok κ a x y s t p q = p ∙ sym q

pub one_parts_round_new : OneReply parts-round.new.Reads.Learnt
one_parts_round_new κ a x y s t p q = p ∙ sym q

pub one_parts_round_sent : OneReply parts-round.sent.Reads.Learnt
one_parts_round_sent κ a x y s t p q = p ∙ sym q

pub one_parts_totals_ok : OneReply parts-totals.ok.Reads.Learnt
one_parts_totals_ok κ a x y s t p q = p ∙ sym q
