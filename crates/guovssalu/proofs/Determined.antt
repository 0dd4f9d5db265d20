-- Any two outcomes that the contract of an exported call allows coincide, the number and the bytes left in lent memory: a line for each, about what its contract says (`Reads.Learnt`).
use mathlib.Core.Path.{◌≡◌, sym, ◌∙◌}
use contract.Lifetimes.{Lfts}
use denote.Triple.Clauses.{AtExit}
use borrow.Fn.Kinds.{Dens, res_t, ended_of}
use Rattle.numbers.specs.OneReply.{OneReply}
use Rattle.guovssalu.proofs.conversions as conversions
use Rattle.guovssalu.proofs.slope.guovssalu_raise_inflight_high_slope as slope
use Rattle.guovssalu.proofs.filter_run.guovssalu_filter_run as filter
use Rattle.guovssalu.proofs.model_run.guovssalu_run as run
use Rattle.guovssalu.proofs.model_run.guovssalu_run_lists as lists
use Rattle.guovssalu.proofs.rtt_run.guovssalu_rtt_run as rtt

pub one_u64_to_f32 : OneReply conversions.guovssalu_u64_to_f32.Reads.Learnt
one_u64_to_f32 κ a x y s t p q = p ∙ sym q

pub one_u64_to_f64 : OneReply conversions.guovssalu_u64_to_f64.Reads.Learnt
one_u64_to_f64 κ a x y s t p q = p ∙ sym q

pub one_f32_to_u64 : OneReply conversions.guovssalu_f32_to_u64.Reads.Learnt
one_f32_to_u64 κ a x y s t p q = p ∙ sym q

pub one_f64_round_to_u64 : OneReply conversions.guovssalu_f64_round_to_u64.Reads.Learnt
one_f64_round_to_u64 κ a x y s t p q = p ∙ sym q

pub one_scale : OneReply conversions.guovssalu_scale.Reads.Learnt
one_scale κ a x y s t p q = p ∙ sym q

pub one_bandwidth_mul_f32 : OneReply conversions.guovssalu_bandwidth_mul_f32.Reads.Learnt
one_bandwidth_mul_f32 κ a x y s t p q = p ∙ sym q

pub one_to_bytes_per_period : OneReply conversions.guovssalu_to_bytes_per_period.Reads.Learnt
one_to_bytes_per_period κ a x y s t p q = p ∙ sym q

pub one_raise_inflight_high_slope :
    (κ : Lfts 1) (a : Dens κ slope.Kinds.ps) (x y : (res_t slope.Kinds.r κ).Denot) (s t : AtExit (ended_of 1 slope.Kinds.ps slope.Kinds.r) κ) →
    slope.Reads.Learnt κ a x s → slope.Reads.Learnt κ a y t → (x ≡ y) × (s.1.1.0.now ≡ t.1.1.0.now)
one_raise_inflight_high_slope κ a x y s t p q = (p.0 ∙ sym q.0, p.1 ∙ sym q.1)

pub one_filter_run :
    (κ : Lfts 2) (a : Dens κ filter.Kinds.ps) (x y : (res_t filter.Kinds.r κ).Denot) (s t : AtExit (ended_of 2 filter.Kinds.ps filter.Kinds.r) κ) →
    filter.Reads.Learnt κ a x s → filter.Reads.Learnt κ a y t → (x ≡ y) × (s.1.1.0.now ≡ t.1.1.0.now)
one_filter_run κ a x y s t p q = (p.0 ∙ sym q.0, p.1 ∙ sym q.1)

pub one_run :
    (κ : Lfts 3) (a : Dens κ run.Kinds.ps) (x y : (res_t run.Kinds.r κ).Denot) (s t : AtExit (ended_of 3 run.Kinds.ps run.Kinds.r) κ) →
    run.Reads.Learnt κ a x s → run.Reads.Learnt κ a y t → (x ≡ y) × ((s.0.now ≡ t.0.now) × (s.1.1.0.now ≡ t.1.1.0.now))
one_run κ a x y s t p q = (p.0 ∙ sym q.0, (p.1.0 ∙ sym q.1.0, p.1.1 ∙ sym q.1.1))

pub one_run_lists :
    (κ : Lfts 4) (a : Dens κ lists.Kinds.ps) (x y : (res_t lists.Kinds.r κ).Denot) (s t : AtExit (ended_of 4 lists.Kinds.ps lists.Kinds.r) κ) →
    lists.Reads.Learnt κ a x s → lists.Reads.Learnt κ a y t → (x ≡ y) × ((s.0.now ≡ t.0.now) × (s.1.1.1.0.now ≡ t.1.1.1.0.now))
one_run_lists κ a x y s t p q = (p.0 ∙ sym q.0, (p.1.0 ∙ sym q.1.0, p.1.1 ∙ sym q.1.1))

pub one_rtt_run :
    (κ : Lfts 3) (a : Dens κ rtt.Kinds.ps) (x y : (res_t rtt.Kinds.r κ).Denot) (s t : AtExit (ended_of 3 rtt.Kinds.ps rtt.Kinds.r) κ) →
    rtt.Reads.Learnt κ a x s → rtt.Reads.Learnt κ a y t → (x ≡ y) × ((s.0.now ≡ t.0.now) × (s.1.1.0.now ≡ t.1.1.0.now))
one_rtt_run κ a x y s t p q = (p.0 ∙ sym q.0, (p.1.0 ∙ sym q.1.0, p.1.1 ∙ sym q.1.1))
