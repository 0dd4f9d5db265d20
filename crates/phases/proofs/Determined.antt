-- Any two replies that the contract of a public function allows coincide: a line for each, about what its contract says (`Reads.Learnt`).
use mathlib.Core.Path.{◌≡◌, sym, ◌∙◌}
use mathlib.Core.Bool.{false, not, ◌&&◌}
use lib.Dec.{eqb}
use borrow.Fn.Enter.{pair≡}
use Rattle.numbers.specs.OneReply.{OneReply, OneOutcome}
use Rattle.units.proofs.refusal.Number.{only_number, only_reply}
use Rattle.state.specs.declared.network_model.NetworkModel.{NetworkModel}
use Rattle.state.specs.declared.cycle.Cycle.{Cycle}
use Rattle.state.specs.NetworkModel.{model_ok}
use Rattle.state.specs.Cycle.{cycle_ok}
use Rattle.state.proofs.FirstFault.{no_two}
use Rattle.phases.specs.Phases.{exit_number}
use Rattle.phases.proofs.phases as phases
use Rattle.phases.proofs.slope as slope

-- an exit is given nothing
no_argument_asked : (m : NetworkModel) (y : Cycle) → eqb (exit_number m y) 2 ≡ false
unfolding exit_number
no_argument_asked m y = no_two (not (model_ok m && cycle_ok y)) false false false false

pub one_phases_exit_probe_down : OneOutcome {S = NetworkModel × Cycle} phases.exit_probe_down.Reads.Learnt (λ κ e. (e.0.now, e.1.0.now))
one_phases_exit_probe_down κ a x y s t p q = (only_number x y _ (no_argument_asked a.0.now a.1.0.now) p.0 q.0, pair≡ (p.1.0 ∙ sym q.1.0) (p.1.1 ∙ sym q.1.1))

pub one_phases_raise_inflight_high_slope : OneOutcome phases.raise_inflight_high_slope.Reads.Learnt (λ κ e. e.0.now)
one_phases_raise_inflight_high_slope κ a x y s t p q = (only_reply x y (p.0 ∙ sym q.0) (p.1.1 ∙ sym q.1.1), p.1.0 ∙ sym q.1.0)

pub one_phases_enter_probe_down : OneOutcome {S = NetworkModel × Cycle} phases.enter_probe_down.Reads.Learnt (λ κ e. (e.0.now, e.1.0.now))
one_phases_enter_probe_down κ a x y s t p q = (only_reply x y (p.0 ∙ sym q.0) (p.1.1.1 ∙ sym q.1.1.1), pair≡ (p.1.0 ∙ sym q.1.0) (p.1.1.0 ∙ sym q.1.1.0))

pub one_phases_enter_probe_cruise : OneOutcome {S = NetworkModel × Cycle} phases.enter_probe_cruise.Reads.Learnt (λ κ e. (e.0.now, e.1.0.now))
one_phases_enter_probe_cruise κ a x y s t p q = (only_reply x y (p.0 ∙ sym q.0) (p.1.1.1 ∙ sym q.1.1.1), pair≡ (p.1.0 ∙ sym q.1.0) (p.1.1.0 ∙ sym q.1.1.0))

pub one_phases_enter_probe_refill : OneOutcome {S = NetworkModel × Cycle} phases.enter_probe_refill.Reads.Learnt (λ κ e. (e.0.now, e.1.0.now))
one_phases_enter_probe_refill κ a x y s t p q = (only_reply x y (p.0 ∙ sym q.0) (p.1.1.1 ∙ sym q.1.1.1), pair≡ (p.1.0 ∙ sym q.1.0) (p.1.1.0 ∙ sym q.1.1.0))

pub one_phases_enter_probe_up : OneOutcome {S = NetworkModel × Cycle} phases.enter_probe_up.Reads.Learnt (λ κ e. (e.0.now, e.1.0.now))
one_phases_enter_probe_up κ a x y s t p q = (only_reply x y (p.0 ∙ sym q.0) (p.1.1.1 ∙ sym q.1.1.1), pair≡ (p.1.0 ∙ sym q.1.0) (p.1.1.0 ∙ sym q.1.1.0))

pub one_slope_slope_raised : OneReply slope.slope_raised.Reads.Learnt
one_slope_slope_raised κ a x y s t p q = p ∙ sym q
