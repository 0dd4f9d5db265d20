-- A call that is done leaves model and cycle within their bounds. Assumes nothing.
use Rattle.std.specs.Prelude.{Some}
use Prim.Native.Nat.{ℕ, ◌+◌, ◌^◌}
use mathlib.Core.Bool.{Bool, true, false}
use mathlib.Core.Path.{◌≡◌, refl}
use native.Mathlib.Nat.{div-le_self}
use native.Mathlib.Omega.{arith}
use lib.ListN.{set}
use borrow.Author.Tests.{leb-true, le-leb}
use Rattle.units.specs.declared.time.Moment.{Moment}
use Rattle.state.specs.declared.network_model.NetworkModel.{NetworkModel}
use Rattle.state.specs.declared.params.Params.{Params}
use Rattle.state.specs.NetworkModel.{model_ok, restart_next, clear_inflight_next, clear_bandwidth_next, advance_next}
use Rattle.state.specs.Params.{params_ok}
use Rattle.state.specs.Bounds.{moment_ok, bytes_ok}
use Rattle.state.specs.declared.cycle.Cycle.{Cycle}
use Rattle.state.specs.declared.cycle.CyclePhase.{CyclePhase}
use Rattle.state.specs.declared.cycle.CyclePhase.TheVariants.{Up, Cruise, Refill}
use Rattle.state.specs.Cycle.{wait_ok, rounds_ok, cycle_tests, cycle_ok, cycle_new, fresh_number, stay_from}
use Rattle.phases.specs.Slope.{next_rounds, up_bytes, slope_raised}
use Rattle.phases.specs.Phases.{restarted_at, is_down, exit_number, exit_model, exit_cycle, left_model, left_cycle, slope_number, slope_cycle, down_number, down_cycle, cycle_in, capped_by_high, cruise_number, cruise_model, cruise_cycle, refill_number, refill_model, refilled, refill_cycle, up_number, up_cycle}
use Rattle.phases.proofs.Accepted as accepted
use Rattle.laws.proofs.Model.{arms, high_ok, moment_kept, restart_kept, cap_kept, clear_inflight_kept, clear_bandwidth_kept, advance_kept}
use Rattle.state.proofs.Rows.{all_put, row_argument}

-- ---- the steps of the model keep its bounds
pub restarted_kept : (m : NetworkModel) (now : Moment) → model_ok m ≡ true → moment_ok now ≡ true → model_ok (restarted_at m now) ≡ true
unfolding restarted_at
restarted_kept m now h k = moment_kept (restart_next m) now (restart_kept m h) k

pub exit_model_kept : (m : NetworkModel) (c : Cycle) → model_ok m ≡ true → model_ok (exit_model m c) ≡ true
unfolding exit_model
exit_model_kept m c h = arms model_ok c.advanced m (advance_next m) h (advance_kept m h)

pub left_model_kept : (m : NetworkModel) (c : Cycle) → model_ok m ≡ true → model_ok (left_model m c) ≡ true
unfolding left_model
left_model_kept m c h = arms model_ok (is_down c.stay.phase) (exit_model m c) m (exit_model_kept m c h) h

-- ---- the steps of the cycle keep its bounds
pub exit_cycle_kept : (c : Cycle) → cycle_ok c ≡ true → cycle_ok (exit_cycle c) ≡ true
unfolding exit_cycle cycle_tests
exit_cycle_kept c h = arms cycle_ok c.advanced c (record { stay = c.stay; wait = c.wait; slope = c.slope; advanced = true; probing = c.probing; last = c.last }) h h

pub left_cycle_kept : (c : Cycle) → cycle_ok c ≡ true → cycle_ok (left_cycle c) ≡ true
unfolding left_cycle
left_cycle_kept c h = arms cycle_ok (is_down c.stay.phase) (exit_cycle c) c (exit_cycle_kept c h) h

pub in_kept : (c : Cycle) (phase : CyclePhase) (now : Moment) (probing : Bool) → cycle_ok c ≡ true → moment_ok now ≡ true → cycle_ok (cycle_in c phase now probing) ≡ true
unfolding cycle_tests cycle_in stay_from
in_kept c phase now probing h k = all_put (cycle_tests c) 0 (moment_ok now) h k

pub refilled_kept : (c : Cycle) (rounds : ℕ) → cycle_ok c ≡ true → rounds_ok rounds ≡ true → cycle_ok (refilled c rounds) ≡ true
unfolding cycle_tests refilled
refilled_kept c rounds h k = all_put (set (cycle_tests c) 3 (rounds_ok rounds)) 5 true (all_put (cycle_tests c) 3 (rounds_ok rounds) h k) refl

pub up_bytes_ok_lem : (window rounds : ℕ) → bytes_ok window ≡ true → bytes_ok (up_bytes window rounds) ≡ true
up_bytes_ok_lem window rounds h = le-leb (up_bytes window rounds) (2 ^ 40) (omega (arith, div-le_self window (2 ^ rounds), leb-true window (2 ^ 40) h))

pub raised_kept : (c : Cycle) (window : ℕ) → cycle_ok c ≡ true → bytes_ok window ≡ true → cycle_ok (slope_cycle c window) ≡ true
unfolding cycle_tests slope_cycle slope_raised
raised_kept c window h k =
    let r = next_rounds c.slope.rounds in
    all_put (set (cycle_tests c) 3 (rounds_ok r)) 4 (bytes_ok (up_bytes window c.slope.rounds))
    (all_put (cycle_tests c) 3 (rounds_ok r) h (le-leb r 30 (omega arith)))
    (up_bytes_ok_lem window c.slope.rounds k)

-- ---- a call that is done leaves both within their bounds
new_kept : (now : Moment) → moment_ok now ≡ true → cycle_ok (cycle_new now) ≡ true
unfolding cycle_tests cycle_new stay_from
new_kept now k = rw k

pub fresh_kept : (now : Moment) → fresh_number now ≡ 0 → cycle_ok (cycle_new now) ≡ true
unfolding fresh_number
fresh_kept now h = new_kept now (row_argument false (moment_ok now) false false false h)

pub down_kept : (m : NetworkModel) (c : Cycle) (p : Params) (high risky : Bool) (now : Moment) → down_number m c p now ≡ 0 → (model_ok (restarted_at m now) ≡ true) × (cycle_ok (down_cycle c p high risky now) ≡ true)
unfolding cycle_tests down_cycle stay_from
down_kept m c p high risky now done =
    let k = accepted.entry_moment m c (params_ok p) true now done in
    let l = cycle_tests c in
    let t = moment_ok now in
    let w = wait_ok (Some (record { 0 = p.base.0 + 500_000 })) in (
      restarted_kept m now (accepted.entry_model m c (params_ok p) true now done) k,
      all_put (set (set (set l 0 t) 1 t) 2 w) 4 true
          (all_put (set (set l 0 t) 1 t) 2 w (all_put (set l 0 t) 1 t (all_put l 0 t (accepted.entry_cycle m c (params_ok p) true now done) k) k)
          (le-leb (p.base.0 + 500_000) (2 ^ 36 + 500_000) (omega (arith, leb-true p.base.0 (2 ^ 36) (accepted.down_base m c p now done)))))
          refl,
    )

pub cruise_kept : (m : NetworkModel) (c : Cycle) (now : Moment) → cruise_number m c now ≡ 0 → (model_ok (cruise_model m c now) ≡ true) × (cycle_ok (cruise_cycle c now) ≡ true)
unfolding cruise_model cruise_cycle
cruise_kept m c now done =
    let k = accepted.entry_moment m c true true now done in
    let left = left_model_kept m c (accepted.entry_model m c true true now done) in (
      moment_kept (capped_by_high (left_model m c)) now (cap_kept (left_model m c) (left_model m c).high left (high_ok (left_model m c) left)) k,
      in_kept (left_cycle c) Cruise now false (left_cycle_kept c (accepted.entry_cycle m c true true now done)) k,
    )

pub refill_kept : (m : NetworkModel) (c : Cycle) (rounds : ℕ) (now : Moment) → refill_number m c rounds now ≡ 0 → (model_ok (refill_model m c now) ≡ true) × (cycle_ok (refill_cycle c rounds now) ≡ true)
unfolding refill_model refill_cycle
refill_kept m c rounds now done =
    let a = rounds_ok rounds in
    let k = accepted.entry_moment m c true a now done in
    let left = left_model_kept m c (accepted.entry_model m c true a now done) in (
      restarted_kept (clear_inflight_next (clear_bandwidth_next (left_model m c))) now (clear_inflight_kept (clear_bandwidth_next (left_model m c)) (clear_bandwidth_kept (left_model m c) left)) k,
      refilled_kept (cycle_in (left_cycle c) Refill now false) rounds
          (in_kept (left_cycle c) Refill now false (left_cycle_kept c (accepted.entry_cycle m c true a now done)) k) (accepted.entry_argument m c true a now done),
    )

pub up_kept : (m : NetworkModel) (c : Cycle) (now : Moment) (window : ℕ) → up_number m c now window ≡ 0 → (model_ok (restarted_at m now) ≡ true) × (cycle_ok (up_cycle c now window) ≡ true)
unfolding up_cycle
up_kept m c now window done =
    let a = bytes_ok window in
    let k = accepted.entry_moment m c true a now done in (
      restarted_kept m now (accepted.entry_model m c true a now done) k,
      raised_kept (cycle_in c Up now true) window (in_kept c Up now true (accepted.entry_cycle m c true a now done) k) (accepted.entry_argument m c true a now done),
    )

pub exit_kept : (m : NetworkModel) (c : Cycle) → exit_number m c ≡ 0 → (model_ok (exit_model m c) ≡ true) × (cycle_ok (exit_cycle c) ≡ true)
exit_kept m c done = (exit_model_kept m c (accepted.exit_model_lem m c done), exit_cycle_kept c (accepted.exit_cycle_lem m c done))

pub slope_kept : (c : Cycle) (window : ℕ) → slope_number c window ≡ 0 → cycle_ok (slope_cycle c window) ≡ true
slope_kept c window done = raised_kept c window (accepted.slope_cycle_lem c window done) (accepted.slope_window c window done)
