-- An event that is not refused has room for its sums: what the tests of its reply say. Assumes nothing.
use Prim.Native.Nat.{ℕ, ◌+◌, ◌-◌, ◌^◌, ◌≤◌, ◌<◌}
use mathlib.Core.Bool.{true, false, not, ◌&&◌}
use mathlib.Core.List.{List}
use mathlib.Core.Path.{◌≡◌}
use native.Mathlib.Omega.{arith}
use lib.Dec.{ltb, eqb}
use borrow.Author.Tests.{leb-true, not-false}
use Rattle.units.specs.Time.{is_before}
use Rattle.filters.specs.RoundTripCounter.{rounds_full}
use Rattle.state.specs.declared.network_model.NetworkModel.{NetworkModel}
use Rattle.state.specs.declared.params.Params.{Params}
use Rattle.state.specs.Bounds.{total_ok}
use Rattle.state.specs.NetworkModel.{model_ok, model_tests}
use Rattle.state.specs.Params.{params_ok}
use Rattle.state.specs.Parts.{round_ok}
use Rattle.state.proofs.Rows.{None, none_asked, and_left, and_right, or_right, all_at}
use Rattle.state.specs.declared.congestion_event.CongestionEvent.{CongestionEvent}
use Rattle.state.specs.declared.congestion_event.CongestionEventSample.{CongestionEventSample}
use Rattle.state.proofs.Laws.{fails_right}
use Rattle.events.specs.Event.{bytes_lost, is_lower, is_unsent, is_full, event_number}
use Rattle.state.specs.CongestionEvent.{event_ok, sample_ok, sample_tests}

-- bytes lost in the round of a model within bounds
pub round_lost : (m : NetworkModel) → model_ok m ≡ true → m.round.lost ≤ 2 ^ 62
unfolding model_tests round_ok
round_lost m h = leb-true _ _ (and_left _ _ (and_left _ _ (and_left _ _ (and_left _ _ (all_at (model_tests m) 2 h)))))

pub sample_lost : (s : CongestionEventSample) → sample_ok s ≡ true → s.totals.lost ≤ 2 ^ 62
unfolding sample_tests
sample_lost s h = leb-true _ _ (and_right (total_ok s.totals.acked) _ (all_at (sample_tests s) 7 h))

-- of an event that is done no row holds
pub no_row : (m : NetworkModel) (p : Params) (e : CongestionEvent) (s : CongestionEventSample) (acked : List ℕ) → event_number m p e s acked ≡ 0
    → (is_unsent m acked ≡ false) × None (not (model_ok m && params_ok p)) (not (event_ok e && sample_ok s)) (is_before e.time m.moment) (is_lower m s) (is_full m s acked)
unfolding event_number
no_row m p e s acked done = none_asked (not (model_ok m && params_ok p)) (not (event_ok e && sample_ok s)) (is_before e.time m.moment) (is_lower m s) (is_unsent m acked) (is_full m s acked) done

pub room : (m : NetworkModel) (p : Params) (e : CongestionEvent) (s : CongestionEventSample) (acked : List ℕ) → event_number m p e s acked ≡ 0
    → (m.round.lost + bytes_lost m s < 2 ^ 64) × (ltb 0 (bytes_lost m s) ≡ true → eqb m.round.losses (2 ^ 64 - 1) ≡ false)
unfolding is_full
room m p e s acked done =
    let d = (no_row m p e s acked done).1 in
    let a = round_lost m (and_left (model_ok m) (params_ok p) (not-false (model_ok m && params_ok p) d.stored_fine)) in
    let b = sample_lost s (and_right (event_ok e) (sample_ok s) (not-false (event_ok e && sample_ok s) d.argument_fine)) in
    (omega arith, λ l. fails_right (ltb 0 (bytes_lost m s)) (eqb m.round.losses (2 ^ 64 - 1)) (or_right (rounds_full m.rounds acked) (ltb 0 (bytes_lost m s) && eqb m.round.losses (2 ^ 64 - 1)) d.not_full) l)
