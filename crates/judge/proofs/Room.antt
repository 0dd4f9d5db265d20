-- A call that is not refused has room for its count: what the tests of its reply say. Assumes nothing.
use Prim.Native.Nat.{ℕ, ◌-◌, ◌^◌}
use mathlib.Core.Bool.{true, false, not, ◌&&◌}
use mathlib.Core.Path.{◌≡◌, sym, ap, ◌∙◌}
use lib.Dec.{eqb}
use lib.Ieee.{Float}
use borrow.Author.Tests.{eqb-true}
use Rattle.filters.specs.MaxBandwidthFilter.{max_get}
use Rattle.state.specs.declared.network_model.NetworkModel.{NetworkModel}
use Rattle.state.specs.declared.params.Params.{Params}
use Rattle.state.proofs.Rows.{none, and_both}
use Rattle.state.specs.declared.congestion_event.CongestionEvent.{CongestionEvent}
use Rattle.state.proofs.Laws.{fails_right}
use Rattle.judge.specs.Judge.{judged_number, has_grown, counts_flat, growth_full, is_queueing, queue_number}

pub growth_room : (m : NetworkModel) (p : Params) (e : CongestionEvent) (n : ℕ) → n ≡ judged_number m p e (growth_full m p e) → eqb n 0 ≡ true
    → has_grown m.growth (max_get m.maxbw) p ≡ false → counts_flat m.growth e.state ≡ true → eqb m.growth.flat (2 ^ 64 - 1) ≡ false
unfolding judged_number growth_full
growth_room m p e n i z h k =
    let d = none _ _ _ _ _ (sym i ∙ eqb-true n 0 z) in
    fails_right (not (has_grown m.growth (max_get m.maxbw) p) && counts_flat m.growth e.state) (eqb m.growth.flat (2 ^ 64 - 1)) d.not_full
    (and_both (not (has_grown m.growth (max_get m.maxbw) p)) (counts_flat m.growth e.state) (ap not h) k)

pub queue_room : (m : NetworkModel) (p : Params) (g : Float) (n : ℕ) → n ≡ queue_number m p g → eqb n 0 ≡ true → is_queueing m g ≡ true → eqb m.growth.queueing (2 ^ 64 - 1) ≡ false
unfolding queue_number
queue_room m p g n i z h =
    let d = none _ _ _ _ _ (sym i ∙ eqb-true n 0 z) in
    fails_right (is_queueing m g) (eqb m.growth.queueing (2 ^ 64 - 1)) d.not_full h
