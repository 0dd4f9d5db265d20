-- What a filter run that is done has been lent. Assumes nothing.
use Prim.Native.Nat.{ℕ, ◌*◌, ◌≤◌}
use mathlib.Core.Bool.{true, false}
use mathlib.Core.List.{List}
use mathlib.Core.Path.{◌≡◌}
use lib.Dec.{eqb, ltb}
use borrow.Author.Tests.{ltb-false}
use Rattle.filters.specs.WindowedFilter.{windowed_new}
use Rattle.state.proofs.Rows.{none}
use Rattle.pairs.specs.Pairs.{pairs, refuses, run_row}
use Rattle.guovssalu.proofs.Rows.{done_room, done_first}

-- done, no pair is refused, and there is room for four words a pair
pub run_done :
    (window : ℕ) (src : List ℕ) (room : ℕ) → eqb (run_row window src room) 0 ≡ true →
    (refuses (windowed_new window) src 0 (pairs src) ≡ false) × (32 * pairs src ≤ room)
unfolding run_row
run_done window src room h =
    let short = ltb room (32 * pairs src) in
    ((none _ _ _ _ _ (done_first _ short h)).in_order, ltb-false room (32 * pairs src) (done_room _ short h))
