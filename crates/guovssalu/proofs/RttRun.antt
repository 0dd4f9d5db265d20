-- What a run of the round-trip estimator that is done has been lent. Assumes nothing.
use Prim.Native.Nat.{ℕ, ◌*◌, ◌≤◌}
use mathlib.Core.Bool.{true, not}
use mathlib.Core.List.{List}
use mathlib.Core.Path.{◌≡◌}
use lib.Dec.{eqb, ltb}
use lib.ListN.{length}
use borrow.Author.Tests.{ltb-false, eqb-true, not-false}
use Rattle.state.proofs.Rows.{none, or_left}
use Rattle.trips.specs.Trips.{calls_in, rtt_row}
use Rattle.guovssalu.proofs.Rows.{done_room, done_first}

-- room for five words a call
pub run_room : (state src : List ℕ) (room : ℕ) → eqb (rtt_row state src room) 0 ≡ true → 40 * calls_in src ≤ room
unfolding rtt_row
run_room state src room h = ltb-false room (40 * calls_in src) (done_room _ (ltb room (40 * calls_in src)) h)

-- as many bytes as an estimator has
pub run_whole : (state src : List ℕ) (room : ℕ) → eqb (rtt_row state src room) 0 ≡ true → length state ≡ 48
unfolding rtt_row
run_whole state src room h =
    let fine = (none _ _ _ _ _ (done_first _ (ltb room (40 * calls_in src)) h)).argument_fine in
    eqb-true (length state) 48 (not-false (eqb (length state) 48) (or_left (not (eqb (length state) 48)) _ fine))
