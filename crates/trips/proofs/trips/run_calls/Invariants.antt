-- `run_calls` meets its contract: the invariant: the answers to the calls that are left, stored, make the answer, and those calls leave the estimator that is to be left. Assumes nothing.
use Prim.Native.Nat.{◌-◌, ◌*◌}
use mathlib.Core.Path.{◌≡◌}
use lib.ListN.{length}
use lib.Seq.{sets}
use Rattle.words.specs.Words.{all_bytes}
use Rattle.trips.specs.Trips.{calls_in, answers_to, left_by}
use Rattle.trips.proofs.trips.run_calls.Given as goal

abbrev pub invariant-loop-i : goal.invariant-loop-i
invariant-loop-i l =
    let left = calls_in l.calls - l.i in
    (length l.answers ≡ length l.initial.answers)
    × (sets l.answers (40 * l.i) (all_bytes (answers_to l.s l.calls (32 * l.i) left)) ≡ sets l.initial.answers 0 (all_bytes (answers_to l.initial.s l.calls 0 (calls_in l.calls))))
    × (left_by l.s l.calls (32 * l.i) left ≡ left_by l.initial.s l.calls 0 (calls_in l.calls))
