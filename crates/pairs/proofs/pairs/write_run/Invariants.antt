-- `write_run` meets its contract. The invariant: no pair that is left is refused, and what is written for them makes the answer. Assumes nothing.
use Prim.Native.Nat.{◌-◌, ◌*◌}
use mathlib.Core.Bool.{false}
use mathlib.Core.Path.{◌≡◌}
use lib.ListN.{length}
use lib.Seq.{sets}
use Rattle.filters.specs.WindowedFilter.{windowed_new}
use Rattle.words.specs.Words.{all_bytes}
use Rattle.pairs.specs.Pairs.{pairs, refuses, run_words}
use Rattle.pairs.proofs.Run.{filter}
use Rattle.pairs.proofs.pairs.write_run.Given as goal

abbrev pub invariant-loop-i : goal.invariant-loop-i
invariant-loop-i l =
    let left = pairs l.src - l.i in
    (length l.out ≡ length l.initial.out)
    × (refuses (filter l.window l.held) l.src (16 * l.i) left ≡ false)
    × (sets l.out (32 * l.i) (all_bytes (run_words (filter l.window l.held) l.src (16 * l.i) left)) ≡ sets l.initial.out 0 (all_bytes (run_words (windowed_new l.window) l.src 0 (pairs l.src))))
