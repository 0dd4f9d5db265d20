-- `meets_refusal` meets its contract. The invariant: the pairs that are left decide whether one is refused. Assumes nothing.
use Prim.Native.Nat.{◌-◌, ◌*◌}
use mathlib.Core.Path.{◌≡◌}
use Rattle.filters.specs.WindowedFilter.{windowed_new}
use Rattle.pairs.specs.Pairs.{pairs, refuses}
use Rattle.pairs.proofs.pairs.meets_refusal.Given as goal

abbrev pub invariant-loop-i : goal.invariant-loop-i
invariant-loop-i l = refuses l.filter l.src (16 * l.i) (pairs l.src - l.i) ≡ refuses (windowed_new l.window) l.src 0 (pairs l.src)
