-- `times_fall` meets its contract. The invariant: whether a time falls is decided by the pairs that are left. Assumes nothing.
use Prim.Native.Nat.{◌-◌, ◌*◌}
use mathlib.Core.Path.{◌≡◌}
use Rattle.pairs.specs.Pairs.{pairs}
use Rattle.pairs.specs.Inner.{times_fall}
use Rattle.pairs.proofs.pairs.times_fall.Given as goal

abbrev pub invariant-loop-i : goal.invariant-loop-i
invariant-loop-i l = times_fall l.last l.src (16 * l.i) (pairs l.src - l.i) ≡ times_fall 0 l.src 0 (pairs l.src)
