-- `read` meets its contract: what is left to read gives the same as all.
use Prim.Native.Nat.{◌<◌, ◌^◌}
use mathlib.Core.Path.{◌≡◌}
use lib.ListN.{drop}
use Rattle.text.specs.Inner.{read_from}
use Rattle.text.proofs.number.read.Given as goal

abbrev pub invariant-loop-b : goal.invariant-loop-b
invariant-loop-b l = (l.n < 2 ^ 64) × (read_from l.n (drop l.b-index l.s) ≡ read_from 0 l.s)
