-- `fault` meets its contract: what is left to look at gives the same as all.
use Prim.Native.Nat.{◌+◌}
use mathlib.Core.Path.{◌≡◌}
use lib.ListN.{drop}
use Rattle.text.specs.Fields.{fault_from}
use Rattle.text.proofs.fields.fault.Given as goal

abbrev pub invariant-loop-k : goal.invariant-loop-k
invariant-loop-k l = fault_from 2 l.rules l.cells ≡ fault_from (l.k + 2) (drop l.k l.rules) (drop l.k l.cells)
