-- `cells` meets its contract: as many are read as fields were yielded, each as it is.
use Rattle.std.proofs.Common.{Bor}
use Prim.Native.Nat.{ℕ, ◌≤◌}
use mathlib.Core.Path.{◌≡◌}
use mathlib.Core.List.{List, map}
use lib.ListN.{length, take}
use Rattle.text.specs.Number.{cell_of}
use Rattle.text.proofs.fields.cells.Given as goal

abbrev pub invariant-loop-field : goal.invariant-loop-field
invariant-loop-field l =
    (l.count ≡ length l.yielded)
    × (l.count ≤ 10)
    × (length l.cells ≡ 10)
    × (take l.count l.cells ≡ map (λ (f : Bor (List ℕ)). cell_of f.now) l.yielded)
