-- `sift` meets its contract: what is left to sift gives the same as all (proofs/Sifting.antt).
use Rattle.std.proofs.Common.{length, ◌-◌, ◌≤◌}
use Rattle.mending.proofs.Sifting.{Done}
use Rattle.mending.proofs.sift.sift.Given as goal

abbrev pub invariant-loop-sifted : goal.invariant-loop-sifted
invariant-loop-sifted l =
    (Done l.initial.sifted.mend l.s l.from l.initial.out l.out l.initial.list l.list l.sifted.mend l.sifted.at l.sifted.kept l.sifted.listed)
    × (l.sifted.kept ≤ length l.initial.out)
    × (l.sifted.listed ≤ length l.initial.list)

abbrev pub decreases-loop-sifted : goal.decreases-loop-sifted
decreases-loop-sifted l = length l.s - l.sifted.at
