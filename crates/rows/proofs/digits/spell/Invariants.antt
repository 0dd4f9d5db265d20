-- `spell` meets its contract: the digits still to come, and those that stand.
use Rattle.std.proofs.Common.{◌≡◌, length, drop, ◌++◌}
use Rattle.rows.specs.Digits.{digits_of}
use Rattle.rows.proofs.digits.spell.Given as goal

abbrev pub invariant-loop-i : goal.invariant-loop-i
invariant-loop-i l =
    (length l.out ≡ length l.initial.out)
    × (digits_of (length l.initial.out) l.n ≡ digits_of l.i l.rest ++ drop l.i l.out)
