-- The loop of `answer_all`: the bytes held fit before a piece.
use Rattle.std.proofs.Common.{◌≤◌}
use Rattle.console.proofs.pieces.answer_all.Given as goal

abbrev pub invariant-loop : goal.invariant-loop
invariant-loop g l = l.held ≤ 4097
