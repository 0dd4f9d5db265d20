-- `words::get_words` meets its contract. The invariant: the words that are left, stored, make the answer. Assumes nothing.
use Rattle.std.proofs.Common.{◌≡◌, ◌+◌, ◌*◌, length, ◌-◌}
use Rattle.std.proofs.lemmas.List.Edits.{sets}
use Rattle.words.specs.Words.{words_at}
use Rattle.words.proofs.get_words.Given as goal

abbrev pub invariant-loop-i : goal.invariant-loop-i
invariant-loop-i l = (length l.out ≡ length l.initial.out) × (sets l.out l.i (words_at l.s (l.at + 8 * l.i) (length l.initial.out - l.i)) ≡ sets l.initial.out 0 (words_at l.s l.at (length l.initial.out)))
