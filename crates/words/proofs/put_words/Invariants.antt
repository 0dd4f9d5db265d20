-- `words::put_words` meets its contract. The invariant: the bytes of the words that are left, stored, make the answer. Assumes nothing.
use Rattle.std.proofs.Common.{◌≡◌, ◌+◌, ◌*◌, length, drop}
use Rattle.std.proofs.lemmas.List.Edits.{sets}
use Rattle.words.specs.Words.{all_bytes}
use Rattle.words.proofs.put_words.Given as goal

abbrev pub invariant-loop-i : goal.invariant-loop-i
invariant-loop-i l = (length l.out ≡ length l.initial.out) × (sets l.out (l.at + 8 * l.i) (all_bytes (drop l.i l.words)) ≡ sets l.initial.out l.at (all_bytes l.words))
