-- `words::get_words` meets its contract: one word more, as the invariant says. Assumes nothing.
use Rattle.std.proofs.Common.{length, arith}
use lib.ListN.{length-set}
use Rattle.std.proofs.lemmas.List.Edits.{sets}
use Rattle.words.specs.Words.{words_at}
use Rattle.words.proofs.Turns.{fill_word}
use Rattle.words.proofs.get_words.Goals as goal

pub loop-i-preserved : goal.loop-i-preserved
loop-i-preserved c = let loop = c.loop-i in
    let args = c.args in
    let n = length args.out.now in (
      simp length-set loop.invariant.0,
      rw c.get_word.ensures (fill_word args.s.now loop.out (sets args.out.now 0 (words_at args.s.now args.at n)) args.at loop.i n (omega arith) loop.invariant.1),
    )
