-- `dispatch::send` meets its contract: what its calls ensure, of the four words that are read. Assumes nothing.
use Rattle.std.proofs.Common.{ℕ, ◌∷◌, sym, ap, ◌∙◌, arith}
use lib.Seq.{sets}
use Rattle.words.specs.Words.{all_bytes}
use Rattle.words.proofs.Laws.{get_or_words_at}
use Rattle.state.specs.Faults.{first, replied, sent_faults}
use lib.ListN.{get_or}
use Rattle.words.specs.Words.{words_at}
use Rattle.dispatch.specs.Inner.{send_word}
use Rattle.dispatch.specs.Outcome.{no_event}
use Rattle.dispatch.proofs.one_call.send.Goals as goal

pub returns : goal.returns
unfolding send_word
returns c =
    let args = c.args in
    let call = args.call.now in
    let time = c.get_word.ensures ∙ sym (get_or_words_at call 0 49 1 (omega arith)) in
    let inflight = c.get_word-inflight.ensures ∙ sym (get_or_words_at call 0 49 2 (omega arith)) in
    let packet = c.get_word-packet.ensures ∙ sym (get_or_words_at call 0 49 3 (omega arith)) in
    let bytes = c.get_word-bytes.ensures ∙ sym (get_or_words_at call 0 49 4 (omega arith)) in
    let sent = c.sent_tested-reply.ensures in
    let row = rw (time, inflight, bytes) at sent.row in
    let word = (rw (time, inflight, bytes) at c.sent_word-word.ensures) ∙ ap (λ (n : ℕ). replied n (first (sent_faults (record { 0 = get_or (words_at call 0 49) 1 0 }) (get_or (words_at call 0 49) 2 0) (get_or (words_at call 0 49) 4 0)))) row in
    record {
      value = rw (← time, ← inflight, ← packet, ← bytes) sent.model;
      answer_after = c.put_answer.ensures ∙ ap (λ (n : ℕ). sets args.answer.now 0 (all_bytes (n ∷ 0 ∷ no_event))) word;
    }
