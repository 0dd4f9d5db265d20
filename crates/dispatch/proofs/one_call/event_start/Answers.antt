-- `dispatch::event_start` meets its contract: what its calls ensure, of the words that are read. Assumes nothing.
use Rattle.std.proofs.Common.{ℕ, List, ◌∷◌, ap, ap₂, ◌∙◌}
use lib.Seq.{sets}
use Rattle.words.specs.Words.{all_bytes}
use Rattle.words.proofs.Laws.{length_words_at}
use Rattle.dispatch.proofs.Alike.{started_number, started_leaves, started_words}
use Rattle.dispatch.proofs.OneCall.{left_by_lem}
use Rattle.dispatch.specs.OneCall.{call_at, call_word}
use Rattle.state.specs.Faults.{first, replied}
use Rattle.places.specs.Places.{faults_of}
use Rattle.dispatch.proofs.one_call.event_start.Goals as goal

pub returns : goal.returns
unfolding call_word
returns c =
    let args = c.args in
    let words = c.call_words-words.ensures in
    let long = length_words_at args.call.now 0 49 in
    let most = rw words at c.greatest_acked.ensures in
    let event = rw (c.sample_from.ensures, c.event_from-event.ensures, c.params_from.ensures, words) at c.start_tested-reply.ensures in
    let number = event.row ∙ started_number _ args.lists.now long args.model.now most in
    let record' = (rw words at c.event_left.ensures) ∙ left_by_lem _ _ _ _ _ _ event.row event.event in
    let after = started_words _ args.lists.now long args.model.now most record' in
    let word = c.reply_word-word.ensures ∙ ap (λ (n : ℕ). replied n (first (faults_of (call_at args.call.now args.lists.now 0) args.model.now.minrtt.timestamp))) number in
    record {
      value = started_leaves _ args.lists.now long args.model.now most event.model;
      answer_after = c.put_answer.ensures ∙ ap₂ (λ (n : ℕ) (record' : List ℕ). sets args.answer.now 0 (all_bytes (n ∷ 0 ∷ record'))) word after;
    }
