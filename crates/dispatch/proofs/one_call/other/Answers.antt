-- `dispatch::other` meets its contract: what its calls ensure, of the words that are read. Assumes nothing.
use Rattle.std.proofs.Common.{ℕ, ◌∷◌, ap, ap₂, ◌∙◌}
use lib.Seq.{sets}
use Rattle.words.specs.Words.{all_bytes}
use Rattle.state.specs.Faults.{first, replied}
use Rattle.places.specs.Places.{faults_of}
use Rattle.dispatch.specs.OneCall.{call_at, call_word, answer_words}
use Rattle.dispatch.specs.Outcome.{no_event}
use Rattle.dispatch.proofs.OneCall.{unwrapped, event_other}
use Rattle.dispatch.proofs.one_call.other.Goals as goal

pub returns-clause-answer_after : goal.returns-clause-answer_after
unfolding call_word answer_words
returns-clause-answer_after c =
    let args = c.args in
    let done = rw c.call_words-words.ensures at c.carry_out-reply.ensures in
    let word = c.reply_word-word.ensures ∙ ap (λ (n : ℕ). replied n (first (faults_of (call_at args.call.now args.lists.now 0) args.model.now.minrtt.timestamp))) done.reply in
    let value = c.unwrap_or.ensures ∙ unwrapped c.carry_out-reply.result 0 ∙ done.value in
    c.put_answer.ensures
    ∙ ap₂ (λ (n v : ℕ). sets args.answer.now 0 (all_bytes (n ∷ v ∷ no_event))) word value
    ∙ rw (event_other _ args.model.now args.cycle.now)
