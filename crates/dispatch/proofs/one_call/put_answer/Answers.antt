-- `dispatch::put_answer` meets its contract: two stores side by side are one. Assumes nothing.
use Rattle.std.proofs.Common.{ℕ, List, [], ◌∷◌, sym, ap, ◌∙◌}
use lib.Seq.{sets}
use Rattle.words.specs.Words.{low_bytes, all_bytes}
use Rattle.words.proofs.Stores.{sets-append}
use Rattle.words.proofs.Laws.{all_bytes_append}
use Rattle.dispatch.proofs.one_call.put_answer.Goals as goal

pub returns : goal.returns
unfolding all_bytes low_bytes
returns c = let args = c.args in
    let out = args.answer.now in
    let head = args.reply ∷ args.value ∷ [] in
    let event = args.event.now in
    c.put_words-2.ensures
    ∙ ap (λ (l : List ℕ). sets l 16 (all_bytes event)) c.put_words.ensures
    ∙ sets-append out 0 (all_bytes head) (all_bytes event)
    ∙ ap (sets out 0) (sym (all_bytes_append head event))
