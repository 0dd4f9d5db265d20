-- `dispatch::fault_found` meets its contract: of the words that are read. Assumes nothing.
use Prim.Native.Nat.{ℕ}
use mathlib.Core.List.{List, ◌++◌}
use mathlib.Core.Path.{ap, ◌∙◌}
use lib.ListN.{length}
use Rattle.units.specs.Reply.{reply_word}
use Rattle.state.specs.Faults.{first}
use Rattle.words.proofs.Laws.{length_words_at}
use Rattle.places.specs.Places.{faults_of}
use Rattle.dispatch.proofs.one_call.fault_found.Goals as goal

pub fault_of-requires : goal.fault_of-requires
fault_of-requires c =
    let a = c.args in
    ap length c.call_words-words.ensures ∙ length_words_at a.call.now 0 49

pub returns : goal.returns
returns c =
    let a = c.args in
    c.fault_word.ensures ∙ ap (λ (f : ℕ). reply_word 2 f) (c.fault_of.ensures ∙ ap (λ (words : List ℕ). first (faults_of (words ++ a.lists.now) a.least)) c.call_words-words.ensures)
