-- One call of a run in bytes: its words, and the words of its answer (docs/LAYOUT.md).
use Rattle.std.specs.Prelude.{ℕ, List, ◌∷◌, ◌++◌}
use Rattle.state.specs.declared.network_model.NetworkModel.{NetworkModel}
use Rattle.state.specs.Faults.{first, replied}
use Rattle.places.specs.Places.{faults_of}
use Rattle.words.specs.Words.{words_at}
use Rattle.dispatch.specs.Outcome.{Outcome}

-- the 49 words of the call at an index
abbrev pub own_at : (src : List ℕ) → ℕ → List ℕ
own_at src at = words_at src at 49

-- and after them the words of the lists that the run was lent, of which a call can name a place: word 49 + i is word i
-- of the lists
abbrev pub call_at : (src lists : List ℕ) → ℕ → List ℕ
call_at src lists at = own_at src at ++ lists

-- the word of a call's reply: its row, and where that is 2 the first fault of the call's words, in the model that it
-- was made on
unfoldable pub call_word : (w : List ℕ) → NetworkModel → (row : ℕ) → ℕ
call_word w m row = replied row (first (faults_of w m.minrtt.timestamp))

-- docs/LAYOUT.md, "An answer": the reply, the answer, the event's record: 18 words, 144 bytes
unfoldable pub answer_words : (w : List ℕ) → NetworkModel → Outcome → List ℕ
answer_words w m t = call_word w m t.reply ∷ t.value ∷ t.event
