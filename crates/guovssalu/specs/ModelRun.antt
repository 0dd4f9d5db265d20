-- The exported runs of the model: calls, carried out in order on a state in lent bytes (docs/LAYOUT.md), with lists
-- from which a call can take numbers, or with none. `model_reply` is what they reply, whatever the lists are,
-- `model_row` its row; `answers_out` and `state_out` are the bytes that they leave; one call is `outcome_of` in
-- crates/dispatch/specs/Outcome.antt. A run in bytes that begins with a start is worked out in Examples.antt
-- (`start_examples`), four with events, one of them with lists, in crates/theorems/specs/Examples.antt.
use Rattle.std.specs.Prelude.{ℕ, zero, suc, ◌+◌, ◌*◌, ◌/◌, ◌%◌, Bool, not, ◌&&◌, ◌||◌, List, [], ◌∷◌, ◌++◌, ltb, eqb, length}
use Rattle.state.specs.declared.network_model.NetworkModel.{NetworkModel}
use Rattle.state.specs.Faults.{list_length, unless, first, replied}
use Rattle.state.specs.Refusals.{no_rows, stored, argument, first_of, or_short}
use Rattle.state.specs.declared.cycle.Cycle.{Cycle}
use Rattle.words.specs.Words.{words_at}
use Rattle.layout.specs.NetworkModel.{model_from}
use Rattle.layout.specs.Cycle.{cycle_from}
use Rattle.dispatch.specs.Outcome.{Outcome}
use Rattle.dispatch.specs.Outcome.{outcome_of}
use Rattle.guovssalu.specs.Reply.{answered}
use Rattle.layout.specs.StateWords.{state_words, is_state}
use Rattle.dispatch.specs.OneCall.{call_at, answer_words}

-- a state has 51 words, 408 bytes
abbrev pub state_in : List ℕ → List ℕ
state_in s = words_at s 0 51

-- docs/LAYOUT.md, reply 1: "the state's 408 bytes encode no state"
unfoldable pub encodes_none : List ℕ → Bool
encodes_none s = eqb (length s) 408 && not (is_state (state_in s))

-- how many calls there are: a call has 49 words, 392 bytes
abbrev pub calls_in : List ℕ → ℕ
calls_in src = length src / 392

-- a run without lists
abbrev pub no_lists : List ℕ
no_lists = []

-- the call at an index, carried out
unfoldable pub outcome_at : NetworkModel → Cycle → (src lists : List ℕ) → ℕ → Outcome
outcome_at m y src lists at = outcome_of (call_at src lists at) m y

-- the answers to the n calls from an index on, each carried out in the state that the one before it left
unfoldable pub answers_to : NetworkModel → Cycle → (src lists : List ℕ) → ℕ → ℕ → List ℕ
answers_to m y src lists at zero = []
answers_to m y src lists at (suc n) =
    let t = outcome_at m y src lists at in
    answer_words (call_at src lists at) m t ++ answers_to t.model t.cycle src lists (at + 392) n

-- the words of the state that they leave
unfoldable pub left_by : NetworkModel → Cycle → (src lists : List ℕ) → ℕ → ℕ → List ℕ
left_by m y src lists at zero = state_words m y
left_by m y src lists at (suc n) =
    let t = outcome_at m y src lists at in left_by t.model t.cycle src lists (at + 392) n

-- all of them, from a state in bytes
unfoldable pub answers_from : (state src lists : List ℕ) → List ℕ
answers_from state src lists =
    answers_to (model_from (state_in state)) (cycle_from (state_in state)) src lists 0 (calls_in src)

unfoldable pub words_left : (state src lists : List ℕ) → List ℕ
words_left state src lists =
    left_by (model_from (state_in state)) (cycle_from (state_in state)) src lists 0 (calls_in src)

-- docs/LAYOUT.md, "What the run itself replies", 1, 2 and 7: "Of several the lowest is given; then no byte is written"
unfoldable pub model_row : (state src : List ℕ) (room : ℕ) → ℕ
model_row state src room =
    let uneven = not (eqb (length state) 408) || not (eqb (length src % 392) 0) in
    or_short (first_of (stored (encodes_none state) (argument uneven no_rows))) (ltb room (144 * calls_in src))

-- document 02, request b: a state or calls of a wrong length are a list length, 2.8, at place 1 and at place 2; lists
-- are free, and answers that are short are row 7's
unfoldable pub length_faults : (state src : List ℕ) → List ℕ
length_faults state src =
    unless (eqb (length state) 408) 1 list_length ∷ unless (eqb (length src % 392) 0) 2 list_length ∷ []

-- what they reply, in one word
unfoldable pub model_reply : (state src : List ℕ) (room : ℕ) → ℕ
model_reply state src room = replied (model_row state src room) (first (length_faults state src))

unfoldable pub answers_out : (state src lists out : List ℕ) → List ℕ
answers_out state src lists out = answered (model_row state src (length out)) (answers_from state src lists) out

-- "leaves the new state in the state's bytes", the same place
unfoldable pub state_out : (state src lists out : List ℕ) → List ℕ
state_out state src lists out = answered (model_row state src (length out)) (words_left state src lists) state
