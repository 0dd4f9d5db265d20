-- The state in 51 words, the model's and then the cycle's, and whether words encode one (docs/LAYOUT.md).
use Rattle.std.specs.Prelude.{ℕ, zero, suc, ◌+◌, Bool, true, ◌&&◌, List, ◌++◌, eqb, get_or}
use Rattle.state.specs.declared.network_model.NetworkModel.{NetworkModel}
use Rattle.state.specs.declared.cycle.Cycle.{Cycle}
use Rattle.layout.specs.NetworkModel.{model_from, model_words}
use Rattle.layout.specs.Cycle.{cycle_from, cycle_words}

-- the words of a model and a cycle
abbrev pub state_words : NetworkModel → Cycle → List ℕ
state_words m y = model_words m ++ cycle_words y

-- whether the n words from an index on are the same
unfoldable pub same_words : List ℕ → List ℕ → ℕ → ℕ → Bool
same_words a b at zero = true
same_words a b at (suc n) = eqb (get_or a at 0) (get_or b at 0) && same_words a b (at + 1) n

-- words encode a state where what is read from them is written as they are
unfoldable pub is_state : List ℕ → Bool
is_state w = same_words (state_words (model_from w) (cycle_from w)) w 0 51
