-- Which argument the reply to a call of a run names, and which of its own an exported run names (document 02, request
-- b). Definitions only. A reply is one word: `row_in` reads its lowest byte, `fault_in` what stands above it, the kind
-- and 256 times the place (crates/units/specs/Reply.antt); `faults_of` has the tests of a call's words, each with its
-- place and its kind (crates/places/specs/Places.antt, crates/state/specs/Faults.antt); `IsFirst` is in
-- crates/laws/specs/Named.antt.
use Rattle.std.specs.Prelude.{ℕ, not, List, ◌≡◌, eqb}
use Rattle.units.specs.Reply.{row_in, fault_in}
use Rattle.state.specs.Faults.{first}
use Rattle.places.specs.Places.{faults_of}
use Rattle.dispatch.specs.OneCall.{call_word}
use Rattle.laws.specs.Named.{IsFirst}
use Rattle.drift.specs.Calls.{State}
use Rattle.theorems.specs.Rows.{rows_of}
use Rattle.theorems.specs.Steps.{outcome_in}

-- a reply's word, by its row and by the faults that could be named: its lowest byte is the row; only a 2 names a fault,
-- and that is the first
pub record Named (word row : ℕ) (faults : List ℕ) : Type 0 where
  pub row_is : row_in word ≡ row
  pub names : row ≡ 2 → IsFirst faults (fault_in word)
  pub silent : (row ≡ 2 → ⊥) → word ≡ row

-- of a call: row 2 holds exactly where there is a fault
pub record Blames (w : List ℕ) (s : State) : Type 0 where
  pub asked : (rows_of w s).argument ≡ not (eqb (first (faults_of w s.model.minrtt.timestamp)) 0)
  pub word :
      Named (call_word w s.model (outcome_in w s).reply) (outcome_in w s).reply
      (faults_of w s.model.minrtt.timestamp)
