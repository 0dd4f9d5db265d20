-- What parts of the code are stated with. These definitions follow the code: no exported contract and no theorem cites
-- them, and a reader need not believe them.
use Rattle.std.specs.Prelude.{ℕ, cond, List, leb, eqb}
use Rattle.state.specs.declared.network_model.NetworkModel.{NetworkModel}
use Rattle.state.specs.declared.cycle.Cycle.{Cycle}
use Rattle.words.specs.Word.{word}
use Rattle.state.specs.Faults.{first, replied, sent_faults}
use Rattle.dispatch.specs.Outcome.{Outcome, send_number, is_judged, is_asked, start_outcome, judge_outcome, ask_outcome, enter_outcome, change_outcome}

-- all calls but 1, 3 and 4
unfoldable pub other_outcome : List ℕ → NetworkModel → Cycle → Outcome
other_outcome w m y =
    cond (eqb (word w 0) 0) (start_outcome w)
    (cond (is_judged (word w 0)) (judge_outcome w m y)
    (cond (is_asked (word w 0)) (ask_outcome w m y)
    (cond (leb 40 (word w 0)) (enter_outcome w m y) (change_outcome w m y))))

-- the word of a send's reply, from the words that it reads
unfoldable pub send_word : List ℕ → NetworkModel → ℕ
send_word w m = replied (send_number w m) (first (sent_faults (record { 0 = word w 1 }) (word w 2) (word w 4)))
