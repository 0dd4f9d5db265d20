-- The rows of the table, document 01's with request i's row 10, for a call of a run, by the number of the call
-- (docs/LAYOUT.md): those of the call's definition, of what its words are read as. Definitions only. `ltb a b` tests
-- whether a is below b, `not` is the opposite of a test; the rest as in Steps.antt.
use Rattle.std.specs.Prelude.{ℕ, Bool, true, false, cond, ◌&&◌, ◌||◌, List, leb, eqb}
use Rattle.units.specs.declared.bandwidth.Bandwidth.{Bandwidth}
use Rattle.state.specs.Params.{params_ok}
use Rattle.state.specs.Bounds.{bytes_ok, bytes_or_unset_ok, bandwidth_ok, length_ok, moment_ok, gain_ok}
use Rattle.changes.specs.Changes.{sent_rows, postponed}
use Rattle.state.specs.CongestionEvent.{event_ok}
use Rattle.state.specs.Cycle.{rounds_ok}
use Rattle.state.specs.declared.refusals.Rows.{Rows}
use Rattle.state.specs.NetworkModel.{start_rows, stored_rows, given_rows, judged_rows}
use Rattle.events.specs.Event.{event_rows}
use Rattle.judge.specs.Judge.{growth_rows, queue_rows}
use Rattle.phases.specs.Phases.{entry_rows, exit_rows, slope_rows}
use Rattle.words.specs.Word.{word, float_of}
use Rattle.arguments.specs.Params.{params_from}
use Rattle.arguments.specs.CongestionEvent.{event_from}
use Rattle.arguments.specs.Sample.{sample_from, acked_of}
use Rattle.calls.specs.Enter.{down_at}
use Rattle.drift.specs.Calls.{State}
use Rattle.theorems.specs.Steps.{moment, duration}

-- calls 8, 12, 14, 19 to 21 and 23 to 38 are given nothing: only the stored numbers are tested
abbrev pub is_given_nothing : ℕ → Bool
is_given_nothing n = eqb n 8 || eqb n 12 || eqb n 14 || leb 19 n && leb n 21 || leb 23 n && leb n 38

abbrev bandwidth : ℕ → Bandwidth
bandwidth n = record { 0 = n }

unfoldable pub rows_of : List ℕ → State → Rows
rows_of w s =
    let n = word w 0 in
    let m = s.model in
    let y = s.cycle in
    let p = params_from w in
    let e = event_from w in
    cond (is_given_nothing n) (stored_rows m)
    (cond (eqb n 0)
    (start_rows p (duration (word w 2)) (moment (word w 1)))
    (cond (eqb n 1) (sent_rows m (moment (word w 1)) (word w 2) (word w 4))
    (cond (eqb n 3) (event_rows m p e (sample_from w) (acked_of w))
    (cond (eqb n 4) (given_rows m (event_ok e))
    (cond (eqb n 5 || eqb n 6) (judged_rows m p (event_ok e) false)
    (cond (eqb n 7) (growth_rows m p e)
    (cond (eqb n 9) (queue_rows m p (float_of (word w 1)))
    (cond (eqb n 10) (given_rows m (bandwidth_ok (bandwidth (word w 1)) && gain_ok (float_of (word w 2))))
    (cond (eqb n 11) (given_rows m (bandwidth_ok (bandwidth (word w 1))))
    (cond (eqb n 13) (judged_rows m p true false)
    (cond (eqb n 15 || eqb n 16) (given_rows m (gain_ok (float_of (word w 1))))
    (cond (eqb n 17 || eqb n 18) (given_rows m (bytes_or_unset_ok (word w 1)))
    (cond (eqb n 22) (given_rows m (length_ok (duration (word w 1)) && moment_ok (postponed m (duration (word w 1)))))
    (cond (eqb n 40) (entry_rows m y (params_ok p) true (down_at (word w 1) (word w 2) (word w 3)))
    (cond (eqb n 41) (entry_rows m y true true (moment (word w 1)))
    (cond (eqb n 42) (entry_rows m y true (rounds_ok (word w 1)) (moment (word w 2)))
    (cond (eqb n 43) (entry_rows m y true (bytes_ok (word w 2)) (moment (word w 1)))
    (cond (eqb n 44) (exit_rows m y)
    (cond (eqb n 45) (slope_rows y (word w 1))
    -- a number that is no call's is an argument out of bounds
    (given_rows m false))))))))))))))))))))
