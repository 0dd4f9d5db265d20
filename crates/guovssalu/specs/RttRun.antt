-- The exported run of the round-trip estimator (docs/LAYOUT.md, "The round-trip estimator"): what it replies, and the
-- bytes that it leaves. One call, and what the run itself refuses, are in crates/trips/specs/Trips.antt.
use Rattle.std.specs.Prelude.{ℕ, List, length}
use Rattle.state.specs.Faults.{first, replied}
use Rattle.trips.specs.Trips.{stats_words, stats_in, calls_in, answers_to, left_by, rtt_row, rtt_faults}
use Rattle.guovssalu.specs.Reply.{answered}

-- what it replies, in one word
unfoldable pub rtt_reply : (state src : List ℕ) (room : ℕ) → ℕ
rtt_reply state src room = replied (rtt_row state src room) (first (rtt_faults state src))

-- the answers, and the words of the estimator that the calls leave
unfoldable pub rtt_answers : (state src : List ℕ) → List ℕ
rtt_answers state src = answers_to (stats_in state) src 0 (calls_in src)

unfoldable pub rtt_left : (state src : List ℕ) → List ℕ
rtt_left state src = stats_words (left_by (stats_in state) src 0 (calls_in src))

unfoldable pub rtt_answers_out : (state src out : List ℕ) → List ℕ
rtt_answers_out state src out = answered (rtt_row state src (length out)) (rtt_answers state src) out

-- the new estimator stands in the place of the old
unfoldable pub rtt_state_out : (state src out : List ℕ) → List ℕ
rtt_state_out state src out = answered (rtt_row state src (length out)) (rtt_left state src) state
