-- The exported filter run: what it writes (crates/pairs/specs/Pairs.antt has its pairs and its reply).
use Rattle.std.specs.Prelude.{ℕ, List, length}
use Rattle.filters.specs.WindowedFilter.{windowed_new}
use Rattle.state.specs.Faults.{first, replied}
use Rattle.guovssalu.specs.Reply.{answered}
use Rattle.pairs.specs.Pairs.{pairs, run_words, run_row, pairs_faults}

-- what it replies, in one word
unfoldable pub run_reply : (window : ℕ) (src : List ℕ) (room : ℕ) → ℕ
run_reply window src room = replied (run_row window src room) (first (pairs_faults src))

unfoldable pub run_out : (window : ℕ) (src out : List ℕ) → List ℕ
run_out window src out =
    answered (run_row window src (length out)) (run_words (windowed_new window) src 0 (pairs src)) out
