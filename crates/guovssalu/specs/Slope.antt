-- The exported slope: document 01, "One event, in order", Slope: "growth is 2^rounds; rounds become min(rounds + 1,
-- 30); probe_up_bytes is max(window / growth, 1300)". It is the cycle's rule, on the two numbers that it reads.
use Rattle.std.specs.Prelude.{ℕ, not, List, [], ◌∷◌, length, ltb}
use Rattle.state.specs.Bounds.{bytes_ok}
use Rattle.state.specs.Faults.{a_window, unless, first, replied}
use Rattle.state.specs.Refusals.{no_rows, stored, argument, first_of, or_short}
use Rattle.state.specs.Cycle.{rounds_ok}
use Rattle.phases.specs.Slope.{next_rounds, up_bytes}
use Rattle.guovssalu.specs.Reply.{answered}

-- "In the exported slope, rounds over 30 give 1." A window is an argument, a byte count: above 2^40 it is 2. The answer
-- has two words
unfoldable pub slope_row : (rounds window room : ℕ) → ℕ
slope_row rounds window room =
    or_short (first_of (stored (not (rounds_ok rounds)) (argument (not (bytes_ok window)) no_rows))) (ltb room 16)

-- document 02, request b: the window is 2.1, at place 2
unfoldable pub window_faults : (window : ℕ) → List ℕ
window_faults window = unless (bytes_ok window) 2 a_window ∷ []

unfoldable pub slope_reply : (rounds window room : ℕ) → ℕ
slope_reply rounds window room = replied (slope_row rounds window room) (first (window_faults window))

-- the next rounds, then probe_up_bytes
unfoldable pub slope_words : (rounds window : ℕ) → List ℕ
slope_words rounds window = next_rounds rounds ∷ up_bytes window rounds ∷ []

unfoldable pub slope_out : (rounds window : ℕ) → List ℕ → List ℕ
slope_out rounds window out = answered (slope_row rounds window (length out)) (slope_words rounds window) out
