-- The slope of a probe for more bandwidth: document 01, "Slope"; probe_bw.rs, raise_inflight_high_slope.
use Rattle.std.specs.Prelude.{ℕ, min, max, ◌+◌, ◌/◌, ◌^◌, Some}
use Rattle.state.specs.declared.cycle.Slope.{Slope}

-- "growth is 2^rounds; rounds become min(rounds + 1, 30); probe_up_bytes is max(window / growth, 1300)"
abbrev pub next_rounds : ℕ → ℕ
next_rounds rounds = min (rounds + 1) 30

abbrev pub up_bytes : ℕ → ℕ → ℕ
up_bytes window rounds = max (window / 2 ^ rounds) 1300

unfoldable pub slope_raised : Slope → ℕ → Slope
slope_raised s window =
    record {
      rounds = next_rounds s.rounds;
      bytes = Some (up_bytes window s.rounds);
      acked = s.acked;
      applimited = s.applimited;
    }
