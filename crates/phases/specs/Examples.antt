-- document 01, "Marked examples": 11, about the slope.
use Rattle.std.specs.Prelude.{ℕ, Bool, false, ◌&&◌, List, [], ◌∷◌, eqb, Option, None, Some}
use Rattle.state.specs.declared.cycle.Slope.{Slope}
use Rattle.phases.specs.Slope.{slope_raised}

abbrev pub bytes_are : Option ℕ → ℕ → Bool
bytes_are None n = false
bytes_are (Some b) n = eqb b n

-- the slope that follows the rounds given, with the window 26,000
abbrev pub raised_from : ℕ → Slope
raised_from rounds =
    slope_raised (record { rounds = rounds; bytes = None; acked = 0; applimited = false }) 26_000

abbrev pub gives : Slope → ℕ → ℕ → Bool
gives s bytes rounds = bytes_are s.bytes bytes && eqb s.rounds rounds

unfoldable pub slope_examples : List Bool
slope_examples =
    -- 11. Window 26,000: rounds 0 gives 26,000, rounds 1 gives 13,000, rounds 30 gives 1300 and stays 30
    gives (raised_from 0) 26_000 1
    ∷ gives (raised_from 1) 13_000 2
    ∷ gives (raised_from 30) 1_300 30
    ∷ []
