-- document 01, "Marked examples": 8, about a reduction.
use Rattle.std.specs.Prelude.{◌-◌, ◌^◌, Bool, true, List, [], ◌∷◌, eqb, None}
use Rattle.std.specs.Float.{binary32}
use Rattle.std.specs.Float.Ieee.{of_bits}
use Rattle.units.specs.declared.bandwidth.Bandwidth.{Bandwidth}
use Rattle.state.specs.declared.parts.Lower.{Lower}
use Rattle.events.specs.Event.{lower_after}

abbrev none : Bandwidth
none = record { 0 = 0 }

-- the lower bounds after one more reduction at beta 0.3, in a window of 1300, with nothing measured since
abbrev cut : Lower → Lower
cut l = lower_after l true none (record { bandwidth = none; inflight = 0 }) 1300 (of_bits binary32 0x3e99_999a)

abbrev unset : Lower
unset = record { bandwidth = None; inflight = 2 ^ 64 - 1 }

unfoldable pub event_examples : List Bool
event_examples =
    -- 8. 1300 cut three times: 910, 637, 445
    eqb (cut unset).inflight 910
    ∷ eqb (cut (cut unset)).inflight 637
    ∷ eqb (cut (cut (cut unset))).inflight 445
    ∷ []
