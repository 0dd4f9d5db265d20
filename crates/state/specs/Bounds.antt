-- document 01, "Replies and bounds": the bounds as tests.
use Rattle.std.specs.Prelude.{ℕ, ◌-◌, ◌^◌, Bool, true, ◌&&◌, ◌||◌, List, [], ◌∷◌, leb, eqb, Float, Option, None, Some}
use Rattle.std.specs.Float.{binary32}
use Rattle.std.specs.Float.Ieee.{of_bits, le}
use Rattle.units.specs.declared.bandwidth.Bandwidth.{Bandwidth}
use Rattle.units.specs.declared.time.Duration.{Duration}
use Rattle.units.specs.declared.time.Moment.{Moment}

-- "byte counts 2^40"
abbrev pub bytes_ok : ℕ → Bool
bytes_ok n = leb n (2 ^ 40)

-- "may also be 2^64 - 1, meaning unset"
abbrev pub bytes_or_unset_ok : ℕ → Bool
bytes_or_unset_ok n = leb n (2 ^ 40) || eqb n (2 ^ 64 - 1)

-- "totals, an event's bytes acked and lost, bytes lost and delivered in the round, and moments 2^62"
abbrev pub total_ok : ℕ → Bool
total_ok n = leb n (2 ^ 62)

abbrev pub moment_ok : Moment → Bool
moment_ok m = leb m.0 (2 ^ 62)

-- "lengths of time 2^36 ns"
abbrev pub length_ok : Duration → Bool
length_ok d = leb d.0 (2 ^ 36)

-- "bandwidth 2^40 bits per second"
abbrev pub bandwidth_ok : Bandwidth → Bool
bandwidth_ok b = leb b.0 (2 ^ 40)

abbrev pub maybe_ok : Option Bandwidth → Bool
maybe_ok None = true
maybe_ok (Some b) = bandwidth_ok b

-- an f32 from one pattern to another. A NaN is in no range, and -0 counts as 0
unfoldable pub within : ℕ → ℕ → Float → Bool
within low high x = le (of_bits binary32 low) x && le x (of_bits binary32 high)

abbrev pub fraction_ok : Float → Bool
fraction_ok x = within 0 0x3f80_0000 x

abbrev pub gain_ok : Float → Bool
gain_ok x = within 0x3a80_0000 0x4100_0000 x

-- every test of a list holds
abbrev pub all_from : Bool → List Bool → Bool
all_from so_far [] = so_far
all_from so_far (test ∷ tests) = all_from (so_far && test) tests

abbrev pub all : List Bool → Bool
all tests = all_from true tests
