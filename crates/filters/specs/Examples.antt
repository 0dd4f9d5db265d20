-- document 01, "Marked examples": 9, about the windowed filter, and 10, about the max bandwidth filter. All twelve, in
-- one list with one proof, are in crates/laws/specs/Examples.antt. After them, why a windowed filter's estimates moved,
-- and which lists of acked numbers end a round.
use Rattle.std.specs.Prelude.{ℕ, ◌-◌, ◌^◌, Bool, true, false, not, ◌&&◌, List, [], ◌∷◌, ◌++◌, eqb, Option, None, Some}
use Rattle.filters.specs.declared.windowed_filter.Estimates.{Estimates}
use Rattle.filters.specs.declared.round_trip_counter.RoundTripCounter.{RoundTripCounter}
use Rattle.filters.specs.declared.max_bandwidth_filter.MaxBandwidthFilter.{MaxBandwidthFilter}
use Rattle.filters.specs.declared.windowed_filter.Sample.{Sample}
use Rattle.filters.specs.declared.windowed_filter.WindowedFilter.{WindowedFilter}
use Rattle.filters.specs.MaxBandwidthFilter.{max_advance}
use Rattle.filters.specs.Reason.{reason_number, raised_reason, later_reason, windowed_reason}
use Rattle.filters.specs.RoundTripCounter.{rounds_new, rounds_ended, rounds_acked}
use Rattle.filters.specs.WindowedFilter.{sample_at, windowed_new, windowed_reset, windowed_number, windowed_update}

abbrev same : List ℕ → List ℕ → Bool
same [] [] = true
same (a ∷ l) (b ∷ k) = eqb a b && same l k
same [] (b ∷ k) = false
same (a ∷ l) [] = false

-- the samples, each with its time
abbrev held : Option Estimates → List ℕ
held None = []
held (Some e) =
    e.best.sample
    ∷ e.best.time
    ∷ e.second.sample
    ∷ e.second.time
    ∷ e.third.sample
    ∷ e.third.time
    ∷ []

abbrev start : WindowedFilter
start = windowed_reset (windowed_new 8) 5 0

-- the reply to 5 at a time, and what the filter then holds
abbrev then : ℕ → List ℕ
then t = windowed_number start t ∷ held (windowed_update start 5 t).held

abbrev filter : ℕ → ℕ → MaxBandwidthFilter
filter a b = record { slot0 = record { 0 = a }; slot1 = record { 0 = b } }

abbrev slots : MaxBandwidthFilter → List ℕ
slots f = f.slot0.0 ∷ f.slot1.0 ∷ []

unfoldable pub filter_examples : List Bool
filter_examples =
    -- 9. Window 8, reset 5 at time 0, then 5 at 2: nothing moves. At 3 instead: second and third become 5 at 3
    same (then 2) (0 ∷ 5 ∷ 0 ∷ 5 ∷ 0 ∷ 5 ∷ 0 ∷ [])
    ∷ same (then 3) (0 ∷ 5 ∷ 0 ∷ 5 ∷ 3 ∷ 5 ∷ 3 ∷ [])
    -- 10. Advance on (9, 0) leaves (9, 0); on (9, 4) gives (4, 0)
    ∷ same (slots (max_advance (filter 9 0))) (9 ∷ 0 ∷ [])
    ∷ same (slots (max_advance (filter 9 4))) (4 ∷ 0 ∷ [])
    ∷ []

-- ---- why the estimates moved: document 02, request f
-- the filter after samples, and the numbers of their reasons
abbrev fed : WindowedFilter → List Sample → WindowedFilter
fed f [] = f
fed f (x ∷ l) = fed (windowed_update f x.sample x.time) l

abbrev reasons : WindowedFilter → List Sample → List ℕ
reasons f [] = []
reasons f (x ∷ l) =
    reason_number (windowed_reason f x.sample x.time) ∷ reasons (windowed_update f x.sample x.time) l

-- what step 2 and the later steps name, each by itself
abbrev named : Option Estimates → Sample → ℕ → List ℕ
named None new w = []
named (Some e) new w = reason_number (raised_reason e new) ∷ reason_number (later_reason e new w) ∷ []

-- three samples and a fourth, from an empty filter: the four reasons, then the two names at the fourth
abbrev fourth : (w : ℕ) (a b c new : Sample) → List ℕ
fourth w a b c new =
    reasons (windowed_new w) (a ∷ b ∷ c ∷ new ∷ []) ++ named (fed (windowed_new w) (a ∷ b ∷ c ∷ [])).held new w

-- and what the filter then holds
abbrev after : (w : ℕ) (a b c new : Sample) → List ℕ
after w a b c new = held (fed (windowed_new w) (a ∷ b ∷ c ∷ new ∷ [])).held

unfoldable pub reason_examples : List Bool
reason_examples =
    -- marked example 9: at 2 unchanged, at 3 a quarter refresh
    eqb (reason_number (windowed_reason start 5 2)) 7
    ∷ eqb (reason_number (windowed_reason start 5 3)) 5
    -- a refused update: 9 would be a new best, but its time is before 3
    ∷ eqb (reason_number (windowed_reason (windowed_reset (windowed_new 8) 5 3) 9 2)) 7
    -- step 2 alone: the second raised, 1, and after a half refresh, 6, the third, 2
    ∷ same (fourth 8 (sample_at 5 0) (sample_at 3 3) (sample_at 2 4) (sample_at 4 4)) (0 ∷ 5 ∷ 7 ∷ 1 ∷ 1 ∷ 7 ∷ [])
    ∷ same (fourth 8 (sample_at 5 0) (sample_at 3 3) (sample_at 1 8) (sample_at 2 8)) (0 ∷ 5 ∷ 6 ∷ 2 ∷ 2 ∷ 7 ∷ [])
    -- the second raised, 1, then promoted once, 3: that is the reason, though all three are the new sample
    ∷ same (fourth 4 (sample_at 0 0) (sample_at 1 0) (sample_at 0 2) (sample_at 1 5)) (0 ∷ 0 ∷ 5 ∷ 3 ∷ 1 ∷ 3 ∷ [])
    ∷ same (after 4 (sample_at 0 0) (sample_at 1 0) (sample_at 0 2) (sample_at 1 5)) (1 ∷ 5 ∷ 1 ∷ 5 ∷ 1 ∷ 5 ∷ [])
    -- the third raised, 2, then promoted once, 3
    ∷ same (fourth 8 (sample_at 3 0) (sample_at 2 3) (sample_at 0 8) (sample_at 1 9)) (0 ∷ 5 ∷ 6 ∷ 3 ∷ 2 ∷ 3 ∷ [])
    -- the third raised, 2, then promoted twice, 4: again all three are the new sample
    ∷ same (fourth 4 (sample_at 1 0) (sample_at 1 2) (sample_at 0 5) (sample_at 1 7)) (0 ∷ 5 ∷ 3 ∷ 4 ∷ 2 ∷ 4 ∷ [])
    ∷ same (after 4 (sample_at 1 0) (sample_at 1 2) (sample_at 0 5) (sample_at 1 7)) (1 ∷ 7 ∷ 1 ∷ 7 ∷ 1 ∷ 7 ∷ [])
    -- the third raised, 2, then a quarter refresh, 5
    ∷ same (fourth 4 (sample_at 1 0) (sample_at 1 2) (sample_at 0 5) (sample_at 1 5)) (0 ∷ 5 ∷ 3 ∷ 5 ∷ 2 ∷ 5 ∷ [])
    ∷ []

-- ---- document 02, request d: the greatest number acked ends a round, or none does. The round's end is 5, and 7 was
-- sent last
abbrev round : RoundTripCounter
round = record { count = 1; sent = 7; end = Some 5 }

abbrev ends : List ℕ → Bool
ends acked = rounds_ended round acked

abbrev end_is : Option ℕ → ℕ → Bool
end_is None n = false
end_is (Some k) n = eqb k n

unfoldable pub round_examples : List Bool
round_examples =
    -- in whatever order, 6 is past the end
    ends (6 ∷ 5 ∷ [])
    ∷ ends (5 ∷ 6 ∷ [])
    ∷ ends (4 ∷ 6 ∷ 5 ∷ [])
    ∷ ends (9 ∷ 1 ∷ 2 ∷ 3 ∷ [])
    ∷ ends ((2 ^ 64 - 1) ∷ 0 ∷ [])
    -- the end itself is not
    ∷ not (ends (5 ∷ 4 ∷ []))
    ∷ not (ends (4 ∷ 5 ∷ []))
    ∷ not (ends (5 ∷ 5 ∷ 5 ∷ []))
    -- the empty list ends none, before any end too, where any number does
    ∷ not (ends [])
    ∷ not (rounds_ended rounds_new [])
    ∷ rounds_ended rounds_new (0 ∷ [])
    -- the count rises, and the number sent last is the next end; or all stays
    ∷ eqb (rounds_acked round (6 ∷ 5 ∷ [])).count 2
    ∷ end_is (rounds_acked round (6 ∷ 5 ∷ [])).end 7
    ∷ eqb (rounds_acked round (5 ∷ 4 ∷ [])).count 1
    ∷ end_is (rounds_acked round (5 ∷ 4 ∷ [])).end 5
    ∷ []
