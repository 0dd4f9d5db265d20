-- Moments and lengths of time in whole nanoseconds: document 01, "Replies and bounds", the clock; Rust's Instant and
-- Duration.
use Rattle.std.specs.Prelude.{◌+◌, ◌-◌, ◌^◌, min, Bool, nat_lt}
use Rattle.units.specs.declared.time.Duration.{Duration}
use Rattle.units.specs.declared.time.Moment.{Moment}

-- a moment plus a length of time; no moment is past 2^64 - 1 (Instant + Duration)
abbrev pub plus : Moment → Duration → Moment
plus m d = record { 0 = min (m.0 + d.0) (2 ^ 64 - 1) }

-- the length of time since an earlier moment, 0 since a later one (Instant - Instant, which saturates: so does ℕ's
-- difference)
abbrev pub since : Moment → Moment → Duration
since m n = record { 0 = m.0 - n.0 }

-- one moment is earlier than another (Instant < Instant)
abbrev pub is_before : Moment → Moment → Bool
is_before m n = nat_lt m.0 n.0
