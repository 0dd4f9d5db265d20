-- Bandwidth in whole bits per second: document 01, "Conversions and scaling"; bandwidth.rs.
use Rattle.std.specs.Prelude.{ℕ, ◌-◌, ◌*◌, ◌/◌, ◌^◌, min, max, Bool, cond, ◌==◌, nat_lt, Float}
use Rattle.numbers.specs.FloatToFloat.{f32_to_f64}
use Rattle.numbers.specs.Scaling.{scaled_f64}
use Rattle.units.specs.declared.bandwidth.Bandwidth.{Bandwidth}
use Rattle.units.specs.declared.time.Duration.{Duration}

-- its order is that of the bits: bandwidth.rs, derive(PartialOrd, Ord)
abbrev pub larger_of : Bandwidth → Bandwidth → Bandwidth
larger_of a b = record { 0 = max a.0 b.0 }

abbrev pub smaller_of : Bandwidth → Bandwidth → Bandwidth
smaller_of a b = record { 0 = min a.0 b.0 }

abbrev pub is_less : Bandwidth → Bandwidth → Bool
is_less a b = nat_lt a.0 b.0

-- the product with an f32: bandwidth.rs, `self * rhs as f64`, and
-- `(self.bits_per_second as f64 * rhs).round() as u64`
unfoldable pub times_f32 : Bandwidth → Float → Bandwidth
times_f32 b g = record { 0 = scaled_f64 b.0 (f32_to_f64 g) }

-- bits in a byte times nanoseconds in a second: bandwidth.rs, 8 * NUM_NANOS_PER_SECOND
abbrev pub nanos_per_byte : ℕ
nanos_per_byte = 8000000000

-- the largest bandwidth stands for an infinite one (bandwidth.rs, infinite), which carries 2^64 - 1 bytes in any period
-- but an empty one; another carries bits times nanoseconds over 8,000,000,000 bytes, rounded down, at most 2^64 - 1
-- (bandwidth.rs, to_bytes_per_period)
unfoldable pub bytes_per_period : Bandwidth → Duration → ℕ
bytes_per_period b t =
    cond (b.0 == 2 ^ 64 - 1)
    (cond (t.0 == 0) 0 (2 ^ 64 - 1))
    (min (b.0 * t.0 / nanos_per_byte) (2 ^ 64 - 1))
