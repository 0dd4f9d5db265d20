-- `Bandwidth::to_bytes_per_period` is exact: a product of 64 digits is divided as it is; otherwise whole multiples of the divisor come out of both numbers, and what is left fits.
use Rattle.std.proofs.Common.{◌-◌, ◌*◌, ◌^◌, arith, eq-eqb, ne_eqb}
use Rattle.units.specs.Bandwidth.{nanos_per_byte, bytes_per_period}
use Rattle.units.proofs.bandwidth.Division.{rest_fits, fits_64, not_most, no_limit, saturated}
use Rattle.units.proofs.bandwidth.Bandwidth.to_bytes_per_period.Goals as goal

pub overflow_mul-result : goal.overflow_mul-result
overflow_mul-result c = record { fits = fits_64 _ _ c.if-bits-nanos.true }

pub returns-then-bits-nanos : goal.returns-then-bits-nanos
unfolding bytes_per_period
returns-then-bits-nanos c = let a = c.args in
    rw (ne_eqb a.self.0 (2 ^ 64 - 1) (not_most a.self.0 a.period.0 c.if-bits-nanos.true)) (no_limit (a.self.0 * a.period.0) (fits_64 _ _ c.if-bits-nanos.true))

pub returns-then-nanos-eq0 : goal.returns-then-nanos-eq0
unfolding bytes_per_period
returns-then-nanos-eq0 c = simp (eq-eqb _ _ c.if-bits.true, eq-eqb _ _ c.if-nanos-eq0.true)

pub returns-else-nanos-eq0 : goal.returns-else-nanos-eq0
unfolding bytes_per_period
returns-else-nanos-eq0 c = simp (eq-eqb _ _ c.if-bits.true, ne_eqb _ _ c.if-nanos-eq0.false)

pub overflow_mul-part : goal.overflow_mul-part
overflow_mul-part c = omega (
  arith,
  rest_fits nanos_per_byte c.args.period.0 c.args.self.0 (omega arith),
)

pub overflow_add-part : goal.overflow_add-part
overflow_add-part c = omega (
  arith,
  c.mul_div.ensures,
  rest_fits nanos_per_byte c.args.period.0 c.args.self.0 (omega arith),
)

pub returns : goal.returns
unfolding bytes_per_period
returns c = rw (ne_eqb _ _ c.if-bits.false)
    (saturated nanos_per_byte (2 ^ 64 - 1) _ _ (omega arith) c.saturating_mul-whole.ensures c.mul_div.ensures c.saturating_add.ensures)
