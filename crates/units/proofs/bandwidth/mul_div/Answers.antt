-- `mul_div` divides the product by parts: the two partial products fit, and a law says what they make.
use Rattle.std.proofs.Common.{sym, arith}
use Rattle.units.specs.Bandwidth.{nanos_per_byte}
use Rattle.units.proofs.bandwidth.Division.{by_parts, parts_fit}
use Rattle.units.proofs.bandwidth.mul_div.Goals as goal

pub overflow_mul-high : goal.overflow_mul-high
overflow_mul-high c = omega (arith, parts_fit c.args.a c.args.b (omega arith) (omega arith))

pub overflow_mul-low : goal.overflow_mul-low
overflow_mul-low c = omega (arith, parts_fit c.args.a c.args.b (omega arith) (omega arith))

pub overflow_mul-result : goal.overflow_mul-result
overflow_mul-result c = omega (arith, parts_fit c.args.a c.args.b (omega arith) (omega arith))

pub overflow_add-result : goal.overflow_add-result
overflow_add-result c = omega (arith, parts_fit c.args.a c.args.b (omega arith) (omega arith))

pub overflow_add-result-2 : goal.overflow_add-result-2
overflow_add-result-2 c = omega (arith, parts_fit c.args.a c.args.b (omega arith) (omega arith))

pub returns : goal.returns
returns c = sym (by_parts nanos_per_byte 65536 c.args.a c.args.b (omega arith))
