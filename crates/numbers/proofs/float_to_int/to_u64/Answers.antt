-- `numbers::to_u64` meets its contract: x's pattern is read back as x. Assumes nothing.
use Rattle.std.proofs.Common.{T, sym, ap, ◌∙◌, subst}
use lib.Ieee.{binary32, to_unsigned}
use lib.Ieee.Bits.{of_bits-to_bits}
use lib.Ieee.Compare.{differs_from_itself}
use Rattle.numbers.proofs.Fields.{no_nan}
use Rattle.numbers.proofs.float_to_int.to_u64.Goals as goal

pub returns-then-x : goal.returns-then-x
unfolding to_unsigned
returns-then-x c = sym (ap (to_unsigned 64) (differs_from_itself c.args.x (subst T (sym c.if-x.true) tt)))

pub float_to_bits-x : goal.float_to_bits-x
float_to_bits-x c = no_nan c.args.x c.if-x.false

-- what owning an `f32` tells: the format holds it
pub returns : goal.returns
returns c = c.pattern_to_u64.ensures ∙ ap (to_unsigned 64) (of_bits-to_bits binary32 c.args.x (subst T (sym c.well_formed.0.1) tt))
