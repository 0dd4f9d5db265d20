-- `numbers::round_to_u64` meets its contract: x's pattern is read back as x. Assumes nothing.
use Rattle.std.proofs.Common.{T, sym, ap, ◌∙◌, subst}
use lib.Ieee.{Float, binary64, to_unsigned}
use lib.Ieee.Bits.{of_bits-to_bits}
use lib.Ieee.Compare.{differs_from_itself}
use Rattle.numbers.specs.FloatToInt.{round_away}
use Rattle.numbers.proofs.Fields.{no_nan}
use Rattle.numbers.proofs.float_to_int.round_to_u64.Goals as goal

pub returns-then-x : goal.returns-then-x
unfolding to_unsigned round_away
returns-then-x c = sym (ap (λ (x : Float). to_unsigned 64 (round_away binary64 x)) (differs_from_itself c.args.x (subst T (sym c.if-x.true) tt)))

pub float_to_bits-x : goal.float_to_bits-x
float_to_bits-x c = no_nan c.args.x c.if-x.false

-- what owning an `f64` tells: the format holds it
pub returns : goal.returns
returns c = c.pattern_round_to_u64.ensures
    ∙ ap (λ (x : Float). to_unsigned 64 (round_away binary64 x)) (of_bits-to_bits binary64 c.args.x (subst T (sym c.well_formed.0.1) tt))
