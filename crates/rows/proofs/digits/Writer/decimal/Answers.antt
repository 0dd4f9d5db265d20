-- `Writer::decimal` meets its contract: the digits stand in a part as long as they are.
use Rattle.std.proofs.Common.{arith, refl}
use Rattle.rows.proofs.Decimals.{put_digits}
use Rattle.rows.proofs.digits.Writer.decimal.Goals as goal

pub returns : goal.returns
returns c =
    record {
      same = refl;
      put = put_digits _ _ _ _ _ c.places.ensures.places c.spell.ensures (omega arith);
      within = omega arith;
    }
