-- `Writer::given` meets its contract: by whether there is a number.
use Rattle.std.proofs.Common.{arith}
use Rattle.rows.proofs.Decimals.{puts_within}
use Rattle.rows.proofs.Rows.{nothing_put}
use Rattle.rows.specs.Row.{given_text}
use Rattle.rows.proofs.digits.Writer.given.Goals as goal

pub returns-in-Some : goal.returns-in-Some
unfolding given_text
returns-in-Some c = rw c.in-Some.is c.decimal.ensures

pub returns-in_default : goal.returns-in_default
returns-in_default c = rw c.in_default.is (puts_within (omega arith) (nothing_put _))
