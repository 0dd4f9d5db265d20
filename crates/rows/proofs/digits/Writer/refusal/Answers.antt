-- `Writer::refusal` meets its contract: by whether there is a part.
use Rattle.std.proofs.Common.{arith}
use Rattle.rows.specs.Row.{refusal_text}
use Rattle.rows.proofs.Decimals.{puts_puts, puts_within}
use Rattle.rows.proofs.digits.Writer.refusal.Goals as goal

pub returns-in-Some : goal.returns-in-Some
unfolding refusal_text
returns-in-Some c = rw c.in-Some.is (puts_puts (puts_puts c.decimal.ensures c.byte.ensures) c.decimal-in-Some.ensures)

pub returns-in_default : goal.returns-in_default
unfolding refusal_text
returns-in_default c = rw c.in_default.is (puts_within (omega arith) c.decimal.ensures)
