-- `Writer::state` meets its contract: by whether the state is shown.
use Rattle.std.proofs.Common.{arith}
use Rattle.rows.specs.Row.{state_text}
use Rattle.rows.proofs.Decimals.{puts_puts, puts_within}
use Rattle.rows.proofs.digits.Writer.state.Goals as goal

pub returns-in-None : goal.returns-in-None
unfolding state_text
returns-in-None c = rw c.in-None.is (puts_within (omega arith) (puts_puts (puts_puts c.byte.ensures c.byte-in-None.ensures) c.byte-in-None-2.ensures))

pub returns-in-Some : goal.returns-in-Some
unfolding state_text
returns-in-Some c = rw c.in-Some.is (puts_puts (puts_puts (puts_puts (puts_puts (puts_puts (puts_puts c.decimal.ensures c.byte-in-Some.ensures) c.decimal-in-Some.ensures) c.byte-in-Some-2.ensures) c.given.ensures) c.byte-in-Some-3.ensures) c.given-in-Some.ensures)
