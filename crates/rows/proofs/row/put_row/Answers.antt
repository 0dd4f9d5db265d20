-- `put_row` meets its contract.
use Rattle.std.proofs.Common.{rules}
use Rattle.rows.specs.Row.{row_text, head_text}
use Rattle.rows.proofs.Decimals.{put_left, puts_puts}
use Rattle.rows.proofs.row.put_row.Goals as goal

pub returns : goal.returns
unfolding row_text head_text
returns c = put_left (puts_puts (puts_puts (puts_puts (puts_puts (puts_puts (puts_puts c.decimal.ensures c.byte.ensures) c.refusal.ensures) c.byte-2.ensures) c.state.ensures) c.byte-3.ensures) c.byte-4.ensures).put (search rules)
