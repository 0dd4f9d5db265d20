-- `put_entry` meets its contract.
use Rattle.std.proofs.Common.{rules}
use Rattle.rows.specs.Entry.{entry_text}
use Rattle.rows.proofs.Decimals.{put_left, puts_puts}
use Rattle.rows.proofs.entry.put_entry.Goals as goal

pub returns : goal.returns
unfolding entry_text
returns c = put_left (puts_puts (puts_puts (puts_puts (puts_puts c.decimal.ensures c.byte.ensures) c.decimal-2.ensures) c.byte-2.ensures) c.byte-3.ensures).put (search rules)
