-- `put_text` meets its contract.
use Rattle.rows.proofs.Decimals.{put_part}
use native.Mathlib.Omega.{arith}
use Rattle.rows.proofs.entry.put_text.Goals as goal

pub returns : goal.returns
returns c = put_part c.args.out.now c.args.text.now _ c.args.at _ c.copy_from_slice.ensures.after (omega arith) (omega arith)
