-- `keep` meets its contract.
use Rattle.std.proofs.Common.{◌≡◌, arith, ◌-◌, min, length, ◌∙◌, sym}
use Rattle.trace.proofs.Moves.{kept_length, moved}
use Rattle.trace.proofs.stream.keep.Goals as goal

pub returns-clause-counts : goal.returns-clause-counts
returns-clause-counts c =
    let n : c.min-n.result ≡ min (min c.args.end (length c.args.buf.now) - c.args.at) 4097 = omega (arith, c.min-n.ensures, c.min-at.ensures, c.min-end.ensures) in
    n ∙ sym (kept_length c.args.buf.now c.args.at c.args.end)

pub returns-clause-moves : goal.returns-clause-moves
returns-clause-moves c =
    c.copy_within.ensures.after
    ∙ moved c.args.buf.now c.args.at c.args.end c.min-at.result c.min-n.result (omega (arith, c.min-at.ensures, c.min-end.ensures)) (omega (arith, c.min-n.ensures, c.min-at.ensures, c.min-end.ensures))
