-- `read` meets its contract.
use Rattle.std.proofs.Common.{rules}
use Prim.Native.Nat.{suc}
use native.Mathlib.Numerals.{add-one}
use lib.ListN.{drop, get_or, drop_of_length-le}
use lib.Seq.{drop-cons}
use mathlib.Core.Path.{◌∙◌, sym}
use Rattle.text.proofs.Numbers.{read_end, read_stop, read_more}
use Rattle.text.proofs.number.read.Goals as goal

pub returns-in_err-n : goal.returns-in_err-n
returns-in_err-n c =
    let i = c.loop-b.b-index in
    let s = c.args.s.now in
    c.from_residual.ensures ∙ sym (read_stop c.loop-b.n (get_or s i 0) (drop (suc i) s) (search rules)) ∙ (rw (drop-cons s i 0 c.loop-b-test.true) at c.loop-b.invariant.1)

pub loop-b-preserved : goal.loop-b-preserved
loop-b-preserved c =
    let i = c.loop-b.b-index in
    let s = c.args.s.now in
    let m = read_more c.loop-b.n (get_or s i 0) c.in_ok-n.n (drop (suc i) s) (search rules) in
    (m.1, rw add-one (sym m.0) ∙ (rw (drop-cons s i 0 c.loop-b-test.true) at c.loop-b.invariant.1))

pub returns : goal.returns
returns c = sym (read_end _ c.loop-b.invariant.0) ∙ (rw (drop_of_length-le c.args.s.now c.loop-b-test.false) at c.loop-b.invariant.1)
