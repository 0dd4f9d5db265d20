-- `body` meets its contract.
use Rattle.std.proofs.Common.{rules, Some, None}
use Rattle.std.specs.Result.{result_ok}
use Prim.Native.Nat.{◌+◌}
use lib.Seq.{length-take-le}
use mathlib.Core.Path.{◌≡◌, ◌∙◌, sym, ap}
use native.Mathlib.Nat.{zero-add}
use native.Mathlib.Omega.{arith}
use Rattle.text.specs.Line.{refused}
use Rattle.text.proofs.Lines.{cells_past, body_one, end_within, end_least, body_count, body_unknown, body_fault, body_made}
use Rattle.text.proofs.line.body.Goals as goal

pub returns-then-end-s : goal.returns-then-end-s
returns-then-end-s c = body_one c.args.s.now c.end_of-end.result (c.end_of-end.ensures ∙ zero-add _) c.if-end-s.true

pub overflow_add-end : goal.overflow_add-end
overflow_add-end c = omega (arith, end_within c.args.s.now c.end_of-end.result (c.end_of-end.ensures ∙ zero-add _) c.if-end-s.false)

pub slice_bounds-cells-start : goal.slice_bounds-cells-start
slice_bounds-cells-start c = let w = end_within c.args.s.now c.end_of-end.result (c.end_of-end.ensures ∙ zero-add _) c.if-end-s.false in search rules

pub slice_bounds-cells-count : goal.slice_bounds-cells-count
slice_bounds-cells-count c = let w = end_within c.args.s.now c.end_of-end.result (c.end_of-end.ensures ∙ zero-add _) c.if-end-s.false in search rules

pub returns-in_err-cells : goal.returns-in_err-cells
returns-in_err-cells c =
    let r : c.from_residual.result ≡ refused 0 = search rules in
    let n : None ≡ c.cells.result = sym (c.ok_or.ensures.ok_part ∙ ap result_ok c.in_err-cells.was) in
    r ∙ body_count c.args.s.now c.end_of-end.result (c.end_of-end.ensures ∙ zero-add _) c.if-end-s.false (n ∙ cells_past c.args.s.now (c.end_of-end.result + 1) _ c.cells.ensures)

pub slice_bounds-named-end : goal.slice_bounds-named-end
slice_bounds-named-end c = sym (length-take-le _ c.args.s.now (end_least c.args.s.now c.end_of-end.result (c.end_of-end.ensures ∙ zero-add _)))

pub returns-in_err-kind : goal.returns-in_err-kind
returns-in_err-kind c =
    let r : c.from_residual-in_err-kind.result ≡ refused 1 = search rules in
    let f : Some c.in_ok-cells.cells ≡ c.cells.result = sym (c.ok_or.ensures.ok_part ∙ ap result_ok c.in_ok-cells.was) in
    let n : None ≡ c.named.result = sym (c.ok_or-2.ensures.ok_part ∙ ap result_ok c.in_err-kind.was) in
    r ∙ body_unknown c.args.s.now c.end_of-end.result (c.end_of-end.ensures ∙ zero-add _) c.if-end-s.false c.in_ok-cells.cells (f ∙ cells_past c.args.s.now (c.end_of-end.result + 1) _ c.cells.ensures) (n ∙ c.named.ensures)

pub returns-in-Some : goal.returns-in-Some
returns-in-Some c =
    let f : Some c.in_ok-cells.cells ≡ c.cells.result = sym (c.ok_or.ensures.ok_part ∙ ap result_ok c.in_ok-cells.was) in
    let k : Some c.in_ok-kind.kind ≡ c.named.result = sym (c.ok_or-2.ensures.ok_part ∙ ap result_ok c.in_ok-kind.was) in
    body_fault c.args.s.now c.end_of-end.result (c.end_of-end.ensures ∙ zero-add _) c.if-end-s.false c.in_ok-cells.cells (f ∙ cells_past c.args.s.now (c.end_of-end.result + 1) _ c.cells.ensures) c.in_ok-kind.kind (k ∙ c.named.ensures) c.in-Some.field (search rules)

pub returns-in-None : goal.returns-in-None
returns-in-None c =
    let f : Some c.in_ok-cells.cells ≡ c.cells.result = sym (c.ok_or.ensures.ok_part ∙ ap result_ok c.in_ok-cells.was) in
    let k : Some c.in_ok-kind.kind ≡ c.named.result = sym (c.ok_or-2.ensures.ok_part ∙ ap result_ok c.in_ok-kind.was) in
    rw c.made.ensures (body_made c.args.s.now c.end_of-end.result (c.end_of-end.ensures ∙ zero-add _) c.if-end-s.false c.in_ok-cells.cells (f ∙ cells_past c.args.s.now (c.end_of-end.result + 1) _ c.cells.ensures) c.in_ok-kind.kind (k ∙ c.named.ensures) (search rules))
