-- `parse` meets its contract.
use Rattle.std.proofs.Common.{rules, Some, None}
use Rattle.std.specs.Result.{result_ok}
use mathlib.Core.Path.{◌≡◌, ◌∙◌, sym, ap}
use Rattle.text.specs.Line.{refused, body_of}
use Rattle.text.proofs.Lines.{ended_is, line_long, line_unended, line_sound}
use Rattle.text.proofs.line.parse.Goals as goal

pub returns-then-s-gt4096 : goal.returns-then-s-gt4096
returns-then-s-gt4096 c = line_long c.args.s.now c.if-s-gt4096.true

pub returns-in_err-ok_or : goal.returns-in_err-ok_or
returns-in_err-ok_or c =
    let r : c.from_residual.result ≡ refused 0 = search rules in
    let n : c.strip_suffix.result ≡ None = c.ok_or.ensures.ok_part ∙ ap result_ok c.in_err-ok_or.was in
    r ∙ line_unended c.args.s.now (sym (ended_is c.args.s.now) ∙ (rw n at c.strip_suffix.ensures.cases))

pub returns : goal.returns
returns c =
    let n : c.strip_suffix.result ≡ Some c.in_ok-ok_or.field-0 = c.ok_or.ensures.ok_part ∙ ap result_ok c.in_ok-ok_or.was in
    let h = rw n at c.strip_suffix.ensures.cases in
    c.body.ensures ∙ ap body_of h.1 ∙ line_sound c.args.s.now c.if-s-gt4096.false (sym (ended_is c.args.s.now) ∙ h.0)
