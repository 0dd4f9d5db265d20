-- `guovssalu::slope_reply` meets its contract: what the two tests ensure, put into the rows. Assumes nothing.
use Rattle.std.proofs.Common.{◌∙◌}
use Rattle.guovssalu.specs.Slope.{slope_row, window_faults}
use Rattle.state.proofs.FirstFault.{asked, alone, or_short_lem}
use Rattle.guovssalu.proofs.slope.slope_reply.Goals as goal

pub returns : goal.returns
unfolding slope_row window_faults
returns c =
    let it = or_short_lem c.refusal-reply.result c.or_short.result _ _ _ (asked c.refusal-reply.result _ _ _ _ (c.refusal-reply.ensures.reply, c.refusal-reply.ensures.fault) (rw (c.rounds_ok.ensures, c.bytes_ok-fine.ensures)) (c.unless.ensures ∙ alone _ ∙ rw c.bytes_ok-fine.ensures)) (c.or_short.ensures.reply, c.or_short.ensures.fault) in
    record { reply = it.0; fault = it.1 }
