-- `guovssalu::model_reply` meets its contract: what the tests ensure, put into the rows. Assumes nothing.
use Rattle.std.proofs.Common.{◌∙◌}
use Rattle.guovssalu.specs.ModelRun.{model_row, length_faults}
use Rattle.state.proofs.FirstFault.{asked, or_short_lem}
use Rattle.guovssalu.proofs.model_run.model_reply.Goals as goal

pub returns : goal.returns
unfolding model_row length_faults
returns c =
    let it = or_short_lem c.refusal-reply.result c.or_short.result _ _ _ (asked c.refusal-reply.result _ _ _ _ (c.refusal-reply.ensures.reply, c.refusal-reply.ensures.fault) (rw c.encodes_none.ensures) (c.first_of.ensures ∙ rw (c.unless.ensures, c.unless-2.ensures))) (c.or_short.ensures.reply, c.or_short.ensures.fault) in
    record { reply = it.0; fault = it.1 }
