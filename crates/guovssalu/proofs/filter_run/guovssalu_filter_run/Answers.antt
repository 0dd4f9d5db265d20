-- `guovssalu_filter_run` meets its contract: it stops at a refusal, or writes the answer. Assumes nothing.
use Rattle.filters.specs.WindowedFilter.{windowed_new}
use Rattle.pairs.specs.Pairs.{pairs, run_words}
use Rattle.guovssalu.specs.FilterRun.{run_reply, run_out}
use Rattle.guovssalu.proofs.Rows.{done_row, refused, written}
use Rattle.guovssalu.proofs.FilterRun.{run_done}
use Rattle.guovssalu.proofs.filter_run.guovssalu_filter_run.Goals as goal

pub returns-in-Err : goal.returns-in-Err
unfolding run_out run_reply
returns-in-Err c =
    let args = c.args in
    let src = args.src.now in
    let it = refused c.in-Err.refusal (run_words (windowed_new args.window) src 0 (pairs src)) args.out.now c.in-Err.ensures.reply c.in-Err.ensures.fault c.word.ensures in
    record { value = it.0; out_after = it.1 }

pub write_run-requires : goal.write_run-requires
write_run-requires c = run_done _ _ _ (done_row c.in_default.ensures.reply)

pub returns : goal.returns
unfolding run_out run_reply
returns c =
    let args = c.args in
    let src = args.src.now in
    let it = written (run_words (windowed_new args.window) src 0 (pairs src)) args.out.now c.in_default.ensures.reply c.in_default.ensures.fault c.write_run.ensures in
    record { value = it.0; out_after = it.1 }
