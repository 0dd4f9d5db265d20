-- `guovssalu_rtt_run` meets its contract: it stops at a refusal, or writes the answers, then the estimator. Assumes nothing.
use Rattle.std.proofs.Common.{ℕ, List, length, ap, ◌∙◌, arith}
use lib.Seq.{sets}
use Rattle.rtt.specs.declared.rtt.RttStats.{RttStats}
use Rattle.trips.specs.Trips.{stats_words, calls_in, answers_to, left_by}
use Rattle.words.specs.Words.{all_bytes}
use Rattle.guovssalu.specs.RttRun.{rtt_reply, rtt_answers, rtt_left, rtt_answers_out, rtt_state_out}
use Rattle.guovssalu.proofs.Rows.{done_row, refused, written}
use Rattle.guovssalu.proofs.RttRun.{run_room, run_whole}
use Rattle.guovssalu.proofs.rtt_run.guovssalu_rtt_run.Goals as goal

pub returns-in-Err : goal.returns-in-Err
unfolding rtt_state_out rtt_answers_out rtt_reply
returns-in-Err c =
    let state = c.args.state.now in
    let calls = c.args.calls.now in
    let why = c.in-Err.ensures in
    let kept = refused c.in-Err.refusal (rtt_left state calls) state why.reply why.fault c.word.ensures in
    record {
      value = kept.0;
      state_after = kept.1;
      answers_after = (refused c.in-Err.refusal (rtt_answers state calls) c.args.answers.now why.reply why.fault c.word.ensures).1;
    }

pub stats_in-requires : goal.stats_in-requires
stats_in-requires c = run_whole _ _ _ (done_row c.in_default.ensures.reply)

pub run_calls-left-requires : goal.run_calls-left-requires
run_calls-left-requires c = run_room _ _ _ (done_row c.in_default.ensures.reply)

pub put_words-requires : goal.put_words-requires
unfolding stats_words
put_words-requires c =
    let six = ap length c.stats_words.ensures in
    omega (arith, six, run_whole _ _ _ (done_row c.in_default.ensures.reply))

pub returns : goal.returns
unfolding rtt_state_out rtt_answers_out rtt_reply rtt_answers rtt_left
returns c =
    let state = c.args.state.now in
    let calls = c.args.calls.now in
    let out = c.args.answers.now in
    let begun = c.stats_in.ensures in
    let did = c.run_calls-left.ensures in
    let went = c.stats_words.ensures ∙ ap stats_words (did.value ∙ ap (λ (s : RttStats). left_by s calls 0 (calls_in calls)) begun) in
    let stored = c.put_words.ensures ∙ ap (λ (words : List ℕ). sets state 0 (all_bytes words)) went in
    let answered = did.answers_after ∙ ap (λ (s : RttStats). sets out 0 (all_bytes (answers_to s calls 0 (calls_in calls)))) begun in
    let done = c.in_default.ensures in
    let left = written (rtt_left state calls) state done.reply done.fault stored in
    record {
      value = left.0;
      state_after = left.1;
      answers_after = (written (rtt_answers state calls) out done.reply done.fault answered).1;
    }
