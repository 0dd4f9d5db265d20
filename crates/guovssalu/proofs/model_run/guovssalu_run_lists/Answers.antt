-- `guovssalu_run_lists` meets its contract: it stops at a refusal, or writes the answers, then the state. Assumes nothing.
use Rattle.std.proofs.Common.{ℕ, List, length, ap, ap₂, ◌∙◌, arith}
use lib.Seq.{sets}
use Rattle.state.specs.declared.cycle.Cycle.{Cycle}
use Rattle.state.specs.declared.network_model.NetworkModel.{NetworkModel}
use Rattle.words.specs.Words.{all_bytes}
use Rattle.layout.specs.NetworkModel.{model_from}
use Rattle.layout.specs.Cycle.{cycle_from}
use Rattle.guovssalu.specs.ModelRun.{calls_in, answers_to, left_by, answers_from, words_left, model_reply, state_out, answers_out}
use Rattle.guovssalu.proofs.Rows.{done_row, refused, written}
use Rattle.guovssalu.proofs.ModelRun.{length_left, run_room, run_whole}
use Rattle.guovssalu.proofs.model_run.guovssalu_run_lists.Goals as goal

pub returns-in-Err : goal.returns-in-Err
unfolding state_out answers_out model_reply
returns-in-Err c =
    let args = c.args in
    let state = args.state.now in
    let calls = args.calls.now in
    let lists = args.lists.now in
    let why = c.in-Err.ensures in
    let kept = refused c.in-Err.refusal (words_left state calls lists) state why.reply why.fault c.word.ensures in
    record {
      value = kept.0;
      state_after = kept.1;
      answers_after = (refused c.in-Err.refusal (answers_from state calls lists) args.answers.now why.reply why.fault c.word.ensures).1;
    }

pub state_in-words-requires : goal.state_in-words-requires
state_in-words-requires c = run_whole _ _ _ (done_row c.in_default.ensures.reply)

pub run_calls-left-requires : goal.run_calls-left-requires
run_calls-left-requires c = run_room _ _ _ (done_row c.in_default.ensures.reply)

pub put_words-requires : goal.put_words-requires
put_words-requires c =
    let args = c.args in
    let left = ap length c.run_calls-left.ensures.value ∙ length_left _ _ args.calls.now args.lists.now 0 _ in
    omega (arith, left, run_whole _ _ _ (done_row c.in_default.ensures.reply))

pub returns : goal.returns
unfolding state_out answers_out model_reply answers_from words_left
returns c =
    let args = c.args in
    let state = args.state.now in
    let calls = args.calls.now in
    let lists = args.lists.now in
    let out = args.answers.now in
    let words = c.state_in-words.ensures in
    let model = c.model_from.ensures ∙ ap model_from words in
    let cycle = c.cycle_from.ensures ∙ ap cycle_from words in
    let did = c.run_calls-left.ensures in
    let calls-left = did.value ∙ ap₂ (λ (m : NetworkModel) (y : Cycle). left_by m y calls lists 0 (calls_in calls)) model cycle in
    let answered = did.answers_after ∙ ap₂ (λ (m : NetworkModel) (y : Cycle). sets out 0 (all_bytes (answers_to m y calls lists 0 (calls_in calls)))) model cycle in
    let stored = c.put_words.ensures ∙ ap (λ (words : List ℕ). sets state 0 (all_bytes words)) calls-left in
    let done = c.in_default.ensures in
    let left = written (words_left state calls lists) state done.reply done.fault stored in
    record {
      value = left.0;
      state_after = left.1;
      answers_after = (written (answers_from state calls lists) out done.reply done.fault answered).1;
    }
