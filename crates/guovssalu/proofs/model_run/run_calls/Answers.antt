-- `guovssalu::run_calls` meets its contract: a turn is a call, carried out. Assumes nothing.
use Rattle.std.proofs.Common.{◌≡◌, ℕ, List, ◌+◌, ◌-◌, ◌*◌, ◌/◌, length, sym, ap, ◌∙◌, arith}
use Rattle.state.specs.NetworkModel.{model_ok}
use native.Mathlib.Nat.{sub_self}
use borrow.Rule.Slice.PartMut.{mid_of, put_mid}
use lib.Seq.{sets}
use Rattle.words.specs.Words.{all_bytes}
use Rattle.guovssalu.specs.ModelRun.{answers_to, left_by}
use Rattle.guovssalu.proofs.ModelRun.{Carried, in_room, by_send, by_start, by_end, by_other, left_later, write_answer}
use Rattle.guovssalu.proofs.model_run.run_calls.Goals as goal
use Rattle.guovssalu.proofs.model_run.run_calls.Goals.{in-1, in-3, in-4, in_default}

pub loop-i-preserved : goal.loop-i-preserved
loop-i-preserved c =
    let loop = c.loop-i in
    let calls = c.args.calls.now in
    let lists = c.args.lists.now in
    let count = length calls / 392 in
    let test = c.loop-i-test.true in
    let at = 392 * loop.i in
    let to = 144 * loop.i in
    let part = mid_of at (at + 392 - at) calls in
    let room = to + 144 - to in
    let back = put_mid to room loop.answers in
    let put = λ (l : List ℕ). back (sets (mid_of to room loop.answers) 0 l) in
    let number = c.get_word.ensures in
    let now = c.match-get_word in
    let did : Carried loop.m loop.y part lists 0 put now.answers now.m now.y now.fine =
    elim now.branch [
      | in-1 w ↦ by_send _ _ _ _ _ put _ _ _ _ (sym number ∙ w.in-1.is) (w.m-is ∙ w.send.ensures.value) w.y-is (w.fine-is ∙ loop.invariant.known) (w.answers-is ∙ ap back w.send.ensures.answer_after)
      | in-3 w ↦ by_start _ _ _ _ _ put _ _ _ _ (sym number ∙ w.in-3.is) (w.m-is ∙ w.event_start.ensures.value) w.y-is (w.fine-is ∙ loop.invariant.known) (w.answers-is ∙ ap back w.event_start.ensures.answer_after)
      | in-4 w ↦ by_end _ _ _ _ _ put _ _ _ _ (sym number ∙ w.in-4.is) (w.m-is ∙ w.event_finish.ensures.value) w.y-is (w.fine-is ∙ loop.invariant.known) (w.answers-is ∙ ap back w.event_finish.ensures.answer_after)
      | in_default w ↦ by_other _ _ _ _ _ put _ _ _ _ number (omega arith) (omega arith) (omega arith) (w.m-is ∙ w.other.ensures.model) (w.y-is ∙ w.other.ensures.cycle) (w.fine-is ∙ w.ok-fine-in_default.ensures ∙ ap model_ok (sym w.m-is)) (w.answers-is ∙ ap back w.other.ensures.answer_after)
    ]
    in
    let carried = in_room _ _ calls lists at _ loop.answers to _ _ _ _ _ (omega arith) (omega arith) (omega arith) (omega arith) did in
    record {
      written = rw (carried.0, carried.1, carried.2) (write_answer calls lists loop.i count test loop.m loop.y loop.answers loop.invariant.written);
      left = rw (carried.1, carried.2) (left_later calls lists loop.i count test loop.m loop.y loop.invariant.left);
      known = carried.3;
    }

pub returns : goal.returns
unfolding answers_to left_by all_bytes
returns c =
    let loop = c.loop-i in
    let all : loop.i ≡ length c.args.calls.now / 392 = omega (arith, c.loop-i-test.false, c.loop-i.auto.i-end) in
    record {
      value = c.state_words.ensures ∙ (rw (all, sub_self) at loop.invariant.left);
      answers_after = rw (all, sub_self) at loop.invariant.written;
    }
