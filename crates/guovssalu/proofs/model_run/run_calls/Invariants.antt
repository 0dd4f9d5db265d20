-- `guovssalu::run_calls` meets its contract. The invariant: the answers to the calls that are left, stored, make the answer, those calls leave the state that is to be left, and it is known whether the model is within its bounds. Assumes nothing.
use Rattle.std.proofs.Common.{◌≡◌, ◌-◌, ◌*◌, ◌/◌, length}
use lib.Seq.{sets}
use Rattle.state.specs.NetworkModel.{model_ok}
use Rattle.words.specs.Words.{all_bytes}
use Rattle.guovssalu.specs.ModelRun.{answers_to, left_by}
use Rattle.guovssalu.proofs.model_run.run_calls.Given as goal

abbrev pub invariant-loop-i : goal.invariant-loop-i
invariant-loop-i l =
    let count = length l.calls / 392 in
    record {
      written : sets l.answers (144 * l.i) (all_bytes (answers_to l.m l.y l.calls l.lists (392 * l.i) (count - l.i))) ≡ sets l.initial.answers 0 (all_bytes (answers_to l.initial.m l.initial.y l.calls l.lists 0 count));
      left : left_by l.m l.y l.calls l.lists (392 * l.i) (count - l.i) ≡ left_by l.initial.m l.initial.y l.calls l.lists 0 count;
      known : l.fine ≡ model_ok l.m;
    }
