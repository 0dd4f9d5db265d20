-- One call on a model and a cycle, from its 49 words, and those of the lists after them (docs/LAYOUT.md): what it
-- answers, and what it leaves.
use Rattle.std.specs.Prelude.{ℕ, Bool, false, cond, ◌&&◌, ◌||◌, List, [], ◌∷◌, leb, eqb}
use Rattle.units.specs.declared.time.Duration.{Duration}
use Rattle.units.specs.declared.time.Moment.{Moment}
use Rattle.state.specs.declared.network_model.NetworkModel.{NetworkModel}
use Rattle.state.specs.Answers.{settled, zero_moment}
use Rattle.state.specs.NetworkModel.{start_number, start_model}
use Rattle.changes.specs.Changes.{sent_number, sent_next}
use Rattle.events.specs.Event.{event_number, model_next, event_next, finish_number, finish_next}
use Rattle.state.specs.declared.cycle.Cycle.{Cycle}
use Rattle.state.specs.Cycle.{fresh_cycle}
use Rattle.words.specs.Word.{word, flag_word, float_of}
use Rattle.arguments.specs.Params.{params_from}
use Rattle.arguments.specs.CongestionEvent.{event_from, event_in, event_words}
use Rattle.arguments.specs.Sample.{sample_from, acked_of}
use Rattle.calls.specs.Change.{change_of}
use Rattle.calls.specs.Ask.{ask_of}
use Rattle.calls.specs.Question.{judge_of}
use Rattle.calls.specs.Enter.{enter_of}

-- the state after a call; the number of its reply, its answer, 0 where it has none, and the words of the event's record
-- after it, zeros where it has none
pub record Outcome : Type 0 where
  pub model : NetworkModel
  pub cycle : Cycle
  pub reply : ℕ
  pub value : ℕ
  pub event : List ℕ

-- calls 5 to 7 and 9; calls 10 to 13 and 23 to 38
abbrev pub is_judged : ℕ → Bool
is_judged call = leb 5 call && leb call 7 || eqb call 9

abbrev pub is_asked : ℕ → Bool
is_asked call = leb 10 call && leb call 13 || leb 23 call && leb call 38

-- where a call has no record
abbrev pub no_event : List ℕ
no_event = 0 ∷ 0 ∷ 0 ∷ 0 ∷ 0 ∷ 0 ∷ 0 ∷ 0 ∷ 0 ∷ 0 ∷ 0 ∷ 0 ∷ 0 ∷ 0 ∷ 0 ∷ 0 ∷ []

-- call 0: a start, at word 1's moment, with word 2's round trip. It makes a fresh cycle too; where it is refused, both
-- are at moment 0
unfoldable pub start_outcome : List ℕ → Outcome
start_outcome w =
    let p = params_from w in
    let now : Moment = record { 0 = word w 1 } in
    let rtt : Duration = record { 0 = word w 2 } in
    let n = start_number p rtt now in
    record {
      model = start_model p rtt now;
      cycle = fresh_cycle (settled n now zero_moment);
      reply = n;
      value = 0;
      event = no_event;
    }

-- call 1: a send at word 1's moment, with word 2's bytes in flight, of word 3's number and word 4's bytes
abbrev pub send_number : List ℕ → NetworkModel → ℕ
send_number w m = sent_number m (record { 0 = word w 1 }) (word w 2) (word w 4)

abbrev pub send_leaves : List ℕ → NetworkModel → NetworkModel
send_leaves w m = settled (send_number w m) (sent_next m (record { 0 = word w 1 }) (word w 2) (word w 3) (word w 4)) m

unfoldable pub send_outcome : List ℕ → NetworkModel → Cycle → Outcome
send_outcome w m y = record { model = send_leaves w m; cycle = y; reply = send_number w m; value = 0; event = no_event }

-- call 3: an event's start
abbrev pub event_start_number : List ℕ → NetworkModel → ℕ
event_start_number w m = event_number m (params_from w) (event_from w) (sample_from w) (acked_of w)

abbrev pub event_start_leaves : List ℕ → NetworkModel → NetworkModel
event_start_leaves w m =
    settled (event_start_number w m) (model_next m (params_from w) (event_from w) (sample_from w) (acked_of w)) m

abbrev pub event_start_words : List ℕ → NetworkModel → List ℕ
event_start_words w m =
    settled (event_start_number w m) (event_words (event_next m (event_from w) (sample_from w) (acked_of w)))
    (event_in w)

-- its answer has the record: "an event's record as handed in" where it is refused, word by word
unfoldable pub event_outcome : List ℕ → NetworkModel → Cycle → Outcome
event_outcome w m y =
    record {
      model = event_start_leaves w m;
      cycle = y;
      reply = event_start_number w m;
      value = 0;
      event = event_start_words w m;
    }

-- call 4: an event's finish
abbrev pub event_finish_number : List ℕ → NetworkModel → ℕ
event_finish_number w m = finish_number m (event_from w)

abbrev pub event_finish_leaves : List ℕ → NetworkModel → NetworkModel
event_finish_leaves w m = settled (event_finish_number w m) (finish_next m (event_from w)) m

unfoldable pub finish_outcome : List ℕ → NetworkModel → Cycle → Outcome
finish_outcome w m y =
    record {
      model = event_finish_leaves w m;
      cycle = y;
      reply = event_finish_number w m;
      value = 0;
      event = no_event;
    }

unfoldable pub judge_outcome : List ℕ → NetworkModel → Cycle → Outcome
judge_outcome w m y =
    let j = judge_of (word w 0) (word w 1) (float_of (word w 1)) m (params_from w) (event_from w) in
    record {
      model = settled j.number j.next m;
      cycle = y;
      reply = j.number;
      value = flag_word (settled j.number j.yes false);
      event = no_event;
    }

unfoldable pub ask_outcome : List ℕ → NetworkModel → Cycle → Outcome
ask_outcome w m y =
    let q = ask_of (word w 0) (word w 1) (float_of (word w 2)) m (params_from w) in
    record {
      model = m;
      cycle = y;
      reply = q.number;
      value = settled q.number q.value 0;
      event = no_event;
    }

unfoldable pub enter_outcome : List ℕ → NetworkModel → Cycle → Outcome
enter_outcome w m y =
    let e = enter_of (word w 0) (word w 1) (word w 2) (word w 3) m y (params_from w) in
    record {
      model = settled e.number e.model m;
      cycle = settled e.number e.cycle y;
      reply = e.number;
      value = 0;
      event = no_event;
    }

unfoldable pub change_outcome : List ℕ → NetworkModel → Cycle → Outcome
change_outcome w m y =
    let c = change_of (word w 0) (word w 1) (float_of (word w 1)) m in
    record { model = settled c.number c.next m; cycle = y; reply = c.number; value = 0; event = no_event }

-- a call, by its number. Those that are no call's are refused by `change_outcome` and `enter_outcome`
unfoldable pub outcome_of : List ℕ → NetworkModel → Cycle → Outcome
outcome_of w m y =
    cond (eqb (word w 0) 1) (send_outcome w m y)
    (cond (eqb (word w 0) 3) (event_outcome w m y)
    (cond (eqb (word w 0) 4) (finish_outcome w m y)
    (cond (eqb (word w 0) 0) (start_outcome w)
    (cond (is_judged (word w 0)) (judge_outcome w m y)
    (cond (is_asked (word w 0)) (ask_outcome w m y)
    (cond (leb 40 (word w 0)) (enter_outcome w m y) (change_outcome w m y)))))))
