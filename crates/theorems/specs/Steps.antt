-- A call's 49 words, with the lists after them, as the step that they ask for, by its number (docs/LAYOUT.md, "A
-- call"), what a step does to a state, and the exact run beside it (crates/drift/specs/Exact.antt). Definitions only.
-- `data` lists the kinds of a thing. `zero` is 0, and `suc n` the number after n. `eqb a b` and `leb a b` test
-- whether a equals b and whether it is at most b, `||` is "or" of tests and `&&` "and", and `cond t a b` is a where
-- the test t holds, b elsewhere. `record { f = a; .. }` is the record with those fields.
use Rattle.std.specs.Prelude.{ℕ, zero, suc, ◌+◌, Bool, true, false, cond, ◌&&◌, ◌||◌, List, [], ◌∷◌, ◌≡◌, leb, eqb}
use Rattle.units.specs.declared.time.Duration.{Duration}
use Rattle.units.specs.declared.time.Moment.{Moment}
use Rattle.state.specs.declared.params.Params.{Params}
use Rattle.state.specs.Answers.{settled, zero_length, zero_moment}
use Rattle.state.specs.NetworkModel.{one, model_new, start_number, start_model}
use Rattle.state.specs.Cycle.{cycle_new, fresh_cycle}
use Rattle.words.specs.Word.{word, flag_of, float_of}
use Rattle.arguments.specs.Params.{params_from}
use Rattle.arguments.specs.CongestionEvent.{event_from, event_in}
use Rattle.arguments.specs.Sample.{sample_from, acked_of}
use Rattle.calls.specs.Enter.{down_at}
use Rattle.dispatch.specs.Outcome.{Outcome}
use Rattle.dispatch.specs.Outcome.{is_judged, is_asked, no_event, outcome_of}
use Rattle.dispatch.specs.OneCall.{call_at}
use Rattle.drift.specs.Calls as C
use Rattle.drift.specs.Calls.{Call, Other, State, number_of, after}
use Rattle.drift.specs.Exact as X
use Rattle.drift.specs.Exact.{Exact, unset, exactly}

-- a start; a call that can change the state; or one that keeps it: a question, or a number that is no call's
pub data Step : Type 0 where
  begins : Params → Duration → Moment → Step
  makes : Call → Step
  keeps : Step

abbrev pub moment : ℕ → Moment
moment n = record { 0 = n }

abbrev pub duration : ℕ → Duration
duration n = record { 0 = n }

abbrev other : Other → Step
other c = makes (C.other c)

-- ---- from words. Calls 5 to 7 and 9
unfoldable pub judge_step : List ℕ → Step
judge_step w =
    cond (eqb (word w 0) 5) (other (C.expire (params_from w) (event_from w)))
    (cond (eqb (word w 0) 6) keeps
    (cond (eqb (word w 0) 7) (other (C.growth (params_from w) (event_from w)))
    (cond (eqb (word w 0) 9) (other (C.queue (params_from w) (float_of (word w 1)))) keeps)))

-- calls 40 to 45. A flag of call 40 that no writer writes makes its moment one that is out of bounds (`down_at`)
unfoldable pub enter_step : List ℕ → Step
enter_step w =
    cond (eqb (word w 0) 40)
    (other (C.down (params_from w) (flag_of (word w 1)) (flag_of (word w 2))
    (down_at (word w 1) (word w 2) (word w 3))))
    (cond (eqb (word w 0) 41) (makes (C.cruise (moment (word w 1))))
    (cond (eqb (word w 0) 42) (makes (C.refill (word w 1) (moment (word w 2))))
    (cond (eqb (word w 0) 43) (other (C.up (moment (word w 1)) (word w 2)))
    (cond (eqb (word w 0) 44) (other C.exit)
    (cond (eqb (word w 0) 45) (other (C.slope (word w 1))) keeps)))))

-- calls 8 and 14 to 22
unfoldable pub change_step : List ℕ → Step
change_step w =
    cond (eqb (word w 0) 8) (other C.restart)
    (cond (eqb (word w 0) 14) (other C.reached)
    (cond (eqb (word w 0) 15) (other (C.pacing (float_of (word w 1))))
    (cond (eqb (word w 0) 16) (other (C.cwnd (float_of (word w 1))))
    (cond (eqb (word w 0) 17) (other (C.high (word w 1)))
    (cond (eqb (word w 0) 18) (makes (C.cap (word w 1)))
    (cond (eqb (word w 0) 19) (makes C.clear_inflight)
    (cond (eqb (word w 0) 20) (makes C.clear_bandwidth)
    (cond (eqb (word w 0) 21) (other C.advance)
    (cond (eqb (word w 0) 22) (other (C.postpone (duration (word w 1)))) keeps)))))))))

unfoldable pub step_of : List ℕ → Step
step_of w =
    cond (eqb (word w 0) 1) (other (C.sent (moment (word w 1)) (word w 2) (word w 3) (word w 4)))
    (cond (eqb (word w 0) 3) (makes (C.event (params_from w) (event_from w) (sample_from w) (acked_of w)))
    (cond (eqb (word w 0) 4) (other (C.finish (event_from w)))
    (cond (eqb (word w 0) 0) (begins (params_from w) (duration (word w 2)) (moment (word w 1)))
    (cond (is_judged (word w 0)) (judge_step w)
    (cond (is_asked (word w 0)) keeps
    (cond (leb 40 (word w 0)) (enter_step w) (change_step w)))))))

-- ---- what a step does. A start makes model and cycle anew, a refused one at moment 0
unfoldable pub after_start : Params → Duration → Moment → State
after_start p rtt now =
    record { model = start_model p rtt now; cycle = fresh_cycle (settled (start_number p rtt now) now zero_moment) }

unfoldable pub after_step : Step → State → State
after_step (begins p rtt now) s = after_start p rtt now
after_step (makes c) s = after c s
after_step keeps s = s

-- n is the number that it is answered with
abbrev pub Replies : Step → State → ℕ → Type 0
Replies (begins p rtt now) s n = n ≡ start_number p rtt now
Replies (makes c) s n = n ≡ number_of c s
Replies keeps s n = Unit {0}

-- the steps of the n calls in bytes from an index on, given the lists, and what they do, one after the other
unfoldable pub steps_from : (calls lists : List ℕ) → ℕ → ℕ → List Step
steps_from calls lists at zero = []
steps_from calls lists at (suc n) = step_of (call_at calls lists at) ∷ steps_from calls lists (at + 392) n

unfoldable pub walk : List Step → State → State
walk [] s = s
walk (c ∷ steps) s = walk steps (after_step c s)

-- ---- the exact run beside them: a start unsets it, and a call makes its effect where it is done
unfoldable pub exact_step : (Call → State → X.Effect) → (parts : ℕ) → Step → State → Exact → Exact
exact_step effect parts (begins p rtt now) s x = unset
exact_step effect parts (makes c) s x = exactly parts (settled (number_of c s) (effect c s) X.stays) x
exact_step effect parts keeps s x = x

unfoldable pub exact_walk : (Call → State → X.Effect) → (parts : ℕ) → List Step → State → Exact → Exact
exact_walk effect parts [] s x = x
exact_walk effect parts (c ∷ steps) s x = exact_walk effect parts steps (after_step c s) (exact_step effect parts c s x)

-- ---- a call's outcome (crates/dispatch/specs/Outcome.antt) leaves what its step leaves, and replies its number
abbrev pub outcome_in : List ℕ → State → Outcome
outcome_in w s = outcome_of w s.model s.cycle

-- what a start, done or refused, puts anew (`fresh`), a send that is done too (`sent`), and every other call leaves
-- (`was`)
abbrev pub sent_after : {A : Type 0} → List ℕ → State → (fresh sent was : A) → A
sent_after w s fresh sent was =
    let n = word w 0 in
    cond (eqb n 0) fresh (cond (eqb n 1 && eqb (outcome_in w s).reply 0) sent was)

-- document 02, request i, "a note of whether anything was sent", after a call; and the last sent number, which a send
-- takes from word 3
abbrev pub note_after : List ℕ → State → Bool
note_after w s = sent_after w s false true s.model.begun

abbrev pub last_after : List ℕ → State → ℕ
last_after w s = sent_after w s 0 (word w 3) s.model.rounds.sent

abbrev pub state_left : Outcome → State
state_left t = record { model = t.model; cycle = t.cycle }

pub record Makes (w : List ℕ) (s : State) : Type 0 where
  pub leaves : state_left (outcome_in w s) ≡ after_step (step_of w) s
  pub replies : Replies (step_of w) s (outcome_in w s).reply

-- a call that is refused: a start leaves document 01's fresh state at moment 0, any other call the state as it was. Its
-- answer has the value 0 and the record: for call 3, words 22 to 37 of the call as they were handed in
abbrev pub fresh : State
fresh = record { model = model_new one one false zero_length zero_moment; cycle = cycle_new zero_moment }

pub record Refused (w : List ℕ) (s : State) : Type 0 where
  pub state : state_left (outcome_in w s) ≡ cond (eqb (word w 0) 0) fresh s
  pub value : (outcome_in w s).value ≡ 0
  pub event : (outcome_in w s).event ≡ cond (eqb (word w 0) 3) (event_in w) no_event

-- ---- docs/LAYOUT.md, "A call": the number of each. The step of a number is that number's
abbrev pub other_call : Other → ℕ
other_call (C.sent now inflight packet bytes) = 1
other_call (C.finish e) = 4
other_call (C.expire p e) = 5
other_call (C.growth p e) = 7
other_call (C.queue p gain) = 9
other_call C.restart = 8
other_call C.reached = 14
other_call (C.pacing gain) = 15
other_call (C.cwnd gain) = 16
other_call (C.high bytes) = 17
other_call C.advance = 21
other_call (C.postpone d) = 22
other_call (C.down p hi risky now) = 40
other_call (C.up now window) = 43
other_call C.exit = 44
other_call (C.slope window) = 45

abbrev pub call_number : Call → ℕ
call_number (C.event p e x acked) = 3
call_number (C.cap bytes) = 18
call_number C.clear_inflight = 19
call_number C.clear_bandwidth = 20
call_number (C.cruise now) = 41
call_number (C.refill rounds now) = 42
call_number (C.other c) = other_call c

-- "The numbers 2, 39 and those above 45 are no call's."
abbrev pub is_unknown : ℕ → Bool
is_unknown n = eqb n 2 || eqb n 39 || leb 46 n

abbrev pub Numbered : Step → ℕ → Type 0
Numbered (begins p rtt now) n = n ≡ 0
Numbered (makes c) n = n ≡ call_number c
Numbered keeps n = (eqb n 6 || is_asked n || is_unknown n) ≡ true
