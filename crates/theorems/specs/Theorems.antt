-- The theorems of Guovssalu: one record, `Theorems`, below. Its one proof is `theorems` in proofs/Theorems.antt, which
-- the checker has accepted. What stands here are statements: to judge them, no proof need be read.
--
-- How to read them. `--` begins a remark. `x : A` says that x is of the kind A: `ℕ` is the whole numbers from 0, `Bool`
-- is true or false, `Float` a float, `List ℕ` a list of whole numbers. `(x : A) → B` is "for every x of the kind A, B",
-- and `A → B` is "if A, then B"; between kinds of values it is a function from A to B. `A × B` is "A and B", `A ⊎ B` "A
-- or B", `A ↔ B` "A exactly when B", `x ≡ y` "x equals y". `⊥` is "never", so that `A → ⊥` is "not A". `f x y` is f of
-- x and y: arguments have no brackets around them. `r.f` is the field f of the record r. `λ x. A` is A as a function
-- of x. `[]` is the empty list, `x ∷ l` is the list l with x before it, `k ++ l` is the list k and then the list l.
-- `let x = a in B` is B, in which x stands for a. A `record` of statements holds where each of its lines does. `Type 0`
-- is the kind of statements: a definition that ends in it names one. `a ≤ b`, `a < b` and `2 ^ n` are as in school.
-- `HasValue x false a c` says that the float x is finite, not negative, and a / c in size. `abbrev`, `unfoldable`,
-- `pub` and `use` lines add nothing to what is said.
--
-- Bytes, words, the numbers of the calls, of the refusals and of the reasons are explained in docs/LAYOUT.md, "document
-- 01" and "document 02" in docs/README.md. The statements are made of names from eight files beside this one:
--   Runs.antt     an exported call as bytes lent and bytes left, of which no more is known than its contract; runs, by
--                 `guovssalu_run` or with lists, one after the other; where in the bytes a word stands; the exact value
--                 beside them
--   Steps.antt    the 49 words of a call, with the lists, as the step that they ask for, and what it does to a state
--   Rows.antt     by the number of a call in a run, which rows of the table hold: document 01's, and request i's 10
--   Blames.antt   which argument the reply to a call of a run names: request b
--   Rtt.antt      the exported run of the round-trip estimator, and its calls: request a
--   Trace.antt    the functions that replay a trace, and the exact value beside its rows: request j
--   Mend.antt     the functions that mend a trace: request k
--   Casts.antt    that the casts of the definitions are those of the Rust Reference
-- and Examples.antt has five runs worked out in bytes, so that one sees what the statements speak of.
-- Any other name stands in the crate that its `use` line names; what the lower bounds, exact values and `Follows` are
-- is explained in crates/drift/specs/Drift.antt.
use Rattle.std.specs.Prelude.{ℕ, ◌*◌, ◌^◌, ◌≤◌, ◌<◌, true, false, List, [], ◌∷◌, ◌++◌, ◌⊎◌, ◌≡◌, Float, length, Option}
use Rattle.std.specs.Float.Ieee.Exact.{HasValue}
use Rattle.numbers.specs.Scaling.{complement, parts_of}
use Rattle.numbers.specs.Examples.{all}
use Rattle.filters.specs.Examples.{reason_examples, round_examples}
use Rattle.filters.specs.Greatest.{Greatest}
use Rattle.events.specs.NeverSent.{NeverSent, unsent_events}
use Rattle.events.specs.OnlyGreatest.{OnlyGreatest}
use Rattle.dispatch.specs.OnlyGreatest as Calls
use Rattle.laws.specs.Examples.{marked_examples}
use Rattle.state.specs.Bounds.{moment_ok}
use Rattle.laws.specs.Laws.{EveryCall}
use Rattle.laws.specs.Reasons.{Reasons}
use Rattle.laws.specs.Replies.{Exactly, EveryReply}
use Rattle.laws.specs.Named.{EveryFault}
use Rattle.words.specs.Words.{all_bytes}
use Rattle.dispatch.specs.RoundTrip.{RoundTrip}
use Rattle.arguments.specs.Tested.{Tested}
use Rattle.words.specs.Word.{word}
use Rattle.calls.specs.Enter.{down_at}
use Rattle.pairs.specs.Pairs.{pairs, run_row, pairs_faults}
use Rattle.rtt.specs.declared.rtt.RttStats.{RttStats}
use Rattle.rtt.specs.Rtt.{stats_ok}
use Rattle.rtt.specs.Exact as Averages
use Rattle.rtt.specs.Examples as Samples
use Rattle.rtt.specs.Examples.{rtt_examples}
use Rattle.trips.specs.Trips as Trips
use Rattle.trips.specs.Trips.{stats_words, stats_in, answer_at, rtt_row, rtt_faults}
use Rattle.trips.specs.Returned as Returned
use Rattle.guovssalu.specs.RttRun.{rtt_reply, rtt_state_out, rtt_answers_out}
use Rattle.worth.specs.Worth.{EveryRun}
use Rattle.worth.specs.Returned.{EveryReturned}
use Rattle.worth.specs.Examples.{Worked}
use Rattle.guovssalu.specs.FilterRun.{run_reply, run_out}
use Rattle.layout.specs.StateWords.{state_words}
use Rattle.guovssalu.specs.ModelRun.{encodes_none, model_row, length_faults, model_reply, state_out, answers_out}
use Rattle.dispatch.specs.OneCall.{answer_words}
use Rattle.guovssalu.specs.Slope.{slope_row, window_faults, slope_reply, slope_out}
use Rattle.drift.specs.Calls.{Call, State}
use Rattle.drift.specs.Exact.{Effect, Exact, unset, inflight_effect, bandwidth_effect}
use Rattle.drift.specs.Drift.{Follows, IsBeta, usual_beta, usual_parts, Under}
use Rattle.text.specs.Examples.{LinesWorked}
use Rattle.trace.specs.Laws.{TraceLaws}
use Rattle.trace.specs.Examples.{TracesWorked}
use Rattle.mending.specs.Laws.{MendLaws}
use Rattle.mending.specs.Examples.{MendsWorked}
use Rattle.theorems.specs.Blames.{Named, Blames}
use Rattle.theorems.specs.Rows.{rows_of}
use Rattle.theorems.specs.Rtt.{RttRun, RttRan, RttRow, rtt_count, OneRttOutcome, RttCall, EveryRttReply, rtt_before, rtt_word, RttStarts, InRttBytes, InRttAnswers}
use Rattle.theorems.specs.Trace.{TraceUnasked, TraceDefined, InRows}
use Rattle.theorems.specs.Mend.{MendUnasked, MendDefined}
use Rattle.theorems.specs.Casts.{Casts}
use Rattle.theorems.specs.Steps.{moment, Makes, Refused, Numbered, step_of, outcome_in, note_after, last_after}
use Rattle.theorems.specs.Runs.{Unasked, Run, Ran, FilterRun, Filtered, SlopeRun, Raised, OneOutcome, Conversions, RunRow, FilterRow, SlopeRow, PairShows, AreBytes, is_within, count, call, before, answer, answer_word, Accepted, Starts, Each, History, exact_after, exact_runs, exact_before, low_word, inflight_in, bandwidth_in, HasBetaWord, HasSmallWords, OfEvents}

-- What demand 3 says, of any runs, the last of which is r, that begin with a start (`History`), and in which every
-- accepted event has words of which P holds: the number that `low` finds in the bytes that r left is near the exact one
abbrev pub InState : (P : List ℕ → Type 0) (low : List ℕ → Option ℕ) (effect : Call → State → Effect) (parts : ℕ)
    (Near : Option ℕ → Exact → Type 0) → Type 0
InState P low effect parts Near =
    (runs : List Run) (r : Run) → History (runs ++ (r ∷ [])) → Each (OfEvents P) (runs ++ (r ∷ [])) →
    Near (low r.left) (exact_after effect parts r (exact_runs effect parts runs unset))

-- and so is the answer to a call 35 of r, "inflight_lo", where i calls of r were made before it
abbrev pub InAnswers : (P : List ℕ → Type 0) (effect : Call → State → Effect) (parts : ℕ)
    (Near : Option ℕ → Exact → Type 0) → Type 0
InAnswers P effect parts Near =
    (runs : List Run) (r : Run) (i : ℕ) → History (runs ++ (r ∷ [])) → Each (OfEvents P) (runs ++ (r ∷ [])) →
    Accepted 35 r i →
    Near (low_word (answer_word r i 1)) (exact_before effect parts r i (exact_runs effect parts runs unset))

-- inflight_lo, where P is: the event has this beta, and its window and its inflight sample are at most 2^24
abbrev pub InflightNear : (beta : Float) (parts : ℕ) (Near : Option ℕ → Exact → Type 0) → Type 0
InflightNear beta parts Near =
    InState (λ w. HasBetaWord beta w × HasSmallWords w) inflight_in inflight_effect parts Near
    × InAnswers (λ w. HasBetaWord beta w × HasSmallWords w) inflight_effect parts Near

-- bandwidth_lo, where P is: the event has this beta
abbrev pub BandwidthNear : (beta : Float) (parts : ℕ) (Near : Option ℕ → Exact → Type 0) → Type 0
BandwidthNear beta parts Near = InState (HasBetaWord beta) bandwidth_in bandwidth_effect parts Near

pub record Theorems : Type 0 where
  -- ==== Demand 1. Every exported call takes any numbers, and ends; bad input gets a refusal by the table, and then
  -- every lent byte is as it was. (That a function ends and does nothing undefined, the checker proves of each.)
  -- No contract asks anything of the arguments
  pub any : Unasked
  -- A call is refused with the number of the first row that holds, exactly then. The conversions refuse nothing
  pub run_row_lem : (r : Run) → Ran r → RunRow r
  pub filter_row : (r : FilterRun) → Filtered r → FilterRow r
  pub slope_row_lem : (r : SlopeRun) → Raised r → SlopeRow r
  pub rtt_row_lem : (r : RttRun) → RttRan r → RttRow r
  -- Refused with 2, it names the first of its own faults, by kind and place (document 02, request b)
  pub run_fault : (r : Run) → Ran r →
      Named r.reply (model_row r.state r.calls (length r.answers)) (length_faults r.state r.calls)
  pub filter_fault : (r : FilterRun) → Filtered r →
      Named r.reply (run_row r.window r.pairs (length r.output)) (pairs_faults r.pairs)
  pub slope_fault : (r : SlopeRun) → Raised r →
      Named r.reply (slope_row r.rounds r.window (length r.output)) (window_faults r.window)
  pub rtt_fault : (r : RttRun) → RttRan r →
      Named r.reply (rtt_row r.state r.calls (length r.answers)) (rtt_faults r.state r.calls)
  -- Refused, it leaves every lent byte as it was
  pub run_keeps : (r : Run) → Ran r → (r.reply ≡ 0 → ⊥) → (r.left ≡ r.state) × (r.written ≡ r.answers)
  pub filter_keeps : (r : FilterRun) → Filtered r → (r.reply ≡ 0 → ⊥) → r.written ≡ r.output
  pub slope_keeps : (r : SlopeRun) → Raised r → (r.reply ≡ 0 → ⊥) → r.written ≡ r.output
  pub rtt_keeps : (r : RttRun) → RttRan r → (r.reply ≡ 0 → ⊥) → (r.left ≡ r.state) × (r.written ≡ r.answers)
  -- A run that is done leaves a state within document 01's bounds, if it was lent one or its first call is a start. The
  -- premise `AreBytes` says that each byte is below 256: a list here may hold any numbers
  pub run_bounds : (r : Run) → Ran r → AreBytes r.state → AreBytes r.calls → r.reply ≡ 0 →
      (is_within r.state ≡ true) ⊎ Starts r → is_within r.left ≡ true
  -- And it leaves 408 bytes that encode a state, so that the next run takes them
  pub run_again : (r : Run) → Ran r → AreBytes r.state → AreBytes r.calls → r.reply ≡ 0 →
      (length r.left ≡ 408) × (encodes_none r.left ≡ false)
  -- Those bytes are the words of the state that the calls left, one after the other (`before r (count r)`)
  pub run_left : (r : Run) → Ran r → r.reply ≡ 0 →
      let s = before r (count r) in r.left ≡ all_bytes (state_words s.model s.cycle)
  -- In a run that is done, call i is answered by its outcome (`outcome_of`) in the state that the calls before it left
  pub call_answered : (r : Run) → Ran r → r.reply ≡ 0 → (i : ℕ) → i < count r →
      answer r i ≡ all_bytes (answer_words (call r i) (before r i).model (outcome_in (call r i) (before r i)))
  -- A call of a run is refused with the number of the first row that holds, exactly then, whatever its words are
  pub call_row_lem : (w : List ℕ) (s : State) → Exactly (outcome_in w s).reply (rows_of w s)
  -- Refused, it changes nothing (a refused start has no earlier state, and leaves a fresh one at moment 0). Its answer
  -- is the reply's word, 0 and, of call 3, the record as handed in; of the others 16 zeros
  pub call_refused : (w : List ℕ) (s : State) → ((outcome_in w s).reply ≡ 0 → ⊥) → Refused w s
  -- A call that is refused with 2 names the first of its faults, by kind and place, and no other reply names any; its
  -- row is the number above (document 02, request b). Each public call does the same by its contract (`calls_faults`,
  -- below)
  pub call_fault : (w : List ℕ) (s : State) → Blames w s
  -- Words that no writer writes are out of bounds: what is within them is written in the very words that were read. So
  -- are the two flags of call 40, whose moment is read with them
  pub words : Tested
  pub down_flags : (a b n : ℕ) → moment_ok (down_at a b n) ≡ true → (a ≤ 1) × (b ≤ 1) × (down_at a b n ≡ moment n)
  -- And what a writer writes is read as what was written, within the bounds or not
  pub words_back : RoundTrip
  -- Every public call of the model, the cycle, the windowed filter and the round counter is refused with the number of
  -- the first row that holds, exactly then; refused, it leaves what it was given, and done, what its definition says
  -- (demand 2); then the state is within its bounds
  pub calls : EveryReply
  pub calls_faults : EveryFault
  pub calls_bounds : EveryCall
  -- The round-trip estimator (document 02, request a): the same of its public functions and, whatever its words are, of
  -- a call of its run. A run that is done leaves the words of the estimator that the calls lead to, 48 bytes that the
  -- next run takes, within the bounds if it was lent such or begins with `new`; and word j of answer i is that of the
  -- call's answer, on the estimator that the calls before it left
  pub rtt_calls : EveryRttReply
  pub rtt_call : (s : RttStats) (n a b c : ℕ) → RttCall s n a b c
  pub rtt_left_lem : (r : RttRun) → RttRan r → r.reply ≡ 0 →
      r.left ≡ all_bytes (stats_words (rtt_before r (rtt_count r)))
  pub rtt_bounds : (r : RttRun) → RttRan r → r.reply ≡ 0 →
      (stats_ok (stats_in r.state) ≡ true) ⊎ RttStarts r → stats_ok (stats_in r.left) ≡ true
  pub rtt_again : (r : RttRun) → RttRan r → AreBytes r.state → r.reply ≡ 0 →
      (length r.left ≡ 48) × (Trips.encodes_none r.left ≡ false)
  pub rtt_answered : (r : RttRun) → RttRan r → r.reply ≡ 0 → (i j : ℕ) → i < rtt_count r → j < 5 →
      rtt_word r i j ≡ word (answer_at (rtt_before r i) r.calls (32 * i)) j
  --
  -- ==== Demand 2. What an exported call replies and leaves is what its definition says, and nothing else is allowed.
  -- Where nothing is refused it is written from the Rust: an event's, since request i, over events that pass row 10
  pub run_defined : (r : Run) → Ran r →
      (r.reply ≡ model_reply r.state r.calls (length r.answers))
      × (r.left ≡ state_out r.state r.calls r.lists r.answers)
      × (r.written ≡ answers_out r.state r.calls r.lists r.answers)
  pub filter_defined : (r : FilterRun) → Filtered r →
      (r.reply ≡ run_reply r.window r.pairs (length r.output))
      × (r.written ≡ run_out r.window r.pairs r.output)
  pub slope_defined : (r : SlopeRun) → Raised r →
      (r.reply ≡ slope_reply r.rounds r.window (length r.output))
      × (r.written ≡ slope_out r.rounds r.window r.output)
  pub rtt_defined : (r : RttRun) → RttRan r →
      (r.reply ≡ rtt_reply r.state r.calls (length r.answers))
      × (r.left ≡ rtt_state_out r.state r.calls r.answers)
      × (r.written ≡ rtt_answers_out r.state r.calls r.answers)
  -- The seven conversions; and their casts are those of the Rust Reference, their rounding that of Rust's `f64::round`
  pub conversions : Conversions
  pub casts : Casts
  pub one_outcome : OneOutcome
  pub one_rtt_outcome : OneRttOutcome
  -- A call of a run leaves what its step leaves, and the step is that of the call's number, whatever its words are
  pub steps : (w : List ℕ) (s : State) → Makes w s
  pub numbers : (w : List ℕ) → Numbered (step_of w) (word w 0)
  -- Document 01's twelve marked examples hold of the definitions
  pub examples : all marked_examples ≡ true
  -- Acks out of order (document 02, request d): what the greatest of a list is, and that it is the last of a list that
  -- rises; which lists end a round, worked out. An event's reply, next model and record depend on its list only by
  -- whether it is empty and by its greatest number; what a call of a run answers and leaves depends besides on whether
  -- the lists have the numbers that it names
  pub greatest : Greatest
  pub round_examples_lem : all round_examples ≡ true
  pub only_greatest : OnlyGreatest
  pub only_greatest_call : Calls.OnlyGreatest
  -- Acks for packets never sent (document 02, request i): which lists are turned away with 10, and events worked out;
  -- where 10 stands among the refusals say `calls` and `call_row_lem` (`Exactly`, `is10`). And what a call of a run
  -- does to the note of whether anything was sent, and to the last sent number: a start, done or refused, sets them to
  -- no and 0, a send that is done to yes and its packet's number, and no other call touches them
  pub never_sent_lem : NeverSent
  pub unsent_events_lem : all unsent_events ≡ true
  pub note : (w : List ℕ) (s : State) → (outcome_in w s).model.begun ≡ note_after w s
  pub last_sent : (w : List ℕ) (s : State) → (outcome_in w s).model.rounds.sent ≡ last_after w s
  -- Why a windowed filter's estimates moved (document 02, request f): "unchanged" exactly when the update left the
  -- filter as it was; the best moves with step 1 and step 3 alone; of step 2 and a later step the later is named; and
  -- only four such pairs can meet, each worked out
  pub reasons : Reasons
  pub reason_examples_lem : all reason_examples ≡ true
  -- What its estimates are worth (document 02, request h; crates/worth/specs/Worth.antt, `Worth`), after any updates,
  -- resets and clears of an empty filter: of the definitions, of what the public functions return, and of the three
  -- samples that a filter run writes for pair i, beside what the pairs up to it fed. Then runs worked out, and that the
  -- best need not be the largest sample of the window
  pub worth : EveryRun
  pub worth_returned : EveryReturned
  pub worth_written : (r : FilterRun) → Filtered r → AreBytes r.pairs → r.reply ≡ 0 →
      (i : ℕ) → i < pairs r.pairs → PairShows r i
  pub worth_worked : Worked
  --
  -- ==== Demand 3. For every f32 beta from 1/1024 to 1023/1024, the float b = 1 - beta is exactly parts / 2^24, and
  -- inflight_lo is unset exactly where the exact value is; where it is set, after k reductions, it differs from it by
  -- less than k bytes and by less than 1 / (1 - b) bytes (`Follows 1 1`). Word 17 is 2^64 - 1 where it is unset
  pub inflight : (beta : Float) → IsBeta beta →
      let parts = parts_of (complement beta) in
      HasValue (complement beta) false parts (2 ^ 24) × InflightNear beta parts (Follows 1 1 parts)
  -- bandwidth_lo: the same with 4097 / 8192 bits per second in place of 1 byte
  pub bandwidth : (beta : Float) → IsBeta beta →
      let parts = parts_of (complement beta) in BandwidthNear beta parts (Follows 4097 8192 parts)
  -- At beta 0.3 b is 11744051 / 2^24, and they are under 3.34 bytes and under 1.67 bits per second
  pub usual_inflight : InflightNear usual_beta usual_parts (Under 334)
  pub usual_bandwidth : BandwidthNear usual_beta usual_parts (Under 167)
  --
  -- ==== The round-trip estimator's averages (document 02, request a; crates/rtt/specs/Exact.antt, `Follows`), after
  -- any run of calls that begins with `new`: the smoothed value is never above the exact average of the same adjusted
  -- samples and less than 14 ns below it, the variation less than 20 ns below and less than 14 ns above the exact one,
  -- whose deviations are taken from the exact average; both are within their bounds, and the minimum is the least of
  -- all samples. Of the definitions, of what the public functions return, of the bytes that the exported runs leave,
  -- one after the other, and of each accepted call's answer in them. Then the estimator worked out, with runs in which
  -- no smaller whole number bounds the averages
  pub rtt : Averages.EveryRun
  pub rtt_returned : Returned.EveryReturned
  pub rtt_bytes : InRttBytes
  pub rtt_answers_lem : InRttAnswers
  pub rtt_examples_lem : all rtt_examples ≡ true
  pub rtt_worked : Samples.Worked
  --
  -- ==== A trace replayed (document 02, request j). The functions that the program `replay` is made of take any lines,
  -- and return what their definitions say; reading and writing are not proved. What is written for an input that comes
  -- in pieces, cut anywhere, is the output of the whole (crates/trace/specs/Output.antt, `output_of`); an accepted
  -- event's finish is never refused. Then lines and inputs worked out, document 02's among them
  pub trace_any : TraceUnasked
  pub trace_defined : TraceDefined
  pub trace_laws : TraceLaws
  pub trace_lines : LinesWorked
  pub trace_worked : TracesWorked
  -- Demand 3 of every trace whose accepted lines have windows of at most 16,777,216 bytes: the lo that any row shows is
  -- unset exactly where the exact value is; where it is set, after k reductions since the last accepted start, it
  -- differs from it by less than k bytes and by less than 1 / (1 - b), and so by less than 3.34
  pub trace_inflight : InRows usual_parts (Follows 1 1 usual_parts)
  pub usual_trace : InRows usual_parts (Under 334)
  --
  -- ==== A trace mended (document 02, request k). The functions that the program `mend` is made of take any lines, and
  -- return what their definitions say; reading and writing are not proved. Of any lines those are kept that do not give
  -- 6 in the replay, unchanged and in order, and the others are listed with their numbers, which rise; together they
  -- are as many as the lines. The replay of what is kept has the rows of the whole that are not 6; mending again
  -- changes nothing; a trace of which no line gives 6 comes out byte for byte. What is written for an input that comes
  -- in pieces, cut anywhere, is that of the whole (crates/mending/specs/Mend.antt, `mended_of` and `list_of`). Then
  -- traces worked out, with each field at fault
  pub mend_any : MendUnasked
  pub mend_defined : MendDefined
  pub mend_laws : MendLaws
  pub mend_worked : MendsWorked

-- ==== What else must be believed
-- The kit: that its checker accepts only proofs; that its models of floats and of the machine are those of the
-- processor; that `Reads.Learnt` is a function's contract, and that for all arguments it allows an outcome, which the
-- checker proves with the function; that the names under `declared` are the types of src/; and that its back end
-- compiles what was proved. The proofs speak of lent ranges that lie apart: the header lets the calls and the lists,
-- which are only read, share bytes. The page docs/LAYOUT.md. And the definitions that this page is made of, written
-- from documents 01 and 02, the original and docs/LAYOUT.md: all files of specs/ to which `use` lines lead from here,
-- with their remarks. A script of the gate counts their lines (tests/contracts.py):
--   numbers 245, units 134, filters 414, words 126, text 256, rows 76, state 972, worth 263, rtt 463, layout 202,
--   events 449, phases 200, changes 59, judge 189, arguments 208, reads 15, places 139, pairs 57, trips 201, calls
--   192, laws 807, dispatch 241, trace 574, guovssalu 193, drift 367, mending 419, theorems 1328: together 8789
