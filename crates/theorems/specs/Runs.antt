-- The exported calls on lent bytes, of which no more is known than their contracts, and runs of `guovssalu_run` and
-- `guovssalu_run_lists` one after the other on the same state (docs/LAYOUT.md). Definitions only.
-- `word w i` is word i of a list of words, `Bytes.word_at l i` the word in the 8 bytes of l from byte i on.
-- Theorems.antt says how to read them; besides, `A ↔ B` is "A exactly when B", `Unit` "nothing is asked", `cond t a
-- b` is a where the test t is true and b elsewhere, and of tests `eqb` is "equals", `ltb` "is below", `&&` "and",
-- `||` "or". `suc n` is the number after n, `zero` is 0. `{K : Type 0}` names what is left to the checker to find.
use Rattle.std.specs.Prelude.{ℕ, zero, suc, ◌+◌, ◌-◌, ◌*◌, ◌%◌, ◌^◌, ◌≤◌, ◌<◌, Bool, true, false, cond, not, ◌&&◌, ◌||◌, List, [], ◌∷◌, ◌↔◌, ◌⊎◌, ◌≡◌, ltb, eqb, Float, length, get_or, take, drop, Option, None, Some}
use Rattle.state.specs.Answers.{settled}
use Rattle.filters.specs.WindowedFilter.{windowed_new}
use Rattle.worth.specs.Worth.{Step, update, ran, Shows}
use Rattle.state.specs.Bounds.{bytes_ok}
use Rattle.state.specs.NetworkModel.{model_ok}
use Rattle.state.specs.Cycle.{rounds_ok, cycle_ok}
use Rattle.words.specs.Words as Bytes
use Rattle.words.specs.Maybe.{bandwidth_of}
use Rattle.words.specs.Word.{word, float_of}
use Rattle.layout.specs.NetworkModel.{model_from}
use Rattle.layout.specs.Cycle.{cycle_from}
use Rattle.guovssalu.specs.Conversions.{f32_bits, f64_bits, f32_to_u64, f64_round_to_u64, scaled_by, bandwidth_by, bytes_in}
use Rattle.pairs.specs.Pairs.{pairs, refuses}
use Rattle.guovssalu.specs.ModelRun.{state_in, encodes_none, calls_in, no_lists}
use Rattle.dispatch.specs.OneCall.{call_at}
use Rattle.guovssalu.proofs.conversions as conversions
use Rattle.guovssalu.proofs.filter_run.guovssalu_filter_run as filter
use Rattle.guovssalu.proofs.model_run.guovssalu_run as model
use Rattle.guovssalu.proofs.model_run.guovssalu_run_lists as with-lists
use Rattle.guovssalu.proofs.rtt_run.guovssalu_rtt_run as rtt
use Rattle.guovssalu.proofs.slope.guovssalu_raise_inflight_high_slope as slope
use Rattle.drift.specs.Calls.{Call, State}
use Rattle.drift.specs.Exact as X
use Rattle.drift.specs.Exact.{Exact}
use Rattle.units.specs.Outcomes.{Allowed}
use Rattle.units.specs.Reply.{row_in}
use Rattle.drift.specs.Drift.{low_of}
use Rattle.theorems.specs.Steps.{steps_from, walk, exact_walk}

-- ---- contracts (crates/units/specs/Outcomes.antt): `Allowed` says that P holds of some outcome that one allows
-- every outcome that the contract allows has this reply
abbrev pub Gives : {K : Type 0} {A E : K → Type 0} {R : Type 0} →
    ((κ : K) → A κ → R → E κ → Type 0) → ((κ : K) → A κ → R) → Type 0
Gives {K} {A} {E} {R} learnt f = (κ : K) (a : A κ) (n : R) (e : E κ) → learnt κ a n e → n ≡ f κ a

-- the contract asks nothing of the arguments
abbrev pub AsksNothing : {K : Type 0} {A : K → Type 0} → ((κ : K) → A κ → Type 0) → Type 0
AsksNothing {K} {A} asked = (κ : K) (a : A κ) → asked κ a

pub record Unasked : Type 0 where
  pub run : AsksNothing model.Reads.Asked
  pub run_lists : AsksNothing with-lists.Reads.Asked
  pub filter_run : AsksNothing filter.Reads.Asked
  pub raise_slope : AsksNothing slope.Reads.Asked
  pub rtt_run : AsksNothing rtt.Reads.Asked
  pub u64_to_f32 : AsksNothing conversions.guovssalu_u64_to_f32.Reads.Asked
  pub u64_to_f64 : AsksNothing conversions.guovssalu_u64_to_f64.Reads.Asked
  pub f32_to_u64_lem : AsksNothing conversions.guovssalu_f32_to_u64.Reads.Asked
  pub f64_round_to_u64_lem : AsksNothing conversions.guovssalu_f64_round_to_u64.Reads.Asked
  pub scale : AsksNothing conversions.guovssalu_scale.Reads.Asked
  pub bandwidth : AsksNothing conversions.guovssalu_bandwidth_mul_f32.Reads.Asked
  pub bytes : AsksNothing conversions.guovssalu_to_bytes_per_period.Reads.Asked

-- `guovssalu_run_lists`: the bytes lent for the state, the calls and the answers, and the words of the lists; its
-- reply; the bytes left in the state and in the answers. Calls and lists are lent to be read only
pub record Run : Type 0 where
  pub state : List ℕ
  pub calls : List ℕ
  pub lists : List ℕ
  pub answers : List ℕ
  pub reply : ℕ
  pub left : List ℕ
  pub written : List ℕ

abbrev pub RanLists : Run → Type 0
RanLists r =
    Allowed with-lists.Reads.Learnt
    (λ κ a n e.
    (a.0.now ≡ r.state)
    × (a.1.0.now ≡ r.calls)
    × (a.1.1.0.now ≡ r.lists)
    × (a.1.1.1.0.now ≡ r.answers)
    × (n ≡ r.reply)
    × (e.0.now ≡ r.left)
    × (e.1.1.1.0.now ≡ r.written))

-- `guovssalu_run`, which is lent no lists
abbrev pub RanPlain : Run → Type 0
RanPlain r =
    Allowed model.Reads.Learnt
    (λ κ a n e.
    (a.0.now ≡ r.state)
    × (a.1.0.now ≡ r.calls)
    × (no_lists ≡ r.lists)
    × (a.1.1.0.now ≡ r.answers)
    × (n ≡ r.reply)
    × (e.0.now ≡ r.left)
    × (e.1.1.0.now ≡ r.written))

-- a run of either
abbrev pub Ran : Run → Type 0
Ran r = RanPlain r ⊎ RanLists r

-- `guovssalu_filter_run`: a window, the bytes of the pairs, the bytes lent for the samples and the reasons
pub record FilterRun : Type 0 where
  pub window : ℕ
  pub pairs : List ℕ
  pub output : List ℕ
  pub reply : ℕ
  pub written : List ℕ

abbrev pub Filtered : FilterRun → Type 0
Filtered r =
    Allowed filter.Reads.Learnt
    (λ κ a n e.
    (a.0 ≡ r.window)
    × (a.1.0.now ≡ r.pairs)
    × (a.1.1.0.now ≡ r.output)
    × (n ≡ r.reply)
    × (e.1.1.0.now ≡ r.written))

-- `guovssalu_raise_inflight_high_slope`: rounds, a window, the bytes lent for the answer
pub record SlopeRun : Type 0 where
  pub rounds : ℕ
  pub window : ℕ
  pub output : List ℕ
  pub reply : ℕ
  pub written : List ℕ

abbrev pub Raised : SlopeRun → Type 0
Raised r =
    Allowed slope.Reads.Learnt
    (λ κ a n e.
    (a.0 ≡ r.rounds)
    × (a.1.0 ≡ r.window)
    × (a.1.1.0.now ≡ r.output)
    × (n ≡ r.reply)
    × (e.1.1.0.now ≡ r.written))

-- any two outcomes that the contract allows for the same arguments coincide
pub record OneOutcome : Type 0 where
  pub run : (r q : Run) → Ran r → Ran q →
      (r.state ≡ q.state) × (r.calls ≡ q.calls) × (r.lists ≡ q.lists) × (r.answers ≡ q.answers) →
      (r.reply ≡ q.reply) × (r.left ≡ q.left) × (r.written ≡ q.written)
  pub filter_run : (r q : FilterRun) → Filtered r → Filtered q →
      (r.window ≡ q.window) × (r.pairs ≡ q.pairs) × (r.output ≡ q.output) →
      (r.reply ≡ q.reply) × (r.written ≡ q.written)
  pub raise_slope : (r q : SlopeRun) → Raised r → Raised q →
      (r.rounds ≡ q.rounds) × (r.window ≡ q.window) × (r.output ≡ q.output) →
      (r.reply ≡ q.reply) × (r.written ≡ q.written)

-- the seven conversions: numbers in, a number out, floats as their bits (crates/guovssalu/specs/Conversions.antt)
pub record Conversions : Type 0 where
  pub u64_to_f32 : Gives conversions.guovssalu_u64_to_f32.Reads.Learnt (λ κ a. f32_bits a.0)
  pub u64_to_f64 : Gives conversions.guovssalu_u64_to_f64.Reads.Learnt (λ κ a. f64_bits a.0)
  pub f32_to_u64_lem : Gives conversions.guovssalu_f32_to_u64.Reads.Learnt (λ κ a. f32_to_u64 a.0)
  pub f64_round_to_u64_lem : Gives conversions.guovssalu_f64_round_to_u64.Reads.Learnt (λ κ a. f64_round_to_u64 a.0)
  pub scale : Gives conversions.guovssalu_scale.Reads.Learnt (λ κ a. scaled_by a.0 a.1.0)
  pub bandwidth : Gives conversions.guovssalu_bandwidth_mul_f32.Reads.Learnt (λ κ a. bandwidth_by a.0 a.1.0)
  pub bytes : Gives conversions.guovssalu_to_bytes_per_period.Reads.Learnt (λ κ a. bytes_in a.0 a.1.0)

-- ---- refusals: n is the number of the first of three rows whose test holds, and 0 where none does, exactly then. The
-- third is row 7, "the lent output is shorter than the answer"
pub record FirstRow (n one : ℕ) (isOne : Bool) (two : ℕ) (isTwo isShort : Bool) : Type 0 where
  pub first : n ≡ one ↔ isOne ≡ true
  pub second : n ≡ two ↔ (isOne ≡ false) × (isTwo ≡ true)
  pub short : n ≡ 7 ↔ (isOne ≡ false) × (isTwo ≡ false) × (isShort ≡ true)
  pub done : n ≡ 0 ↔ (isOne ≡ false) × (isTwo ≡ false) × (isShort ≡ false)

-- how many calls there are
abbrev pub count : Run → ℕ
count r = calls_in r.calls

-- 1: "the state's 408 bytes encode no state"; 2: a state has 408 bytes, a call 392; 7: an answer has 144 bytes
abbrev pub RunRow : Run → Type 0
RunRow r =
    FirstRow (row_in r.reply)
    1 (encodes_none r.state)
    2 (not (eqb (length r.state) 408) || not (eqb (length r.calls % 392) 0))
    (ltb (length r.answers) (144 * count r))

-- 2: a pair has 16 bytes; 3: "a pair that the update would refuse"; 7: three samples and the reason have 32 bytes
abbrev pub FilterRow : FilterRun → Type 0
FilterRow r =
    FirstRow (row_in r.reply)
    2 (not (eqb (length r.pairs % 16) 0))
    3 (refuses (windowed_new r.window) r.pairs 0 (pairs r.pairs))
    (ltb (length r.output) (32 * pairs r.pairs))

-- ---- the pairs of a filter run: the updates that n of them ask for, from an index on
unfoldable pub updates_from : (src : List ℕ) (at n : ℕ) → List Step
updates_from src at zero = []
updates_from src at (suc n) =
    update (Bytes.word_at src (at + 8)) (Bytes.word_at src at) ∷ updates_from src (at + 16) n

-- of the updates that the pairs up to pair i ask for none is refused, and what is written for pair i, in its 32 bytes,
-- are the samples of the three estimates that they leave, of which the promises hold
abbrev pub PairShows : FilterRun → ℕ → Type 0
PairShows r i =
    let q = ran r.window (updates_from r.pairs 0 (i + 1)) in
    (length q.fed ≡ i + 1)
    × Shows r.window q.fed q.filter.held
    (Bytes.word_at r.written (32 * i))
    (Bytes.word_at r.written (32 * i + 8))
    (Bytes.word_at r.written (32 * i + 16))

-- 1: "rounds over 30 give 1"; 2: a window above 2^40; 7: two words have 16 bytes
abbrev pub SlopeRow : SlopeRun → Type 0
SlopeRow r =
    FirstRow (row_in r.reply)
    1 (not (rounds_ok r.rounds))
    2 (not (bytes_ok r.window))
    (ltb (length r.output) 16)

-- ---- a state in bytes
-- each is below 256
abbrev pub AreBytes : List ℕ → Type 0
AreBytes l = (i : ℕ) → get_or l i 0 < 256

unfoldable pub state_from : List ℕ → State
state_from bytes = record { model = model_from (state_in bytes); cycle = cycle_from (state_in bytes) }

-- it is within document 01's bounds
abbrev pub is_within : List ℕ → Bool
is_within bytes = model_ok (state_from bytes).model && cycle_ok (state_from bytes).cycle

-- ---- call i of a run: its words, with those of the lists after them, the state in which it is made, the 144 bytes of
-- its answer, and a word of them
abbrev pub call : Run → ℕ → List ℕ
call r i = call_at r.calls r.lists (392 * i)

abbrev pub before : Run → ℕ → State
before r i = walk (steps_from r.calls r.lists 0 i) (state_from r.state)

abbrev pub answer : Run → ℕ → List ℕ
answer r i = take 144 (drop (144 * i) r.written)

abbrev pub answer_word : Run → (i word : ℕ) → ℕ
answer_word r i j = Bytes.word_at r.written (144 * i + 8 * j)

-- a call of that number, in a run that is done, is answered 0
pub record Accepted (number : ℕ) (r : Run) (i : ℕ) : Type 0 where
  pub done : r.reply ≡ 0
  pub made : i < count r
  pub named : word (call r i) 0 ≡ number
  pub accepted : answer_word r i 0 ≡ 0

-- ---- runs one after the other
-- a run that is done, with at least one call, of which the first is a start
pub record Starts (r : Run) : Type 0 where
  pub done : r.reply ≡ 0
  pub some : 0 < count r
  pub first : word (call r 0) 0 ≡ 0

abbrev pub Each : {A : Type 0} → (A → Type 0) → List A → Type 0
Each P [] = Unit {0}
Each P (r ∷ runs) = P r × Each P runs

-- each is lent the bytes that the one before it left
abbrev pub Chained : List ℕ → List Run → Type 0
Chained bytes [] = Unit {0}
Chained bytes (r ∷ runs) = (r.state ≡ bytes) × Chained r.left runs

-- of which the first begins with a start
abbrev pub InOrder : List Run → Type 0
InOrder [] = ⊥
InOrder (r ∷ runs) = Starts r × Chained r.left runs

-- runs on one state, each with an outcome that its contract allows, on lists of bytes. The first begins with a start;
-- after it any run may be refused, and any may start anew
pub record History (runs : List Run) : Type 0 where
  pub ran : Each Ran runs
  pub bytes : Each (λ r. AreBytes r.state × AreBytes r.calls) runs
  pub order : InOrder runs

-- ---- the exact run beside them, given the calls that the bytes hold: before call i of a run
abbrev pub exact_before : (Call → State → X.Effect) → (parts : ℕ) → Run → ℕ → Exact → Exact
exact_before effect parts r i x = exact_walk effect parts (steps_from r.calls r.lists 0 i) (state_from r.state) x

-- after it; a run that is refused counts as not made
unfoldable pub exact_after : (Call → State → X.Effect) → (parts : ℕ) → Run → Exact → Exact
exact_after effect parts r x = settled r.reply (exact_before effect parts r (count r) x) x

-- after several
unfoldable pub exact_runs : (Call → State → X.Effect) → (parts : ℕ) → List Run → Exact → Exact
exact_runs effect parts [] x = x
exact_runs effect parts (r ∷ runs) x = exact_runs effect parts runs (exact_after effect parts r x)

-- ---- the lower bounds in bytes. A word: 2^64 - 1 is unset
unfoldable pub low_word : ℕ → Option ℕ
low_word n = cond (eqb n (2 ^ 64 - 1)) None (Some n)

-- word 17 of a state; words 15 and 16
abbrev pub inflight_in : List ℕ → Option ℕ
inflight_in bytes = low_word (Bytes.word_at bytes (8 * 17))

unfoldable pub bandwidth_in : List ℕ → Option ℕ
bandwidth_in bytes = low_of (bandwidth_of (Bytes.word_at bytes (8 * 15)) (Bytes.word_at bytes (8 * 16)))

-- ---- of an event's words: word 38 is read as beta; the window, word 23, and the inflight sample, word 10, are at most
-- 2^24
abbrev pub HasBetaWord : Float → List ℕ → Type 0
HasBetaWord beta w = float_of (word w 38) ≡ beta

abbrev pub HasSmallWords : List ℕ → Type 0
HasSmallWords w = (word w 23 ≤ 2 ^ 24) × (word w 10 ≤ 2 ^ 24)

-- P of the words of every accepted event
abbrev pub OfEvents : (List ℕ → Type 0) → Run → Type 0
OfEvents P r = (i : ℕ) → Accepted 3 r i → P (call r i)
