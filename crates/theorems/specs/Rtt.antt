-- The exported run of the round-trip estimator (document 02, request a), of which no more is known than its contract,
-- and runs of it one after the other on the same estimator. Definitions only. Theorems.antt says how to read them,
-- Runs.antt has the signs and words that are not explained there, and crates/rtt/specs/Exact.antt what the samples, the
-- exact averages and `Holds` are. docs/LAYOUT.md has the words of an estimator, of a call and of an answer.
use Rattle.std.specs.Prelude.{ℕ, zero, suc, ◌+◌, ◌-◌, ◌*◌, ◌%◌, ◌^◌, ◌<◌, false, true, cond, not, ◌&&◌, ◌||◌, List, [], ◌∷◌, ◌++◌, ◌≡◌, ltb, eqb, length, None}
use Rattle.units.specs.Outcomes.{Allowed}
use Rattle.units.specs.Reply.{row_in, kept}
use Rattle.units.specs.declared.time.Duration.{Duration}
use Rattle.state.specs.Answers.{settled, zero_length}
use Rattle.state.specs.Bounds.{length_ok}
use Rattle.state.specs.Faults.{first, replied}
use Rattle.state.specs.Refusals.{no_rows, stored}
use Rattle.state.specs.declared.refusals.Rows.{Rows}
use Rattle.words.specs.Word.{flag_of, flag_fits}
use Rattle.words.specs.Words as Bytes
use Rattle.rtt.specs.declared.rtt.RttStats.{RttStats}
use Rattle.rtt.specs.Rtt.{stats_ok, asked_rows, new_rows, new_faults, stats_new, update_faults, update_next, delay_faults, delay_next, minimum_shown}
use Rattle.rtt.specs.Exact.{Step, begins, updates, limits, other, Sample, Ran, go_on, exactly, NearSmoothed, NearVariation, least, Holds}
use Rattle.rtt.proofs.rtt.RttStats as stats
use Rattle.trips.specs.Trips.{ns, stats_in, encodes_none, call_row, call_faults, call_left, calls_in, left_by}
use Rattle.guovssalu.proofs.rtt_run.guovssalu_rtt_run as rtt
use Rattle.laws.specs.Replies.{Exactly, Answered, Every, EveryOutcome}
use Rattle.laws.specs.Named.{Names}
use Rattle.theorems.specs.Blames.{Named}
use Rattle.theorems.specs.Runs.{FirstRow, Each}

-- ---- `guovssalu_rtt_run`: the bytes lent for the estimator, the calls and the answers; its reply; the bytes left in
-- the estimator and in the answers
pub record RttRun : Type 0 where
  pub state : List ℕ
  pub calls : List ℕ
  pub answers : List ℕ
  pub reply : ℕ
  pub left : List ℕ
  pub written : List ℕ

abbrev pub RttRan : RttRun → Type 0
RttRan r =
    Allowed rtt.Reads.Learnt
    (λ κ a n e.
    (a.0.now ≡ r.state)
    × (a.1.0.now ≡ r.calls)
    × (a.1.1.0.now ≡ r.answers)
    × (n ≡ r.reply)
    × (e.0.now ≡ r.left)
    × (e.1.1.0.now ≡ r.written))

-- how many calls there are
abbrev pub rtt_count : RttRun → ℕ
rtt_count r = calls_in r.calls

-- 1: 48 bytes that encode no estimator; 2: an estimator has 48 bytes, a call 32; 7: an answer has 40 bytes
abbrev pub RttRow : RttRun → Type 0
RttRow r =
    FirstRow (row_in r.reply)
    1 (encodes_none r.state)
    2 (not (eqb (length r.state) 48) || not (eqb (length r.calls % 32) 0))
    (ltb (length r.answers) (40 * rtt_count r))

-- any two outcomes that the contract allows for the same arguments coincide
abbrev pub OneRttOutcome : Type 0
OneRttOutcome =
    (r q : RttRun) → RttRan r → RttRan q →
    (r.state ≡ q.state) × (r.calls ≡ q.calls) × (r.answers ≡ q.answers) →
    (r.reply ≡ q.reply) × (r.left ≡ q.left) × (r.written ≡ q.written)

-- ---- a call of a run, by its number n and its words a, b and c: which rows hold. A number that is no call's is a bad
-- argument, and so is a flag that is neither 0 nor 1
unfoldable pub rtt_rows : RttStats → (n a b c : ℕ) → Rows
rtt_rows s n a b c =
    cond (eqb n 0) (new_rows (ns a) (ns b))
    (cond (eqb n 1) (asked_rows s (length_ok (ns a) && length_ok (ns b) && flag_fits c))
    (cond (eqb n 2) (asked_rows s (length_ok (ns a)))
    (asked_rows s false)))

pub record RttCall (s : RttStats) (n a b c : ℕ) : Type 0 where
  -- it is refused with the number of the first row that holds, exactly then
  pub row : Exactly (call_row s n a b c) (rtt_rows s n a b c)
  -- row 2 holds exactly where an argument is at fault, and a 2 names the first
  pub asked : (rtt_rows s n a b c).argument ≡ not (eqb (first (call_faults n a b c)) 0)
  pub word :
      Named (replied (call_row s n a b c) (first (call_faults n a b c))) (call_row s n a b c) (call_faults n a b c)
  -- refused, it changes nothing; a refused `new` leaves a fresh estimator of 0 and 0
  pub refused : (call_row s n a b c ≡ 0 → ⊥) →
      call_left s n a b c ≡ cond (eqb n 0) (stats_new zero_length zero_length) s
  -- done, it leaves what its definition says
  pub done : call_row s n a b c ≡ 0 →
      call_left s n a b c
      ≡ cond (eqb n 0) (stats_new (ns a) (ns b))
      (cond (eqb n 1) (update_next s (ns a) (ns b) (flag_of c)) (delay_next s (ns a)))

-- ---- the public functions: each is refused with the number of the first row that holds, exactly then; refused, it
-- leaves what it was given, and done, what its definition says; and a 2 names the first argument at fault. Of those
-- that are lent the estimator, `a.0.now` is what they were lent, and `e.0.now` what they leave there; `kept x d` is
-- what x gives, or d where it is a refusal
pub record EveryRttReply : Type 0 where
  -- refused, it leaves a fresh estimator of 0 and 0, whatever it was lent
  pub new :
      EveryOutcome stats.begin.Reads.Learnt
      (λ κ a x e.
      let initial = a.1.0 in
      let limit = a.1.1.0 in
      Answered x (new_rows initial limit) e.0.now (stats_new initial limit) (stats_new zero_length zero_length)
      × Names x (new_rows initial limit) (new_faults initial limit))
  -- the same where nothing is lent; refused, it leaves none, and that estimator stands for it
  pub made : (initial limit : Duration) →
      Every stats.new.Reads.Learnt (λ κ. (initial, (limit, tt)))
      (λ x. Answered x (new_rows initial limit) (kept x (stats_new zero_length zero_length))
      (stats_new initial limit) (stats_new zero_length zero_length)
      × Names x (new_rows initial limit) (new_faults initial limit))
  pub updated :
      EveryOutcome stats.update_rtt.Reads.Learnt
      (λ κ a x e.
      let s = a.0.now in
      let latest = a.1.0 in
      let delay = a.1.1.0 in
      let confirmed = a.1.1.1.0 in
      Answered x (asked_rows s (length_ok latest && length_ok delay && true)) e.0.now
      (update_next s latest delay confirmed) s
      × Names x (asked_rows s (length_ok latest && length_ok delay && true)) (update_faults latest delay true))
  pub limited :
      EveryOutcome stats.update_max_ack_delay.Reads.Learnt
      (λ κ a x e.
      let s = a.0.now in
      let limit = a.1.0 in
      Answered x (asked_rows s (length_ok limit)) e.0.now (delay_next s limit) s
      × Names x (asked_rows s (length_ok limit)) (delay_faults limit))
  pub latest : (s : RttStats) →
      Every stats.latest_rtt.Reads.Learnt (λ κ. (s, tt))
      (λ x. Answered x (stored (not (stats_ok s)) no_rows) (kept x zero_length) s.latest zero_length)
  pub smoothed : (s : RttStats) →
      Every stats.rtt.Reads.Learnt (λ κ. (s, tt))
      (λ x. Answered x (stored (not (stats_ok s)) no_rows) (kept x zero_length) s.smoothed zero_length)
  pub variation : (s : RttStats) →
      Every stats.rttvar.Reads.Learnt (λ κ. (s, tt))
      (λ x. Answered x (stored (not (stats_ok s)) no_rows) (kept x zero_length) s.variation zero_length)
  pub minimum : (s : RttStats) →
      Every stats.min_rtt.Reads.Learnt (λ κ. (s, tt))
      (λ x. Answered x (stored (not (stats_ok s)) no_rows) (kept x None) (minimum_shown s) None)

-- ---- call i of a run: the estimator before it, and word j of its answer
abbrev pub rtt_before : RttRun → ℕ → RttStats
rtt_before r i = left_by (stats_in r.state) r.calls 0 i

abbrev pub rtt_word : RttRun → (i j : ℕ) → ℕ
rtt_word r i j = Bytes.word_at r.written (40 * i + 8 * j)

-- in a run that is done, it is answered 0
pub record RttAccepted (r : RttRun) (i : ℕ) : Type 0 where
  pub done : r.reply ≡ 0
  pub made : i < rtt_count r
  pub accepted : rtt_word r i 0 ≡ 0

-- ---- the step that a call asks for (crates/rtt/specs/Exact.antt), by its words: one that is refused whatever is
-- stored changes nothing
unfoldable pub rtt_step : (n a b c : ℕ) → Step
rtt_step n a b c =
    cond (eqb n 0) (begins (ns a) (ns b))
    (cond (eqb n 1) (cond (flag_fits c) (updates (ns a) (ns b) (flag_of c)) other)
    (cond (eqb n 2) (limits (ns a))
    other))

-- those of n calls, from an index on
unfoldable pub rtt_steps : (src : List ℕ) (at n : ℕ) → List Step
rtt_steps src at zero = []
rtt_steps src at (suc n) =
    rtt_step (Bytes.word_at src at) (Bytes.word_at src (at + 8)) (Bytes.word_at src (at + 16))
    (Bytes.word_at src (at + 24))
    ∷ rtt_steps src (at + 32) n

-- ---- runs one after the other: each is lent the bytes that the one before it left
abbrev pub RttChained : List ℕ → List RttRun → Type 0
RttChained bytes [] = Unit {0}
RttChained bytes (r ∷ runs) = (r.state ≡ bytes) × RttChained r.left runs

-- of which the first is done, and begins with `new`
pub record RttStarts (r : RttRun) : Type 0 where
  pub done : r.reply ≡ 0
  pub some : 0 < rtt_count r
  pub first : Bytes.word_at r.calls 0 ≡ 0

abbrev pub RttInOrder : List RttRun → Type 0
RttInOrder [] = ⊥
RttInOrder (r ∷ runs) = RttStarts r × RttChained r.left runs

-- after the first run any may be refused, and any may begin anew
pub record RttHistory (runs : List RttRun) : Type 0 where
  pub ran : Each RttRan runs
  pub order : RttInOrder runs

-- ---- the samples taken, by the calls that the bytes hold: before call i of a run, after it, after several. A run that
-- is refused counts as not made
abbrev pub taken_before : RttRun → ℕ → Ran → Ran
taken_before r i q = go_on q (rtt_steps r.calls 0 i)

unfoldable pub taken_after : RttRun → Ran → Ran
taken_after r q = settled r.reply (taken_before r (rtt_count r) q) q

unfoldable pub taken_runs : List RttRun → Ran → Ran
taken_runs [] q = q
taken_runs (r ∷ runs) q = taken_runs runs (taken_after r q)

-- before any run nothing was taken
abbrev pub nothing : Ran
nothing = record { stats = stats_new zero_length zero_length; taken = [] }

-- four numbers, as an answer shows them: latest, minimum, smoothed and variation, of which the promises hold. Before
-- the first sample the minimum is 2^64 - 1, and nothing is promised of the others
abbrev pub Shown : List Sample → (latest minimum smoothed variation : ℕ) → Type 0
Shown [] l m s v = m ≡ 2 ^ 64 - 1
Shown (new ∷ older) l m s v =
    (l ≡ new.latest)
    × (m ≡ least new older)
    × NearSmoothed (exactly new older) s
    × NearVariation (exactly new older) v

-- what request a says, of any runs, the last of which is r: of the estimator in the bytes that r left, which is the one
-- that the steps lead to
abbrev pub InRttBytes : Type 0
InRttBytes =
    (runs : List RttRun) (r : RttRun) → RttHistory (runs ++ (r ∷ [])) →
    (stats_in r.left ≡ (taken_runs (runs ++ (r ∷ [])) nothing).stats)
    × Holds (record { stats = stats_in r.left; taken = (taken_runs (runs ++ (r ∷ [])) nothing).taken })

-- and of the answer to each accepted call i of r
abbrev pub InRttAnswers : Type 0
InRttAnswers =
    (runs : List RttRun) (r : RttRun) (i : ℕ) → RttHistory (runs ++ (r ∷ [])) → RttAccepted r i →
    Shown (taken_before r (i + 1) (taken_runs runs nothing)).taken
    (rtt_word r i 1) (rtt_word r i 2) (rtt_word r i 3) (rtt_word r i 4)
