-- A run of the round-trip estimator: calls, carried out in order on an estimator in lent bytes (docs/LAYOUT.md, "The
-- round-trip estimator"). What one call does is crates/rtt/specs/Rtt.antt's; here stands how it is read from its words
-- and answered in words. Definitions only.
use Rattle.std.specs.Prelude.{ℕ, zero, suc, ◌+◌, ◌-◌, ◌*◌, ◌/◌, ◌%◌, ◌^◌, Bool, false, cond, not, ◌&&◌, ◌||◌, List, [], ◌∷◌, ◌++◌, ltb, eqb, length, Option, None, Some}
use Rattle.units.specs.declared.time.Duration.{Duration}
use Rattle.state.specs.Answers.{settled}
use Rattle.state.specs.Faults.{list_length, unless, first, replied}
use Rattle.state.specs.Refusals.{no_rows, stored, argument, first_of, or_short}
use Rattle.words.specs.Word.{word, flag_word, flag_of, flag_fits}
use Rattle.words.specs.Words.{word_at, words_at}
use Rattle.rtt.specs.declared.rtt.RttStats.{RttStats}
use Rattle.rtt.specs.Rtt.{given_number, new_faults, new_number, new_left, update_faults, update_number, update_left, delay_faults, delay_number, delay_left, minimum_shown}

abbrev pub ns : ℕ → Duration
ns n = record { 0 = n }

-- ---- an estimator in words: six, 48 bytes
unfoldable pub stats_words : RttStats → List ℕ
stats_words s =
    s.latest.0
    ∷ s.minimum.0
    ∷ s.smoothed.0
    ∷ s.variation.0
    ∷ s.limit.0
    ∷ flag_word s.sampled
    ∷ []

unfoldable pub stats_from : List ℕ → RttStats
stats_from w =
    record {
      latest = ns (word w 0);
      minimum = ns (word w 1);
      smoothed = ns (word w 2);
      variation = ns (word w 3);
      limit = ns (word w 4);
      sampled = flag_of (word w 5);
    }

abbrev pub stats_in : List ℕ → RttStats
stats_in s = stats_from (words_at s 0 6)

-- 48 bytes that encode no estimator: the flag is neither 0 nor 1
unfoldable pub encodes_none : List ℕ → Bool
encodes_none s = eqb (length s) 48 && not (flag_fits (word_at s 40))

-- ---- one call, by its number n and its words a, b and c: 0 is `new`, 1 `update_rtt`, 2 `update_max_ack_delay`. A
-- number that is no call's is the call's bad argument, as in a run of the model. The row of its reply
unfoldable pub call_row : RttStats → (n a b c : ℕ) → ℕ
call_row s n a b c =
    cond (eqb n 0) (new_number (ns a) (ns b))
    (cond (eqb n 1) (update_number s (ns a) (ns b) (flag_fits c))
    (cond (eqb n 2) (delay_number s (ns a))
    (given_number s false)))

-- its faults: a number that is no call's is a list length, at place 0
unfoldable pub call_faults : (n a b c : ℕ) → List ℕ
call_faults n a b c =
    cond (eqb n 0) (new_faults (ns a) (ns b))
    (cond (eqb n 1) (update_faults (ns a) (ns b) (flag_fits c))
    (cond (eqb n 2) (delay_faults (ns a))
    (unless false 0 list_length ∷ [])))

-- the estimator that it leaves
unfoldable pub call_left : RttStats → (n a b c : ℕ) → RttStats
call_left s n a b c =
    cond (eqb n 0) (new_left (ns a) (ns b))
    (cond (eqb n 1) (update_left s (ns a) (ns b) (flag_of c) (flag_fits c))
    (cond (eqb n 2) (delay_left s (ns a))
    s))

-- a length that may be none: 2^64 - 1 where it is
abbrev pub length_shown : Option Duration → ℕ
length_shown None = 2 ^ 64 - 1
length_shown (Some d) = d.0

-- what is shown of an estimator: latest, minimum, smoothed, variation
unfoldable pub shown : RttStats → List ℕ
shown s = s.latest.0 ∷ length_shown (minimum_shown s) ∷ s.smoothed.0 ∷ s.variation.0 ∷ []

-- the answer: the reply's word, and the estimator after the call; refused, "0 for a number"
unfoldable pub answer_words : RttStats → (n a b c : ℕ) → List ℕ
answer_words s n a b c =
    let row = call_row s n a b c in
    replied row (first (call_faults n a b c)) ∷ settled row (shown (call_left s n a b c)) (0 ∷ 0 ∷ 0 ∷ 0 ∷ [])

-- ---- a run: a call has four words, 32 bytes, an answer five, 40 bytes
abbrev pub calls_in : List ℕ → ℕ
calls_in src = length src / 32

-- the call at an index, by its words
unfoldable pub answer_at : RttStats → (src : List ℕ) (at : ℕ) → List ℕ
answer_at s src at =
    answer_words s (word_at src at) (word_at src (at + 8)) (word_at src (at + 16)) (word_at src (at + 24))

unfoldable pub left_at : RttStats → (src : List ℕ) (at : ℕ) → RttStats
left_at s src at = call_left s (word_at src at) (word_at src (at + 8)) (word_at src (at + 16)) (word_at src (at + 24))

-- the answers to the n calls from an index on, each carried out on the estimator that the one before it left
unfoldable pub answers_to : RttStats → (src : List ℕ) (at n : ℕ) → List ℕ
answers_to s src at zero = []
answers_to s src at (suc n) = answer_at s src at ++ answers_to (left_at s src at) src (at + 32) n

-- the estimator that they leave
unfoldable pub left_by : RttStats → (src : List ℕ) (at n : ℕ) → RttStats
left_by s src at zero = s
left_by s src at (suc n) = left_by (left_at s src at) src (at + 32) n

-- ---- what the run itself replies: 1 for bytes that encode no estimator, 2 for a length that is none of an estimator's
-- or of whole calls, 7 under 40 bytes a call. Of several the lowest is given
unfoldable pub rtt_row : (state src : List ℕ) (room : ℕ) → ℕ
rtt_row state src room =
    let uneven = not (eqb (length state) 48) || not (eqb (length src % 32) 0) in
    or_short (first_of (stored (encodes_none state) (argument uneven no_rows))) (ltb room (40 * calls_in src))

-- document 02, request b: such a length is a list length, 2.8, at place 1 and at place 2
unfoldable pub rtt_faults : (state src : List ℕ) → List ℕ
rtt_faults state src =
    unless (eqb (length state) 48) 1 list_length ∷ unless (eqb (length src % 32) 0) 2 list_length ∷ []
