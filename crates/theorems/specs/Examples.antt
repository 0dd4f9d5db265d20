-- Runs worked out in bytes, at beta 0.3, from 408 bytes of zeros, in which every call on the model but a start is
-- refused: what the statements of Theorems.antt speak of is there. A run here is one that the definitions make. Their
-- starts, sends and parameters are those of crates/guovssalu/specs/Examples.antt.
use Rattle.std.specs.Prelude.{ℕ, ◌-◌, ◌*◌, ◌^◌, Bool, false, ◌&&◌, List, [], ◌∷◌, ◌++◌, eqb, length, replicate, take}
use Rattle.words.specs.Words.{all_bytes}
use Rattle.dispatch.specs.Examples.{same, zeros}
use Rattle.guovssalu.specs.ModelRun.{no_lists, model_reply, state_out, answers_out}
use Rattle.guovssalu.specs.Examples.{params, start_at, sends}
use Rattle.drift.specs.Exact.{Exact, unset, over, inflight_effect}
use Rattle.drift.specs.Drift.{usual_parts}
use Rattle.theorems.specs.Runs.{Run, exact_after}

-- a call without arguments
abbrev asks : ℕ → List ℕ
asks number = number ∷ zeros 48

-- an event with the totals n acked and n lost, with a bandwidth of 1 and a window of 1300: words 18 and 19, the count
-- of acked numbers and the first of them or the place of them
abbrev acks_of : (n count start : ℕ) → List ℕ
acks_of n count start =
    (3 ∷ 1 ∷ 1 ∷ []) ++ zeros 13 ++ (n ∷ n ∷ count ∷ start ∷ 0 ∷ 0 ∷ 0 ∷ 1300 ∷ []) ++ zeros 14 ++ params

-- one which acks packet n
abbrev acks : ℕ → List ℕ
acks n = acks_of n 1 n

-- the run of such calls, of so many bytes, with these lists and with room for n answers
abbrev ran : (state calls lists : List ℕ) → (n : ℕ) → Run
ran state calls lists n =
    let answers : List ℕ = replicate (144 * n) 170 in
    record {
      state = state;
      calls = calls;
      lists = lists;
      answers = answers;
      reply = model_reply state calls (length answers);
      left = state_out state calls lists answers;
      written = answers_out state calls lists answers;
    }

-- the words of the state after n such events, with inflight_lo at `lo`
abbrev after : (n lo : ℕ) → List ℕ
after n lo =
    (n ∷ n ∷ 1 ∷ n ∷ 0 ∷ 1 ∷ 0 ∷ 0 ∷ n ∷ n ∷ 0 ∷ 0 ∷ 0 ∷ 1 ∷ 0 ∷ 1 ∷ 1 ∷ lo ∷ [])
    ++ ((2 ^ 64 - 1) ∷ 0x3f80_0000 ∷ 0x3f80_0000 ∷ []) ++ zeros 5 ++ (1 ∷ []) ++ zeros 4
    ++ (n ∷ n ∷ 0 ∷ 1 ∷ []) ++ zeros 16

abbrev first : Run
first = ran (zeros 408) (all_bytes (start_at 0 0 ++ sends 0 1 ++ acks 1)) no_lists 3

-- a question; a number that is no call's; a send at a moment that is out of bounds; a send and an event; the question
abbrev second : Run
second =
    ran (all_bytes (after 1 910))
    (all_bytes (asks 35 ++ asks 46 ++ sends 9_000_000_000_000_000_000 2 ++ sends 0 2 ++ acks 2 ++ asks 35)) no_lists 6

-- the same send, and events whose four numbers are in lists of five: from place 2 on, which are not all there; from
-- place 1 on, in descending order, of which the first ends the round
abbrev descending : Run
descending =
    ran (all_bytes (after 1 910)) (all_bytes (sends 0 2 ++ acks_of 2 4 2 ++ acks_of 2 4 1)) (7 ∷ 2 ∷ 1 ∷ 1 ∷ 0 ∷ []) 3

-- an event that acks packet 2, which was never sent
abbrev unsent : Run
unsent = ran (all_bytes (after 1 910)) (all_bytes (acks 2)) no_lists 1

-- a call that clears inflight_lo, of which a byte is missing
abbrev third : Run
third = ran (all_bytes (after 2 637)) (take 391 (all_bytes (asks 19))) no_lists 1

abbrev is_over : (num exponent k : ℕ) → Exact → Bool
is_over num exponent k unset = false
is_over num exponent k (over a e b) = eqb num a && eqb exponent e && eqb k b

-- 1300 bytes become 910, beside 1300 b after one reduction
unfoldable pub first_examples : List Bool
first_examples =
    eqb first.reply 0
    ∷ same first.left (all_bytes (after 1 910))
    ∷ is_over (1300 * usual_parts) 24 1 (exact_after inflight_effect usual_parts first unset)
    ∷ []

-- the question is answered 910, the two bad calls 2.8 at place 0 and 2.9 at place 1, the last question 637; beside it
-- 1300 b b after two reductions
unfoldable pub second_examples : List Bool
second_examples =
    eqb second.reply 0
    ∷ same second.left (all_bytes (after 2 637))
    ∷ same second.written
    (all_bytes
    ((0 ∷ 910 ∷ zeros 16)
    ++ (0x802 ∷ zeros 17)
    ++ (0x1_0902 ∷ zeros 17)
    ++ zeros 18
    ++ (zeros 3 ++ (1300 ∷ 0 ∷ 0 ∷ 1 ∷ 1 ∷ 1 ∷ 0 ∷ 1 ∷ 1 ∷ []) ++ zeros 6)
    ++ (0 ∷ 637 ∷ zeros 16)))
    ∷ is_over (1300 * usual_parts * usual_parts) 48 2
    (exact_after inflight_effect usual_parts second (over (1300 * usual_parts) 24 1))
    ∷ []

-- the place outside is answered 2.8 at place 1, with the record as it was handed in; then all is as after the event of
-- one number
unfoldable pub descending_examples : List Bool
descending_examples =
    eqb descending.reply 0
    ∷ same descending.left (all_bytes (after 2 637))
    ∷ same descending.written
    (all_bytes
    (zeros 18
    ++ (0x1_0802 ∷ 0 ∷ 0 ∷ 1300 ∷ zeros 14)
    ++ (zeros 3 ++ (1300 ∷ 0 ∷ 0 ∷ 1 ∷ 1 ∷ 1 ∷ 0 ∷ 1 ∷ 1 ∷ []) ++ zeros 6)))
    ∷ []

-- the event is answered 10, with the record as it was handed in, and changes nothing: the exact value stays too
unfoldable pub unsent_examples : List Bool
unsent_examples =
    eqb unsent.reply 0
    ∷ same unsent.left (all_bytes (after 1 910))
    ∷ same unsent.written (all_bytes (10 ∷ 0 ∷ 0 ∷ 1300 ∷ zeros 14))
    ∷ is_over 9 48 2 (exact_after inflight_effect usual_parts unsent (over 9 48 2))
    ∷ []

-- the run that is refused, with 2.8 at place 2, leaves the bytes, and the exact value
unfoldable pub third_examples : List Bool
third_examples =
    eqb third.reply 0x2_0802
    ∷ same third.left (all_bytes (after 2 637))
    ∷ is_over 9 48 2 (exact_after inflight_effect usual_parts third (over 9 48 2))
    ∷ []
