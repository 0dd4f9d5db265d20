-- Worked calls: what the definitions say of a few inputs. The slope's are document 01's example 11; the filter run's
-- first two pairs are those of example 9. The run of the model has two lists: runs on a state of zeros, and a run that
-- begins with a start (`start_examples`). Longer ones, with an event: crates/theorems/specs/Examples.antt. The
-- round-trip estimator's is the run of docs/LAYOUT.md (`trip_examples`).
use Rattle.std.specs.Prelude.{ℕ, ◌+◌, ◌-◌, ◌*◌, ◌^◌, Bool, List, [], ◌∷◌, ◌++◌, eqb, take, replicate}
use Rattle.words.specs.Words.{word_at, all_bytes}
use Rattle.dispatch.specs.Examples.{same, zeros, with}
use Rattle.pairs.specs.Pairs.{run_row}
use Rattle.guovssalu.specs.FilterRun.{run_out}
use Rattle.guovssalu.specs.ModelRun.{no_lists, model_row, state_out, answers_out}
use Rattle.guovssalu.specs.RttRun.{rtt_reply, rtt_state_out, rtt_answers_out}
use Rattle.guovssalu.specs.Slope.{slope_row, slope_out}

-- bytes that a call may write over
abbrev pub room : ℕ → List ℕ
room n = replicate n 170

-- a call with one byte to spare writes these words, and leaves that byte
abbrev pub writes : List ℕ → List ℕ → Bool
writes out words = same out (all_bytes words ++ room 1)

-- pairs of a time and a sample
abbrev pub rising : List ℕ
rising = all_bytes (0 ∷ 5 ∷ 2 ∷ 5 ∷ 3 ∷ 4 ∷ [])

-- the rows of docs/LAYOUT.md
abbrev pub seven : List ℕ
seven = all_bytes (0 ∷ 5 ∷ 2 ∷ 5 ∷ 3 ∷ 5 ∷ 5 ∷ 3 ∷ 8 ∷ 4 ∷ 9 ∷ 2 ∷ 12 ∷ 6 ∷ [])

abbrev pub falling : List ℕ
falling = all_bytes (0 ∷ 5 ∷ 2 ∷ 1 ∷ 1 ∷ 1 ∷ [])

abbrev pub refused : List ℕ
refused = all_bytes (3 ∷ 5 ∷ 2 ∷ 5 ∷ [])

-- a state of zeros, in which every call on the model but a start is refused, with one word put anew
abbrev pub states : ℕ → ℕ → List ℕ
states i x = all_bytes (with (zeros 51) i x)

-- one call of no arguments, by its number
abbrev pub call : ℕ → List ℕ
call number = all_bytes (number ∷ zeros 48)

unfoldable pub export_examples : List Bool
export_examples =
    -- three samples after each pair, and the reason: at 3 the second and the third have become the new sample, 4: a
    -- quarter refresh, 5
    eqb (run_row 8 rising 97) 0
    ∷ writes (run_out 8 rising (room 97)) (5 ∷ 5 ∷ 5 ∷ 0 ∷ 5 ∷ 5 ∷ 5 ∷ 7 ∷ 5 ∷ 4 ∷ 4 ∷ 5 ∷ [])
    -- seven pairs: all replaced, unchanged, quarter refresh, unchanged, quarter refresh, promoted once, all replaced
    ∷ eqb (run_row 8 seven 225) 0
    ∷ writes (run_out 8 seven (room 225))
    ((5 ∷ 5 ∷ 5 ∷ 0 ∷ [])
    ++ (5 ∷ 5 ∷ 5 ∷ 7 ∷ [])
    ++ (5 ∷ 5 ∷ 5 ∷ 5 ∷ [])
    ++ (5 ∷ 5 ∷ 5 ∷ 7 ∷ [])
    ++ (5 ∷ 4 ∷ 4 ∷ 5 ∷ [])
    ++ (4 ∷ 4 ∷ 2 ∷ 3 ∷ [])
    ++ (6 ∷ 6 ∷ 6 ∷ 0 ∷ []))
    -- no pair: done, and nothing written
    ∷ eqb (run_row 8 [] 0) 0
    ∷ same (run_out 8 [] (room 1)) (room 1)
    -- times may fall, if not below one that the filter holds
    ∷ eqb (run_row 8 falling 96) 0
    -- a byte is missing, and the output is short
    ∷ eqb (run_row 8 (take 47 rising) 0) 2
    -- a pair is refused, and the output is short
    ∷ eqb (run_row 8 refused 0) 3
    ∷ same (run_out 8 refused (room 64)) (room 64)
    -- the output is a byte short, or has room for the samples alone
    ∷ eqb (run_row 8 rising 95) 7
    ∷ same (run_out 8 rising (room 95)) (room 95)
    ∷ eqb (run_row 8 rising 72) 7
    -- the slope: the next rounds, and probe_up_bytes
    ∷ writes (slope_out 0 26_000 (room 17)) (1 ∷ 26_000 ∷ [])
    ∷ writes (slope_out 1 26_000 (room 17)) (2 ∷ 13_000 ∷ [])
    ∷ writes (slope_out 30 26_000 (room 17)) (30 ∷ 1_300 ∷ [])
    ∷ eqb (slope_row 31 1_099_511_627_777 0) 1
    ∷ eqb (slope_row 30 1_099_511_627_777 0) 2
    ∷ eqb (slope_row 30 26_000 15) 7
    ∷ same (slope_out 31 26_000 (room 17)) (room 17)
    -- no call: done, and the state written as it was
    ∷ eqb (model_row (zeros 408) [] 0) 0
    ∷ same (state_out (zeros 408) [] no_lists []) (zeros 408)
    -- a flag of 2, a number that is unset, a float of 33 bits, a phase past the last; and those that are states
    ∷ eqb (model_row (states 12 2) [] 0) 1
    ∷ eqb (model_row (states 12 1) [] 0) 0
    ∷ eqb (model_row (states 3 7) [] 0) 1
    ∷ eqb (model_row (states 19 4_294_967_296) [] 0) 1
    ∷ eqb (model_row (states 19 2_143_289_345) [] 0) 1
    ∷ eqb (model_row (states 19 2_143_289_344) [] 0) 0
    ∷ eqb (model_row (states 35 5) [] 0) 1
    ∷ eqb (model_row (states 35 4) [] 0) 0
    ∷ eqb (model_row (states 34 2) [] 0) 1
    ∷ eqb (model_row (states 34 1) [] 0) 0
    -- lengths that are wrong, that of a state before request i among them, and rows that overlap
    ∷ eqb (model_row (zeros 400) [] 0) 2
    ∷ eqb (model_row (zeros 407) [] 0) 2
    ∷ eqb (model_row (zeros 409) [] 0) 2
    ∷ eqb (model_row (zeros 408) (take 391 (call 12)) 144) 2
    ∷ eqb (model_row (states 12 2) (take 391 (call 12)) 0) 1
    -- a number that is no call's does not refuse the run: its call is refused (crates/dispatch/specs/Examples.antt)
    ∷ eqb (model_row (zeros 408) (call 2) 144) 0
    ∷ eqb (model_row (zeros 408) (call 12 ++ call 46) 288) 0
    -- a byte is missing for an answer: nothing is written
    ∷ eqb (model_row (zeros 408) (call 45 ++ call 12) 288) 0
    ∷ eqb (model_row (zeros 408) (call 45 ++ call 12) 287) 7
    ∷ same (answers_out (zeros 408) (call 12) no_lists (room 143)) (room 143)
    ∷ same (answers_out (states 12 2) (call 12) no_lists (room 144)) (room 144)
    ∷ same (state_out (states 12 2) (call 12) no_lists (room 144)) (states 12 2)
    ∷ []

-- ---- a run that begins with a start (docs/LAYOUT.md has the words)
-- words 38 to 48 of a call: beta 0.3, the other floats 1, three rounds, and the option set
abbrev pub params : List ℕ
params =
    0x3e99_999a ∷ 0x3f80_0000 ∷ 0x3f80_0000 ∷ 0x3f80_0000 ∷ 0x3f80_0000 ∷ 0x3f80_0000 ∷ 3 ∷ 0 ∷ 0 ∷ 0 ∷ 1 ∷ []

-- call 0, a start at moment t with a round trip
abbrev pub start_at : (t rtt : ℕ) → List ℕ
start_at t rtt = (0 ∷ t ∷ rtt ∷ []) ++ zeros 35 ++ params

-- call 1, a send of packet n at moment t
abbrev pub sends : (t n : ℕ) → List ℕ
sends t n = (1 ∷ t ∷ 0 ∷ n ∷ 0 ∷ []) ++ zeros 44

-- the words of bytes at these places
abbrev pub words_in : List ℕ → List ℕ → List ℕ
words_in bytes [] = []
words_in bytes (i ∷ places) = word_at bytes (8 * i) ∷ words_in bytes places

-- on a state of zeros: a start at moment 5 with a round trip of 100, a send at 9, and a send at 8, which is earlier
abbrev pub first_calls : List ℕ
first_calls = all_bytes (start_at 5 100 ++ sends 9 7 ++ sends 8 6)

abbrev pub first_state : List ℕ
first_state = state_out (zeros 408) first_calls no_lists (room 432)

abbrev pub first_answers : List ℕ
first_answers = answers_out (zeros 408) first_calls no_lists (room 432)

unfoldable pub start_examples : List Bool
start_examples =
    -- the run is done: three answers of 18 words
    eqb (model_row (zeros 408) first_calls 432) 0
    -- word 0 of each: the start and the first send are done, and the second send is refused with 3
    ∷ same (words_in first_answers (0 ∷ 18 ∷ 36 ∷ [])) (0 ∷ 0 ∷ 3 ∷ [])
    -- of the state left: the packet last sent, the round trip and its moment, inflight_lo, which is unset, the last
    -- accepted moment, and that something was sent
    ∷ same (words_in first_state (1 ∷ 6 ∷ 7 ∷ 17 ∷ 33 ∷ 34 ∷ [])) (7 ∷ 100 ∷ 5 ∷ (2 ^ 64 - 1) ∷ 9 ∷ 1 ∷ [])
    ∷ []

-- ---- a run of the round-trip estimator, on 48 zero bytes: `new` with 333 ms and a largest ack delay of 25 ms; the
-- first sample; one less its ack delay of 5 ms; and one with an ack delay of 2^36 + 1 ns
abbrev pub four_trips : List ℕ
four_trips =
    all_bytes
    (0 ∷ 333000000 ∷ 25000000 ∷ 0
    ∷ 1 ∷ 80000001 ∷ 0 ∷ 0
    ∷ 1 ∷ 90000000 ∷ 5000000 ∷ 1
    ∷ 1 ∷ 90000000 ∷ (2 ^ 36 + 1) ∷ 1
    ∷ [])

unfoldable pub trip_examples : List Bool
trip_examples =
    eqb (rtt_reply (zeros 48) four_trips 161) 0
    -- the fourth is refused with 2.4 at 2, and answered with zeros; the byte behind the answers stays
    ∷ writes (rtt_answers_out (zeros 48) four_trips (room 161))
    (0 ∷ 0 ∷ (2 ^ 64 - 1) ∷ 333000000 ∷ 166500000
    ∷ 0 ∷ 80000001 ∷ 80000001 ∷ 80000001 ∷ 40000000
    ∷ 0 ∷ 90000000 ∷ 80000001 ∷ 80625000 ∷ 31249999
    ∷ 132098 ∷ 0 ∷ 0 ∷ 0 ∷ 0
    ∷ [])
    -- and changes nothing
    ∷ same (rtt_state_out (zeros 48) four_trips (room 161))
    (all_bytes (90000000 ∷ 80000001 ∷ 80625000 ∷ 31249999 ∷ 25000000 ∷ 1 ∷ []))
    -- a flag that is neither 0 nor 1, a byte less of the state, of the calls, of the answers: nothing is written
    ∷ eqb (rtt_reply (all_bytes (with (zeros 6) 5 2)) four_trips 160) 1
    ∷ eqb (rtt_reply (zeros 47) four_trips 160) 0x10802
    ∷ eqb (rtt_reply (zeros 48) (take 127 four_trips) 160) 0x20802
    ∷ eqb (rtt_reply (zeros 48) four_trips 159) 7
    ∷ same (rtt_answers_out (zeros 48) four_trips (room 159)) (room 159)
    ∷ same (rtt_state_out (zeros 48) four_trips (room 159)) (zeros 48)
    ∷ []
