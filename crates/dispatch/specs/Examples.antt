-- Worked calls, in words: those that no writer writes, and beside each one that is done.
use Rattle.std.specs.Prelude.{ℕ, ◌+◌, ◌-◌, ◌^◌, Bool, true, false, ◌&&◌, List, [], ◌∷◌, ◌++◌, eqb, take, drop, replicate}
use Rattle.layout.specs.NetworkModel.{model_from}
use Rattle.layout.specs.Cycle.{cycle_from}
use Rattle.dispatch.specs.Outcome.{outcome_of}

abbrev pub same : List ℕ → List ℕ → Bool
same [] [] = true
same [] (y ∷ l) = false
same (x ∷ k) [] = false
same (x ∷ k) (y ∷ l) = eqb x y && same k l

abbrev pub zeros : ℕ → List ℕ
zeros n = replicate n 0

-- words with word i put anew
abbrev pub with : List ℕ → ℕ → ℕ → List ℕ
with words i x = take i words ++ (x ∷ drop (i + 1) words)

-- a state within its bounds: both gains are 1, and the last packet that was sent is packet 9
abbrev sound : List ℕ
sound = with (with (with (with (zeros 51) 1 9) 19 0x3f80_0000) 20 0x3f80_0000) 34 1

-- a call by its number, with parameters within their bounds
abbrev call : ℕ → List ℕ
call number = number ∷ zeros 37 ++ (0x3f00_0000 ∷ 0 ∷ 0 ∷ 0x3f80_0000 ∷ 0x3f80_0000 ∷ 0x3f80_0000 ∷ zeros 5)

-- its answer is the number n, no value, and these 16 words
abbrev shows : List ℕ → List ℕ → ℕ → List ℕ → Bool
shows words state n event =
    let t = outcome_of words (model_from state) (cycle_from state) in
    eqb t.reply n && eqb t.value 0 && same t.event event

abbrev replies : List ℕ → ℕ → Bool
replies words n = shows words sound n (zeros 16)

-- an event in a model whose round ends at `end`, with lists of 1, 9, 2, 3, 4 and 6, that names `count` numbers of them
-- from the place `at` on: its answer is the number n, and these 16 words
abbrev names : (count at end n : ℕ) → List ℕ → Bool
names count at end n event =
    let words = with (with (call 3) 18 count) 19 at ++ (1 ∷ 9 ∷ 2 ∷ 3 ∷ 4 ∷ 6 ∷ []) in
    shows words (with (with sound 2 1) 3 end) n event

unfoldable pub outcome_examples : List Bool
outcome_examples =
    -- numbers that are no call's; with a stored number out of bounds it is 1
    replies (call 2) 2
    ∷ replies (call 39) 2
    ∷ replies (call 46) 2
    ∷ replies (call (2 ^ 64 - 1)) 2
    ∷ shows (call 46) (zeros 51) 1 (zeros 16)
    -- a gain with a bit above the 32nd, a NaN, a gain of 1
    ∷ replies (with (call 15) 1 0x1_3f80_0000) 2
    ∷ replies (with (call 15) 1 0x7fc0_0001) 2
    ∷ replies (with (call 15) 1 0x3f80_0000) 0
    -- the flags of call 40
    ∷ replies (with (call 40) 1 2) 2
    ∷ replies (with (call 40) 2 (2 ^ 64 - 1)) 2
    ∷ replies (with (call 40) 1 1) 0
    -- in the words of the parameters: a flag of 2, an f32 with a bit above the 32nd; it is 1 too with a flag of the
    -- call's own
    ∷ replies (with (call 40) 48 2) 1
    ∷ replies (with (call 40) 43 0x1_3f80_0000) 1
    ∷ replies (with (with (call 40) 48 2) 1 2) 1
    -- call 41 takes no parameters: theirs are not looked at
    ∷ replies (with (call 41) 48 2) 0
    -- in an event's finish: a flag of 2, pairs that are neither 1 and a number nor 0 and 0
    ∷ replies (with (call 4) 28 2) 2
    ∷ replies (with (call 4) 33 1) 2
    ∷ replies (with (call 4) 30 2) 2
    ∷ replies (with (call 4) 28 1) 0
    -- an event that is refused, for a flag of 7, a pair of 0 and 9, or a count of 4 where no lists are lent: its record
    -- comes back as it was
    ∷ shows (with (with (call 3) 29 7) 33 9) sound 2 (with (with (zeros 16) 7 7) 11 9)
    ∷ shows (with (with (call 3) 18 4) 23 5) sound 2 (with (zeros 16) 1 5)
    ∷ shows (with (with (call 3) 7 2) 23 5) sound 2 (with (zeros 16) 1 5)
    ∷ shows (with (call 3) 18 3) sound 0 (with (zeros 16) 6 1)
    -- four numbers of the six, of which one is past the end, 5: the second, the first, the last
    ∷ names 4 0 5 0 (with (zeros 16) 6 1)
    ∷ names 4 1 5 0 (with (zeros 16) 6 1)
    ∷ names 4 2 5 0 (with (zeros 16) 6 1)
    -- none is past the end: the greatest is the end itself
    ∷ names 4 0 9 0 (zeros 16)
    ∷ names 4 2 6 0 (zeros 16)
    -- all six; and places that the lists don't have
    ∷ names 6 0 5 0 (with (zeros 16) 6 1)
    ∷ names 7 0 5 2 (zeros 16)
    ∷ names 4 3 5 2 (zeros 16)
    ∷ names 4 (2 ^ 64 - 1) 5 2 (zeros 16)
    ∷ names (2 ^ 64 - 1) 0 5 2 (zeros 16)
    ∷ names (2 ^ 64 - 1) (2 ^ 64 - 1) 5 2 (zeros 16)
    -- up to three numbers stand in the call, whatever the lists hold: 7 in word 19; none
    ∷ names 3 7 5 0 (with (zeros 16) 6 1)
    ∷ names 0 7 5 0 (zeros 16)
    -- packets that were never sent, 10 in the call, 9 in the lists where 8 is the last sent: the record comes back as
    -- it was. 9 is taken where it is the last sent
    ∷ shows (with (with (with (call 3) 18 1) 19 10) 23 5) sound 10 (with (zeros 16) 1 5)
    ∷ shows (with (with (call 3) 18 1) 19 9) sound 0 (with (zeros 16) 6 1)
    ∷ shows (with (with (call 3) 18 4) 23 5 ++ (1 ∷ 9 ∷ 2 ∷ 3 ∷ [])) (with sound 1 8) 10 (with (zeros 16) 1 5)
    -- nothing was sent yet, whatever word 1 is: 0 is refused, and an event without numbers is taken
    ∷ shows (with (call 3) 18 1) (with sound 34 0) 10 (zeros 16)
    ∷ shows (call 3) (with sound 34 0) 0 (zeros 16)
    ∷ []
