-- The exported filter run: document 01, "Order of porting, and what changes shape": "a filter run over little-endian
-- u64 pairs (time, sample) that writes three samples per pair, u64 each. It starts empty." And document 02, request f:
-- "the exported filter run writes it" (the reason) "as a fourth u64 after the three samples, numbered 0 to 7 in this
-- order, and gives 7 under 32 bytes a pair".
use Rattle.std.specs.Prelude.{ℕ, zero, suc, ◌+◌, ◌*◌, ◌/◌, ◌%◌, Bool, false, not, ◌||◌, List, [], ◌∷◌, ◌++◌, length, ltb, eqb, Option, None, Some}
use Rattle.filters.specs.declared.windowed_filter.WindowedFilter.{WindowedFilter}
use Rattle.filters.specs.Reason.{reason_number, windowed_reason}
use Rattle.filters.specs.WindowedFilter.{windowed_new, windowed_number, windowed_update, best_of, second_of, third_of}
use Rattle.state.specs.Faults.{list_length, unless}
use Rattle.state.specs.Refusals.{no_rows, argument, earlier, first_of, or_short}
use Rattle.words.specs.Words.{word_at}

-- how many pairs there are: a pair has 16 bytes
abbrev pub pairs : List ℕ → ℕ
pairs src = length src / 16

-- the filter after the pair at an index: a time, then a sample
unfoldable pub after_pair : WindowedFilter → List ℕ → ℕ → WindowedFilter
after_pair f src at = windowed_update f (word_at src (at + 8)) (word_at src at)

-- "a pair that the update would refuse": one of the n pairs from an index on
unfoldable pub refuses : WindowedFilter → List ℕ → ℕ → ℕ → Bool
refuses f src at zero = false
refuses f src at (suc n) =
    not (eqb (windowed_number f (word_at src at)) 0) || refuses (after_pair f src at) src (at + 16) n

-- "three samples per pair": the filter's, from the best to the third. After a pair there is one each
abbrev pub sample_in : Option ℕ → ℕ
sample_in None = 0
sample_in (Some sample) = sample

unfoldable pub samples : WindowedFilter → List ℕ
samples f = sample_in (best_of f.held) ∷ sample_in (second_of f.held) ∷ sample_in (third_of f.held) ∷ []

-- what is written for the pair at an index: the samples after it, and its reason's number "as a fourth u64"
unfoldable pub pair_words : WindowedFilter → List ℕ → ℕ → List ℕ
pair_words f src at =
    samples (after_pair f src at)
    ++ (reason_number (windowed_reason f (word_at src (at + 8)) (word_at src at)) ∷ [])

-- what is written for n pairs, from an index on
unfoldable pub run_words : WindowedFilter → List ℕ → ℕ → ℕ → List ℕ
run_words f src at zero = []
run_words f src at (suc n) = pair_words f src at ++ run_words (after_pair f src at) src (at + 16) n

-- "Bytes not in whole sixteens give 2; a pair that the update would refuse, 3 for the whole run"; "and gives 7 under 32
-- bytes a pair"
unfoldable pub run_row : (window : ℕ) (src : List ℕ) (room : ℕ) → ℕ
run_row window src room =
    let uneven = not (eqb (length src % 16) 0) in
    let refused = refuses (windowed_new window) src 0 (pairs src) in
    or_short (first_of (argument uneven (earlier refused no_rows))) (ltb room (32 * pairs src))

-- document 02, request b: such bytes are a list length, 2.8, at place 2. The window, place 1, is free, and the output,
-- place 3, is row 7's
unfoldable pub pairs_faults : (src : List ℕ) → List ℕ
pairs_faults src = unless (eqb (length src % 16) 0) 2 list_length ∷ []
