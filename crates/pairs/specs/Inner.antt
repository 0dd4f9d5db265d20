-- What private functions answer on the way. These definitions follow the code: no exported contract and no theorem
-- cites them, so that a reader need not believe them.
use Rattle.std.specs.Prelude.{ℕ, zero, suc, ◌+◌, Bool, false, ◌||◌, List, [], ◌∷◌, ltb}
use Rattle.filters.specs.declared.windowed_filter.Sample.{Sample}
use Rattle.filters.specs.declared.windowed_filter.Stepped.{Stepped}
use Rattle.filters.specs.Reason.{reason_number}
use Rattle.filters.specs.WindowedFilter.{sample_at}
use Rattle.words.specs.Words.{word_at}

-- whether one of the n times from an index on is earlier than the one before it, the first earlier than `last`
unfoldable pub times_fall : (last : ℕ) → List ℕ → ℕ → ℕ → Bool
times_fall last src at zero = false
times_fall last src at (suc n) = ltb (word_at src at) last || times_fall (word_at src at) src (at + 16) n

-- the pair at an index, as a sample with its time
abbrev pub pair_at : List ℕ → ℕ → Sample
pair_at src at = sample_at (word_at src (at + 8)) (word_at src at)

-- what is written of an update: the three samples, and the reason's number
unfoldable pub stepped_words : Stepped → List ℕ
stepped_words s =
    s.estimates.best.sample
    ∷ s.estimates.second.sample
    ∷ s.estimates.third.sample
    ∷ reason_number s.reason
    ∷ []
