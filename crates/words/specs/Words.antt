-- Words in lists of bytes: a word is a number of 64 bits in 8 bytes, the lowest first ("little-endian u64").
use Rattle.std.specs.Prelude.{ℕ, zero, suc, ◌+◌, ◌*◌, ◌/◌, ◌%◌, List, [], ◌∷◌, ◌++◌, get_or}

-- the number of the n bytes at an index
unfoldable pub number_at : ℕ → List ℕ → ℕ → ℕ
number_at zero s at = 0
number_at (suc n) s at = get_or s at 0 + 256 * number_at n s (suc at)

-- the lowest n bytes of a number
unfoldable pub low_bytes : ℕ → ℕ → List ℕ
low_bytes zero x = []
low_bytes (suc n) x = x % 256 ∷ low_bytes n (x / 256)

-- the word at an index
abbrev pub word_at : List ℕ → ℕ → ℕ
word_at s at = number_at 8 s at

-- the 8 bytes of a word
abbrev pub bytes : ℕ → List ℕ
bytes x = low_bytes 8 x

-- the n words from an index on
unfoldable pub words_at : List ℕ → ℕ → ℕ → List ℕ
words_at s at zero = []
words_at s at (suc n) = word_at s at ∷ words_at s (at + 8) n

-- the bytes of words, one after the other
unfoldable pub all_bytes : List ℕ → List ℕ
all_bytes [] = []
all_bytes (x ∷ words) = bytes x ++ all_bytes words
