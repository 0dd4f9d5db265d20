-- A thing that may be unset, as two words: 1 and the number, or 0 and 0. No writer writes anything else; such a pair is
-- read as the number `outside`, which is out of bounds wherever a call is given one. Definitions only.
use Rattle.std.specs.Prelude.{ℕ, Bool, cond, ◌&&◌, ◌||◌, List, [], ◌∷◌, eqb, Option, None, Some}
use Rattle.units.specs.declared.time.Duration.{Duration}
use Rattle.units.specs.declared.bandwidth.Bandwidth.{Bandwidth}
use Rattle.words.specs.Word.{flag_of, or_outside}

abbrev pub unset : ℕ × ℕ
unset = (0, 0)

abbrev pub held : ℕ → ℕ × ℕ
held n = (1, n)

abbrev pub maybe_words : ℕ × ℕ → List ℕ
maybe_words m = m.0 ∷ m.1 ∷ []

abbrev pub is_unset : (set n : ℕ) → Bool
is_unset set n = eqb set 0 && eqb n 0

-- two words that a writer writes
abbrev pub maybe_fits : (set n : ℕ) → Bool
maybe_fits set n = is_unset set n || flag_of set

abbrev pub number_in : (set n : ℕ) → ℕ
number_in set n = or_outside (flag_of set) n

-- from two words, what is read where nothing is set and where a number is
abbrev pub maybe_of : {A : Type 0} → A → (ℕ → A) → (set n : ℕ) → A
maybe_of none some set n = cond (is_unset set n) none (some (number_in set n))

-- the two words of what may be unset and has a number
abbrev pub pair_of : {A : Type 0} → (A → ℕ) → Option A → ℕ × ℕ
pair_of number None = unset
pair_of number (Some x) = held (number x)

-- a bandwidth
abbrev pub bandwidth_maybe : Option Bandwidth → ℕ × ℕ
bandwidth_maybe x = pair_of (λ b. b.0) x

abbrev pub bandwidth_of : ℕ → ℕ → Option Bandwidth
bandwidth_of set n = maybe_of None (λ n. Some (record { 0 = n })) set n

-- a length of time
abbrev pub length_maybe : Option Duration → ℕ × ℕ
length_maybe x = pair_of (λ d. d.0) x

abbrev pub length_of : ℕ → ℕ → Option Duration
length_of set n = maybe_of None (λ n. Some (record { 0 = n })) set n

-- a plain number: a packet's, a byte count
abbrev pub plain_maybe : Option ℕ → ℕ × ℕ
plain_maybe x = pair_of (λ n. n) x

abbrev pub plain_of : ℕ → ℕ → Option ℕ
plain_of set n = maybe_of None (λ n. Some n) set n
