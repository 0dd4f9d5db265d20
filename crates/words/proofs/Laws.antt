-- Laws of words: how long they are, how they follow each other, and that reading gives back what was written. Assumes nothing.
use Prim.Native.Nat.{ℕ, zero, suc, ◌+◌, ◌*◌, ◌/◌, ◌%◌, ◌^◌, ◌≤◌, ◌<◌}
use mathlib.Core.List.{List, [], ◌∷◌, ◌++◌, append_assoc}
use mathlib.Core.Path.{◌≡◌, refl, sym, ap, ap₂, ◌∙◌}
use native.Mathlib.Nat.{zero-lt-suc, add-zero, zero-add, add-suc, suc-add, add_assoc, mod-add-div, div-lt_iff_lt-mul, pow-suc}
use native.Mathlib.Omega.{arith}
use lib.ListN.{length, get_or, drop, length-append, get_or-append}
use lib.Seq.{sets, get_or-drop, drop_at}
use Rattle.words.specs.Words.{number_at, low_bytes, word_at, bytes, words_at, all_bytes}
use Rattle.words.proofs.Stores.{drop-sets}

-- ---- lengths
length_low_bytes : (n x : ℕ) → length (low_bytes n x) ≡ n
unfolding low_bytes
length_low_bytes zero x = refl
length_low_bytes (suc n) x = ap suc (length_low_bytes n (x / 256))

pub length_bytes : (x : ℕ) → length (bytes x) ≡ 8
length_bytes x = length_low_bytes 8 x

pub length_all_bytes : (words : List ℕ) → length (all_bytes words) ≡ 8 * length words
unfolding all_bytes
length_all_bytes [] = refl
length_all_bytes (x ∷ words) = rw (length-append, length_bytes) (omega (arith, length_all_bytes words))

pub length_words_at : (s : List ℕ) (at n : ℕ) → length (words_at s at n) ≡ n
unfolding words_at
length_words_at s at zero = refl
length_words_at s at (suc n) = ap suc (length_words_at s (at + 8) n)

-- ---- words that follow each other
pub all_bytes_append : (a b : List ℕ) → all_bytes (a ++ b) ≡ all_bytes a ++ all_bytes b
unfolding all_bytes
all_bytes_append [] b = refl
all_bytes_append (x ∷ a) b = rw (all_bytes_append a b) (sym (append_assoc (bytes x) (all_bytes a) (all_bytes b)))

pub get_or_words_at : (s : List ℕ) (at n i : ℕ) → i < n → get_or (words_at s at n) i 0 ≡ word_at s (at + 8 * i)
unfolding words_at
get_or_words_at s at zero i h = omega arith
get_or_words_at s at (suc n) zero h = ap (word_at s) (sym (add-zero at))
get_or_words_at s at (suc n) (suc i) h = get_or_words_at s (at + 8) n i (omega arith) ∙ ap (word_at s) (omega arith)

-- ---- what stands at an index, past the first k
number_at_drop : (n k : ℕ) (s : List ℕ) (at : ℕ) → number_at n (drop k s) at ≡ number_at n s (k + at)
unfolding number_at
number_at_drop zero k s at = refl
number_at_drop (suc n) k s at = ap₂ (λ (b rest : ℕ). b + 256 * rest) (get_or-drop k s at 0) (number_at_drop n k s (suc at) ∙ ap (number_at n s) (add-suc k at))

pub word_drop : (k : ℕ) (s : List ℕ) (at : ℕ) → word_at (drop k s) at ≡ word_at s (k + at)
word_drop k s at = number_at_drop 8 k s at

pub words_at_drop : (k : ℕ) (s : List ℕ) (at n : ℕ) → words_at (drop k s) at n ≡ words_at s (k + at) n
unfolding words_at
words_at_drop k s at zero = refl
words_at_drop k s at (suc n) =
    ap₂ (λ (x : ℕ) (rest : List ℕ). x ∷ rest) (word_drop k s at) (words_at_drop k s (at + 8) n ∙ ap (λ (i : ℕ). words_at s i n) (sym (add_assoc k at 8)))

pub words_at_split : (s : List ℕ) (at m n : ℕ) → words_at s at (m + n) ≡ words_at s at m ++ words_at s (at + 8 * m) n
unfolding words_at
words_at_split s at zero n = rw (zero-add, add-zero)
words_at_split s at (suc m) n =
    let next : at + 8 + 8 * m ≡ at + 8 * suc m = omega arith in
    rw (suc-add, ← next) (ap (λ (rest : List ℕ). word_at s at ∷ rest) (words_at_split s (at + 8) m n))

-- ---- what stands in one of two lists that follow each other
number_at_within : (n : ℕ) (a b : List ℕ) (at : ℕ) → at + n ≤ length a → number_at n (a ++ b) at ≡ number_at n a at
unfolding number_at
number_at_within zero a b at h = refl
number_at_within (suc n) a b at h =
    ap₂ (λ (x rest : ℕ). x + 256 * rest) (get_or-append a b 0 at (omega arith)) (number_at_within n a b (suc at) (omega arith))

pub words_at_within : (a b : List ℕ) (at n : ℕ) → at + 8 * n ≤ length a → words_at (a ++ b) at n ≡ words_at a at n
unfolding words_at
words_at_within a b at zero h = refl
words_at_within a b at (suc n) h =
    ap₂ (λ (x : ℕ) (rest : List ℕ). x ∷ rest) (number_at_within 8 a b at (omega arith)) (words_at_within a b (at + 8) n (omega arith))

-- ---- reading gives back what was written
number_low_bytes : (n x : ℕ) (rest : List ℕ) → x < 256 ^ n → number_at n (low_bytes n x ++ rest) 0 ≡ x
unfolding number_at low_bytes
number_low_bytes zero x rest h = omega arith
number_low_bytes (suc n) x rest h =
    ap (λ (y : ℕ). x % 256 + 256 * y)
    (sym (number_at_drop n 1 (x % 256 ∷ (low_bytes n (x / 256) ++ rest)) 0) ∙ number_low_bytes n (x / 256) rest ((div-lt_iff_lt-mul (zero-lt-suc 255)).1 (rw pow-suc at h)))
    ∙ mod-add-div x 256

pub word_of : (x : ℕ) (rest : List ℕ) → x < 2 ^ 64 → word_at (bytes x ++ rest) 0 ≡ x
word_of x rest h = number_low_bytes 8 x rest h

-- numbers of 64 bits
abbrev pub AllWords : List ℕ → Type 0
AllWords words = (i : ℕ) → get_or words i 0 < 2 ^ 64

pub words_of_lem : (words rest : List ℕ) → AllWords words → words_at (all_bytes words ++ rest) 0 (length words) ≡ words
unfolding words_at all_bytes low_bytes
words_of_lem [] rest h = refl
words_of_lem (x ∷ words) rest h =
    rw append_assoc
    (ap₂ (λ (y : ℕ) (l : List ℕ). y ∷ l)
    (word_of x (all_bytes words ++ rest) (h 0))
    (sym (words_at_drop 8 (bytes x ++ (all_bytes words ++ rest)) 0 (length words))
    ∙ ap (λ (l : List ℕ). words_at l 0 (length words)) (drop_at (bytes x) (all_bytes words ++ rest) 8 (length_bytes x))
    ∙ words_of_lem words rest (λ i. h (suc i))))

pub word_back : (l : List ℕ) (at x : ℕ) → at + 8 ≤ length l → x < 2 ^ 64 → word_at (sets l at (bytes x)) at ≡ x
word_back l at x fits h =
    let room : at + length (bytes x) ≤ length l = rw length_bytes fits in
    ap (word_at (sets l at (bytes x))) (sym (add-zero at))
    ∙ sym (word_drop at (sets l at (bytes x)) 0)
    ∙ ap (λ (s : List ℕ). word_at s 0) (drop-sets l at (bytes x) room)
    ∙ word_of x (drop (at + length (bytes x)) l) h

pub words_back : (l : List ℕ) (at : ℕ) (words : List ℕ) → at + 8 * length words ≤ length l → AllWords words → words_at (sets l at (all_bytes words)) at (length words) ≡ words
words_back l at words fits h =
    let s = sets l at (all_bytes words) in
    let n = length words in
    let room : at + length (all_bytes words) ≤ length l = rw length_all_bytes fits in
    ap (λ (i : ℕ). words_at s i n) (sym (add-zero at))
    ∙ sym (words_at_drop at s 0 n)
    ∙ ap (λ (t : List ℕ). words_at t 0 n) (drop-sets l at (all_bytes words) room)
    ∙ words_of_lem words (drop (at + length (all_bytes words)) l) h
