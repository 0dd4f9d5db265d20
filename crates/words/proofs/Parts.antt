-- Words in a part of a slice, `&s[at..at + k]`. Assumes nothing.
use Rattle.std.proofs.Common.{◌≡◌, ℕ, ◌+◌, ◌*◌, ◌≤◌, List, length, drop, sym, ap, ◌∙◌, arith, length-drop, take-append-drop}
use borrow.Rule.Slice.PartMut.{mid_of}
use lib.ListN.{get_or}
use lib.Seq.{length-take-le}
use Rattle.words.specs.Words.{word_at, words_at}
use Rattle.words.proofs.Laws.{words_at_within, words_at_drop}

-- they are the slice's
pub words_of_part : (s : List ℕ) (at k i n : ℕ) → i + 8 * n ≤ k → at + k ≤ length s → words_at (mid_of at k s) i n ≡ words_at s (at + i) n
words_of_part s at k i n h g =
    let part = mid_of at k s in
    let long : length part ≡ k = length-take-le k (drop at s) (omega (arith, length-drop at s)) in
    sym (words_at_within part (drop k (drop at s)) i n (rw long h))
    ∙ ap (λ (l : List ℕ). words_at l i n) (take-append-drop k (drop at s))
    ∙ words_at_drop at s i n

pub word_of_part : (s : List ℕ) (at k i : ℕ) → i + 8 ≤ k → at + k ≤ length s → word_at (mid_of at k s) i ≡ word_at s (at + i)
unfolding words_at
word_of_part s at k i h g = ap (λ (l : List ℕ). get_or l 0 0) (words_of_part s at k i 1 h g)
