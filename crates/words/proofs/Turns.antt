-- A word's bytes, and one turn of each loop, over plain variables: what is still to be done leads to the same end. Assumes nothing.
use Rattle.std.proofs.Common.{◌≡◌, ℕ, suc, ◌+◌, ◌-◌, ◌*◌, ◌<◌, ◌≤◌, List, ◌++◌, length, take, drop, ap, ◌∙◌, sym, arith, add-one}
use mathlib.Core.List.{append_assoc}
use Rattle.std.specs.Int.{w64, to_le_bytes, from_le_bytes}
use borrow.Rule.Slice.PartMut.{mid_of, put_mid}
use lib.ListN.{get_or, set}
use lib.Seq.{sets, sets-eq, drop-cons, drop-drop, get_or-take, get_or-drop}
use native.Mathlib.Nat.{div-div-eq-div-mul}
use Rattle.words.specs.Words.{number_at, low_bytes, word_at, bytes, words_at, all_bytes}
use Rattle.words.proofs.Stores.{sets-append}
use Rattle.words.proofs.Laws.{length_bytes}

-- a word's bytes
pub to_bytes : (x : ℕ) → to_le_bytes w64 x ≡ bytes x
unfolding low_bytes
to_bytes x = simp div-div-eq-div-mul

-- the word that bytes are
pub from_bytes : (s : List ℕ) (at k : ℕ) → k ≡ 8 → from_le_bytes w64 (mid_of at k s) ≡ word_at s at
unfolding number_at
from_bytes s at k e =
    let byte : (i j : ℕ) → i < k → at + i ≡ j → get_or (mid_of at k s) i 0 ≡ get_or s j 0 =
    λ i j h there. get_or-take k (drop at s) i 0 h ∙ get_or-drop at s i 0 ∙ ap (λ (n : ℕ). get_or s n 0) there in
    omega (arith, byte 0 at (omega arith) (omega arith), byte 1 (suc at) (omega arith) (omega arith), byte 2 (suc (suc at)) (omega arith) (omega arith), byte 3 (suc (suc (suc at))) (omega arith) (omega arith), byte 4 (suc (suc (suc (suc at)))) (omega arith) (omega arith), byte 5 (suc (suc (suc (suc (suc at))))) (omega arith) (omega arith), byte 6 (suc (suc (suc (suc (suc (suc at)))))) (omega arith) (omega arith), byte 7 (suc (suc (suc (suc (suc (suc (suc at))))))) (omega arith) (omega arith))

-- a part that is written over
pub put_part : (at k : ℕ) (l part : List ℕ) → length part ≡ k → at + k ≤ length l → put_mid at k l part ≡ sets l at part
put_part at k l part e h =
    let all = sets-eq part l at (rw e h) in
    ap (λ (rest : List ℕ). take at l ++ (part ++ rest)) (drop-drop k at l ∙ ap (λ (n : ℕ). drop (at + n) l) (sym e)) ∙ sym (append_assoc (take at l) part (drop (at + length part) l)) ∙ sym all

-- words into a slice of numbers
pub fill_word :
    (s l end : List ℕ) (at i n : ℕ) → i < n → sets l i (words_at s (at + 8 * i) (n - i)) ≡ end →
    sets (set l i (word_at s (at + 8 * i))) (i + 1) (words_at s (at + 8 * (i + 1)) (n - (i + 1))) ≡ end
unfolding words_at
fill_word s l end at i n h e =
    let left : n - i ≡ suc (n - suc i) = omega arith in
    let next : at + 8 * (i + 1) ≡ at + 8 * i + 8 = omega arith in
    rw (next, add-one) (rw left at e)

-- words into bytes
pub write_word :
    (l end words : List ℕ) (at i : ℕ) → i < length words → sets l (at + 8 * i) (all_bytes (drop i words)) ≡ end →
    sets (sets l (at + 8 * i) (bytes (get_or words i 0))) (at + 8 * (i + 1)) (all_bytes (drop (i + 1) words)) ≡ end
unfolding all_bytes
write_word l end words at i h e =
    let x = get_or words i 0 in
    let next : at + 8 * (i + 1) ≡ at + 8 * i + length (bytes x) = rw length_bytes (omega arith) in
    rw (next, add-one)
    (sets-append l (at + 8 * i) (bytes x) (all_bytes (drop (suc i) words)) ∙ rw (drop-cons words i 0 h) at e)
