-- Decimal digits, counted and written. Assumes nothing.
use Prim.Native.Nat.{ℕ, zero, suc, ◌+◌, ◌-◌, ◌*◌, ◌/◌, ◌%◌, ◌^◌, ◌<◌, ◌≤◌}
use mathlib.Core.Path.{◌≡◌, refl, sym, ap, ◌∙◌}
use mathlib.Core.Bool.{Bool, true, false, cond}
use mathlib.Core.List.{List, [], ◌∷◌, ◌++◌, append_assoc}
use native.Mathlib.Omega.{arith}
use native.Mathlib.Numerals.{add-one}
use native.Mathlib.Nat.{add-zero, add-suc, suc-add, mul_comm, pow-suc, pow-le-pow_right}
use lib.Dec.{ltb}
use lib.ListN.{length, set, take, drop, length-append, length-set, length-take, length-drop}
use lib.Seq.{sets, sets-eq, length-sets, set_comm, drop-cons, drop-drop, drop-set-lt}
use Rattle.std.proofs.lemmas.List.{get_or-set_same}
use borrow.Rule.Slice.PartMut.{put_mid}
use borrow.Author.Tests.{lt-ltb, le-ltb}
use Rattle.rows.specs.Digits.{places_from, places_of, digits_of, decimal, Put, Puts}
use Rattle.rows.specs.declared.digits.Writer.{Writer}

pub ten_fits : (k : ℕ) → k < 19 → 10 ^ k * 10 < 2 ^ 64
ten_fits k h = let q : k ≤ 18 = omega arith in let z : 10 ^ k ≤ 10 ^ 18 = pow-le-pow_right (omega arith) q in omega arith

pub ten_more : (k : ℕ) → 10 ^ k * 10 ≡ 10 ^ (k + 1)
ten_more k = sym (pow-suc 10 k) ∙ ap (λ (n : ℕ). 10 ^ n) (sym (add-one k))

-- a number from 10 ^ k on, up to ten times as much, has k + 1 digits
places_at : (j f k n : ℕ) → j ≤ f → n < 10 ^ (k + j) → (0 < j → 10 ^ (k + j) ≤ 10 * n) → places_from f k (10 ^ k) n ≡ k + j
unfolding places_from
places_at zero zero k n w above below = sym (add-zero k)
places_at zero (suc f) k n w above below = rw (add-zero k, lt-ltb n (10 ^ k) (rw (← add-zero k) above))
places_at (suc j) zero k n w above below = absurd (omega arith)
places_at (suc j) (suc f) k n w above below =
    let more : 10 ^ k ≤ 10 ^ (k + j) = pow-le-pow_right (omega arith) (omega arith) in
    let ten : 10 ^ (k + suc j) ≡ 10 * 10 ^ (k + j) = rw (add-suc k j) (pow-suc 10 (k + j) ∙ mul_comm (10 ^ (k + j)) 10) in
    let under = below (omega arith) in
    let shift : k + 1 + j ≡ k + suc j = omega arith in
    let h : n < 10 ^ (k + 1 + j) = rw shift above in
    let g : 0 < j → 10 ^ (k + 1 + j) ≤ 10 * n = λ p. rw shift under in
    rw (le-ltb n (10 ^ k) (omega arith), ten_more k) (places_at j f (k + 1) n (omega arith) h g ∙ shift)

pub places_log : (n k : ℕ) → k < 20 → 10 ^ k ≤ n → n < 10 * 10 ^ k → k + 1 ≡ places_of n
unfolding places_of
places_log n k w below above =
    let one : k + 1 ≡ 1 + k = omega arith in
    let ten : 10 ^ (1 + k) ≡ 10 * 10 ^ k = ap (λ (m : ℕ). 10 ^ m) (sym one ∙ add-one k) ∙ pow-suc 10 k ∙ mul_comm (10 ^ k) 10 in
    one ∙ sym (places_at k 19 1 n (omega arith) (rw ten above) (λ p. rw ten (omega arith)))

pub places_range : (f k limit n : ℕ) → (k ≤ places_from f k limit n) × (places_from f k limit n ≤ k + f)
unfolding places_from
places_range zero k limit n = (omega arith, omega arith)
places_range (suc f) k limit n = go (places_range f (k + 1) (limit * 10) n) (ltb n limit)
  where
    go : (k + 1 ≤ places_from f (k + 1) (limit * 10) n) × (places_from f (k + 1) (limit * 10) n ≤ k + 1 + f) → (q : Bool) → (k ≤ cond q k (places_from f (k + 1) (limit * 10) n)) × (cond q k (places_from f (k + 1) (limit * 10) n) ≤ k + suc f)
    go h true = (omega arith, omega arith)
    go h false = (omega arith, omega arith)

pub places_few : (n : ℕ) → places_of n ≤ 20
unfolding places_of
places_few n = let h = (places_range 19 1 10 n).1 in omega arith

pub length_digits : (k n : ℕ) → length (digits_of k n) ≡ k
unfolding digits_of
length_digits zero n = refl
length_digits (suc k) n = length-append (digits_of k (n / 10)) _ ∙ (let h = length_digits k (n / 10) in omega arith)

pub length_decimal : (n : ℕ) → length (decimal n) ≡ places_of n
unfolding decimal
length_decimal n = length_digits (places_of n) n

pub decimal_few : (n : ℕ) → length (decimal n) ≤ 20
decimal_few n = let a = length_decimal n in let b = places_few n in omega arith

-- two runs side by side are one
pub sets-append : (l : List ℕ) (i : ℕ) (a b : List ℕ) → sets (sets l i a) (i + length a) b ≡ sets l i (a ++ b)
sets-append l i [] b = rw add-zero
sets-append l i (x ∷ a) b = rw (add-suc, ← suc-add) (sets-append (set l i x) (suc i) a b)

-- a store past a run comes before it as well as after it
pub sets_last : (l : List ℕ) (i : ℕ) (a : List ℕ) (x : ℕ) → sets (set l (i + length a) x) i a ≡ sets l i (a ++ (x ∷ []))
sets_last l i [] x = rw add-zero
sets_last l i (y ∷ a) x = rw (add-suc, ← suc-add, set_comm l (suc i + length a) i x y (omega arith)) (sets_last (set l i y) (suc i) a x)

pub put_put : {l m n : List ℕ} {at r q : ℕ} {a b : List ℕ} → Put l m at a r → Put m n r b q → Put l n at (a ++ b) q
put_put {l} {m} {n} {at} {r} {q} {a} {b} f g = record {
  stored = g.stored ∙ rw (f.stored, f.next) (sets-append l at a b);
  next = let h = length-append a b in let u = f.next in let w = g.next in omega arith;
  kept = g.kept ∙ f.kept;
}

-- ---- a writer puts one text and then another
pub puts_puts : {w w' w'' : Writer} {t u : List ℕ} {n m : ℕ} → Puts w w' t n → Puts w' w'' u m → Puts w w'' (t ++ u) (n + m)
puts_puts f g = record { same = g.same ∙ f.same; put = put_put f.put g.put; within = let a = f.within in let b = g.within in omega arith }

-- a text that is shorter than it may be
pub puts_within : {w w' : Writer} {t : List ℕ} {n m : ℕ} → n ≤ m → Puts w w' t n → Puts w w' t m
puts_within h f = record { same = f.same; put = f.put; within = let a = f.within in omega arith }

-- what a writer leaves, where it is let go
pub put_left : {l m n : List ℕ} {at r : ℕ} {t : List ℕ} → Put l m at t r → m ≡ n → Put l n at t r
put_left p e = rw e at p

-- what is stored, with the rest that follows from it
pub put_is : {l m : List ℕ} {at r : ℕ} (a : List ℕ) → m ≡ sets l at a → r ≡ at + length a → Put l m at a r
put_is {l} {m} {at} a e n = record { stored = e; next = n; kept = ap length e ∙ length-sets l at a }

-- a text in the place of a part that is as long
pub put_part : (l t m : List ℕ) (at k : ℕ) → m ≡ t → k ≡ length t → at + length t ≤ length l → Put l (put_mid at k l m) at t (at + length t)
put_part l t m at k e n h =
    put_is t (rw (e, n) (ap (λ (u : List ℕ). take at l ++ (t ++ u)) (drop-drop (length t) at l) ∙ sym (append_assoc (take at l) t _) ∙ sym (sets-eq t l at h))) refl

-- the digits of a number, in a part for as many
pub put_digits : (l m : List ℕ) (at k n : ℕ) → k ≡ places_of n → m ≡ digits_of (length (take (at + k - at) (drop at l))) n → at + k ≤ length l → Put l (put_mid at (at + k - at) l m) at (decimal n) (at + k)
unfolding decimal
put_digits l m at k n e d h =
    let q : at + k - at ≡ k = omega arith in
    let long : length (take (at + k - at) (drop at l)) ≡ k = simp (length-take, length-drop) (omega arith) in
    let is : m ≡ digits_of (places_of n) n = rw (long, e) at d in
    let w : k ≡ length (digits_of (places_of n) n) = e ∙ sym (length_digits (places_of n) n) in
    let z : at + k ≡ at + length (digits_of (places_of n) n) = ap (λ (j : ℕ). at + j) w in
    rw z (put_part l (digits_of (places_of n) n) m at _ is (omega arith) (omega arith))

-- a digit is written before those that stand right of it
pub spell_next : (out : List ℕ) (i rest : ℕ) → i < length out → digits_of (i + 1) rest ++ drop (i + 1) out ≡ digits_of i (rest / 10) ++ drop i (set out i (48 + rest % 10))
unfolding digits_of
spell_next out i rest h =
    rw (add-one i, drop-cons (set out i (48 + rest % 10)) i 0 (simp length-set h), get_or-set_same out i (48 + rest % 10) 0 h, drop-set-lt (suc i) out i (48 + rest % 10) (omega arith))
    (append_assoc (digits_of i (rest / 10)) ((48 + rest % 10) ∷ []) (drop (suc i) out))
