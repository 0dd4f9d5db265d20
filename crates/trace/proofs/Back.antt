-- A number that is written is read back as the same number. Assumes nothing.
use Prim.Native.Nat.{ℕ, zero, suc, ◌+◌, ◌-◌, ◌*◌, ◌/◌, ◌%◌, ◌^◌, ◌<◌, ◌≤◌}
use mathlib.Core.Path.{◌≡◌, refl, sym, ap, ◌∙◌, subst}
use mathlib.Core.Bool.{Bool, true, false, cond}
use mathlib.Core.List.{List, [], ◌∷◌, ◌++◌}
use native.Mathlib.Omega.{arith}
use native.Mathlib.Nat.{pow-suc, div-add-mod', add-zero}
use lib.Dec.{ltb, leb}
use lib.ListN.{length, get_or}
use borrow.Author.Tests.{ltb-true, ltb-false, leb-true, leb-false, le-leb, lt-ltb, ne_eqb}
use Rattle.state.proofs.Rows.{and_left, and_right, and_both}
use Rattle.text.specs.Number.{is_digit, digits_only, value_from, leads, plain, cell_of}
use Rattle.text.specs.declared.number.Cell.TheVariants.{Number}
use Rattle.text.proofs.Numbers.{leads_one, leads_other}
use Rattle.rows.specs.Digits.{places_from, places_of, digits_of, decimal}
use Rattle.rows.proofs.Decimals.{ten_more, places_range, length_digits, length_decimal}

value_last : (acc : ℕ) (a : List ℕ) (b : ℕ) → value_from acc (a ++ (b ∷ [])) ≡ value_from acc a * 10 + (b - 48)
unfolding value_from
value_last acc [] b = refl
value_last acc (x ∷ a) b = value_last (acc * 10 + (x - 48)) a b

pub value_digits : (k n : ℕ) → n < 10 ^ k → value_from 0 (digits_of k n) ≡ n
unfolding digits_of value_from
value_digits zero n h = omega arith
value_digits (suc k) n h =
    let p = pow-suc 10 k in
    let d = div-add-mod' n 10 in
    let q : n / 10 < 10 ^ k = (let z : n < 10 ^ k * 10 = omega arith in omega arith) in
    let i = value_digits k (n / 10) q in
    value_last 0 (digits_of k (n / 10)) (48 + n % 10) ∙ (omega arith)

places_enough : (f k n : ℕ) → n < 10 ^ (k + f) → n < 10 ^ places_from f k (10 ^ k) n
unfolding places_from
places_enough zero k n h = subst (λ (m : ℕ). n < 10 ^ m) (add-zero k) h
places_enough (suc f) k n h = go (subst (λ (l : ℕ). n < 10 ^ (k + 1 + f) → n < 10 ^ places_from f (k + 1) l n) (sym (ten_more k)) (places_enough f (k + 1) n)) (ltb n (10 ^ k)) refl
  where
    go : (n < 10 ^ (k + 1 + f) → n < 10 ^ places_from f (k + 1) (10 ^ k * 10) n) → (q : Bool) → ltb n (10 ^ k) ≡ q → n < 10 ^ cond q k (places_from f (k + 1) (10 ^ k * 10) n)
    go again true e = ltb-true n (10 ^ k) e
    go again false e = again (let q : k + suc f ≡ k + 1 + f = omega arith in subst (λ (m : ℕ). n < 10 ^ m) q h)

-- every u64 that is written is read back
pub reads_back : (n : ℕ) → n < 2 ^ 64 → value_from 0 (decimal n) ≡ n
unfolding decimal places_of
reads_back n h = value_digits (places_from 19 1 10 n) n (places_enough 19 1 n (omega arith))

-- ---- it is plain: digits alone
digits_last : (a : List ℕ) (b : ℕ) → digits_only a ≡ true → is_digit b ≡ true → digits_only (a ++ (b ∷ [])) ≡ true
unfolding digits_only
digits_last [] b h k = rw k
digits_last (x ∷ a) b h k = and_both (is_digit x) (digits_only (a ++ (b ∷ []))) (and_left (is_digit x) (digits_only a) h) (digits_last a b (and_right (is_digit x) (digits_only a) h) k)

digit : (n : ℕ) → is_digit (48 + n % 10) ≡ true
digit n = let l : 48 ≤ 48 + n % 10 = omega arith in let g : 48 + n % 10 ≤ 57 = omega arith in simp (le-leb 48 (48 + n % 10) l, le-leb (48 + n % 10) 57 g)

digits_plain : (k n : ℕ) → digits_only (digits_of k n) ≡ true
unfolding digits_of digits_only
digits_plain zero n = refl
digits_plain (suc k) n = digits_last (digits_of k (n / 10)) (48 + n % 10) (digits_plain k (n / 10)) (digit n)

-- ---- and no zero before another digit
first_same : (a b : List ℕ) → 0 < length a → get_or (a ++ b) 0 0 ≡ get_or a 0 0
first_same [] b h = absurd (omega (arith, h))
first_same (x ∷ a) b h = refl

first_digit : (k n : ℕ) → 10 ^ k ≤ n → n < 10 ^ suc k → get_or (digits_of (suc k) n) 0 0 ≡ 48 → ⊥
unfolding digits_of
first_digit zero n l g h = absurd (omega (arith, l, g, h))
first_digit (suc j) n l g h =
    let p = pow-suc 10 j in
    let q = pow-suc 10 (suc j) in
    let low : 10 ^ j ≤ n / 10 = (let z : 10 ^ j * 10 ≤ n = omega (arith, p, l) in omega (arith, z)) in
    let high : n / 10 < 10 ^ suc j = (let z : n < 10 ^ suc j * 10 = omega (arith, q, g) in omega (arith, z)) in
    let some : 0 < length (digits_of (suc j) (n / 10)) = omega (arith, length_digits (suc j) (n / 10)) in
    first_digit j (n / 10) low high (sym (first_same (digits_of (suc j) (n / 10)) ((48 + n % 10) ∷ []) some) ∙ h)

places_least : (f k n : ℕ) → k < places_from f k (10 ^ k) n → 10 ^ (places_from f k (10 ^ k) n - 1) ≤ n
unfolding places_from
places_least zero k n h = absurd (omega (arith, h))
places_least (suc f) k n h =
    go (ltb n (10 ^ k)) refl h
    (subst (λ (l : ℕ). k + 1 < places_from f (k + 1) l n → 10 ^ (places_from f (k + 1) l n - 1) ≤ n) (sym (ten_more k)) (places_least f (k + 1) n))
    (places_range f (k + 1) (10 ^ k * 10) n).0
  where
    go : (q : Bool) → ltb n (10 ^ k) ≡ q → k < cond q k (places_from f (k + 1) (10 ^ k * 10) n)
        → (k + 1 < places_from f (k + 1) (10 ^ k * 10) n → 10 ^ (places_from f (k + 1) (10 ^ k * 10) n - 1) ≤ n)
        → k + 1 ≤ places_from f (k + 1) (10 ^ k * 10) n
        → 10 ^ (cond q k (places_from f (k + 1) (10 ^ k * 10) n) - 1) ≤ n
    go true e g again low = absurd (omega (arith, g))
    go false e g again low = one (leb (places_from f (k + 1) (10 ^ k * 10) n) (k + 1)) refl
      where
        one : (t : Bool) → leb (places_from f (k + 1) (10 ^ k * 10) n) (k + 1) ≡ t → 10 ^ (places_from f (k + 1) (10 ^ k * 10) n - 1) ≤ n
        one true q = let w = leb-true (places_from f (k + 1) (10 ^ k * 10) n) (k + 1) q in let z : places_from f (k + 1) (10 ^ k * 10) n - 1 ≡ k = omega (arith, w, low) in subst (λ (m : ℕ). 10 ^ m ≤ n) (sym z) (ltb-false n (10 ^ k) e)
        one false q = again (leb-false (places_from f (k + 1) (10 ^ k * 10) n) (k + 1) q)

decimal_leads : (n : ℕ) → n < 2 ^ 64 → leads (decimal n) ≡ true
unfolding decimal places_of
decimal_leads n h = go (leb (places_from 19 1 10 n) 1) refl
  where
    go : (t : Bool) → leb (places_from 19 1 10 n) 1 ≡ t → leads (digits_of (places_from 19 1 10 n) n) ≡ true
    go true e = leads_one (digits_of (places_from 19 1 10 n) n) (length_digits (places_from 19 1 10 n) n ∙ omega (arith, leb-true (places_from 19 1 10 n) 1 e, (places_range 19 1 10 n).0))
    go false e =
        let g = leb-false (places_from 19 1 10 n) 1 e in
        let l = length_digits (places_from 19 1 10 n) n in
        let one : places_from 19 1 10 n ≡ suc (places_from 19 1 10 n - 1) = omega (arith, g) in
        leads_other (digits_of (places_from 19 1 10 n) n) (λ z. absurd (omega (arith, z, l, g)))
        (subst (λ (m : ℕ). get_or (digits_of m n) 0 0 ≡ 48 → ⊥) (sym one) (first_digit (places_from 19 1 10 n - 1) n (places_least 19 1 n g) (subst (λ (m : ℕ). n < 10 ^ m) one (places_enough 19 1 n (omega arith)))))

decimal_digits : (n : ℕ) → digits_only (decimal n) ≡ true
unfolding decimal
decimal_digits n = digits_plain (places_of n) n

decimal_some : (n : ℕ) → 1 ≤ places_of n
unfolding places_of
decimal_some n = (places_range 19 1 10 n).0

pub written_plain : (n : ℕ) → n < 2 ^ 64 → plain (decimal n) ≡ true
unfolding plain
written_plain n h =
    let d : digits_only (decimal n) ≡ true = decimal_digits n in
    let v : ltb (value_from 0 (decimal n)) (2 ^ 64) ≡ true = lt-ltb (value_from 0 (decimal n)) (2 ^ 64) (subst (λ (m : ℕ). m < 2 ^ 64) (sym (reads_back n h)) h) in
    simp (decimal_leads n h, d, v)

pub written : (n : ℕ) → n < 2 ^ 64 → cell_of (decimal n) ≡ Number n
unfolding cell_of
written n h =
    let p = written_plain n h in
    let some : (length (decimal n) ≡ 0 → ⊥) = λ z. absurd (omega (arith, z, length_decimal n, decimal_some n)) in
    simp (ne_eqb (length (decimal n)) 0 some, p) (ap Number (reads_back n h))
