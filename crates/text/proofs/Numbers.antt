-- Plain numbers: the reading byte by byte, and the definition by the whole field. Assumes nothing.
use Rattle.std.specs.Prelude.{None, Some}
use Prim.Native.Nat.{ℕ, suc, ◌+◌, ◌-◌, ◌*◌, ◌^◌, ◌<◌, ◌≤◌}
use mathlib.Core.Path.{◌≡◌, refl}
use mathlib.Core.Bool.{Bool, true, false, cond, ◌&&◌}
use mathlib.Core.List.{List, [], ◌∷◌}
use native.Mathlib.Omega.{arith}
use lib.Dec.{eqb, ltb}
use lib.ListN.{length, get_or}
use borrow.Author.Tests.{lt-ltb, le-ltb, ltb-true, ltb-false, eq-eqb, ne_eqb}
use Rattle.text.specs.declared.number.Cell.TheVariants.{Empty, Number, Other}
use Rattle.text.specs.Number.{is_digit, digits_only, value_from, leads, plain, cell_of}
use Rattle.text.specs.Inner.{before, pushed, read_from}

-- the bytes before a byte
pub before_le : (b : ℕ) (t : List ℕ) → length (before b t) ≤ length t
unfolding before
before_le b [] = omega arith
before_le b (x ∷ t) = go (before_le b t) (eqb x b)
  where
    go : length (before b t) ≤ length t → (q : Bool) → length (cond q [] (x ∷ before b t)) ≤ suc (length t)
    go h true = omega arith
    go h false = omega arith

-- what is read of digits: a number exactly while they are digits and below 2^64
pub value_grows : (acc : ℕ) (f : List ℕ) → acc ≤ value_from acc f
unfolding value_from
value_grows acc [] = omega arith
value_grows acc (b ∷ f) = let h = value_grows (acc * 10 + (b - 48)) f in omega arith

pub both_false : (a : Bool) → (a && false) ≡ false
both_false true = refl
both_false false = refl

pub read_end : (n : ℕ) → n < 2 ^ 64 → read_from n [] ≡ Some n
unfolding read_from digits_only value_from
read_end n h = rw (lt-ltb n (2 ^ 64) h)

pub read_stop : (n b : ℕ) (f : List ℕ) → pushed n b ≡ None → read_from n (b ∷ f) ≡ None
unfolding read_from digits_only value_from
read_stop n b f h = go (is_digit b) refl (ltb (n * 10 + (b - 48)) (2 ^ 64)) refl
  where
    go : (d : Bool) → is_digit b ≡ d → (l : Bool) → ltb (n * 10 + (b - 48)) (2 ^ 64) ≡ l → read_from n (b ∷ f) ≡ None
    go true e true g = absurd (let z : pushed n b ≡ Some (n * 10 + (b - 48)) = simp (e, g) in cc)
    go true e false g =
        let w = value_grows (n * 10 + (b - 48)) f in
        let v = ltb-false (n * 10 + (b - 48)) (2 ^ 64) g in
        let u : ltb (value_from (n * 10 + (b - 48)) f) (2 ^ 64) ≡ false = le-ltb (value_from (n * 10 + (b - 48)) f) (2 ^ 64) (omega arith) in simp (e, u, both_false)
    go false e l g = simp e

pub read_more : (n b m : ℕ) (f : List ℕ) → pushed n b ≡ Some m → (read_from n (b ∷ f) ≡ read_from m f) × (m < 2 ^ 64)
unfolding read_from digits_only value_from
read_more n b m f h = go (is_digit b) refl (ltb (n * 10 + (b - 48)) (2 ^ 64)) refl
  where
    go : (d : Bool) → is_digit b ≡ d → (l : Bool) → ltb (n * 10 + (b - 48)) (2 ^ 64) ≡ l → (read_from n (b ∷ f) ≡ read_from m f) × (m < 2 ^ 64)
    go true e true g =
        let z : pushed n b ≡ Some (n * 10 + (b - 48)) = simp (e, g) in
        let q : n * 10 + (b - 48) ≡ m = cc in (simp (e, ← q), rw (← q) (ltb-true _ _ g))
    go true e false g = absurd (let z : pushed n b ≡ None = simp (e, g) in cc)
    go false e l g = absurd (let z : pushed n b ≡ None = simp e in cc)

-- a field as the code tests it
pub leads_one : (f : List ℕ) → length f ≡ 1 → leads f ≡ true
unfolding leads
leads_one [] h = absurd (omega arith)
leads_one (b ∷ []) h = refl
leads_one (b ∷ c ∷ f) h = absurd (omega arith)

pub leads_other : (f : List ℕ) → (length f ≡ 0 → ⊥) → (get_or f 0 0 ≡ 48 → ⊥) → leads f ≡ true
unfolding leads
leads_other [] h g = absurd (h refl)
leads_other (b ∷ []) h g = refl
leads_other (b ∷ c ∷ f) h g = rw (ne_eqb b 48 g)

pub cell_empty : (f : List ℕ) → length f < 1 → Empty ≡ cell_of f
unfolding cell_of
cell_empty f h = rw (eq-eqb (length f) 0 (omega arith))

pub cell_zero : (f : List ℕ) → 2 ≤ length f → get_or f 0 0 ≡ 48 → Other ≡ cell_of f
unfolding cell_of plain leads
cell_zero [] h g = absurd (omega arith)
cell_zero (b ∷ []) h g = absurd (omega arith)
cell_zero (b ∷ c ∷ f) h g = simp (eq-eqb b 48 g, ne_eqb (length (b ∷ c ∷ f)) 0 (λ z. omega arith))

pub cell_number : (f : List ℕ) (n : ℕ) → 0 < length f → leads f ≡ true → Some n ≡ read_from 0 f → Number n ≡ cell_of f
unfolding cell_of plain read_from
cell_number f n h l e = go (◌&&◌ (digits_only f) (ltb (value_from 0 f) (2 ^ 64))) refl
  where
    go : (q : Bool) → ◌&&◌ (digits_only f) (ltb (value_from 0 f) (2 ^ 64)) ≡ q → Number n ≡ cell_of f
    go true w = let u : n ≡ value_from 0 f = (let v : read_from 0 f ≡ Some (value_from 0 f) = rw w in cc) in simp (ne_eqb (length f) 0 (λ z. omega arith), l, w, u)
    go false w = absurd (let v : read_from 0 f ≡ None = rw w in cc)

pub cell_other : (f : List ℕ) → 0 < length f → None ≡ read_from 0 f → Other ≡ cell_of f
unfolding cell_of plain read_from
cell_other f h e = go (◌&&◌ (digits_only f) (ltb (value_from 0 f) (2 ^ 64))) refl
  where
    go : (q : Bool) → ◌&&◌ (digits_only f) (ltb (value_from 0 f) (2 ^ 64)) ≡ q → Other ≡ cell_of f
    go true w = absurd (let v : read_from 0 f ≡ Some (value_from 0 f) = rw w in cc)
    go false w = simp (ne_eqb (length f) 0 (λ z. omega arith), w, both_false)
