-- Bytes moved to the front. Assumes nothing.
use Prim.Native.Nat.{ℕ, ◌+◌, ◌-◌, ◌≤◌, min}
use mathlib.Core.Path.{◌≡◌, refl, sym, ap, ◌∙◌}
use mathlib.Core.Bool.{Bool, true, false}
use mathlib.Core.List.{List}
use native.Mathlib.Omega.{arith}
use native.Mathlib.Nat.{zero-add}
use lib.Dec.{leb}
use lib.ListN.{length, take, drop, length-take, length-drop}
use Rattle.std.specs.List.{copy_within}
use lib.Seq.{take-take, take_all, sets, sets-eq}
use borrow.Author.Tests.{leb-true, leb-false}
use Rattle.trace.specs.Stream.{kept_of, between}

-- how many they are
pub kept_length : (l : List ℕ) (at end : ℕ) → length (kept_of (between l at end)) ≡ min (min end (length l) - at) 4097
unfolding kept_of
kept_length l at end =
    length-take 4097 (take (end - at) (drop at l))
    ∙ ap (λ (n : ℕ). min 4097 n) (length-take (end - at) (drop at l) ∙ ap (λ (n : ℕ). min (end - at) n) (length-drop at l))
    ∙ plain end (length l) at
  where
    plain : (e n a : ℕ) → min 4097 (min (e - a) (n - a)) ≡ min (min e n - a) 4097
    plain e n a = go (leb e n) refl
      where
        go : (t : Bool) → leb e n ≡ t → min 4097 (min (e - a) (n - a)) ≡ min (min e n - a) 4097
        go true q = let h = leb-true e n q in let u : min e n ≡ e = omega (arith, h) in let w : min (e - a) (n - a) ≡ e - a = omega (arith, h) in rw (u, w) (turn (e - a))
          where
            turn : (k : ℕ) → min 4097 k ≡ min k 4097
            turn k = omega arith
        go false q = let h = leb-false e n q in let u : min e n ≡ n = omega (arith, h) in let w : min (e - a) (n - a) ≡ n - a = omega (arith, h) in rw (u, w) (turn (n - a))
          where
            turn : (k : ℕ) → min 4097 k ≡ min k 4097
            turn k = omega arith

-- all of them are moved
pub kept_is : (l : List ℕ) (at end n : ℕ) → n ≡ min (min end (length l) - at) 4097 → take n (drop at l) ≡ kept_of (between l at end)
unfolding kept_of
kept_is l at end n e = go (leb (end - at) 4097) refl
  where
    c : length (drop at l) ≡ length l - at
    c = length-drop at l

    whole : take n (drop at l) ≡ take (min (end - at) 4097) (drop at l)
    whole = cut (leb (min (end - at) 4097) (length (drop at l))) refl
      where
        cut : (t : Bool) → leb (min (end - at) 4097) (length (drop at l)) ≡ t → take n (drop at l) ≡ take (min (end - at) 4097) (drop at l)
        cut true q = let h = leb-true (min (end - at) 4097) (length (drop at l)) q in let u : n ≡ min (end - at) 4097 = omega (arith, c, e, h) in ap (λ (k : ℕ). take k (drop at l)) u
        cut false q =
            let h = leb-false (min (end - at) 4097) (length (drop at l)) q in
            let u : length (drop at l) ≤ n = omega (arith, c, e, h) in
            let w : length (drop at l) ≤ min (end - at) 4097 = omega (arith, h) in
            take_all n (drop at l) u ∙ sym (take_all (min (end - at) 4097) (drop at l) w)

    go : (t : Bool) → leb (end - at) 4097 ≡ t → take n (drop at l) ≡ take 4097 (take (end - at) (drop at l))
    go true q =
        let h = leb-true (end - at) 4097 q in
        let u : min (end - at) 4097 ≡ end - at = omega (arith, h) in
        let w : length (take (end - at) (drop at l)) ≤ 4097 = (let z = length-take (end - at) (drop at l) in omega (arith, z, h)) in
        whole ∙ ap (λ (k : ℕ). take k (drop at l)) u ∙ sym (take_all 4097 (take (end - at) (drop at l)) w)
    go false q =
        let h = leb-false (end - at) 4097 q in
        let u : min (end - at) 4097 ≡ 4097 = omega (arith, h) in
        let w : 4097 ≤ end - at = omega (arith, h) in
        whole ∙ ap (λ (k : ℕ). take k (drop at l)) u ∙ sym (take-take 4097 (end - at) (drop at l) w)

-- a copy of them to the front, from where they stand
pub moved : (l : List ℕ) (at end a n : ℕ) → a ≡ min at (min end (length l)) → n ≡ min (min end (length l) - at) 4097 → copy_within l a (a + n) 0 ≡ sets l 0 (kept_of (between l at end))
moved l at end a n e f =
    let t = kept_of (between l at end) in
    let k : n ≡ length t = f ∙ sym (kept_length l at end) in
    let q : a + n - a ≡ n = omega arith in
    let from : take n (drop a l) ≡ t = start (leb at (min end (length l))) refl ∙ kept_is l at end n f in
    rw (q, from, k, zero-add) (sym (sets-eq t l 0 (omega (arith, k, e, f)) ∙ rw zero-add))
  where
    start : (b : Bool) → leb at (min end (length l)) ≡ b → take n (drop a l) ≡ take n (drop at l)
    start true b = let h = leb-true at (min end (length l)) b in let u : a ≡ at = omega (arith, h, e) in rw u
    start false b = let h = leb-false at (min end (length l)) b in let u : n ≡ 0 = omega (arith, h, f) in rw u

-- at most 4,097 are kept
pub kept_few : (n : ℕ) (p : List ℕ) → n ≡ length (kept_of p) → n ≤ 4097
unfolding kept_of
kept_few n p e = omega (arith, e, length-take 4097 p)
