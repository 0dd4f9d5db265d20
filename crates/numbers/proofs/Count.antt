-- How many digits a number of 64 bits has, by the count of its leading zeros: what is left of the 64 is the kit's `size` (`digits_counted`). So the digits beyond p are 64 less
-- the leading zeros, less p (`spare_of`). Assumes nothing.
use Rattle.std.proofs.Common.{◌≡◌, ℕ, ◌+◌, ◌-◌, ◌*◌, ◌^◌, ◌<◌, ◌≤◌, inl, inr, eq-zero-or-pos, arith}
use lib.Count.{count_leading_zeros, leading_unique}
use lib.Ieee.{size}
use lib.Ieee.Digits.{size-lt, size-le, size_reaches}
use Rattle.numbers.specs.Inner.{Spare}
use Rattle.numbers.proofs.Closest.{halves, cut_of}

-- no shorter length holds n
size_full : (n : ℕ) → 2 ^ size n ≤ 2 * n + 1
size_full n = elim (eq-zero-or-pos (size n)) [
  | inl e ↦ rw e (omega arith)
  | inr h ↦ omega (arith, halves (size n) h, size_reaches n (size n - 1) (omega arith))
]

digits_counted : (n : ℕ) → n < 2 ^ 64 → 64 - count_leading_zeros 64 n ≡ size n
digits_counted n N =
    let most = size-le n 64 N in
    omega (arith, most, leading_unique 64 n (64 - size n) (size n) (omega (arith, most)) (size-lt n) (size_full n))

pub spare_of : (p n : ℕ) → 0 < p → n < 2 ^ 64 → Spare p n (64 - count_leading_zeros 64 n - p)
spare_of p n P N = rw (digits_counted n N) (record { cut = cut_of p n P; few = omega (arith, size-le n 64 N) })
