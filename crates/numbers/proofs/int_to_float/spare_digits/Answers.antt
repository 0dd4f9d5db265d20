-- `numbers::spare_digits` meets its contract, by the count of n's leading zeros (`proofs/Count.antt`). Assumes nothing.
use Rattle.std.proofs.Common.{◌≡◌, ◌-◌, arith}
use lib.Count.{count_leading_zeros, leading_le}
use mir.Facts.{Fits-below, Fits-lt-pow}
use Rattle.numbers.proofs.Count.{spare_of}
use Rattle.numbers.proofs.int_to_float.spare_digits.Goals as goal

pub overflow_cast-digits : goal.overflow_cast-digits
overflow_cast-digits c = Fits-below {n = 64} tt (leading_le 64 c.args.n)

pub overflow_sub-digits : goal.overflow_sub-digits
overflow_sub-digits c = leading_le 64 c.args.n

pub returns-then-digits-p : goal.returns-then-digits-p
returns-then-digits-p c = let s = c in spare_of s.args.p s.args.n s.requires.0 (Fits-lt-pow s.ranges.n)

pub returns-else-digits-p : goal.returns-else-digits-p
returns-else-digits-p c = let s = c in
    let none : 64 - count_leading_zeros 64 s.args.n - s.args.p ≡ 0 = omega (arith, c.if-digits-p.false) in
    rw none at (spare_of s.args.p s.args.n s.requires.0 (Fits-lt-pow s.ranges.n))
