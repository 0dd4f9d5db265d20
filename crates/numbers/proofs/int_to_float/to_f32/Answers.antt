-- `numbers::to_f32` meets its contract: what the float holds is cast as it is; one of at most 48 digits by its halves; otherwise the laws of `proofs/Spare.antt`. Assumes nothing.
use Rattle.std.proofs.Common.{◌≡◌, ℕ, ◌+◌, ◌-◌, ◌*◌, ◌/◌, ◌%◌, ◌^◌, ◌≤◌, refl, mul-div_cancel, arith, pow_pos, pow_mono, pow-add}
use lib.Ieee.{binary32}
use Rattle.numbers.specs.Inner.{Spare}
use Rattle.numbers.proofs.Closest.{one_shifted}
use Rattle.numbers.proofs.Spare.{whole_in_float, two_to_24, spare_more, kept_in_float, of_spare}
use Rattle.numbers.proofs.int_to_float.to_f32.Goals as goal

-- the place of the last digit that is kept, in units of 2^24, as the code makes it: a number of more than 48 digits has more than 24 beyond 24
module _ {n k : ℕ} (s : Spare 24 n k) (h : 2 ^ 48 ≤ n) where
  split : k - 24 + 24 ≡ k
  split = omega (arith, spare_more 24 24 s h)

  place : 1 * 2 ^ k % 2 ^ 64 / 2 ^ 24 ≡ 2 ^ (k - 24)
  place =
      let e : 2 ^ k ≡ 2 ^ (k - 24) * 2 ^ 24 = rw (← pow-add, split) in
      rw (one_shifted k (omega (arith, s.few)), e) (mul-div_cancel (2 ^ (k - 24)) (pow_pos 24))

pub int_to_float-result : goal.int_to_float-result
int_to_float-result c = whole_in_float binary32 c.args.n c.if-n-le16777216.true

pub returns-then-n-le16777216 : goal.returns-then-n-le16777216
returns-then-n-le16777216 c = refl

pub int_to_float-result-2 : goal.int_to_float-result-2
int_to_float-result-2 c = kept_in_float binary32 c.spare_digits-k.ensures c.round_shift-digits.ensures

pub int_to_float-result-3 : goal.int_to_float-result-3
int_to_float-result-3 c = let s = c.spare_digits-k.ensures in
    whole_in_float binary32 _ (rw (place s c.if-n-lt281474976710656.false) (pow_mono {j = 24} (omega (arith, s.few))))

pub returns : goal.returns
returns c = let s = c.spare_digits-k.ensures in
    let h = c.if-n-lt281474976710656.false in
    rw (place s h) (of_spare binary32 s c.round_shift-digits.ensures _ 24 _ (split s h) (omega (arith, s.few)) (rw two_to_24 (refl, refl)))
