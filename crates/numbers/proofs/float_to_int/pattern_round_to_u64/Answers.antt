-- `numbers::pattern_round_to_u64` meets its contract: each range of patterns is a law of `proofs/Away.antt`. Assumes nothing.
use Rattle.std.proofs.Common.{◌≡◌, ℕ, ◌/◌, ◌<◌, ◌≤◌, true, ◌&&◌, ltb, leb, sym, refl, inl, inr, arith}
use lib.Ieee.{binary64, top}
use lib.Ieee.Bits.{of_bits-fits}
use Rattle.numbers.proofs.Fields.{in_range, beyond, outside, nothing_above, below_top, plain_float, digits_lt}
use Rattle.numbers.proofs.Away.{away_nothing, away_small, away_large, half_lt, away_right, away_left}
use Rattle.numbers.proofs.float_to_int.pattern_round_to_u64.Goals as goal

-- from 1/2 up to 2^64: the exponent's field, and no sign
exponent : (b : ℕ) → (leb 0x3fe0_0000_0000_0000 b && ltb b 0x43f0_0000_0000_0000) ≡ true
    → (1022 ≤ b / 0x10_0000_0000_0000) × (b / 0x10_0000_0000_0000 ≤ 1086) × (b < top binary64)
exponent b h = let t = in_range 0x3fe0_0000_0000_0000 0x43f0_0000_0000_0000 b h in omega (arith, t.0, t.1)

pub overflow_shl-result : goal.overflow_shl-result
overflow_shl-result c = omega (arith, (exponent c.args.bits c.if-bits.true).0)

pub overflow_add-result : goal.overflow_add-result
overflow_add-result c = let b = c.args.bits in
    omega (arith, digits_lt binary64 b, half_lt binary64 b (exponent b c.if-bits.true).0)

pub overflow_shr-result : goal.overflow_shr-result
overflow_shr-result c = omega (arith, (exponent c.args.bits c.if-bits.true).0)

pub returns-then-exponent-lt1075 : goal.returns-then-exponent-lt1075
returns-then-exponent-lt1075 c = let b = c.args.bits in
    let e = exponent b c.if-bits.true in
    sym (away_right binary64 e.2 refl e.0 c.if-exponent-lt1075.true)

pub overflow_shl-result-then-bits : goal.overflow_shl-result-then-bits
overflow_shl-result-then-bits c = omega (arith, (exponent c.args.bits c.if-bits.true).1)

pub returns-then-bits : goal.returns-then-bits
returns-then-bits c = let b = c.args.bits in
    let e = exponent b c.if-bits.true in
    sym (away_left binary64 e.2 refl c.if-exponent-lt1075.false e.1)

pub returns-then-bits-2 : goal.returns-then-bits-2
returns-then-bits-2 c = let b = c.args.bits in
    let t = beyond 0x43f0_0000_0000_0000 0x7ff0_0000_0000_0000 b c.if-bits-2.true in
    sym (away_large binary64 (below_top binary64 t.1) refl (omega (arith, t.0)) (plain_float binary64 b t.1))

pub returns : goal.returns
returns c = let b = c.args.bits in
    elim (outside 0x3fe0_0000_0000_0000 0x43f0_0000_0000_0000 0x7ff0_0000_0000_0000 b c.if-bits.false c.if-bits-2.false) [
      | inl h ↦ sym (away_small binary64 (omega arith) refl (omega arith))
      | inr h ↦ sym (away_nothing 64 binary64 _ (of_bits-fits binary64 b) (nothing_above binary64 b h))
    ]
