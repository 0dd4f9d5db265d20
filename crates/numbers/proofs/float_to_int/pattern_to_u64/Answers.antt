-- `numbers::pattern_to_u64` meets its contract: each range of patterns is a law of `proofs/Fields.antt`. Assumes nothing.
use Rattle.std.proofs.Common.{◌≡◌, ℕ, ◌/◌, ◌<◌, ◌≤◌, true, ◌&&◌, ltb, leb, sym, refl, inl, inr, arith}
use lib.Ieee.{binary32, top}
use Rattle.numbers.proofs.Fields.{in_range, beyond, outside, cut_nothing, nothing_above, below_top, plain_float, digits_lt, cut_small, cut_large, cut_once}
use Rattle.numbers.proofs.float_to_int.pattern_to_u64.Goals as goal

-- from 1 up to 2^64: the exponent's field, and no sign
exponent : (b : ℕ) → (leb 0x3f80_0000 b && ltb b 0x5f80_0000) ≡ true → (127 ≤ b / 0x80_0000) × (b / 0x80_0000 ≤ 190) × (b < top binary32)
exponent b h = let t = in_range 0x3f80_0000 0x5f80_0000 b h in omega (arith, t.0, t.1)

pub overflow_cast-digits : goal.overflow_cast-digits
overflow_cast-digits c = omega (arith, digits_lt binary32 c.args.bits)

pub overflow_sub-result : goal.overflow_sub-result
overflow_sub-result c = (exponent c.args.bits c.if-bits.true).1

pub overflow_shr-result-then-bits : goal.overflow_shr-result-then-bits
overflow_shr-result-then-bits c = omega (arith, (exponent c.args.bits c.if-bits.true).0)

pub returns-then-bits : goal.returns-then-bits
returns-then-bits c = let e = exponent c.args.bits c.if-bits.true in sym (cut_once binary32 e.2 refl e.0 e.1)

pub returns-then-bits-2 : goal.returns-then-bits-2
returns-then-bits-2 c = let b = c.args.bits in
    let t = beyond 0x5f80_0000 0x7f80_0000 b c.if-bits-2.true in
    sym (cut_large binary32 (below_top binary32 t.1) refl (omega (arith, t.0)) (plain_float binary32 b t.1))

pub returns : goal.returns
returns c = let b = c.args.bits in
    elim (outside 0x3f80_0000 0x5f80_0000 0x7f80_0000 b c.if-bits.false c.if-bits-2.false) [
      | inl h ↦ sym (cut_small binary32 (omega arith) refl (omega arith))
      | inr h ↦ sym (cut_nothing 64 _ (nothing_above binary32 b h))
    ]
