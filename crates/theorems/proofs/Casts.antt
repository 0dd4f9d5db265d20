-- The casts are the Reference's (specs/Casts.antt): the laws of crates/numbers, side by side. Assumes nothing.
use lib.Ieee.{binary32, binary64}
use Rattle.numbers.proofs.Reference as reference
use Rattle.theorems.specs.Casts.{Casts}

pub casts : Casts
casts =
    record {
      u64_to_f32 = λ n h. (reference.int_to_float_agrees binary32 n h, reference.int_to_float_only binary32 n h);
      u64_to_f64 = λ n h. (reference.int_to_float_agrees binary64 n h, reference.int_to_float_only binary64 n h);
      to_u64 = λ x. (reference.float_to_int_agrees 64 x, λ r t h. reference.float_to_int_only 64 x r h);
      f64_round = λ x f. (reference.round_agrees binary64 x f, λ y g h. reference.round_only binary64 x y f g h);
      f32_to_f64_lem = λ x f. (reference.f32_to_f64_agrees x, λ y g h. reference.f32_to_f64_only x y f g h);
    }
