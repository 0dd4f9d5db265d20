-- The gain that a refused read stands for is written as 0. Assumes nothing.
use mathlib.Core.Path.{◌≡◌, refl}
use lib.Ieee.{of_bits, to_bits}
use Rattle.state.specs.Answers.{zero_gain}
use Rattle.words.specs.Word.{float_word}

pub zero_gain_lem : float_word zero_gain ≡ 0
unfolding of_bits to_bits
zero_gain_lem = refl
