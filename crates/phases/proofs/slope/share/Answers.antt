-- `share` meets its contract: a number below 2^64 over 2^64 or more is 0.
use mathlib.Core.Path.{sym}
use lib.Pow.{pow_mono}
use mir.Facts.{Fits-lt-pow}
use native.Mathlib.Nat.{div-eq_of_lt}
use native.Mathlib.Omega.{arith}
use Rattle.phases.proofs.slope.share.Goals as goal

pub returns-else-rounds-lt64 : goal.returns-else-rounds-lt64
returns-else-rounds-lt64 c = sym (div-eq_of_lt (omega (arith, Fits-lt-pow c.ranges.window, pow_mono c.if-rounds-lt64.false)))
