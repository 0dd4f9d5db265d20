-- `numbers::of_halves` meets its contract: the kit's law of the two halves of a whole number, for halves of 24 digits. Assumes nothing.
use Rattle.std.proofs.Common.{lit≤}
use lib.Ieee.{binary32}
use Rattle.std.proofs.num.Nearest.{upper_in, lower_in, halves_masked}
use Rattle.numbers.proofs.Spare.{two_to_24}
use Rattle.numbers.proofs.int_to_float.of_halves.Goals as goal

pub int_to_float-result : goal.int_to_float-result
int_to_float-result c = upper_in binary32 24 c.args.n (lit≤ tt) c.requires

pub int_to_float-result-2 : goal.int_to_float-result-2
int_to_float-result-2 c = lower_in binary32 24 c.args.n (lit≤ tt)

pub returns : goal.returns
returns c = halves_masked binary32 24 c.args.n _ two_to_24 (lit≤ tt) (lit≤ tt) c.requires
