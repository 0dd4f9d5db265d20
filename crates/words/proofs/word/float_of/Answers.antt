-- `float_of` meets its contract: by whether there are bits above the 32nd.
use lib.Ieee.{div, of_bits}
use borrow.Author.Tests.{le-ltb}
use Rattle.words.proofs.word.float_of.Goals as goal

pub returns-else-word-lt4294967296 : goal.returns-else-word-lt4294967296
unfolding div of_bits
returns-else-word-lt4294967296 c = simp (le-ltb _ _ c.if-word-lt4294967296.false)
