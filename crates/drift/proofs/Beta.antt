-- Every beta of the domain gives a b that is a whole number of parts. Assumes nothing.
use lib.Ieee.{Float, binary32, of_bits, le}
use denote.Floats.{passes}
use Rattle.numbers.specs.Scaling.{complement, Parts}
use Rattle.numbers.proofs.Complement.{complement_law}
use Rattle.state.specs.Bounds.{within}
use Rattle.state.proofs.Rows.{and_left, and_right}
use Rattle.drift.specs.Drift.{IsBeta}

pub every_beta : (beta : Float) → IsBeta beta → Parts (complement beta)
unfolding within of_bits
every_beta beta is =
    let low = le (of_bits binary32 0x3a80_0000) beta in
    let high = le beta (of_bits binary32 0x3f7f_c000) in
    complement_law beta is.format (passes low (and_left low high is.range)) (passes high (and_right low high is.range))
