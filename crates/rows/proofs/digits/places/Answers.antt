-- `places` meets its contract: by the power of ten below the number.
use Rattle.rows.specs.Digits.{places_of, places_from}
use Rattle.rows.proofs.Decimals.{places_log}
use Rattle.rows.proofs.digits.places.Goals as goal

pub returns-in-None-clause-places : goal.returns-in-None-clause-places
unfolding places_of places_from
returns-in-None-clause-places c = rw c.in-None.ensures.none

pub returns-in-Some-clause-places : goal.returns-in-Some-clause-places
returns-in-Some-clause-places c = places_log c.args.n c.in-Some.k c.in-Some.ensures.bound c.in-Some.ensures.power_le c.in-Some.ensures.next_power_gt
