-- The fold of a half, then of the other from there.
use Rattle.std.proofs.Common.{ℕ, ◌/◌, length, ap, ◌∙◌}
use Rattle.filters.specs.RoundTripCounter.{most_of}
use Rattle.filters.proofs.Greatest.{part_from, halves}
use Rattle.filters.proofs.round_trip_counter.+most_of.Goals as goal

pub returns : goal.returns
returns t c =
    let numbers = c.args.numbers.now in
    let half = length numbers / 2 in
    c.most_of.ensures ∙ ap (λ (n : ℕ). most_of n (part_from half numbers)) c.most_of-most.ensures ∙ halves c.args.first half numbers
