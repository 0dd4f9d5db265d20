-- `RoundTripCounter::on_packets_acked` does what the greatest of the numbers does.
use Rattle.std.proofs.Common.{◌∙◌}
use Rattle.filters.proofs.Greatest.{alone, number_same, acked_same, ended_same}
use Rattle.filters.proofs.round_trip_counter.RoundTripCounter.on_packets_acked.Goals as goal

pub returns : goal.returns
returns c =
    let args = c.args in
    let same = alone args.acked.now c.greatest_of.ensures in
    let did = c.on_greatest_acked.ensures in
    record {
      reply = did.reply ∙ number_same args.self.now _ args.acked.now same;
      counter = did.counter ∙ acked_same args.self.now _ args.acked.now same;
      ended = did.ended ∙ ended_same args.self.now _ args.acked.now same;
    }
