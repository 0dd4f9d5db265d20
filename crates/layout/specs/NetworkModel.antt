-- The model in words 0 to 34 of the state. Definitions only.
use Rattle.std.specs.Prelude.{ℕ, List, [], ◌∷◌, ◌++◌}
use Rattle.filters.specs.declared.max_bandwidth_filter.MaxBandwidthFilter.{MaxBandwidthFilter}
use Rattle.filters.specs.declared.min_rtt_filter.MinRttFilter.{MinRttFilter}
use Rattle.filters.specs.declared.round_trip_counter.RoundTripCounter.{RoundTripCounter}
use Rattle.state.specs.declared.network_model.NetworkModel.{NetworkModel}
use Rattle.state.specs.declared.parts.Gains.{Gains}
use Rattle.state.specs.declared.parts.Growth.{Growth}
use Rattle.state.specs.declared.parts.Latest.{Latest}
use Rattle.state.specs.declared.parts.Lower.{Lower}
use Rattle.state.specs.declared.parts.Rates.{Rates}
use Rattle.state.specs.declared.parts.Round.{Round}
use Rattle.state.specs.declared.parts.Totals.{Totals}
use Rattle.words.specs.Word.{word, flag_word, flag_of, float_word, float_of}
use Rattle.words.specs.Maybe.{maybe_words, bandwidth_maybe, bandwidth_of, plain_maybe, plain_of}

-- ---- from words
abbrev pub rounds_of : List ℕ → RoundTripCounter
rounds_of l = record { count = word l 0; sent = word l 1; end = plain_of (word l 2) (word l 3) }

abbrev pub round_of : List ℕ → Round
round_of l =
    record {
      lost = word l 8;
      losses = word l 9;
      delivered = word l 10;
      mininflight = word l 11;
      hilimited = flag_of (word l 12);
    }

abbrev pub lower_of : List ℕ → Lower
lower_of l = record { bandwidth = bandwidth_of (word l 15) (word l 16); inflight = word l 17 }

abbrev pub gains_of : List ℕ → Gains
gains_of l = record { cwnd = float_of (word l 19); pacing = float_of (word l 20) }

abbrev pub growth_of : List ℕ → Growth
growth_of l =
    record {
      reached = flag_of (word l 22);
      baseline = record { 0 = word l 23 };
      flat = word l 24;
      queueing = word l 25;
      ignore = flag_of (word l 26);
    }

abbrev pub rates_of : List ℕ → Rates
rates_of l = record { send = bandwidth_of (word l 27) (word l 28); ack = bandwidth_of (word l 29) (word l 30) }

unfoldable pub model_from : List ℕ → NetworkModel
model_from l =
    record {
      rounds = rounds_of l;
      maxbw = record { slot0 = record { 0 = word l 4 }; slot1 = record { 0 = word l 5 } };
      minrtt = record { rtt = record { 0 = word l 6 }; timestamp = record { 0 = word l 7 } };
      round = round_of l;
      latest = record { bandwidth = record { 0 = word l 13 }; inflight = word l 14 };
      lower = lower_of l;
      high = word l 18;
      gains = gains_of l;
      cwndlimited = flag_of (word l 21);
      growth = growth_of l;
      rates = rates_of l;
      totals = record { acked = word l 31; lost = word l 32 };
      moment = record { 0 = word l 33 };
      begun = flag_of (word l 34);
    }

-- ---- into words
abbrev pub rounds_words : RoundTripCounter → List ℕ
rounds_words r = r.count ∷ r.sent ∷ maybe_words (plain_maybe r.end)

abbrev pub maxbw_words : MaxBandwidthFilter → List ℕ
maxbw_words f = f.slot0.0 ∷ f.slot1.0 ∷ []

abbrev pub minrtt_words : MinRttFilter → List ℕ
minrtt_words f = f.rtt.0 ∷ f.timestamp.0 ∷ []

abbrev pub round_words : Round → List ℕ
round_words r = r.lost ∷ r.losses ∷ r.delivered ∷ r.mininflight ∷ flag_word r.hilimited ∷ []

abbrev pub latest_words : Latest → List ℕ
latest_words l = l.bandwidth.0 ∷ l.inflight ∷ []

abbrev pub lower_words : Lower → List ℕ
lower_words l = maybe_words (bandwidth_maybe l.bandwidth) ++ l.inflight ∷ []

abbrev pub gains_words : Gains → List ℕ
gains_words g = float_word g.cwnd ∷ float_word g.pacing ∷ []

abbrev pub growth_words : Growth → List ℕ
growth_words g = flag_word g.reached ∷ g.baseline.0 ∷ g.flat ∷ g.queueing ∷ flag_word g.ignore ∷ []

abbrev pub rates_words : Rates → List ℕ
rates_words r = maybe_words (bandwidth_maybe r.send) ++ maybe_words (bandwidth_maybe r.ack)

abbrev pub totals_words : Totals → List ℕ
totals_words t = t.acked ∷ t.lost ∷ []

unfoldable pub model_words : NetworkModel → List ℕ
model_words m =
    rounds_words m.rounds
    ++ maxbw_words m.maxbw
    ++ minrtt_words m.minrtt
    ++ round_words m.round
    ++ latest_words m.latest
    ++ lower_words m.lower
    ++ m.high ∷ gains_words m.gains
    ++ flag_word m.cwndlimited ∷ growth_words m.growth
    ++ rates_words m.rates
    ++ totals_words m.totals
    ++ m.moment.0 ∷ flag_word m.begun ∷ []
