-- The calls that only answer, by their numbers (docs/LAYOUT.md).
use Rattle.std.specs.Prelude.{ℕ, ◌-◌, ◌*◌, ◌^◌, cond, ◌&&◌, ltb, eqb, Float}
use Rattle.units.specs.declared.bandwidth.Bandwidth.{Bandwidth}
use Rattle.filters.specs.MaxBandwidthFilter.{max_get}
use Rattle.state.specs.declared.network_model.NetworkModel.{NetworkModel}
use Rattle.state.specs.declared.params.Params.{Params}
use Rattle.state.specs.Bounds.{bandwidth_ok, gain_ok}
use Rattle.state.specs.NetworkModel.{one, stored_number, given_number, bdp_of, headroom_number}
use Rattle.reads.specs.Reads.{estimate_of, headroom_of}
use Rattle.words.specs.Word.{flag_word, float_word}
use Rattle.calls.specs.Unknown.{unknown_number}

-- the number of the reply, and the answer where that is 0
pub record Answer : Type 0 where
  pub number : ℕ
  pub value : ℕ

-- what is read off the model
abbrev reads : NetworkModel → ℕ → Answer
reads m value = record { number = stored_number m; value = value }

-- a number that is none
abbrev refused : NetworkModel → Answer
refused m = record { number = unknown_number m; value = 0 }

-- calls 23 to 29
unfoldable pub read_of : (call : ℕ) → NetworkModel → Answer
read_of call m =
    cond (eqb call 23) (reads m (estimate_of m.lower.bandwidth (max_get m.maxbw)).0)
    (cond (eqb call 24) (reads m m.minrtt.rtt.0)
    (cond (eqb call 25) (reads m m.minrtt.timestamp.0)
    (cond (eqb call 26) (reads m (max_get m.maxbw).0)
    (cond (eqb call 27) (reads m m.round.delivered)
    (cond (eqb call 28) (reads m m.totals.acked)
    (cond (eqb call 29) (reads m m.totals.lost)
    (refused m)))))))

-- calls 30 to 38
unfoldable pub read_more : (call : ℕ) → NetworkModel → Answer
read_more call m =
    cond (eqb call 30) (reads m (flag_word m.growth.reached))
    (cond (eqb call 31) (reads m (float_word m.gains.pacing))
    (cond (eqb call 32) (reads m (float_word m.gains.cwnd))
    (cond (eqb call 33) (reads m m.high)
    (cond (eqb call 34) (reads m (2 ^ 64 - 1))
    (cond (eqb call 35) (reads m m.lower.inflight)
    (cond (eqb call 36) (reads m m.round.losses)
    (cond (eqb call 37) (reads m m.growth.queueing)
    (cond (eqb call 38) (reads m (2 * 1300))
    (refused m)))))))))

-- calls 10 to 13 and 23 to 38; `n` is a bandwidth. Any other number is refused
unfoldable pub ask_of : (call n : ℕ) → Float → NetworkModel → Params → Answer
ask_of call n gain m p =
    let b : Bandwidth = record { 0 = n } in
    cond (eqb call 10) (record { number = given_number m (bandwidth_ok b && gain_ok gain); value = bdp_of m b gain })
    (cond (eqb call 11) (record { number = given_number m (bandwidth_ok b); value = bdp_of m b one })
    (cond (eqb call 12) (reads m (bdp_of m (max_get m.maxbw) one))
    (cond (eqb call 13) (record { number = headroom_number m p; value = headroom_of m.high p.headroom })
    (cond (ltb call 30) (read_of call m) (read_more call m)))))
