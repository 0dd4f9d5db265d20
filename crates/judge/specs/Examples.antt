-- document 01, "Marked examples": 12, about a fresh model.
use Rattle.std.specs.Prelude.{ℕ, Bool, true, false, List, [], ◌∷◌, eqb, None}
use Rattle.std.specs.Float.{binary32}
use Rattle.std.specs.Float.Ieee.{of_bits}
use Rattle.filters.specs.MaxBandwidthFilter.{max_get}
use Rattle.state.specs.Answers.{settled}
use Rattle.state.specs.declared.network_model.NetworkModel.{NetworkModel}
use Rattle.state.specs.declared.params.Params.{Params}
use Rattle.state.specs.NetworkModel.{start_number, start_model, one}
use Rattle.state.specs.declared.congestion_event.CongestionEvent.{CongestionEvent}
use Rattle.judge.specs.Judge.{has_grown, growth_full, judged_number}

-- parameters with the threshold 1.25
abbrev usual : Params
usual =
    record {
      beta = of_bits binary32 0x3e99_999a;
      loss = one;
      headroom = one;
      growth = of_bits binary32 0x3fa0_0000;
      cwnd = one;
      pacing = one;
      rounds = 3;
      queueing = 0;
      period = record { 0 = 0 };
      base = record { 0 = 0 };
      ignore = true;
    }

abbrev fresh : NetworkModel
fresh = start_model usual (record { 0 = 0 }) (record { 0 = 0 })

-- a record in which nothing happened
abbrev idle : CongestionEvent
idle =
    record {
      time = record { 0 = 0 };
      window = 0;
      prior = 0;
      inflight = 0;
      acked = 0;
      lost = 0;
      ended = false;
      probing = false;
      bandwidth = None;
      rtt = None;
      state = record { valid = false; applimited = false; acked = 0; inflight = 0 };
    }

-- the number of has_bandwidth_growth on a fresh model
abbrev grown : ℕ
grown = judged_number fresh usual idle (growth_full fresh usual idle)

unfoldable pub growth_examples : List Bool
growth_examples =
    -- 12. A fresh model reports growth: 0 >= 0. Neither the start nor the question is refused
    eqb (start_number usual (record { 0 = 0 }) (record { 0 = 0 })) 0
    ∷ eqb grown 0
    ∷ settled grown (has_grown fresh.growth (max_get fresh.maxbw) usual) false
    ∷ []
