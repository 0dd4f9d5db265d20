-- The questions about an event, and the queue's, by their numbers (docs/LAYOUT.md).
use Rattle.std.specs.Prelude.{ℕ, Bool, false, cond, eqb, Float}
use Rattle.filters.specs.MaxBandwidthFilter.{max_get}
use Rattle.state.specs.declared.network_model.NetworkModel.{NetworkModel}
use Rattle.state.specs.declared.params.Params.{Params}
use Rattle.state.specs.declared.congestion_event.CongestionEvent.{CongestionEvent}
use Rattle.judge.specs.Judge.{judged_number, is_expired, expire_next, is_too_high, has_grown, growth_full, growth_next, queue_number, queue_next}
use Rattle.calls.specs.Unknown.{unknown_number}

-- the number of the reply; the model that the call leaves and the answer it gives where that is 0
pub record Judged : Type 0 where
  pub number : ℕ
  pub next : NetworkModel
  pub yes : Bool

-- calls 5 to 7 and 9; `limit` is the call's number, `gain` its f32. Any other number is refused
unfoldable pub judge_of : (call limit : ℕ) → Float → NetworkModel → Params → CongestionEvent → Judged
judge_of call limit gain m p e =
    cond (eqb call 5)
    (record {
      number = judged_number m p e false;
      next = expire_next m p e;
      yes = is_expired e.rtt e.time m.minrtt p.period;
    })
    (cond (eqb call 6)
    (record {
      number = judged_number m p e false;
      next = m;
      yes = is_too_high m.round e.state limit p.loss;
    })
    (cond (eqb call 7)
    (record {
      number = judged_number m p e (growth_full m p e);
      next = growth_next m p e;
      yes = has_grown m.growth (max_get m.maxbw) p;
    })
    (cond (eqb call 9) (record { number = queue_number m p gain; next = queue_next m p gain; yes = false })
    (record { number = unknown_number m; next = m; yes = false }))))
