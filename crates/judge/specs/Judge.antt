-- The calls that judge the round, by an event's record or by the parameters: network_model.rs, with document 01's
-- refusals. For each, the number of its reply, the model that it leaves and what it answers.
use Rattle.std.specs.Prelude.{ℕ, max, ◌+◌, ◌*◌, Bool, true, false, cond, not, ◌&&◌, ◌||◌, [], ◌∷◌, ltb, leb, Float, Option, None, Some}
use Rattle.units.specs.declared.bandwidth.Bandwidth.{Bandwidth}
use Rattle.filters.specs.declared.min_rtt_filter.MinRttFilter.{MinRttFilter}
use Rattle.units.specs.declared.time.Duration.{Duration}
use Rattle.units.specs.declared.time.Moment.{Moment}
use Rattle.units.specs.Bandwidth.{times_f32}
use Rattle.filters.specs.MaxBandwidthFilter.{max_get}
use Rattle.filters.specs.MinRttFilter.{min_force}
use Rattle.units.specs.Time.{plus, is_before}
use Rattle.numbers.specs.Scaling.{scaled}
use Rattle.state.specs.declared.network_model.NetworkModel.{NetworkModel}
use Rattle.state.specs.declared.params.Params.{Params}
use Rattle.state.specs.declared.parts.Growth.{Growth}
use Rattle.state.specs.declared.parts.Round.{Round}
use Rattle.state.specs.declared.refusals.Rows.{Rows}
use Rattle.state.specs.Bounds.{all, gain_ok}
use Rattle.state.specs.NetworkModel.{one, bdp_of, with_minrtt, with_growth, judged_rows}
use Rattle.state.specs.declared.congestion_event.CongestionEvent.{CongestionEvent}
use Rattle.state.specs.declared.congestion_event.SendTimeState.{SendTimeState}
use Rattle.state.specs.CongestionEvent.{event_ok}
use Rattle.state.specs.Refusals.{is_full_counter, first_of}

unfoldable pub judged_number : NetworkModel → Params → CongestionEvent → Bool → ℕ
judged_number m p e rises = first_of (judged_rows m p (event_ok e) rises)

-- ---- maybe_expire_min_rtt: "Expiry needs a sample and a moment not earlier than the stored one plus the period; the
-- sample is then forced in"
abbrev pub is_given : Option Duration → Bool
is_given None = false
is_given (Some d) = true

unfoldable pub is_due : Moment → MinRttFilter → Duration → Bool
is_due now f period = not (is_before now (plus f.timestamp period))

abbrev pub is_expired : Option Duration → Moment → MinRttFilter → Duration → Bool
is_expired sample now f period = is_given sample && is_due now f period

abbrev pub minrtt_expired : Option Duration → Moment → MinRttFilter → Duration → MinRttFilter
minrtt_expired None now f period = f
minrtt_expired (Some d) now f period = cond (is_due now f period) (min_force d now) f

unfoldable pub expire_next : NetworkModel → Params → CongestionEvent → NetworkModel
expire_next m p e = with_minrtt m (minrtt_expired e.rtt e.time m.minrtt p.period)

-- ---- is_inflight_too_high: a valid state, loss events at least the limit, inflight at send above 0, bytes lost above
-- 0 and strictly above scale(inflight, threshold)
unfoldable pub is_too_high : Round → SendTimeState → ℕ → Float → Bool
is_too_high r t limit threshold =
    all
    (t.valid
    ∷ leb limit r.losses
    ∷ ltb 0 t.inflight
    ∷ ltb 0 r.lost
    ∷ ltb (scaled t.inflight threshold) r.lost
    ∷ [])

-- ---- has_bandwidth_growth: the maximum is at least the baseline times the threshold
unfoldable pub has_grown : Growth → Bandwidth → Params → Bool
has_grown g most p = leb (times_f32 g.baseline p.growth).0 most.0

-- without growth the round counts if the state is valid, unless it is app-limited and such rounds are ignored
unfoldable pub counts_flat : Growth → SendTimeState → Bool
counts_flat g t = t.valid && not (g.ignore && t.applimited)

unfoldable pub flat_after : Growth → SendTimeState → ℕ
flat_after g t = cond (counts_flat g t) (g.flat + 1) g.flat

-- "full_bandwidth_reached is only set to true when not app-limited"
unfoldable pub growth_flat : Growth → SendTimeState → Params → Growth
growth_flat g t p =
    record {
      reached = g.reached || (t.valid && leb p.rounds (flat_after g t) && not t.applimited);
      baseline = g.baseline;
      flat = flat_after g t;
      queueing = g.queueing;
      ignore = g.ignore;
    }

unfoldable pub growth_after : Growth → Bandwidth → SendTimeState → Params → Growth
growth_after g most t p =
    cond (has_grown g most p)
    (record { reached = g.reached; baseline = most; flat = 0; queueing = g.queueing; ignore = g.ignore })
    (growth_flat g t p)

-- row 5: the bandwidth has not grown, so that the round counts, and the count is full
unfoldable pub growth_full : NetworkModel → Params → CongestionEvent → Bool
growth_full m p e =
    not (has_grown m.growth (max_get m.maxbw) p)
    && counts_flat m.growth e.state
    && is_full_counter m.growth.flat

abbrev pub growth_rows : NetworkModel → Params → CongestionEvent → Rows
growth_rows m p e = judged_rows m p (event_ok e) (growth_full m p e)

unfoldable pub growth_next : NetworkModel → Params → CongestionEvent → NetworkModel
growth_next m p e = with_growth m (growth_after m.growth (max_get m.maxbw) e.state p)

-- ---- check_persistent_queue: the target is `.bdp(self.max_bandwidth(), target_gain)`
-- `.max(self.bdp0() + self.queueing_threshold_extra_bytes())`, and the round queues unless
-- `self.min_bytes_in_flight_in_round < target`
unfoldable pub queue_target : NetworkModel → Float → ℕ
queue_target m gain = max (bdp_of m (max_get m.maxbw) gain) (bdp_of m (max_get m.maxbw) one + 2 * 1300)

unfoldable pub is_queueing : NetworkModel → Float → Bool
is_queueing m gain = not (ltb m.round.mininflight (queue_target m gain))

unfoldable pub queue_after : Growth → Bool → Params → Growth
queue_after g queueing p =
    cond queueing
    (record {
      reached = g.reached || leb p.queueing (g.queueing + 1);
      baseline = g.baseline;
      flat = g.flat;
      queueing = g.queueing + 1;
      ignore = g.ignore;
    })
    (record { reached = g.reached; baseline = g.baseline; flat = g.flat; queueing = 0; ignore = g.ignore })

-- row 5: the round queues, and the count of such rounds is full
abbrev pub queue_rows : NetworkModel → Params → Float → Rows
queue_rows m p gain = judged_rows m p (gain_ok gain) (is_queueing m gain && is_full_counter m.growth.queueing)

unfoldable pub queue_number : NetworkModel → Params → Float → ℕ
queue_number m p gain = first_of (queue_rows m p gain)

unfoldable pub queue_next : NetworkModel → Params → Float → NetworkModel
queue_next m p gain = with_growth m (queue_after m.growth (is_queueing m gain) p)
