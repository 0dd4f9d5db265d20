-- The turns of the exact run do not depend on the lower bounds that are stored. Assumes nothing.
use mathlib.Core.Path.{refl}
use Rattle.state.specs.NetworkModel.{with_lower}
use Rattle.events.specs.Event.{event_next, event_after, round_next, maxbw_next}
use Rattle.drift.specs.Calls.{event, cap, clear_inflight, clear_bandwidth, cruise, refill, other}
use Rattle.drift.specs.Exact.{is_reduced, inflight_effect, bandwidth_effect, Blind}

pub inflight_blind : Blind inflight_effect
unfolding inflight_effect with_lower is_reduced event_next event_after round_next
inflight_blind (event p e x acked) s l = refl
inflight_blind (cap bytes) s l = refl
inflight_blind clear_inflight s l = refl
inflight_blind clear_bandwidth s l = refl
inflight_blind (cruise now) s l = refl
inflight_blind (refill rounds now) s l = refl
inflight_blind (other c) s l = refl

pub bandwidth_blind : Blind bandwidth_effect
unfolding bandwidth_effect with_lower is_reduced event_next event_after round_next maxbw_next
bandwidth_blind (event p e x acked) s l = refl
bandwidth_blind (cap bytes) s l = refl
bandwidth_blind clear_inflight s l = refl
bandwidth_blind clear_bandwidth s l = refl
bandwidth_blind (cruise now) s l = refl
bandwidth_blind (refill rounds now) s l = refl
bandwidth_blind (other c) s l = refl
