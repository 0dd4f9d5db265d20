-- The lower bounds by the same rules on exact fractions. Every factor b of the domain is a whole number of parts of
-- 2^-24 (`ComplementLaw`, crates/numbers/specs/Scaling.antt), so the fraction is a numerator over a power of two.
use Rattle.std.specs.Prelude.{ℕ, min, max, ◌+◌, ◌*◌, ◌^◌, Bool, cond, List, [], ◌∷◌, ◌≡◌}
use Rattle.filters.specs.MaxBandwidthFilter.{max_get}
use Rattle.state.specs.Answers.{settled}
use Rattle.state.specs.declared.network_model.NetworkModel.{NetworkModel}
use Rattle.state.specs.declared.parts.Lower.{Lower}
use Rattle.state.specs.NetworkModel.{with_lower}
use Rattle.state.specs.declared.congestion_event.CongestionEvent.{CongestionEvent}
use Rattle.state.specs.declared.congestion_event.CongestionEventSample.{CongestionEventSample}
use Rattle.events.specs.Event.{event_next, round_next, maxbw_next, latest_raised, acts}
use Rattle.drift.specs.Calls as Calls
use Rattle.drift.specs.Calls.{Call, State, number_of, after}

-- ---- what a call does to a lower bound: nothing, or it is unset, or capped, or reduced
-- "unset, it takes" the seed; "then it becomes max(latest, lo x b)"
pub data Effect : Type 0 where
  stays : Effect
  clears : Effect
  caps : (bytes : ℕ) → Effect
  reduces : (seed latest : ℕ) → Effect

-- "Lower bounds act only at a round's end, when not probing, with bytes lost in the round above 0"
unfoldable pub is_reduced : NetworkModel → CongestionEvent → CongestionEventSample → List ℕ → Bool
is_reduced m e x acked = let r = event_next m e x acked in acts r.ended r.probing (round_next m r x).lost

-- inflight_lo: the seed is the window, the latest the largest inflight sampled
unfoldable pub inflight_effect : Call → State → Effect
inflight_effect (Calls.event p e x acked) s =
    let latest = (latest_raised s.model.latest x).inflight in
    cond (is_reduced s.model e x acked) (reduces e.window latest) stays
inflight_effect (Calls.cap bytes) s = caps bytes
inflight_effect Calls.clear_inflight s = clears
inflight_effect Calls.clear_bandwidth s = stays
inflight_effect (Calls.cruise now) s = caps s.model.high
inflight_effect (Calls.refill rounds now) s = clears
inflight_effect (Calls.other c) s = stays

-- bandwidth_lo: the seed is the largest bandwidth, the latest the largest bandwidth sampled. No call caps it
unfoldable pub bandwidth_effect : Call → State → Effect
bandwidth_effect (Calls.event p e x acked) s =
    let most = (max_get (maxbw_next s.model x)).0 in
    let latest = (latest_raised s.model.latest x).bandwidth.0 in
    cond (is_reduced s.model e x acked) (reduces most latest) stays
bandwidth_effect (Calls.cap bytes) s = stays
bandwidth_effect Calls.clear_inflight s = stays
bandwidth_effect Calls.clear_bandwidth s = clears
bandwidth_effect (Calls.cruise now) s = stays
bandwidth_effect (Calls.refill rounds now) s = clears
bandwidth_effect (Calls.other c) s = stays

-- neither effect depends on the lower bounds that are stored. (Whether a call is done does: it tests that they are
-- within their bounds)
abbrev pub Blind : (Call → State → Effect) → Type 0
Blind effect =
    (c : Call) (s : State) (l : Lower) →
    effect c (record { model = with_lower s.model l; cycle = s.cycle }) ≡ effect c s

-- ---- the exact value: unset, or num / 2^exponent, where k counts the reductions since it was last unset
pub data Exact : Type 0 where
  unset : Exact
  over : (num exponent k : ℕ) → Exact

-- one effect with b = parts / 2^24. The first reduction after unset counts; a cap is none; a clear starts k again
unfoldable pub exactly : (parts : ℕ) → Effect → Exact → Exact
exactly parts stays x = x
exactly parts clears x = unset
exactly parts (caps bytes) unset = unset
exactly parts (caps bytes) (over num exponent k) = over (min (bytes * 2 ^ exponent) num) exponent k
exactly parts (reduces seed latest) unset = over (max (latest * 2 ^ 24) (seed * parts)) 24 1
exactly parts (reduces seed latest) (over num exponent k) =
    over (max (latest * 2 ^ (exponent + 24)) (num * parts)) (exponent + 24) (k + 1)

-- the exact run beside a run: a call makes its effect where it is done
unfoldable pub exact_run : (Call → State → Effect) → (parts : ℕ) → List Call → State → Exact → Exact
exact_run effect parts [] s x = x
exact_run effect parts (c ∷ calls) s x =
    let made = settled (number_of c s) (effect c s) stays in
    exact_run effect parts calls (after c s) (exactly parts made x)
