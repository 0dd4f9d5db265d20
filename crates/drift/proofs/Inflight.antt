-- inflight_lo follows the exact run (`inflight_drift`). Assumes nothing.
use Rattle.std.specs.Prelude.{None, Some}
use Prim.Native.Nat.{ℕ, max, ◌-◌, ◌*◌, ◌^◌, ◌≤◌, ◌<◌}
use mathlib.Core.Bool.{Bool, true, false, cond}
use mathlib.Core.List.{List}
use mathlib.Core.Path.{◌≡◌, refl, sym, subst}
use native.Mathlib.Nat.{mul-le-mul_left}
use native.Mathlib.Omega.{arith}
use lib.Dec.{eqb, ltb}
use lib.Ieee.{Float}
use lib.Ieee.Exact.{HasValue}
use borrow.Author.Tests.{eq-eqb, ne_eqb}
use Rattle.numbers.specs.Scaling.{scaled, complement, parts_of}
use Rattle.numbers.proofs.ScaleLaws.{scale_law}
use Rattle.units.specs.declared.time.Duration.{Duration}
use Rattle.units.specs.declared.time.Moment.{Moment}
use Rattle.filters.specs.MaxBandwidthFilter.{max_get}
use Rattle.state.specs.declared.network_model.NetworkModel.{NetworkModel}
use Rattle.state.specs.declared.params.Params.{Params}
use Rattle.state.specs.declared.parts.Latest.{Latest}
use Rattle.state.specs.declared.parts.Lower.{Lower}
use Rattle.state.specs.Answers.{settled, zero_length, zero_moment}
use Rattle.state.specs.NetworkModel.{one, start_number, start_model, model_new, with_rounds, with_round, with_lower, with_growth, with_moment, restart_next, cap_next, clear_inflight_next, clear_bandwidth_next}
use Rattle.state.specs.Parts.{lower_capped}
use Rattle.state.specs.declared.congestion_event.CongestionEvent.{CongestionEvent}
use Rattle.state.specs.declared.congestion_event.CongestionEventSample.{CongestionEventSample}
use Rattle.events.specs.Event as E
use Rattle.state.specs.declared.cycle.Cycle.{Cycle}
use Rattle.phases.specs.Phases.{restarted_at, cruise_model, refill_model, left_model}
use Rattle.drift.specs.Calls.{Call, event, cap, clear_inflight, clear_bandwidth, cruise, refill, other, State, next_of, run, started}
use Rattle.drift.specs.Exact.{stays, clears, caps, reduces, Exact, unset, over, is_reduced, inflight_effect, exactly, exact_run}
use Rattle.drift.specs.Drift.{inflight_low, Nearer, Near, Follows, Along, HasBeta, IsSmall, InflightDrift}
use Rattle.drift.proofs.Others.{other_same, left_same, left_high}
use Rattle.drift.proofs.Runs.{run_kept, both_along}
use Rattle.drift.proofs.Beta.{every_beta}
use Rattle.drift.proofs.OneEffect.{first, again, cut_off}

module _ (beta : Float) (parts : ℕ) (value : HasValue (complement beta) false parts (2 ^ 24)) (not_all : parts < 2 ^ 24) where
  abbrev cut : ℕ → ℕ
  cut n = scaled n (complement beta)

  -- one cut of at most 2^24 is off by less than 1, and not above what it cuts
  step : (n : ℕ) → n ≤ 2 ^ 24 → Nearer (cut n) (n * parts) 24 1 1 1
  step n h =
      let law = scale_law n parts (2 ^ 24) (complement beta) h (omega arith) (omega (arith, not_all)) value in
      record { not_over = omega (arith, law.not_over); not_short = omega (arith, law.not_short) }

  not_above : (n : ℕ) → n ≤ 2 ^ 24 → cut n ≤ 2 ^ 24
  not_above n h = omega (arith, (step n h).not_over, mul-le-mul_left n not_all)

  -- ---- what is kept
  abbrev Raw : ℕ → Exact → Type 0
  Raw n unset = n ≡ 2 ^ 64 - 1
  Raw n (over num exponent k) = (n ≤ 2 ^ 24) × Near 1 1 parts n num exponent k

  record Kept (m : NetworkModel) (x : Exact) : Type 0 where
    pub small : m.latest.inflight ≤ 2 ^ 24
    pub raw : Raw m.lower.inflight x

  set : (n : ℕ) → n ≤ 2 ^ 24 → eqb n (2 ^ 64 - 1) ≡ false
  set n h = ne_eqb n (2 ^ 64 - 1) (λ e. omega (arith, e, h))

  follows : (n : ℕ) (x : Exact) → Raw n x → Follows 1 1 parts (cond (eqb n (2 ^ 64 - 1)) None (Some n)) x
  follows n unset h = rw (eq-eqb n (2 ^ 64 - 1) h) tt
  follows n (over num exponent k) h = rw (set n h.0) h.1

  -- ---- the turns
  cap_raw : (l : Lower) (bytes : ℕ) (x : Exact) → Raw l.inflight x → Raw (lower_capped l bytes).inflight (exactly parts (caps bytes) x)
  unfolding lower_capped exactly
  cap_raw l bytes unset h = rw (eq-eqb l.inflight (2 ^ 64 - 1) h) h
  cap_raw l bytes (over num exponent k) h =
      rw (set l.inflight h.0) (omega (arith, h.0), cut_off 1 1 parts not_all l.inflight num exponent k bytes (omega arith) h.1)

  clear_raw : (x : Exact) → Raw (2 ^ 64 - 1) (exactly parts clears x)
  unfolding exactly
  clear_raw unset = refl
  clear_raw (over num exponent k) = refl

  reduce_raw : (n seed latest : ℕ) (x : Exact) → seed ≤ 2 ^ 24 → latest ≤ 2 ^ 24 → Raw n x → Raw (max latest (cut (E.start_of n seed))) (exactly parts (reduces seed latest) x)
  unfolding exactly
  reduce_raw n seed latest unset p q h = rw (eq-eqb n (2 ^ 64 - 1) h) (omega (arith, q, not_above seed p), first 1 1 parts not_all seed (cut seed) latest (omega arith) (step seed p))
  reduce_raw n seed latest (over num exponent k) p q h =
      rw (set n h.0) (omega (arith, q, not_above n h.0), again 1 1 parts not_all n (cut n) num exponent k latest (omega arith) (step n h.0) h.1)

  -- ---- the calls
  raised_small : (l : Latest) (s : CongestionEventSample) → l.inflight ≤ 2 ^ 24 → s.inflight ≤ 2 ^ 24 → (E.latest_raised l s).inflight ≤ 2 ^ 24
  unfolding E.latest_raised
  raised_small l s p q = omega (arith, p, q)

  after_small : (l : Latest) (ended : Bool) (s : CongestionEventSample) → l.inflight ≤ 2 ^ 24 → s.inflight ≤ 2 ^ 24 → (E.latest_after l ended s).inflight ≤ 2 ^ 24
  unfolding E.latest_after
  after_small l true s p q = go (ltb 0 s.inflight)
    where
      go : (t : Bool) → cond t s.inflight l.inflight ≤ 2 ^ 24
      go true = q
      go false = p
  after_small l false s p q = p

  event_kept : (m : NetworkModel) (p : Params) (e : CongestionEvent) (s : CongestionEventSample) (acked : List ℕ) (x : Exact) → p.beta ≡ beta → (e.window ≤ 2 ^ 24) × (s.inflight ≤ 2 ^ 24) → Kept m x
      → Kept (E.model_next m p e s acked) (exactly parts (cond (is_reduced m e s acked) (reduces e.window (E.latest_raised m.latest s).inflight) stays) x)
  unfolding E.model_next E.model_after E.adapt_lower_bounds E.lower_after E.lower_reduced E.event_next E.event_after is_reduced exactly
  event_kept m p e s acked x same sizes h =
      record { small = after_small (E.latest_raised m.latest s) after.ended s raised sizes.1; raw = go (E.acts after.ended after.probing (E.round_next m after s).lost) }
    where
      after : CongestionEvent
      after = E.event_next m e s acked

      raised : (E.latest_raised m.latest s).inflight ≤ 2 ^ 24
      raised = raised_small m.latest s h.small sizes.1

      go : (t : Bool) →
          Raw (cond t (E.lower_reduced m.lower (max_get (E.maxbw_next m s)) (E.latest_raised m.latest s) e.window (complement p.beta)) m.lower).inflight
          (exactly parts (cond t (reduces e.window (E.latest_raised m.latest s).inflight) stays) x)
      go true = rw same (reduce_raw m.lower.inflight e.window (E.latest_raised m.latest s).inflight x sizes.0 raised h.raw)
      go false = h.raw

  -- a model that has the same lower bounds and latest samples
  same_kept : (m old : NetworkModel) (x : Exact) → m.lower ≡ old.lower → m.latest ≡ old.latest → Kept old x → Kept m x
  same_kept m old x p q h =
      record { small = subst (λ (l : Latest). l.inflight ≤ 2 ^ 24) (sym q) h.small; raw = subst (λ (l : Lower). Raw l.inflight x) (sym p) h.raw }

  cap_kept : (m : NetworkModel) (bytes : ℕ) (x : Exact) → Kept m x → Kept (cap_next m bytes) (exactly parts (caps bytes) x)
  unfolding cap_next with_lower
  cap_kept m bytes x h = record { small = h.small; raw = cap_raw m.lower bytes x h.raw }

  cruise_kept : (m : NetworkModel) (c : Cycle) (now : Moment) (x : Exact) → Kept m x → Kept (cruise_model m c now) (exactly parts (caps m.high) x)
  unfolding cruise_model with_moment
  cruise_kept m c now x h =
      let l = left_same m c in
      let k = cap_kept (left_model m c) (left_model m c).high x (same_kept (left_model m c) m x l.lower l.latest h) in
      subst (λ (bytes : ℕ). Kept (with_moment (cap_next (left_model m c) (left_model m c).high) now) (exactly parts (caps bytes) x)) (left_high m c) (record { small = k.small; raw = k.raw })

  refill_kept : (m : NetworkModel) (c : Cycle) (now : Moment) (x : Exact) → Kept m x → Kept (refill_model m c now) (exactly parts clears x)
  unfolding refill_model restarted_at restart_next clear_inflight_next clear_bandwidth_next with_lower with_moment with_growth with_rounds with_round
  refill_kept m c now x h = record { small = subst (λ (l : Latest). l.inflight ≤ 2 ^ 24) (sym (left_same m c).latest) h.small; raw = clear_raw x }

  next_kept : (c : Call) (s : State) (x : Exact) → HasBeta beta c → IsSmall c → Kept s.model x → Kept (next_of c s).model (exactly parts (inflight_effect c s) x)
  unfolding next_of inflight_effect exactly clear_inflight_next clear_bandwidth_next with_lower
  next_kept (event p e y acked) s x same sizes h = event_kept s.model p e y acked x same (omega (arith, sizes.0), omega (arith, sizes.1)) h
  next_kept (cap bytes) s x same sizes h = cap_kept s.model bytes x h
  next_kept clear_inflight s x same sizes h = record { small = h.small; raw = clear_raw x }
  next_kept clear_bandwidth s x same sizes h = record { small = h.small; raw = h.raw }
  next_kept (cruise now) s x same sizes h = cruise_kept s.model s.cycle now x h
  next_kept (refill rounds now) s x same sizes h = refill_kept s.model s.cycle now x h
  next_kept (other c) s x same sizes h = let a = other_same c s in same_kept (next_of (other c) s).model s.model x a.lower a.latest h

  start_kept : (p : Params) (rtt : Duration) (now : Moment) → Kept (start_model p rtt now) unset
  unfolding start_model settled model_new
  start_kept p rtt now = go (eqb (start_number p rtt now) 0)
    where
      go : (t : Bool) → Kept (cond t (model_new p.cwnd p.pacing p.ignore rtt now) (model_new one one false zero_length zero_moment)) unset
      go true = record { small = omega arith; raw = refl }
      go false = record { small = omega arith; raw = refl }

  drift : (p : Params) (rtt : Duration) (now : Moment) (y : Cycle) (calls : List Call) → Along (HasBeta beta) calls (started p rtt now y) → Along IsSmall calls (started p rtt now y)
      → Follows 1 1 parts (inflight_low (run calls (started p rtt now y))) (exact_run inflight_effect parts calls (started p rtt now y) unset)
  unfolding inflight_low started
  drift p rtt now y calls same sizes =
      let s = started p rtt now y in
      let kept = run_kept inflight_effect parts (λ s x. Kept s.model x) (λ c. HasBeta beta c × IsSmall c) (λ c s x p done. next_kept c s x p.0 p.1) in
      follows (run calls s).model.lower.inflight (exact_run inflight_effect parts calls s unset)
      (kept calls s unset (both_along (HasBeta beta) IsSmall calls s same sizes) (start_kept p rtt now)).raw

pub inflight_drift : InflightDrift
inflight_drift beta ok = let b = every_beta beta ok in (b.value, drift beta (parts_of (complement beta)) b.value b.not_all)
