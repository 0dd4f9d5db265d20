-- bandwidth_lo follows the exact run (`bandwidth_drift`). Assumes nothing.
use Rattle.std.specs.Prelude.{Option, None, Some}
use Prim.Native.Nat.{ℕ, min, ◌-◌, ◌*◌, ◌^◌, ◌<◌}
use mathlib.Core.Bool.{Bool, true, false, cond}
use mathlib.Core.List.{List}
use mathlib.Core.Path.{◌≡◌, sym, subst}
use native.Mathlib.Omega.{arith}
use lib.Dec.{eqb}
use lib.Ieee.{Float}
use lib.Ieee.Exact.{HasValue}
use borrow.Author.Tests.{leb-true}
use Rattle.numbers.specs.Scaling.{complement, parts_of}
use Rattle.numbers.proofs.ScaleLaws.{scale_f64_law}
use Rattle.units.specs.declared.bandwidth.Bandwidth.{Bandwidth}
use Rattle.units.specs.declared.time.Duration.{Duration}
use Rattle.units.specs.declared.time.Moment.{Moment}
use Rattle.units.specs.Bandwidth.{larger_of, times_f32}
use Rattle.filters.specs.MaxBandwidthFilter.{max_get}
use Rattle.state.specs.declared.network_model.NetworkModel.{NetworkModel}
use Rattle.state.specs.declared.params.Params.{Params}
use Rattle.state.specs.declared.parts.Lower.{Lower}
use Rattle.state.specs.Answers.{settled, zero_length, zero_moment}
use Rattle.state.specs.Bounds.{bandwidth_ok, maybe_ok, bytes_or_unset_ok}
use Rattle.state.specs.NetworkModel.{model_tests, one, start_number, start_model, model_new, with_rounds, with_round, with_lower, with_growth, with_moment, restart_next, cap_next, clear_inflight_next, clear_bandwidth_next}
use Rattle.state.specs.Parts.{lower_capped}
use Rattle.state.proofs.Rows.{and_left, all_at}
use Rattle.state.specs.declared.congestion_event.CongestionEvent.{CongestionEvent}
use Rattle.state.specs.declared.congestion_event.CongestionEventSample.{CongestionEventSample}
use Rattle.events.specs.Event as E
use Rattle.state.specs.CongestionEvent as H
use Rattle.state.specs.declared.cycle.Cycle.{Cycle}
use Rattle.phases.specs.Phases.{restarted_at, cruise_model, refill_model, left_model}
use Rattle.laws.proofs.Events.{event_model, event_sample, most_kept, most_max}
use Rattle.drift.specs.Calls.{Call, event, cap, clear_inflight, clear_bandwidth, cruise, refill, other, State, number_of, next_of, run, started}
use Rattle.drift.specs.Exact.{stays, clears, reduces, Exact, unset, over, is_reduced, bandwidth_effect, exactly, exact_run}
use Rattle.drift.specs.Drift.{low_of, bandwidth_low, Nearer, Near, Follows, Along, HasBeta, IsAny, BandwidthDrift}
use Rattle.drift.proofs.Others.{other_same, left_same}
use Rattle.drift.proofs.Runs.{run_kept}
use Rattle.drift.proofs.Beta.{every_beta}
use Rattle.drift.proofs.OneEffect.{first, again}

module _ (beta : Float) (parts : ℕ) (value : HasValue (complement beta) false parts (2 ^ 24)) (not_all : parts < 2 ^ 24) where
  abbrev cut : Bandwidth → Bandwidth
  cut x = times_f32 x (complement beta)

  -- one cut of a bandwidth within its bound is off by less than 4097 / 8192
  step : (x : Bandwidth) → bandwidth_ok x ≡ true → Nearer (cut x).0 (x.0 * parts) 24 1 4097 8192
  unfolding times_f32
  step x h =
      let law = (scale_f64_law x.0 parts (2 ^ 24) (complement beta) (leb-true x.0 (2 ^ 40) h) (omega arith) (omega (arith, not_all)) value).0 in
      record { not_over = omega (arith, law.not_over); not_short = omega (arith, law.not_short) }

  -- ---- what is kept
  abbrev Kept : Option Bandwidth → Exact → Type 0
  Kept None unset = Unit {0}
  Kept None (over num exponent k) = ⊥
  Kept (Some x) unset = ⊥
  Kept (Some x) (over num exponent k) = Near 4097 8192 parts x.0 num exponent k

  follows : (l : Option Bandwidth) (x : Exact) → Kept l x → Follows 4097 8192 parts (low_of l) x
  follows None unset h = tt
  follows None (over num exponent k) h = absurd h
  follows (Some y) unset h = absurd h
  follows (Some y) (over num exponent k) h = h

  -- ---- the calls
  reduce_kept : (l : Option Bandwidth) (seed latest : Bandwidth) (x : Exact) → maybe_ok l ≡ true → bandwidth_ok seed ≡ true → Kept l x
      → Kept (Some (larger_of latest (cut (E.seed_of l seed)))) (exactly parts (reduces seed.0 latest.0) x)
  unfolding exactly
  reduce_kept None seed latest unset p q h = first 4097 8192 parts not_all seed.0 (cut seed).0 latest.0 (omega arith) (step seed q)
  reduce_kept None seed latest (over num exponent k) p q h = absurd h
  reduce_kept (Some y) seed latest unset p q h = absurd h
  reduce_kept (Some y) seed latest (over num exponent k) p q h = again 4097 8192 parts not_all y.0 (cut y).0 num exponent k latest.0 (omega arith) (step y p) h

  clear_kept : (x : Exact) → Kept None (exactly parts clears x)
  unfolding exactly
  clear_kept unset = tt
  clear_kept (over num exponent k) = tt

  event_kept : (m : NetworkModel) (p : Params) (e : CongestionEvent) (s : CongestionEventSample) (acked : List ℕ) (x : Exact) → p.beta ≡ beta → E.event_number m p e s acked ≡ 0 → Kept m.lower.bandwidth x
      → Kept (E.model_next m p e s acked).lower.bandwidth (exactly parts (cond (is_reduced m e s acked) (reduces (max_get (E.maxbw_next m s)).0 (E.latest_raised m.latest s).bandwidth.0) stays) x)
  unfolding model_tests H.sample_tests E.model_next E.model_after E.adapt_lower_bounds E.lower_after E.lower_reduced E.event_next E.event_after E.maxbw_next is_reduced exactly
  event_kept m p e s acked x same done h = go (E.acts after.ended after.probing (E.round_next m after s).lost)
    where
      after : CongestionEvent
      after = E.event_next m e s acked

      lo_ok : maybe_ok m.lower.bandwidth ≡ true
      lo_ok = and_left (maybe_ok m.lower.bandwidth) (bytes_or_unset_ok m.lower.inflight) (all_at (model_tests m) 4 (event_model m p e s acked done))

      most_ok : bandwidth_ok (max_get (E.maxbw_next m s)) ≡ true
      most_ok = most_max (E.maxbw_next m s) (most_kept m.maxbw s.bandwidth (E.is_changed m s) s.applimited (all_at (model_tests m) 0 (event_model m p e s acked done)) (all_at (H.sample_tests s) 0 (event_sample m p e s acked done)))

      go : (t : Bool) →
          Kept (cond t (E.lower_reduced m.lower (max_get (E.maxbw_next m s)) (E.latest_raised m.latest s) e.window (complement p.beta)) m.lower).bandwidth
          (exactly parts (cond t (reduces (max_get (E.maxbw_next m s)).0 (E.latest_raised m.latest s).bandwidth.0) stays) x)
      go true =
          let most = max_get (E.maxbw_next m s) in
          let latest = (E.latest_raised m.latest s).bandwidth in
          subst (λ (f : Float). Kept (Some (larger_of latest (times_f32 (E.seed_of m.lower.bandwidth most) (complement f)))) (exactly parts (reduces most.0 latest.0) x)) (sym same)
          (reduce_kept m.lower.bandwidth most latest x lo_ok most_ok h)
      go false = h

  same_kept : (l old : Lower) (x : Exact) → l ≡ old → Kept old.bandwidth x → Kept l.bandwidth x
  same_kept l old x p h = subst (λ (z : Lower). Kept z.bandwidth x) (sym p) h

  capped_kept : (l : Lower) (bytes : ℕ) (x : Exact) → Kept l.bandwidth x → Kept (lower_capped l bytes).bandwidth x
  unfolding lower_capped
  capped_kept l bytes x h = go (eqb l.inflight (2 ^ 64 - 1))
    where
      go : (t : Bool) → Kept (cond t l (record { bandwidth = l.bandwidth; inflight = min bytes l.inflight })).bandwidth x
      go true = h
      go false = h

  next_kept : (c : Call) (s : State) (x : Exact) → HasBeta beta c → number_of c s ≡ 0 → Kept s.model.lower.bandwidth x → Kept (next_of c s).model.lower.bandwidth (exactly parts (bandwidth_effect c s) x)
  unfolding number_of next_of bandwidth_effect exactly cap_next clear_inflight_next clear_bandwidth_next with_lower cruise_model with_moment refill_model restarted_at restart_next with_growth with_rounds with_round
  next_kept (event p e y acked) s x same done h = event_kept s.model p e y acked x same done h
  next_kept (cap bytes) s x same done h = capped_kept s.model.lower bytes x h
  next_kept clear_inflight s x same done h = h
  next_kept clear_bandwidth s x same done h = clear_kept x
  next_kept (cruise now) s x same done h =
      let l = left_model s.model s.cycle in capped_kept l.lower l.high x (same_kept l.lower s.model.lower x (left_same s.model s.cycle).lower h)
  next_kept (refill rounds now) s x same done h = clear_kept x
  next_kept (other c) s x same done h = same_kept (next_of (other c) s).model.lower s.model.lower x (other_same c s).lower h

  start_kept : (p : Params) (rtt : Duration) (now : Moment) → Kept (start_model p rtt now).lower.bandwidth unset
  unfolding start_model settled model_new
  start_kept p rtt now = go (eqb (start_number p rtt now) 0)
    where
      go : (t : Bool) → Kept (cond t (model_new p.cwnd p.pacing p.ignore rtt now) (model_new one one false zero_length zero_moment)).lower.bandwidth unset
      go true = tt
      go false = tt

  drift : (p : Params) (rtt : Duration) (now : Moment) (y : Cycle) (calls : List Call) → Along (HasBeta beta) calls (started p rtt now y) → Along IsAny calls (started p rtt now y)
      → Follows 4097 8192 parts (bandwidth_low (run calls (started p rtt now y))) (exact_run bandwidth_effect parts calls (started p rtt now y) unset)
  unfolding bandwidth_low started
  drift p rtt now y calls same any =
      let s = started p rtt now y in
      follows (run calls s).model.lower.bandwidth (exact_run bandwidth_effect parts calls s unset)
      (run_kept bandwidth_effect parts (λ s x. Kept s.model.lower.bandwidth x) (HasBeta beta) next_kept calls s unset same (start_kept p rtt now))

pub bandwidth_drift : BandwidthDrift
bandwidth_drift beta ok = let b = every_beta beta ok in (b.value, drift beta (parts_of (complement beta)) b.value b.not_all)
