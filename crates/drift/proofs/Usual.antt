-- The drift at beta 0.3. Assumes nothing.
use Rattle.std.specs.Prelude.{Option, None, Some}
use Prim.Native.Nat.{ℕ, ◌-◌, ◌*◌, ◌^◌}
use mathlib.Core.List.{List}
use mathlib.Core.Path.{◌≡◌, refl, subst}
use native.Mathlib.Omega.{arith}
use lib.Ieee.{of_bits, sub, le, fits}
use Rattle.numbers.specs.Scaling.{complement, parts_of}
use Rattle.units.specs.declared.time.Duration.{Duration}
use Rattle.units.specs.declared.time.Moment.{Moment}
use Rattle.state.specs.declared.params.Params.{Params}
use Rattle.state.specs.declared.cycle.Cycle.{Cycle}
use Rattle.state.specs.Bounds.{within}
use Rattle.drift.specs.Calls.{Call, State, run, started}
use Rattle.drift.specs.Exact.{Effect, Exact, unset, over, inflight_effect, bandwidth_effect, exact_run}
use Rattle.drift.specs.Drift.{IsBeta, inflight_low, bandwidth_low, Nearer, Follows, Along, HasBeta, IsSmall, usual_beta, usual_parts, Under, UsualInflightDrift, UsualBandwidthDrift}
use Rattle.drift.proofs.Inflight.{inflight_drift}
use Rattle.drift.proofs.Bandwidth.{bandwidth_drift}

usual_parts_lem : parts_of (complement usual_beta) ≡ usual_parts
unfolding of_bits sub
usual_parts_lem = refl

usual_beta_lem : IsBeta usual_beta
unfolding of_bits within le fits
usual_beta_lem = record { format = tt; range = refl }

inflight_under : (n num exponent : ℕ) → Nearer n num exponent (2 ^ 24) 1 (1 * (2 ^ 24 - usual_parts)) → Nearer n num exponent 334 1 100
inflight_under n num exponent h = record { not_over = omega (arith, h.not_over); not_short = omega (arith, h.not_short) }

bandwidth_under : (n num exponent : ℕ) → Nearer n num exponent (2 ^ 24) 4097 (8192 * (2 ^ 24 - usual_parts)) → Nearer n num exponent 167 1 100
bandwidth_under n num exponent h = record { not_over = omega (arith, h.not_over); not_short = omega (arith, h.not_short) }

-- with the parts as they are computed from beta
module _ (u v h : ℕ) (rate : (n num exponent : ℕ) → Nearer n num exponent (2 ^ 24) u (v * (2 ^ 24 - usual_parts)) → Nearer n num exponent h 1 100) where
  under : (l : Option ℕ) (x : Exact) → Follows u v usual_parts l x → Under h l x
  under None unset f = tt
  under None (over num exponent k) f = f
  under (Some n) unset f = f
  under (Some n) (over num exponent k) f = rate n num exponent f.by_rate

  usual : (effect : Call → State → Effect) (l : Option ℕ) (calls : List Call) (s : State)
      → Follows u v (parts_of (complement usual_beta)) l (exact_run effect (parts_of (complement usual_beta)) calls s unset)
      → Under h l (exact_run effect usual_parts calls s unset)
  usual effect l calls s f =
      under l (exact_run effect usual_parts calls s unset) (subst (λ (parts : ℕ). Follows u v parts l (exact_run effect parts calls s unset)) usual_parts_lem f)

pub usual_inflight_drift : UsualInflightDrift
usual_inflight_drift p rtt now y calls same sizes =
    let s = started p rtt now y in
    usual 1 1 334 inflight_under inflight_effect (inflight_low (run calls s)) calls s ((inflight_drift usual_beta usual_beta_lem).1 p rtt now y calls same sizes)

pub usual_bandwidth_drift : UsualBandwidthDrift
usual_bandwidth_drift p rtt now y calls same any =
    let s = started p rtt now y in
    usual 4097 8192 167 bandwidth_under bandwidth_effect (bandwidth_low (run calls s)) calls s ((bandwidth_drift usual_beta usual_beta_lem).1 p rtt now y calls same any)

-- with the parts as they are written here
pub usual_inflight_follows : (p : Params) (rtt : Duration) (now : Moment) (y : Cycle) (calls : List Call) → Along (HasBeta usual_beta) calls (started p rtt now y) → Along IsSmall calls (started p rtt now y)
    → Follows 1 1 usual_parts (inflight_low (run calls (started p rtt now y))) (exact_run inflight_effect usual_parts calls (started p rtt now y) unset)
usual_inflight_follows p rtt now y calls same sizes =
    let s = started p rtt now y in
    subst (λ (parts : ℕ). Follows 1 1 parts (inflight_low (run calls s)) (exact_run inflight_effect parts calls s unset)) usual_parts_lem ((inflight_drift usual_beta usual_beta_lem).1 p rtt now y calls same sizes)
