-- What the public functions return is what the definitions say, so the theorems hold of it. Assumes nothing.
use Rattle.std.specs.Prelude.{Option}
use Prim.Native.Nat.{ℕ}
use mathlib.Core.Bool.{Bool, true, false, cond}
use mathlib.Core.List.{List, [], ◌∷◌}
use mathlib.Core.Logic.{inl, inr}
use mathlib.Core.Path.{◌≡◌, refl, sym, ap, subst, ◌∙◌}
use lib.Dec.{eqb}
use Rattle.numbers.specs.Scaling.{complement, parts_of}
use Rattle.units.specs.declared.time.Duration.{Duration}
use Rattle.units.specs.declared.time.Moment.{Moment}
use Rattle.state.specs.declared.network_model.NetworkModel.{NetworkModel}
use Rattle.state.specs.declared.params.Params.{Params}
use Rattle.state.specs.Answers.{settled}
use Rattle.state.specs.NetworkModel.{start_model}
use Rattle.state.specs.declared.cycle.Cycle.{Cycle}
use Rattle.laws.proofs.Contracts.{settled_both}
use Rattle.drift.specs.Calls as Calls
use Rattle.drift.specs.Calls.{Call, Other, State, other_number, other_next, number_of, next_of, after, run, started}
use Rattle.drift.specs.Exact.{Effect, unset, inflight_effect, bandwidth_effect, exact_run}
use Rattle.drift.specs.Drift.{inflight_low, bandwidth_low, Follows, Along, HasBeta, IsSmall, IsAny, Drift, UsualDrift, Under, usual_beta, usual_parts}
use Rattle.drift.specs.Returned.{MadeOther, Made, Begun, Ran, CodeDrift, CodeUsualDrift, CodeInflightDrift, CodeBandwidthDrift, CodeUsualInflightDrift, CodeUsualBandwidthDrift}
use Rattle.drift.proofs.Inflight.{inflight_drift}
use Rattle.drift.proofs.Bandwidth.{bandwidth_drift}
use Rattle.drift.proofs.Usual.{usual_inflight_drift, usual_bandwidth_drift}

-- ---- what is made of a settled part is settled
settled_over : {A B : Type 0} (f : A → B) (k : ℕ) (next old : A) → f (settled k next old) ≡ settled k (f next) (f old)
unfolding settled
settled_over f k next old = go (eqb k 0)
  where
    go : (t : Bool) → f (cond t next old) ≡ cond t (f next) (f old)
    go true = refl
    go false = refl

-- the model, the cycle, or both
model_made : (s t : State) (k : ℕ) (got next : NetworkModel) → got ≡ settled k next s.model → t ≡ record { model = got; cycle = s.cycle } → t ≡ settled k (record { model = next; cycle = s.cycle }) s
model_made s t k got next p q =
    let f : NetworkModel → State = λ m. record { model = m; cycle = s.cycle } in q ∙ ap f p ∙ settled_over f k next s.model

cycle_made : (s t : State) (k : ℕ) (got next : Cycle) → got ≡ settled k next s.cycle → t ≡ record { model = s.model; cycle = got } → t ≡ settled k (record { model = s.model; cycle = next }) s
cycle_made s t k got next p q =
    let f : Cycle → State = λ c. record { model = s.model; cycle = c } in q ∙ ap f p ∙ settled_over f k next s.cycle

both_made : (s t : State) (k : ℕ) (got next : NetworkModel) (turned entered : Cycle) → got ≡ settled k next s.model → turned ≡ settled k entered s.cycle → t ≡ record { model = got; cycle = turned }
    → t ≡ settled k (record { model = next; cycle = entered }) s
both_made s t k got next turned entered p r q =
    let f : NetworkModel × Cycle → State = λ z. record { model = z.0; cycle = z.1 } in
    q ∙ ap f (settled_both k got next s.model turned entered s.cycle p r) ∙ settled_over f k (next, entered) (s.model, s.cycle)

-- ---- the calls, by what their contracts say
made_other : (c : Other) (s t : State) → MadeOther c s t → t ≡ settled (other_number c s) (other_next c s) s
unfolding other_number other_next
made_other (Calls.sent time inflight packet bytes) s t r = model_made s t _ _ _ (r.4.1.0 ∙ simp (r.5.0.0, r.5.0.1)) r.5.1
made_other (Calls.finish e) s t r = model_made s t _ _ _ (r.4.1.0 ∙ simp (r.5.0.0, r.5.0.1)) r.5.1
made_other (Calls.expire p e) s t r = model_made s t _ _ _ (r.4.1.0 ∙ simp (r.5.0.0, r.5.0.1)) r.5.1
made_other (Calls.growth p e) s t r = model_made s t _ _ _ (r.4.1.0 ∙ simp (r.5.0.0, r.5.0.1)) r.5.1
made_other (Calls.queue p gain) s t r = model_made s t _ _ _ (r.4.1.0 ∙ simp (r.5.0.0, r.5.0.1)) r.5.1
made_other Calls.restart s t r = model_made s t _ _ _ (r.4.1 ∙ simp r.5.0) r.5.1
made_other Calls.reached s t r = model_made s t _ _ _ (r.4.1 ∙ simp r.5.0) r.5.1
made_other (Calls.pacing gain) s t r = model_made s t _ _ _ (r.4.1.0 ∙ simp (r.5.0.0, r.5.0.1)) r.5.1
made_other (Calls.cwnd gain) s t r = model_made s t _ _ _ (r.4.1.0 ∙ simp (r.5.0.0, r.5.0.1)) r.5.1
made_other (Calls.high bytes) s t r = model_made s t _ _ _ (r.4.1.0 ∙ simp (r.5.0.0, r.5.0.1)) r.5.1
made_other Calls.advance s t r = model_made s t _ _ _ (r.4.1 ∙ simp r.5.0) r.5.1
made_other (Calls.postpone d) s t r = model_made s t _ _ _ (r.4.1.0 ∙ simp (r.5.0.0, r.5.0.1)) r.5.1
made_other (Calls.down p hi risky time) s t r = both_made s t _ _ _ _ _ (r.4.1.0 ∙ simp (r.5.0.0, r.5.0.1, r.5.0.2)) (r.4.1.1.0 ∙ simp (r.5.0.0, r.5.0.1, r.5.0.2)) r.5.1
made_other (Calls.up time window) s t r = both_made s t _ _ _ _ _ (r.4.1.0 ∙ simp (r.5.0.0, r.5.0.1, r.5.0.2)) (r.4.1.1.0 ∙ simp (r.5.0.0, r.5.0.1, r.5.0.2)) r.5.1
made_other Calls.exit s t r = both_made s t _ _ _ _ _ (r.4.1.0 ∙ simp (r.5.0.0, r.5.0.1)) (r.4.1.1 ∙ simp (r.5.0.0, r.5.0.1)) r.5.1
made_other (Calls.slope window) s t r = cycle_made s t _ _ _ (r.4.1.0 ∙ simp (r.5.0.0, r.5.0.1)) r.5.1

made : (c : Call) (s t : State) → Made c s t → t ≡ after c s
unfolding after number_of next_of
made (Calls.event p v y acked) s t r = model_made s t _ _ _ (r.4.1.0 ∙ simp (r.5.0.0, r.5.0.1, r.5.0.2, r.5.0.3, r.5.0.4)) r.5.1
made (Calls.cap bytes) s t r = model_made s t _ _ _ (r.4.1.0 ∙ simp (r.5.0.0, r.5.0.1)) r.5.1
made Calls.clear_inflight s t r = model_made s t _ _ _ (r.4.1 ∙ simp r.5.0) r.5.1
made Calls.clear_bandwidth s t r = model_made s t _ _ _ (r.4.1 ∙ simp r.5.0) r.5.1
made (Calls.cruise time) s t r = both_made s t _ _ _ _ _ (r.4.1.0 ∙ simp (r.5.0.0, r.5.0.1, r.5.0.2)) (r.4.1.1.0 ∙ simp (r.5.0.0, r.5.0.1, r.5.0.2)) r.5.1
made (Calls.refill rounds time) s t r = both_made s t _ _ _ _ _ (r.4.1.0 ∙ simp (r.5.0.0, r.5.0.1, r.5.0.2)) (r.4.1.1.0 ∙ simp (r.5.0.0, r.5.0.1, r.5.0.2)) r.5.1
made (Calls.other c) s t r = made_other c s t r

ran : (calls : List Call) (s t : State) → Ran calls s t → t ≡ run calls s
unfolding run
ran [] s t r = r
ran (c ∷ calls) s t r = ran calls r.0 t r.2 ∙ ap (run calls) (made c s r.0 r.1)

start_same : {p p' : Params} {d d' : Duration} {t t' : Moment} → p ≡ p' → d ≡ d' → t ≡ t' → start_model p d t ≡ start_model p' d' t'
start_same a b c = λ i. start_model (a i) (b i) (c i)

begun : (p : Params) (rtt : Duration) (time : Moment) (s : State) → Begun p rtt time s → s ≡ started p rtt time s.cycle
unfolding started
begun p rtt time s b = λ i. record { model = model b i; cycle = s.cycle }
  where
    model : Begun p rtt time s → s.model ≡ start_model p rtt time
    model (inl r) = let m = r.5 in m.1 ∙ r.4.1.0 ∙ start_same (λ i. (m.0 i).0) (λ i. (m.0 i).1.0) (λ i. (m.0 i).1.1.0)
    model (inr r) = let m = r.5 in m.1 ∙ r.4.1.0 ∙ start_same (λ i. (m.0 i).0) (λ i. (m.0 i).1.0) (λ i. (m.0 i).1.1.0)

-- what holds of a start and of where its run ends, over the definitions, holds of the code
module _ (p : Params) (rtt : Duration) (time : Moment) (calls : List Call) (s t : State) (b : Begun p rtt time s) (r : Ran calls s t) where
  returned : (P : State → State → Type 0) → P (started p rtt time s.cycle) (run calls (started p rtt time s.cycle)) → P s t
  returned P h = subst (λ (z : State). P s z) (sym (ran calls s t r)) (subst (λ (z : State). P z (run calls z)) (sym (begun p rtt time s b)) h)

  along : (P : Call → Type 0) → Along P calls s → Along P calls (started p rtt time s.cycle)
  along P h = subst (λ (z : State). Along P calls z) (begun p rtt time s b) h

module _ (effect : Call → State → Effect) (low : State → Option ℕ) (Q : Call → Type 0) where
  code_drift : (u v : ℕ) → Drift u v effect low Q → CodeDrift u v effect low Q
  code_drift u v drift beta ok =
      let parts = parts_of (complement beta) in (
        (drift beta ok).0,
        λ p rtt time calls s t same fine b r.
            returned p rtt time calls s t b r (λ s t. Follows u v parts (low t) (exact_run effect parts calls s unset))
            ((drift beta ok).1 p rtt time s.cycle calls (along p rtt time calls s t b r (HasBeta beta) same) (along p rtt time calls s t b r Q fine)),
      )

  code_usual_drift : (h : ℕ) → UsualDrift h effect low Q → CodeUsualDrift h effect low Q
  code_usual_drift h drift p rtt time calls s t same fine b r =
      returned p rtt time calls s t b r (λ s t. Under h (low t) (exact_run effect usual_parts calls s unset))
      (drift p rtt time s.cycle calls (along p rtt time calls s t b r (HasBeta usual_beta) same) (along p rtt time calls s t b r Q fine))

pub code_inflight_drift : CodeInflightDrift
code_inflight_drift = code_drift inflight_effect inflight_low IsSmall 1 1 inflight_drift

pub code_bandwidth_drift : CodeBandwidthDrift
code_bandwidth_drift = code_drift bandwidth_effect bandwidth_low IsAny 4097 8192 bandwidth_drift

pub code_usual_inflight_drift : CodeUsualInflightDrift
code_usual_inflight_drift = code_usual_drift inflight_effect inflight_low IsSmall 334 usual_inflight_drift

pub code_usual_bandwidth_drift : CodeUsualBandwidthDrift
code_usual_bandwidth_drift = code_usual_drift bandwidth_effect bandwidth_low IsAny 167 usual_bandwidth_drift
