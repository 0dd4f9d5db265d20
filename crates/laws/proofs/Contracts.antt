-- Every call keeps the state (specs/Laws.antt): a line a call. Assumes nothing.
use Prim.Native.Nat.{ℕ}
use mathlib.Core.Bool.{Bool, true, false, cond, ◌&&◌}
use mathlib.Core.List.{List}
use mathlib.Core.Path.{◌≡◌, refl, ap, sym, ◌∙◌}
use lib.Dec.{T, eqb}
use lib.Ieee.{binary32, fits}
use borrow.Author.Tests.{eq-eqb, ne_eqb}
use denote.Floats.{passes}
use denote.Laws.{Is}
use denote.Struct.Declared.{row}
use mir.Val.{Val}
use Rattle.state.specs.declared.params.Params.{Params}
use Rattle.state.specs.Answers.{settled}
use Rattle.state.specs.NetworkModel.{model_ok, start_model}
use Rattle.state.specs.CongestionEvent.{event_ok}
use Rattle.state.specs.Cycle.{cycle_ok, fresh_cycle}
use Rattle.state.proofs.Rows.{and_both}
use Rattle.state.specs.contracts.params.Params as params
use Rattle.laws.specs.Laws.{both, EveryCall}
use Rattle.laws.proofs.Model as M
use Rattle.laws.proofs.Events as N
use Rattle.laws.proofs.Phases as P

-- ---- by the reply's number n, which the contract says is k
module _ {S : Type 0} (ok : S → Bool) where
  keeps : {n k : ℕ} {got next old : S} → n ≡ k → got ≡ settled k next old → (k ≡ 0 → ok next ≡ true) → ((n ≡ 0 → ⊥) → got ≡ old) × (n ≡ 0 → ok got ≡ true)
  unfolding settled
  keeps {n} {k} {got} {next} {old} p q kept = (λ h. q ∙ simp (ne_eqb k 0 (λ e. h (p ∙ e))), λ h. let e = sym p ∙ h in ap ok (q ∙ simp (eq-eqb k 0 e)) ∙ kept e)

-- two things left side by side
pub settled_both : {X Y : Type 0} (k : ℕ) (a x x' : X) (b y y' : Y) → a ≡ settled k x x' → b ≡ settled k y y' → ◌≡◌ {A = X × Y} (a, b) (settled k (x, y) (x', y'))
unfolding settled
settled_both {X} {Y} k a x x' b y y' p q = (λ i. (p i, q i)) ∙ go (eqb k 0)
  where
    go : (t : Bool) → ◌≡◌ {A = X × Y} (cond t x x', cond t y y') (cond t (x, y) (x', y'))
    go true = refl
    go false = refl

module _ {X Y : Type 0} (ok : X → Bool) (fine : Y → Bool) where
  keeps_both : {n k : ℕ} {a x x' : X} {b y y' : Y} → n ≡ k → a ≡ settled k x x' → b ≡ settled k y y' → (k ≡ 0 → (ok x ≡ true) × (fine y ≡ true))
      → ((n ≡ 0 → ⊥) → ◌≡◌ {A = X × Y} (a, b) (x', y')) × (n ≡ 0 → (ok a && fine b) ≡ true)
  keeps_both {n} {k} {a} {x} {x'} {b} {y} {y'} p q r kept = keeps (both ok fine) p (settled_both k a x x' b y y' q r) (λ e. and_both (ok x) (fine y) (kept e).0 (kept e).1)

-- beta is an f32, so the format holds it
beta_fits : (p : Params) (vs : List Val) → Is (row params.the_type) p vs → T (fits binary32 p.beta)
beta_fits p vs h = passes (fits binary32 p.beta) h.1.1.0.1

-- ---- the calls
pub every_call : EveryCall
unfolding start_model fresh_cycle
every_call = record {
  start = λ κs a x e g p. keeps model_ok p.0 p.1.0 (M.start_kept _ _ _);
  made = λ κs a x e g p. keeps model_ok p.0 p.1.0 (M.start_kept _ _ _);
  sent = λ κs a x e g p. keeps model_ok p.0 p.1.0 (M.sent_kept _ _ _ _ _);
  restart = λ κs a x e g p. keeps model_ok p.0 p.1 (λ h. M.restart_kept _ (M.stored _ h));
  reached = λ κs a x e g p. keeps model_ok p.0 p.1 (λ h. M.reached_kept _ (M.stored _ h));
  pacing = λ κs a x e g p. keeps model_ok p.0 p.1.0 (λ h. M.pacing_kept _ _ (M.given_stored _ _ h) (M.given_fine _ _ h));
  cwnd = λ κs a x e g p. keeps model_ok p.0 p.1.0 (λ h. M.cwnd_kept _ _ (M.given_stored _ _ h) (M.given_fine _ _ h));
  high = λ κs a x e g p. keeps model_ok p.0 p.1.0 (λ h. M.high_kept _ _ (M.given_stored _ _ h) (M.given_fine _ _ h));
  cap = λ κs a x e g p. keeps model_ok p.0 p.1.0 (λ h. M.cap_kept _ _ (M.given_stored _ _ h) (M.given_fine _ _ h));
  clear_inflight = λ κs a x e g p. keeps model_ok p.0 p.1 (λ h. M.clear_inflight_kept _ (M.stored _ h));
  clear_bandwidth = λ κs a x e g p. keeps model_ok p.0 p.1 (λ h. M.clear_bandwidth_kept _ (M.stored _ h));
  advance = λ κs a x e g p. keeps model_ok p.0 p.1 (λ h. M.advance_kept _ (M.stored _ h));
  postpone = λ κs a x e g p. keeps model_ok p.0 p.1.0 (M.postpone_kept _ _);
  finish = λ κs a x e g p. keeps model_ok p.0 p.1.0 (N.finish_kept _ _);
  queue = λ κs a x e g p. keeps model_ok p.0 p.1.0 (N.queue_kept _ _ _);
  expire = λ κs a x e g p. keeps model_ok p.0 p.1.0 (N.expire_kept _ _ _);
  growth = λ κs a x e g p. keeps model_ok p.0 p.1.0 (N.growth_kept _ _ _);
  occurs = λ κs a x e g p. keeps_both model_ok event_ok p.0 p.1.0 p.1.1.0 (λ h. (N.event_model_kept _ _ _ _ _ h (beta_fits a.1.0 _ g.1.0), N.event_record_kept _ _ _ _ _ h));
  down = λ κs a x e g p. keeps_both model_ok cycle_ok p.0 p.1.0 p.1.1.0 (P.down_kept _ _ _ _ _ _);
  cruise = λ κs a x e g p. keeps_both model_ok cycle_ok p.0 p.1.0 p.1.1.0 (P.cruise_kept _ _ _);
  refill = λ κs a x e g p. keeps_both model_ok cycle_ok p.0 p.1.0 p.1.1.0 (P.refill_kept _ _ _ _);
  up = λ κs a x e g p. keeps_both model_ok cycle_ok p.0 p.1.0 p.1.1.0 (P.up_kept _ _ _ _);
  exit = λ κs a x e g p. keeps_both model_ok cycle_ok p.0 p.1.0 p.1.1 (P.exit_kept _ _);
  fresh = λ κs a x e g p. keeps cycle_ok p.0 p.1.0 (P.fresh_kept _);
  made_cycle = λ κs a x e g p. keeps cycle_ok p.0 p.1.0 (P.fresh_kept _);
  slope = λ κs a x e g p. keeps cycle_ok p.0 p.1.0 (P.slope_kept _ _);
}
