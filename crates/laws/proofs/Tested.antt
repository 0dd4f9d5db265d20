-- A send, an event's start and its finish leave a model that is within its bounds exactly where the one given is, so that a run need not test it again. Assumes nothing.
use Prim.Native.Nat.{ℕ}
use mathlib.Core.Bool.{Bool, true, false, cond, not, ◌&&◌}
use mathlib.Core.List.{List}
use mathlib.Core.Path.{◌≡◌, refl, sym, ◌∙◌}
use lib.Dec.{T, eqb}
use lib.Ieee.{binary32, fits}
use borrow.Author.Tests.{eqb-true}
use Rattle.units.specs.declared.time.Moment.{Moment}
use Rattle.units.specs.Time.{is_before}
use Rattle.state.specs.declared.network_model.NetworkModel.{NetworkModel}
use Rattle.state.specs.declared.params.Params.{Params}
use Rattle.state.specs.Answers.{settled}
use Rattle.state.specs.Bounds.{bytes_ok, moment_ok}
use Rattle.state.specs.NetworkModel.{model_ok}
use Rattle.changes.specs.Changes.{sent_number, sent_next}
use Rattle.state.proofs.Rows.{row_stored}
use Rattle.state.specs.declared.congestion_event.CongestionEvent.{CongestionEvent}
use Rattle.state.specs.declared.congestion_event.CongestionEventSample.{CongestionEventSample}
use Rattle.state.specs.CongestionEvent.{event_ok}
use Rattle.events.specs.Event.{event_number, model_next, finish_number, finish_next}
use Rattle.laws.proofs.Model.{sent_kept}
use Rattle.laws.proofs.Events.{event_model, event_model_kept, finish_kept}

-- what a call leaves passes a test as what it was given does, where a call that is done was given and leaves what passes it
pub settled_same : {A : Type 0} (ok : A → Bool) (n : ℕ) (next old : A) → (n ≡ 0 → ok old ≡ true) → (n ≡ 0 → ok next ≡ true) → ok (settled n next old) ≡ ok old
unfolding settled
settled_same ok n next old was kept = go (eqb n 0) refl
  where
    go : (t : Bool) → eqb n 0 ≡ t → ok (cond t next old) ≡ ok old
    go true e = kept (eqb-true n 0 e) ∙ sym (was (eqb-true n 0 e))
    go false e = refl

sent_model : (m : NetworkModel) (now : Moment) (inflight bytes : ℕ) → sent_number m now inflight bytes ≡ 0 → model_ok m ≡ true
unfolding sent_number
sent_model m now inflight bytes done = row_stored (model_ok m) (not (moment_ok now && bytes_ok inflight && bytes_ok bytes)) (is_before now m.moment) false false done

finish_model : (m : NetworkModel) (e : CongestionEvent) → finish_number m e ≡ 0 → model_ok m ≡ true
unfolding finish_number
finish_model m e done = row_stored (model_ok m) (not (event_ok e)) false false false done

pub sent_same : (m : NetworkModel) (now : Moment) (inflight packet bytes : ℕ) → model_ok (settled (sent_number m now inflight bytes) (sent_next m now inflight packet bytes) m) ≡ model_ok m
sent_same m now inflight packet bytes = settled_same model_ok _ _ m (sent_model m now inflight bytes) (sent_kept m now inflight packet bytes)

pub start_same :
    (m : NetworkModel) (p : Params) (e : CongestionEvent) (s : CongestionEventSample) (acked : List ℕ) → T (fits binary32 p.beta) →
    model_ok (settled (event_number m p e s acked) (model_next m p e s acked) m) ≡ model_ok m
start_same m p e s acked fit = settled_same model_ok _ _ m (event_model m p e s acked) (λ done. event_model_kept m p e s acked done fit)

pub finish_same : (m : NetworkModel) (e : CongestionEvent) → model_ok (settled (finish_number m e) (finish_next m e) m) ≡ model_ok m
finish_same m e = settled_same model_ok _ _ m (finish_model m e) (finish_kept m e)
