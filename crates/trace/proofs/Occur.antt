-- An event and its finish, over plain variables. Assumes nothing.
use Rattle.std.specs.Prelude.{Option, None, Some, Result, Ok, Err, MatchOption, is_ok}
use Prim.Native.Nat.{ℕ}
use mathlib.Core.Bool.{true}
use mathlib.Core.List.{List, [], ◌∷◌}
use mathlib.Core.Path.{◌≡◌, refl}
use lib.Dec.{T, eqb}
use lib.Ieee.{binary32, of_bits, fits}
use borrow.Author.Tests.{ne_eqb}
use Rattle.units.specs.Reply.{row_of, number}
use Rattle.units.specs.declared.refusal.Refusal.{Refusal}
use Rattle.units.proofs.refusal.Number.{no_row}
use Rattle.state.specs.declared.network_model.NetworkModel.{NetworkModel}
use Rattle.state.specs.declared.congestion_event.CongestionEvent.{CongestionEvent}
use Rattle.state.specs.Answers.{settled}
use Rattle.state.specs.NetworkModel.{model_ok}
use Rattle.state.specs.CongestionEvent.{event_ok}
use Rattle.state.specs.Refusals as Refusals
use Rattle.events.specs.Event.{event_next, model_next, finish_number}
use Rattle.laws.proofs.Events.{event_model_kept, event_record_kept}
use Rattle.text.specs.declared.line.Event.{Event}
use Rattle.trace.specs.Made.{params, acked_by, record_of, sample_of, occurs_number, record_after, started_model}

-- ---- the finish of an event that is done is never refused
finish_done : (m : NetworkModel) (e : CongestionEvent) → model_ok m ≡ true → event_ok e ≡ true → finish_number m e ≡ 0
unfolding finish_number Refusals.row_of
finish_done m e h k = rw (h, k)

beta_fits : T (fits binary32 params.beta)
unfolding of_bits fits
beta_fits = tt

pub occurs_finish : (m : NetworkModel) (e : Event) → occurs_number m e ≡ 0 → finish_number (started_model m e) (record_after m e) ≡ 0
unfolding occurs_number started_model record_after
occurs_finish m e h =
    finish_done (model_next m params (record_of e) (sample_of e) (acked_by e.number)) (event_next m (record_of e) (sample_of e) (acked_by e.number))
    (event_model_kept m params (record_of e) (sample_of e) (acked_by e.number) h beta_fits)
    (event_record_kept m params (record_of e) (sample_of e) (acked_by e.number) h)

pub settled_done : {A : Type 0} (n : ℕ) (next old : A) → n ≡ 0 → settled n next old ≡ next
unfolding settled
settled_done n next old h = rw h

-- ---- the numbers acked: none, or one
pub acked_slice : (o : Option ℕ) (l : List ℕ) → MatchOption o (l ≡ []) (λ x. l ≡ x ∷ []) → l ≡ acked_by o
acked_slice None l h = h
acked_slice (Some n) l h = h

-- ---- a call is done exactly where its reply has no number
pub is_ok_number : {A : Type 0} (x : Result A Refusal) → is_ok x ≡ eqb (number x) 0
is_ok_number (Ok a) = refl
is_ok_number (Err r) = rw (ne_eqb (row_of r) 0 (no_row r))
