-- What was written is read back as it was (specs/RoundTrip.antt): word by word. Assumes nothing.
use Prim.Native.Nat.{ℕ, ◌+◌}
use mathlib.Core.Bool.{true}
use mathlib.Core.List.{List, ◌∷◌, ◌++◌}
use mathlib.Core.Path.{◌≡◌, refl, ◌∙◌}
use lib.Dec.{T}
use lib.Ieee.{binary32, fits}
use native.Mathlib.Nat.{add-zero}
use lib.ListN.{length, get_or}
use lib.Seq.{get_or-append-add}
use Rattle.state.specs.declared.network_model.NetworkModel.{NetworkModel}
use Rattle.state.specs.declared.params.Params.{Params}
use Rattle.state.specs.declared.congestion_event.CongestionEvent.{CongestionEvent}
use Rattle.state.specs.declared.congestion_event.CongestionEventSample.{CongestionEventSample}
use Rattle.state.specs.declared.cycle.Cycle.{Cycle}
use Rattle.layout.specs.NetworkModel.{model_from, model_words}
use Rattle.layout.specs.Cycle.{cycle_from, cycle_words}
use Rattle.arguments.specs.CongestionEvent.{event_fits, event_from_word, event_from, event_words}
use Rattle.arguments.specs.Sample.{acked_fits, sample_fits, sample_from, sample_words}
use Rattle.arguments.specs.Params.{params_from, params_words}
use Rattle.dispatch.specs.RoundTrip.{AreF32, RoundTrip}
use Rattle.words.proofs.Back.{flag_written, flag_back, float_back, bandwidth_back, plain_back, length_back}
use Rattle.layout.proofs.Laws.{phase_back}

model_back : (m : NetworkModel) (c : Cycle) → T (fits binary32 m.gains.cwnd) → T (fits binary32 m.gains.pacing) → model_from (model_words m ++ cycle_words c) ≡ m
unfolding model_from model_words cycle_words
model_back m c p q = simp (plain_back, bandwidth_back, flag_back, float_back m.gains.cwnd p, float_back m.gains.pacing q)

cycle_back : (m : NetworkModel) (c : Cycle) → cycle_from (model_words m ++ cycle_words c) ≡ c
unfolding cycle_from model_words cycle_words
cycle_back m c = simp (phase_back, length_back, plain_back, flag_back)

-- the words before the record count for nothing
first : (before l : List ℕ) → get_or (before ++ l) (length before) 0 ≡ get_or l 0 0
first before l = rw add-zero at (get_or-append-add before l 0 0)

record_moved : (before l : List ℕ) → event_from_word (before ++ l) (length before) ≡ event_from_word l 0
unfolding event_from_word event_fits
record_moved before l = simp (get_or-append-add, first)

record_first : (after : List ℕ) (e : CongestionEvent) → event_from_word (event_words e ++ after) 0 ≡ e
unfolding event_from_word event_fits event_words
record_first after e = simp (flag_written, bandwidth_back, length_back, flag_back)

record_back : (before after : List ℕ) (e : CongestionEvent) → length before ≡ 22 → event_from (before ++ (event_words e ++ after)) ≡ e
record_back before after e h = rw (← h) (record_moved before (event_words e ++ after) ∙ record_first after e)

state_length_lem : (m : NetworkModel) (c : Cycle) → length (model_words m ++ cycle_words c) ≡ 51
unfolding model_words cycle_words
state_length_lem m c = refl

record_length : (e : CongestionEvent) → length (event_words e) ≡ 16
unfolding event_words
record_length e = refl

sample_back : (number : ℕ) (after : List ℕ) (s : CongestionEventSample) → acked_fits (number ∷ (sample_words s ++ after)) ≡ true → sample_from (number ∷ (sample_words s ++ after)) ≡ s
unfolding sample_from sample_fits sample_words
sample_back number after s fits = simp (fits, flag_written, bandwidth_back, length_back, flag_back)

module _ (before after : List ℕ) (p : Params) (h : length before ≡ 38) where
  at : (i : ℕ) → get_or (before ++ (params_words p ++ after)) (38 + i) 0 ≡ get_or (params_words p ++ after) i 0
  at i = rw (← h) (get_or-append-add before (params_words p ++ after) i 0)

  params_back : AreF32 p → params_from (before ++ (params_words p ++ after)) ≡ p
  unfolding params_from params_words
  params_back f =
      simp (at 0, at 1, at 2, at 3, at 4, at 5, at 6, at 7, at 8, at 9, at 10, flag_written, flag_back, float_back p.beta f.beta, float_back p.loss f.loss, float_back p.headroom f.headroom, float_back p.growth f.growth, float_back p.cwnd f.cwnd, float_back p.pacing f.pacing)

pub round_trip : RoundTrip
round_trip = record { model = model_back; cycle = cycle_back; event = record_back; state_length = state_length_lem; event_length = record_length; sample = sample_back; parameters = params_back; gain = float_back }
