-- What was written is read back as it was: of every model, cycle, record, sampler's answer and parameters, within
-- document 01's bounds or not. Definitions only.
use Rattle.std.specs.Prelude.{ℕ, true, List, ◌∷◌, ◌++◌, ◌≡◌, T, Float, length}
use Rattle.std.specs.Float.{binary32}
use Rattle.std.specs.Float.Ieee.{fits}
use Rattle.state.specs.declared.network_model.NetworkModel.{NetworkModel}
use Rattle.state.specs.declared.params.Params.{Params}
use Rattle.state.specs.declared.congestion_event.CongestionEvent.{CongestionEvent}
use Rattle.state.specs.declared.congestion_event.CongestionEventSample.{CongestionEventSample}
use Rattle.state.specs.declared.cycle.Cycle.{Cycle}
use Rattle.layout.specs.NetworkModel.{model_from, model_words}
use Rattle.layout.specs.Cycle.{cycle_from, cycle_words}
use Rattle.arguments.specs.CongestionEvent.{event_from, event_words}
use Rattle.arguments.specs.Sample.{acked_fits, sample_from, sample_words}
use Rattle.arguments.specs.Params.{params_from, params_words}
use Rattle.words.specs.Word.{float_word, float_of}

-- the six floats are f32, among them the NaN and the infinities
pub record AreF32 (p : Params) : Type 0 where
  pub beta : T (fits binary32 p.beta)
  pub loss : T (fits binary32 p.loss)
  pub headroom : T (fits binary32 p.headroom)
  pub growth : T (fits binary32 p.growth)
  pub cwnd : T (fits binary32 p.cwnd)
  pub pacing : T (fits binary32 p.pacing)

pub record RoundTrip : Type 0 where
  -- a model whose two gains are f32, among them the NaN and the infinities
  pub model : (m : NetworkModel) (c : Cycle) → T (fits binary32 m.gains.cwnd) →
      T (fits binary32 m.gains.pacing) → model_from (model_words m ++ cycle_words c) ≡ m
  pub cycle : (m : NetworkModel) (c : Cycle) → cycle_from (model_words m ++ cycle_words c) ≡ c
  -- an answer's 16 words, handed in as words 22 to 37 of the next call
  pub event : (before after : List ℕ) (e : CongestionEvent) → length before ≡ 22 →
      event_from (before ++ (event_words e ++ after)) ≡ e
  -- the state takes 51 words, the record 16
  pub state_length : (m : NetworkModel) (c : Cycle) → length (model_words m ++ cycle_words c) ≡ 51
  pub event_length : (e : CongestionEvent) → length (event_words e) ≡ 16
  -- the sampler's answer in words 1 to 17 of a call, with acked numbers that are there after it
  pub sample : (number : ℕ) (after : List ℕ) (s : CongestionEventSample) →
      let l = number ∷ (sample_words s ++ after) in acked_fits l ≡ true → sample_from l ≡ s
  -- the parameters in words 38 to 48
  pub parameters : (before after : List ℕ) (p : Params) → length before ≡ 38 → AreF32 p →
      params_from (before ++ (params_words p ++ after)) ≡ p
  -- a gain
  pub gain : (x : Float) → T (fits binary32 x) → float_of (float_word x) ≡ x
