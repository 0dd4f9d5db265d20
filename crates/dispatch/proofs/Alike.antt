-- Calls that differ in their acked numbers alone: those that take none do the same, and an event that takes the same greatest number. Assumes nothing.
use Rattle.std.specs.Prelude.{Option}
use Prim.Native.Nat.{ℕ}
use mathlib.Core.List.{List, ◌++◌}
use mathlib.Core.Path.{◌≡◌, refl, sym, ap₂, ◌∙◌}
use lib.ListN.{length}
use Rattle.filters.specs.RoundTripCounter.{greatest, listed}
use Rattle.filters.proofs.Greatest.{alone}
use Rattle.state.specs.Answers.{settled}
use Rattle.state.specs.declared.network_model.NetworkModel.{NetworkModel}
use Rattle.state.specs.declared.cycle.Cycle.{Cycle}
use Rattle.events.specs.Event.{event_number, event_next, model_next}
use Rattle.events.specs.OnlyGreatest.{Same}
use Rattle.events.proofs.OnlyGreatest.{same}
use Rattle.arguments.specs.Alike.{AreAlike}
use Rattle.arguments.specs.Params.{params_from}
use Rattle.arguments.specs.CongestionEvent.{event_from, event_in, event_words}
use Rattle.arguments.specs.Sample.{sample_from, acked_fits, acked_of}
use Rattle.arguments.proofs.Alike.{own_alike, params_alike, event_alike, event_in_alike, sample_alike}
use Rattle.dispatch.specs.Inner.{other_outcome}
use Rattle.dispatch.specs.OnlyGreatest.{OnlyGreatest}
use Rattle.dispatch.specs.Outcome.{event_start_number, event_start_leaves, event_start_words, start_outcome, send_outcome, event_outcome, finish_outcome, judge_outcome, ask_outcome, enter_outcome, change_outcome, outcome_of}

module _ (v w : List ℕ) (h : AreAlike v w) (m : NetworkModel) (y : Cycle) where
  start_alike : start_outcome v ≡ start_outcome w
  unfolding start_outcome
  start_alike = rw (params_alike v w h, h 1 refl, h 2 refl)

  pub send_alike : send_outcome v m y ≡ send_outcome w m y
  unfolding send_outcome
  send_alike = rw (h 1 refl, h 2 refl, h 3 refl, h 4 refl)

  pub finish_alike : finish_outcome v m y ≡ finish_outcome w m y
  unfolding finish_outcome
  finish_alike = rw (event_alike v w h)

  judge_alike : judge_outcome v m y ≡ judge_outcome w m y
  unfolding judge_outcome
  judge_alike = rw (params_alike v w h, event_alike v w h, h 0 refl, h 1 refl)

  ask_alike : ask_outcome v m y ≡ ask_outcome w m y
  unfolding ask_outcome
  ask_alike = rw (params_alike v w h, h 0 refl, h 1 refl, h 2 refl)

  enter_alike : enter_outcome v m y ≡ enter_outcome w m y
  unfolding enter_outcome
  enter_alike = rw (params_alike v w h, h 0 refl, h 1 refl, h 2 refl, h 3 refl)

  change_alike : change_outcome v m y ≡ change_outcome w m y
  unfolding change_outcome
  change_alike = rw (h 0 refl, h 1 refl)

  pub other_alike : other_outcome v m y ≡ other_outcome w m y
  unfolding other_outcome
  other_alike = rw (h 0 refl, start_alike, judge_alike, ask_alike, enter_alike, change_alike)

  module _ (fits : acked_fits v ≡ acked_fits w) (most : greatest (acked_of v) ≡ greatest (acked_of w)) where
    event_alike_most : event_outcome v m y ≡ event_outcome w m y
    unfolding event_outcome
    event_alike_most =
        let does = same (acked_of v) (acked_of w) most in
        rw (params_alike v w h, event_alike v w h, event_in_alike v w h, sample_alike v w h fits, does.reply m (params_from w) (event_from w) (sample_from w), does.model m (params_from w) (event_from w) (sample_from w), does.event m (event_from w) (sample_from w))

    outcome_alike : outcome_of v m y ≡ outcome_of w m y
    unfolding outcome_of
    outcome_alike = rw (h 0 refl, send_alike, event_alike_most, finish_alike, start_alike, judge_alike, ask_alike, enter_alike, change_alike)

pub only_greatest : OnlyGreatest
only_greatest v w h fits most m y = outcome_alike v w h m y fits most

-- ---- an event, from what is read of its own words, of its lists, and of the numbers in them
module _ (l lists : List ℕ) (long : length l ≡ 49) (m : NetworkModel) {g : Option ℕ} (most : g ≡ greatest (acked_of (l ++ lists))) where
  abbrev w : List ℕ
  w = l ++ lists

  alike : AreAlike w l
  alike = own_alike l lists long

  does : Same (listed g) (acked_of w)
  does = same (listed g) (acked_of w) (alone (acked_of w) most)

  pub started_number : event_number m (params_from l) (event_from l) (sample_from w) (listed g) ≡ event_start_number w m
  started_number = rw (params_alike w l alike, event_alike w l alike) (does.reply m (params_from l) (event_from l) (sample_from w))

  pub started_model_lem : model_next m (params_from l) (event_from l) (sample_from w) (listed g) ≡ model_next m (params_from w) (event_from w) (sample_from w) (acked_of w)
  started_model_lem = rw (params_alike w l alike, event_alike w l alike) (does.model m (params_from l) (event_from l) (sample_from w))

  pub started_event : event_next m (event_from l) (sample_from w) (listed g) ≡ event_next m (event_from w) (sample_from w) (acked_of w)
  started_event = rw (event_alike w l alike) (does.event m (event_from l) (sample_from w))

  event_in_same : event_in l ≡ event_in w
  event_in_same = sym (event_in_alike w l alike)

  pub started_leaves : {next : NetworkModel} → next ≡ settled (event_number m (params_from l) (event_from l) (sample_from w) (listed g)) (model_next m (params_from l) (event_from l) (sample_from w) (listed g)) m → next ≡ event_start_leaves w m
  started_leaves e = e ∙ ap₂ (λ (n : ℕ) (next : NetworkModel). settled n next m) started_number started_model_lem

  pub started_words : {words : List ℕ} → words ≡ settled (event_number m (params_from l) (event_from l) (sample_from w) (listed g)) (event_words (event_next m (event_from l) (sample_from w) (listed g))) (event_in l) → words ≡ event_start_words w m
  started_words e = e ∙ (λ i. settled (started_number i) (event_words (started_event i)) (event_in_same i))
