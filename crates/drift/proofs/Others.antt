-- The calls that name no lower bound leave the lower bounds and the latest samples. Assumes nothing.
use mathlib.Core.Path.{◌≡◌, refl}
use Rattle.std.proofs.lemmas.Bool.{cond_both}
use Rattle.state.specs.declared.network_model.NetworkModel.{NetworkModel}
use Rattle.state.specs.Parts.{round_new}
use Rattle.state.specs.NetworkModel.{with_maxbw, with_rounds, with_round, with_minrtt, with_high, with_gains, with_growth, with_moment, with_begun, restart_next, advance_next}
use Rattle.changes.specs.Changes.{sent_next, reached_next, pacing_next, cwnd_next, postpone_next}
use Rattle.events.specs.Event.{finish_next}
use Rattle.judge.specs.Judge.{expire_next, growth_next, queue_next}
use Rattle.state.specs.declared.cycle.Cycle.{Cycle}
use Rattle.phases.specs.Phases.{restarted_at, exit_model, is_down, left_model}
use Rattle.drift.specs.Calls.{Other, sent, finish, expire, growth, queue, restart, reached, pacing, cwnd, high, advance, postpone, down, up, exit, slope, State, other_next}

-- two models have the same
pub record Same (m old : NetworkModel) : Type 0 where
  pub lower : m.lower ≡ old.lower
  pub latest : m.latest ≡ old.latest

abbrev same : (m : NetworkModel) → Same m m
same m = record { lower = refl; latest = refl }

exit_same : (m : NetworkModel) (c : Cycle) → Same (exit_model m c) m
unfolding exit_model advance_next with_maxbw
exit_same m c = cond_both c.advanced m (advance_next m) (λ x. Same x m) (λ _. same m) (λ _. record { lower = refl; latest = refl })

pub left_same : (m : NetworkModel) (c : Cycle) → Same (left_model m c) m
unfolding left_model
left_same m c = cond_both (is_down c.stay.phase) (exit_model m c) m (λ x. Same x m) (λ _. exit_same m c) (λ _. same m)

-- leaving Down leaves inflight_hi too
pub left_high : (m : NetworkModel) (c : Cycle) → (left_model m c).high ≡ m.high
unfolding left_model exit_model advance_next with_maxbw
left_high m c =
    let P : NetworkModel → Type 0 = λ x. x.high ≡ m.high in
    cond_both (is_down c.stay.phase) (exit_model m c) m P (λ _. cond_both c.advanced m (advance_next m) P (λ _. refl) (λ _. refl)) (λ _. refl)

pub other_same : (c : Other) (s : State) → Same (other_next c s).model s.model
unfolding other_next sent_next with_moment with_begun with_rounds with_round finish_next expire_next with_minrtt growth_next with_growth queue_next restart_next reached_next pacing_next with_gains cwnd_next with_high advance_next with_maxbw postpone_next restarted_at
other_same (sent now inflight packet bytes) s = record { lower = refl; latest = refl }
other_same (finish e) s = cond_both e.ended (with_round s.model round_new) s.model (λ x. Same x s.model) (λ _. record { lower = refl; latest = refl }) (λ _. same s.model)
other_same (expire p e) s = record { lower = refl; latest = refl }
other_same (growth p e) s = record { lower = refl; latest = refl }
other_same (queue p gain) s = record { lower = refl; latest = refl }
other_same restart s = record { lower = refl; latest = refl }
other_same reached s = record { lower = refl; latest = refl }
other_same (pacing gain) s = record { lower = refl; latest = refl }
other_same (cwnd gain) s = record { lower = refl; latest = refl }
other_same (high bytes) s = record { lower = refl; latest = refl }
other_same advance s = record { lower = refl; latest = refl }
other_same (postpone d) s = record { lower = refl; latest = refl }
other_same (down p hi risky now) s = record { lower = refl; latest = refl }
other_same (up now window) s = record { lower = refl; latest = refl }
other_same exit s = exit_same s.model s.cycle
other_same (slope window) s = record { lower = refl; latest = refl }
