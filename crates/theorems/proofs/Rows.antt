-- Each call of a run is refused exactly when its rows say (specs/Rows.antt), number by number. Assumes nothing.
use Prim.Native.Nat.{ℕ, ◌≤◌}
use mathlib.Core.List.{List}
use mathlib.Core.Path.{◌≡◌, refl}
use native.Mathlib.Omega.{arith}
use lib.ListN.{get_or}
use Rattle.filters.specs.RoundTripCounter.{rounds_ended}
use Rattle.state.specs.NetworkModel.{start_number, stored_number, given_number, headroom_number}
use Rattle.changes.specs.Changes.{sent_number, postpone_number}
use Rattle.events.specs.Event.{event_number, finish_number}
use Rattle.judge.specs.Judge.{judged_number, queue_number}
use Rattle.phases.specs.Phases.{entry_number, exit_number, slope_number}
use Rattle.laws.specs.Replies.{Exactly}
use Rattle.laws.proofs.Replies.{exactly}
use Rattle.calls.specs.Ask.{ask_of, read_of, read_more}
use Rattle.calls.specs.Change.{change_of, change_more}
use Rattle.calls.specs.Enter.{enter_of}
use Rattle.calls.specs.Question.{judge_of}
use Rattle.dispatch.specs.Outcome.{start_outcome, send_outcome, event_outcome, finish_outcome, judge_outcome, ask_outcome, enter_outcome, change_outcome, outcome_of}
use Rattle.drift.specs.Calls.{State}
use Rattle.theorems.specs.Steps.{outcome_in}
use Rattle.theorems.specs.Rows.{rows_of}
use Rattle.theorems.proofs.Below.{Below, nothing, also, every, above_46}

module _ (w : List ℕ) (s : State) where
  abbrev At : ℕ → Type 0
  At n = get_or w 0 0 ≡ n → Exactly (outcome_in w s).reply (rows_of w s)

  each : Below At 46
  unfolding rows_of outcome_of start_outcome send_outcome event_outcome finish_outcome judge_outcome ask_outcome enter_outcome change_outcome judge_of ask_of read_of read_more enter_of change_of change_more start_number stored_number given_number sent_number postpone_number headroom_number event_number rounds_ended finish_number judged_number queue_number entry_number exit_number slope_number
  each =
      also 45 (λ e. rw e (exactly _ _ refl)) (also 44 (λ e. rw e (exactly _ _ refl)) (also 43 (λ e. rw e (exactly _ _ refl))
      (also 42 (λ e. rw e (exactly _ _ refl)) (also 41 (λ e. rw e (exactly _ _ refl)) (also 40 (λ e. rw e (exactly _ _ refl))
      (also 39 (λ e. rw e (exactly _ _ refl)) (also 38 (λ e. rw e (exactly _ _ refl)) (also 37 (λ e. rw e (exactly _ _ refl))
      (also 36 (λ e. rw e (exactly _ _ refl)) (also 35 (λ e. rw e (exactly _ _ refl)) (also 34 (λ e. rw e (exactly _ _ refl))
      (also 33 (λ e. rw e (exactly _ _ refl)) (also 32 (λ e. rw e (exactly _ _ refl)) (also 31 (λ e. rw e (exactly _ _ refl))
      (also 30 (λ e. rw e (exactly _ _ refl)) (also 29 (λ e. rw e (exactly _ _ refl)) (also 28 (λ e. rw e (exactly _ _ refl))
      (also 27 (λ e. rw e (exactly _ _ refl)) (also 26 (λ e. rw e (exactly _ _ refl)) (also 25 (λ e. rw e (exactly _ _ refl))
      (also 24 (λ e. rw e (exactly _ _ refl)) (also 23 (λ e. rw e (exactly _ _ refl)) (also 22 (λ e. rw e (exactly _ _ refl))
      (also 21 (λ e. rw e (exactly _ _ refl)) (also 20 (λ e. rw e (exactly _ _ refl)) (also 19 (λ e. rw e (exactly _ _ refl))
      (also 18 (λ e. rw e (exactly _ _ refl)) (also 17 (λ e. rw e (exactly _ _ refl)) (also 16 (λ e. rw e (exactly _ _ refl))
      (also 15 (λ e. rw e (exactly _ _ refl)) (also 14 (λ e. rw e (exactly _ _ refl)) (also 13 (λ e. rw e (exactly _ _ refl))
      (also 12 (λ e. rw e (exactly _ _ refl)) (also 11 (λ e. rw e (exactly _ _ refl)) (also 10 (λ e. rw e (exactly _ _ refl))
      (also 9 (λ e. rw e (exactly _ _ refl)) (also 8 (λ e. rw e (exactly _ _ refl)) (also 7 (λ e. rw e (exactly _ _ refl))
      (also 6 (λ e. rw e (exactly _ _ refl)) (also 5 (λ e. rw e (exactly _ _ refl)) (also 4 (λ e. rw e (exactly _ _ refl))
      (also 3 (λ e. rw e (exactly _ _ refl)) (also 2 (λ e. rw e (exactly _ _ refl)) (also 1 (λ e. rw e (exactly _ _ refl))
      (also 0 (λ e. rw e (exactly _ _ refl)) nothing)))))))))))))))))))))))))))))))))))))))))))))

  above : (n : ℕ) → 46 ≤ n → At n
  unfolding rows_of outcome_of enter_outcome enter_of given_number
  above n h e =
      let t = above_46 n h in
      rw e
      (simp
      (t.none 0 (omega arith), t.none 1 (omega arith), t.none 3 (omega arith), t.none 4 (omega arith), t.none 5 (omega arith), t.none 6 (omega arith), t.none 7 (omega arith), t.none 8 (omega arith), t.none 9 (omega arith), t.none 10 (omega arith), t.none 11 (omega arith), t.none 12 (omega arith), t.none 13 (omega arith), t.none 14 (omega arith), t.none 15 (omega arith), t.none 16 (omega arith), t.none 17 (omega arith), t.none 18 (omega arith), t.none 22 (omega arith), t.none 40 (omega arith), t.none 41 (omega arith), t.none 42 (omega arith), t.none 43 (omega arith), t.none 44 (omega arith), t.none 45 (omega arith), t.over 7 (omega arith), t.over 13 (omega arith), t.over 21 (omega arith), t.over 38 (omega arith), t.up 5 (omega arith), t.up 10 (omega arith), t.up 19 (omega arith), t.up 23 (omega arith), t.up 40 (omega arith))
      (exactly _ _ refl))

pub every_row : (w : List ℕ) (s : State) → Exactly (outcome_in w s).reply (rows_of w s)
every_row w s = every (At w s) 46 (each w s) (above w s) (get_or w 0 0) refl
