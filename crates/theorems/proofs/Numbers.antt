-- Each number of a call, one by one: its step is the one of its number (`every_number`). Assumes nothing.
use Prim.Native.Nat.{ℕ, ◌≤◌}
use mathlib.Core.List.{List}
use mathlib.Core.Path.{◌≡◌, refl}
use native.Mathlib.Omega.{arith}
use lib.ListN.{get_or}
use Rattle.theorems.specs.Steps.{Numbered, judge_step, enter_step, change_step, step_of}
use Rattle.theorems.proofs.Below.{Below, nothing, also, every, above_46}

module _ (w : List ℕ) where
  abbrev At : ℕ → Type 0
  At n = get_or w 0 0 ≡ n → Numbered (step_of w) n

  each : Below At 46
  unfolding step_of judge_step enter_step change_step
  each =
      also 45 (λ e. rw e) (also 44 (λ e. rw e) (also 43 (λ e. rw e) (also 42 (λ e. rw e) (also 41 (λ e. rw e) (also 40 (λ e. rw e)
      (also 39 (λ e. rw e) (also 38 (λ e. rw e) (also 37 (λ e. rw e) (also 36 (λ e. rw e) (also 35 (λ e. rw e) (also 34 (λ e. rw e)
      (also 33 (λ e. rw e) (also 32 (λ e. rw e) (also 31 (λ e. rw e) (also 30 (λ e. rw e) (also 29 (λ e. rw e) (also 28 (λ e. rw e)
      (also 27 (λ e. rw e) (also 26 (λ e. rw e) (also 25 (λ e. rw e) (also 24 (λ e. rw e) (also 23 (λ e. rw e) (also 22 (λ e. rw e)
      (also 21 (λ e. rw e) (also 20 (λ e. rw e) (also 19 (λ e. rw e) (also 18 (λ e. rw e) (also 17 (λ e. rw e) (also 16 (λ e. rw e)
      (also 15 (λ e. rw e) (also 14 (λ e. rw e) (also 13 (λ e. rw e) (also 12 (λ e. rw e) (also 11 (λ e. rw e) (also 10 (λ e. rw e)
      (also 9 (λ e. rw e) (also 8 (λ e. rw e) (also 7 (λ e. rw e) (also 6 (λ e. rw e) (also 5 (λ e. rw e) (also 4 (λ e. rw e)
      (also 3 (λ e. rw e) (also 2 (λ e. rw e) (also 1 (λ e. rw e) (also 0 (λ e. rw e) nothing)))))))))))))))))))))))))))))))))))))))))))))

  -- and those above
  above : (n : ℕ) → 46 ≤ n → At n
  unfolding step_of judge_step enter_step change_step
  above n h e =
      let t = above_46 n h in
      rw e
      (simp
      (t.none 0 (omega arith), t.none 1 (omega arith), t.none 2 (omega arith), t.none 3 (omega arith), t.none 4 (omega arith), t.none 6 (omega arith), t.none 9 (omega arith), t.none 39 (omega arith), t.none 40 (omega arith), t.none 41 (omega arith), t.none 42 (omega arith), t.none 43 (omega arith), t.none 44 (omega arith), t.none 45 (omega arith), t.over 7 (omega arith), t.over 13 (omega arith), t.over 38 (omega arith), t.up 5 (omega arith), t.up 10 (omega arith), t.up 23 (omega arith), t.up 40 (omega arith), t.up 46 (omega arith)))

pub every_number : (w : List ℕ) → Numbered (step_of w) (get_or w 0 0)
every_number w = every (At w) 46 (each w) (above w) (get_or w 0 0) refl
