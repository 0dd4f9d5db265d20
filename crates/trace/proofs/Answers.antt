-- Run after run, as the program's loop has it, over plain variables. Assumes nothing.
use Prim.Native.Nat.{ℕ, zero, suc, ◌+◌, ◌≤◌, ◌<◌}
use mathlib.Core.Bool.{Bool, true, false}
use mathlib.Core.List.{List, [], ◌∷◌, ◌++◌}
use mathlib.Core.Path.{◌≡◌, refl, sym, ap, ◌∙◌, subst}
use native.Mathlib.Omega.{arith}
use lib.Dec.{leb}
use lib.ListN.{length, drop, length-drop}
use borrow.Author.Tests.{leb-true, leb-false}
use Rattle.trace.specs.declared.replay.Replay.{Replay}
use Rattle.trace.specs.declared.stream.Ran.{Ran}
use Rattle.trace.specs.Replay.{stepped}
use Rattle.trace.specs.Stream.{lines_from, ran_of, kept_of}
use Rattle.trace.specs.Output.{last_replay}
use Rattle.trace.specs.Pieces.{run_of, run_text, AllAnswered, over, more, AnswersAll, Fed, none, piece}
use Rattle.trace.proofs.Streams.{lf_le, lines_none}

-- what is answered from here on completes what was answered
abbrev pub Completes : (s : List ℕ) (room : ℕ) → Replay → Replay → ℕ → Type 0
Completes s room r₀ r at = (text : List ℕ) (q : Replay) (end : ℕ) → AllAnswered s room r at text q end → AnswersAll s room r₀ q end

pub completes_none : (s : List ℕ) (room : ℕ) (r : Replay) → Completes s room r r 0
completes_none s room r text q end a = (text, a)

-- a run with another length of what is lent
pub run_room : (x : Ran) (r : Replay) (s : List ℕ) (at room room₀ : ℕ) → room ≡ room₀ → x ≡ run_of r s at room → x ≡ run_of r s at room₀
run_room x r s at room room₀ e h = h ∙ ap (λ (n : ℕ). run_of r s at n) e

pub completes_more : (s : List ℕ) (room : ℕ) (r₀ r : Replay) (at : ℕ) (x : Ran) → x ≡ run_of r s at room → at < x.at → Completes s room r₀ r at → Completes s room r₀ x.replay x.at
completes_more s room r₀ r at x e h k =
    subst (λ (y : Ran). at < y.at → Completes s room r₀ y.replay y.at) (sym e) (λ g text q end a. k (run_text r s at room ++ text) q end (more g a)) h

pub completes_over : (s : List ℕ) (room : ℕ) (r₀ r : Replay) (at : ℕ) (x : Ran) → x ≡ run_of r s at room → x.at ≤ at → Completes s room r₀ r at → AnswersAll s room r₀ r at
completes_over s room r₀ r at x e h k = k [] r at (over (subst (λ (y : Ran). y.at ≤ at) e h))

-- past the end there is no line
past : (s : List ℕ) (room : ℕ) (r : Replay) (at : ℕ) → length s ≤ at → (run_of r s at room).at ≤ at
unfolding ran_of
past s room r at h =
    let z : lines_from [] (drop at s) ≡ [] = lines_none [] (drop at s) (let l = length-drop at s in let a = lf_le (drop at s) in omega (arith, l, a, h)) in
    rw z (omega arith)

pub completes_past : (s : List ℕ) (room : ℕ) (r₀ r : Replay) (at : ℕ) → length s ≤ at → Completes s room r₀ r at → AnswersAll s room r₀ r at
completes_past s room r₀ r at h k = k [] r at (over (past s room r at h))

-- ---- the last line
pub last_none : (r : Replay) (s : List ℕ) → length s ≡ 0 → r ≡ last_replay r s
unfolding last_replay
last_none r [] h = refl
last_none r (b ∷ s) h = absurd (omega (arith, h))

pub last_some : (r : Replay) (s : List ℕ) (q : Replay) → (length s ≡ 0 → ⊥) → q ≡ (stepped r s).replay → q ≡ last_replay r s
unfolding last_replay
last_some r [] q h e = absurd (h refl)
last_some r (b ∷ s) q h e = e

-- ---- there is always such a sequence of runs, and of pieces
answered_some : (s : List ℕ) (room fuel : ℕ) (r : Replay) (at : ℕ) → length s ≤ at + fuel → (text : List ℕ) × (q : Replay) × (end : ℕ) × AllAnswered s room r at text q end
answered_some s room zero r at h = ([], r, at, over (past s room r at (omega (arith, h))))
answered_some s room (suc n) r at h = go (leb (run_of r s at room).at at) refl (answered_some s room n (run_of r s at room).replay (run_of r s at room).at)
  where
    go : (t : Bool) → leb (run_of r s at room).at at ≡ t
        → (length s ≤ (run_of r s at room).at + n → (text : List ℕ) × (q : Replay) × (end : ℕ) × AllAnswered s room (run_of r s at room).replay (run_of r s at room).at text q end)
        → (text : List ℕ) × (q : Replay) × (end : ℕ) × AllAnswered s room r at text q end
    go true e again = ([], r, at, over (leb-true (run_of r s at room).at at e))
    go false e again = let g = leb-false (run_of r s at room).at at e in let a = again (omega (arith, g, h)) in (run_text r s at room ++ a.0, a.1, a.2, more g a.3)

pub fed_some : (room : ℕ) (cs : List (List ℕ)) (r : Replay) (held : List ℕ) → (text : List ℕ) × (q : Replay) × (left : List ℕ) × Fed room r held cs text q left
fed_some room [] r held = ([], r, held, none)
fed_some room (c ∷ cs) r held =
    let a = answered_some (held ++ c) room (length (held ++ c)) r 0 (omega arith) in
    let f = fed_some room cs a.1 (kept_of (drop a.2 (held ++ c))) in
    (a.0 ++ f.0, f.1, f.2, piece a.3 f.3)
