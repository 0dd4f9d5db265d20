-- Runs of stores into a list. Assumes nothing.
use Prim.Native.Nat.{ℕ, suc, ◌+◌, ◌≤◌}
use mathlib.Core.List.{List, [], ◌∷◌, ◌++◌, append_assoc, append-nil}
use mathlib.Core.Path.{◌≡◌, ap, ◌∙◌}
use native.Mathlib.Nat.{add-zero, zero-add, add-suc, suc-add, le_of_eq}
use native.Mathlib.Omega.{arith}
use lib.ListN.{length, set, take, drop}
use lib.Seq.{sets, sets-eq, drop_at, drop-length, length-take-le}

-- two runs side by side are one
pub sets-append : (l : List ℕ) (i : ℕ) (a b : List ℕ) → sets (sets l i a) (i + length a) b ≡ sets l i (a ++ b)
sets-append l i [] b = rw add-zero
sets-append l i (x ∷ a) b = rw (add-suc, ← suc-add) (sets-append (set l i x) (suc i) a b)

-- from the run's start on stand the run, and what stood past it
pub drop-sets : (l : List ℕ) (i : ℕ) (a : List ℕ) → i + length a ≤ length l → drop i (sets l i a) ≡ a ++ drop (i + length a) l
drop-sets l i a h =
    ap (drop i) (sets-eq a l i h ∙ append_assoc (take i l) a (drop (i + length a) l))
    ∙ drop_at (take i l) (a ++ drop (i + length a) l) i (length-take-le i l (omega arith))

-- a run as long as the list leaves nothing of it
pub sets_whole : (l a : List ℕ) → length a ≡ length l → sets l 0 a ≡ a
sets_whole l a h =
    let e : 0 + length a ≡ length l = zero-add (length a) ∙ h in
    sets-eq a l 0 (le_of_eq e) ∙ rw (e, drop-length) (append-nil a)
