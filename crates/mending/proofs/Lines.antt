-- One line: what the code has, over plain variables, and its definition. Assumes nothing.
use Rattle.std.specs.Prelude.{Result, Ok, Err, is_ok}
use Prim.Native.Nat.{ℕ, ◌≤◌, ◌<◌}
use mathlib.Core.Bool.{Bool, true, false, cond, true≢false}
use mathlib.Core.List.{List, []}
use mathlib.Core.Path.{◌≡◌, refl, sym, ap, ◌∙◌}
use native.Mathlib.Omega.{arith}
use native.Mathlib.Nat.{add-zero}
use lib.Dec.{leb}
use lib.ListN.{length}
use borrow.Author.Tests.{leb-true, leb-false}
use Rattle.text.specs.declared.line.BadField.{BadField}
use Rattle.text.specs.Line.{refused}
use Rattle.text.proofs.Lines.{line_long}
use Rattle.rows.specs.Digits.{Put}
use Rattle.rows.proofs.Rows.{entry_few}
use Rattle.trace.specs.Placed.{early, placed_at}
use Rattle.mending.specs.declared.mend.Mend.{Mend}
use Rattle.mending.specs.declared.mend.Sorted.{Sorted}
use Rattle.mending.specs.Sorted.{lists, sorted_here, sorted_as, sorted, kept_text, entry_of, list_text}

-- a line that is refused where it is read is refused where it stands
pub placed_refused : (t : Bool) (k : ℕ) → placed_at t (refused k) ≡ refused k
unfolding placed_at early
placed_refused true k = refl
placed_refused false k = refl

-- no line that is kept is longer than 4,096 bytes
long_listed : (m : Mend) (l : List ℕ) → 4096 < length l → is_ok (sorted m l).reply ≡ false
unfolding sorted sorted_as sorted_here lists
long_listed m l g = rw (← line_long l g, placed_refused m.started 0)

pub kept_few : (m : Mend) (l : List ℕ) (x : Sorted) → x ≡ sorted m l → is_ok x.reply ≡ true → length l ≤ 4096
kept_few m l x e h = go (leb (length l) 4096) refl
  where
    go : (t : Bool) → leb (length l) 4096 ≡ t → length l ≤ 4096
    go true q = leb-true (length l) 4096 q
    go false q = absurd (true≢false (sym h ∙ ap (λ (y : Sorted). is_ok y.reply) e ∙ long_listed m l (leb-false (length l) 4096 q)))

-- what is written of it
pub put_none : (l : List ℕ) (at : ℕ) → Put l l at [] at
put_none l at = record { stored = refl; next = sym (add-zero at); kept = refl }

-- it has room in so many bytes
pub kept_text_few : (m : Mend) (l : List ℕ) (x : Sorted) → x ≡ sorted m l → length (kept_text x l) ≤ 4096
unfolding kept_text
kept_text_few m l x e = go (is_ok x.reply) (kept_few m l x e)
  where
    go : (t : Bool) → (t ≡ true → length l ≤ 4096) → length (cond t l []) ≤ 4096
    go true h = h refl
    go false h = omega arith

pub list_text_few : (x : Sorted) → length (list_text x) ≤ 43
unfolding list_text
list_text_few x = go x.reply
  where
    go : (r : Result (Unit {0}) BadField) → length (entry_of x.mend.line r) ≤ 43
    go (Ok u) = omega arith
    go (Err b) = entry_few x.mend.line b.field
