-- The texts of a row, composed; and how long they are. Assumes nothing.
use Rattle.std.specs.Prelude.{Option, None, Some}
use Prim.Native.Nat.{ℕ, ◌≤◌}
use mathlib.Core.Path.{refl, sym}
use native.Mathlib.Omega.{arith}
use native.Mathlib.Nat.{add-zero}
use lib.ListN.{length, length-append}
use Rattle.rows.specs.declared.row.State.{State}
use Rattle.rows.specs.declared.row.Row.{Row}
use Rattle.rows.specs.Digits.{Puts}
use Rattle.rows.specs.declared.digits.Writer.{Writer}
use Rattle.rows.specs.Entry.{entry_text}
use Rattle.rows.specs.Row.{given_text, refusal_text, head_text, state_text, row_text}
use Rattle.rows.proofs.Decimals.{decimal_few}

pub given_few : (g : Option ℕ) → length (given_text g) ≤ 20
unfolding given_text
given_few None = omega arith
given_few (Some n) = decimal_few n

pub refusal_few : (r : ℕ) (p : Option ℕ) → length (refusal_text r p) ≤ 41
unfolding refusal_text
refusal_few r None = omega (arith, decimal_few r)
refusal_few r (Some p) = simp (length-append) (omega (arith, decimal_few r, decimal_few p))

pub head_few : (l r : ℕ) (p : Option ℕ) → length (head_text l r p) ≤ 63
unfolding head_text
head_few l r p = simp length-append (omega (arith, decimal_few l, refusal_few r p))

pub state_few : (s : Option State) → length (state_text s) ≤ 83
unfolding state_text
state_few None = omega arith
state_few (Some s) = simp length-append (omega (arith, decimal_few s.round, decimal_few s.maxbw, given_few s.lo, given_few s.hi))

-- unset: no byte
pub nothing_put : (w : Writer) → Puts w w (given_text None) 0
unfolding given_text
nothing_put w = record { same = refl; put = record { stored = refl; next = sym (add-zero w.at); kept = refl }; within = omega arith }

pub row_few : (r : Row) → length (row_text r) ≤ 148
unfolding row_text
row_few r = simp length-append (omega (arith, head_few r.line r.refusal r.part, state_few r.state))

pub entry_few : (line field : ℕ) → length (entry_text line field) ≤ 43
unfolding entry_text
entry_few line field = simp length-append (omega (arith, decimal_few line, decimal_few field))
