-- What is kept and what is listed of any lines. Assumes nothing.
use Rattle.std.specs.Prelude.{Result, Ok, Err}
use Prim.Native.Nat.{ℕ, suc, ◌+◌, ◌-◌, ◌^◌, ◌<◌, ◌≤◌}
use mathlib.Core.Bool.{Bool, true, false, cond}
use mathlib.Core.List.{List, [], ◌∷◌, ◌++◌, map}
use mathlib.Core.Path.{◌≡◌, refl, sym, ap, ap₂, ◌∙◌}
use native.Mathlib.Omega.{arith}
use lib.Dec.{eqb}
use lib.ListN.{length}
use borrow.Author.Tests.{ne_eqb}
use Rattle.text.specs.declared.line.Line.{Line}
use Rattle.text.specs.declared.line.Line.TheVariants.{Start, Sent, Event}
use Rattle.text.specs.declared.line.BadField.{BadField}
use Rattle.text.specs.Line.{refused, line_of}
use Rattle.rows.specs.declared.row.Row.{Row}
use Rattle.trace.specs.declared.replay.Replay.{Replay}
use Rattle.trace.specs.Placed.{early, placed_at}
use Rattle.trace.specs.Tally.{one_more}
use Rattle.trace.specs.Replay.{begin, stepped}
use Rattle.trace.specs.Stream.{after}
use Rattle.mending.specs.Mend.{gives_six, field_of, Entry, kept_lines, listed_lines}
use Rattle.mending.specs.Laws.{row_list, other_rows, aside, Rising}
use Rattle.mending.proofs.Steps.{is_refused, bare, goes, Alike, same_step}

-- ---- a line gives 6
pub six_is : (r : Replay) (l : List ℕ) → gives_six r l ≡ is_refused (placed_at r.started (line_of l))
unfolding gives_six stepped
six_is r l = (goes r (line_of l)).six

refused_some : (l : Result Line BadField) → is_refused l ≡ true → (k : ℕ) × (l ≡ refused k)
refused_some (Err b) h = (b.field, refl)
refused_some (Ok l) h = absurd (let z : ◌≡◌ {A = ℕ} 0 1 = cc in omega arith)

pub six_some : (r : Replay) (l : List ℕ) → gives_six r l ≡ true → (k : ℕ) × (placed_at r.started (line_of l) ≡ refused k)
six_some r l h = refused_some (placed_at r.started (line_of l)) (sym (six_is r l) ∙ h)

-- the field that is named where it stands is the line's own
pub placed_field : (t : Bool) (l : Result Line BadField) → field_of (placed_at t l) ≡ field_of l
unfolding placed_at early
placed_field true l = refl
placed_field false (Err b) = refl
placed_field false (Ok (Start time rtt)) = refl
placed_field false (Ok (Sent time inflight packet bytes)) = refl
placed_field false (Ok (Event e)) = refl

pub six_where : (r : Replay) (l : List ℕ) (k : ℕ) → placed_at r.started (line_of l) ≡ refused k → (gives_six r l ≡ true) × (field_of (line_of l) ≡ k)
six_where r l k e = (six_is r l ∙ ap is_refused e, sym (placed_field r.started (line_of l)) ∙ ap field_of e)

-- ---- two parts
pub kept_parts : (r : Replay) (a b : List (List ℕ)) → kept_lines r (a ++ b) ≡ kept_lines r a ++ kept_lines (after r a) b
unfolding kept_lines after
kept_parts r [] b = refl
kept_parts r (l ∷ a) b = go (gives_six r l) (kept_parts (stepped r l).replay a b)
  where
    next : Replay
    next = (stepped r l).replay

    go : (t : Bool) → kept_lines next (a ++ b) ≡ kept_lines next a ++ kept_lines (after next a) b → cond t (kept_lines next (a ++ b)) (l ∷ kept_lines next (a ++ b)) ≡ cond t (kept_lines next a) (l ∷ kept_lines next a) ++ kept_lines (after next a) b
    go true h = h
    go false h = ap (λ (k : List (List ℕ)). l ∷ k) h

pub listed_parts : (r : Replay) (a b : List (List ℕ)) → listed_lines r (a ++ b) ≡ listed_lines r a ++ listed_lines (after r a) b
unfolding listed_lines after
listed_parts r [] b = refl
listed_parts r (l ∷ a) b = go (gives_six r l) (listed_parts (stepped r l).replay a b)
  where
    next : Replay
    next = (stepped r l).replay

    entry : Entry
    entry = record { line = (stepped r l).row.line; field = field_of (line_of l) }

    go : (t : Bool) → listed_lines next (a ++ b) ≡ listed_lines next a ++ listed_lines (after next a) b → cond t (entry ∷ listed_lines next (a ++ b)) (listed_lines next (a ++ b)) ≡ cond t (entry ∷ listed_lines next a) (listed_lines next a) ++ listed_lines (after next a) b
    go true h = ap (λ (k : List Entry). entry ∷ k) h
    go false h = h

-- ---- together they are as many as the lines
pub sum : (r : Replay) (ls : List (List ℕ)) → length (kept_lines r ls) + length (listed_lines r ls) ≡ length ls
unfolding kept_lines listed_lines
sum r [] = refl
sum r (l ∷ ls) = go (gives_six r l) (sum (stepped r l).replay ls)
  where
    next : Replay
    next = (stepped r l).replay

    entry : Entry
    entry = record { line = (stepped r l).row.line; field = field_of (line_of l) }

    go : (t : Bool) → length (kept_lines next ls) + length (listed_lines next ls) ≡ length ls → length (cond t (kept_lines next ls) (l ∷ kept_lines next ls)) + length (cond t (entry ∷ listed_lines next ls) (listed_lines next ls)) ≡ suc (length ls)
    go true h = omega (arith, h)
    go false h = omega (arith, h)

-- ---- none is listed: all are kept
pub sound : (r : Replay) (ls : List (List ℕ)) → listed_lines r ls ≡ [] → kept_lines r ls ≡ ls
unfolding kept_lines listed_lines
sound r [] h = refl
sound r (l ∷ ls) h = go (gives_six r l) h (sound (stepped r l).replay ls)
  where
    next : Replay
    next = (stepped r l).replay

    entry : Entry
    entry = record { line = (stepped r l).row.line; field = field_of (line_of l) }

    go : (t : Bool) → cond t (entry ∷ listed_lines next ls) (listed_lines next ls) ≡ [] → (listed_lines next ls ≡ [] → kept_lines next ls ≡ ls) → cond t (kept_lines next ls) (l ∷ kept_lines next ls) ≡ l ∷ ls
    go true e again = absurd (let z : ◌≡◌ {A = ℕ} 0 1 = cc in omega arith)
    go false e again = ap (λ (k : List (List ℕ)). l ∷ k) (again e)

-- ---- numbers
pub more : (n : ℕ) → n < 2 ^ 64 - 1 → one_more n ≡ n + 1
unfolding one_more
more n h = rw (ne_eqb n (2 ^ 64 - 1) (λ e. absurd (omega (arith, h, e))))

row_number : (r : Replay) (l : List ℕ) → (stepped r l).row.line ≡ one_more r.line
unfolding stepped
row_number r l = (goes r (line_of l)).number

next_number : (r : Replay) (l : List ℕ) → (stepped r l).replay.line ≡ one_more r.line
unfolding stepped
next_number r l = (goes r (line_of l)).line

after_number : (r : Replay) (ls : List (List ℕ)) → r.line + length ls < 2 ^ 64 → (after r ls).line ≡ r.line + length ls
unfolding after
after_number r [] h = omega arith
after_number r (l ∷ ls) h =
    let n : (stepped r l).replay.line ≡ r.line + 1 = next_number r l ∙ more r.line (omega (arith, h)) in
    let again = after_number (stepped r l).replay ls (omega (arith, h, n)) in
    again ∙ omega (arith, n)

begin_number : begin.line ≡ 0
unfolding begin
begin_number = refl

pub place : (ls : List (List ℕ)) (l : List ℕ) → length ls < 2 ^ 64 - 1 → (stepped (after begin ls) l).row.line ≡ length ls + 1
place ls l h =
    let z = begin_number in
    let n = after_number begin ls (omega (arith, h, z)) in
    row_number (after begin ls) l ∙ more (after begin ls).line (omega (arith, n, z, h)) ∙ omega (arith, n, z)

rises : (r : Replay) (n : ℕ) (ls : List (List ℕ)) → n ≤ r.line → r.line + length ls < 2 ^ 64 → Rising n (listed_lines r ls)
unfolding listed_lines
rises r n [] g h = tt
rises r n (l ∷ ls) g h =
    let w : (stepped r l).row.line ≡ r.line + 1 = row_number r l ∙ more r.line (omega (arith, h)) in
    let q : (stepped r l).replay.line ≡ r.line + 1 = next_number r l ∙ more r.line (omega (arith, h)) in
    go (gives_six r l) (omega (arith, w, g)) (rises (stepped r l).replay (stepped r l).row.line ls (omega (arith, w, q)) (omega (arith, q, h))) (rises (stepped r l).replay n ls (omega (arith, q, g)) (omega (arith, q, h)))
  where
    next : Replay
    next = (stepped r l).replay

    entry : Entry
    entry = record { line = (stepped r l).row.line; field = field_of (line_of l) }

    go : (t : Bool) → n < (stepped r l).row.line → Rising (stepped r l).row.line (listed_lines next ls) → Rising n (listed_lines next ls) → Rising n (cond t (entry ∷ listed_lines next ls) (listed_lines next ls))
    go true a b c = (a, b)
    go false a b c = c

pub rising : (ls : List (List ℕ)) → length ls < 2 ^ 64 → Rising 0 (listed_lines begin ls)
rising ls h = let z = begin_number in rises begin 0 ls (omega (arith, z)) (omega (arith, z, h))

-- ---- replayed again: q stands where r does, line number and tally aside
step_alike : (r q : Replay) (l : List ℕ) → bare r ≡ bare q → Alike (stepped r l) (stepped q l)
unfolding stepped
step_alike r q l e = same_step r q (line_of l) e

six_alike : (r q : Replay) (l : List ℕ) → bare r ≡ bare q → gives_six q l ≡ gives_six r l
unfolding gives_six
six_alike r q l e = ap (λ (w : Row). eqb w.refusal 6) (sym (step_alike r q l e).row)

dropped : (r : Replay) (l : List ℕ) → gives_six r l ≡ true → bare (stepped r l).replay ≡ bare r
unfolding stepped
dropped r l h = (goes r (line_of l)).dropped (sym (six_is r l) ∙ h)

pub record Again (r q : Replay) (ls : List (List ℕ)) : Type 0 where
  pub rows : map aside (row_list q (kept_lines r ls)) ≡ map aside (other_rows r ls)
  pub kept : kept_lines q (kept_lines r ls) ≡ kept_lines r ls
  pub listed : listed_lines q (kept_lines r ls) ≡ []

again_one : (r q : Replay) (l : List ℕ) (ls k : List (List ℕ)) → bare r ≡ bare q → gives_six r l ≡ false → k ≡ kept_lines (stepped r l).replay ls → Again (stepped r l).replay (stepped q l).replay ls
    → (map aside (row_list q (l ∷ k)) ≡ map aside ((stepped r l).row ∷ other_rows (stepped r l).replay ls)) × (kept_lines q (l ∷ k) ≡ l ∷ k) × (listed_lines q (l ∷ k) ≡ [])
unfolding row_list kept_lines listed_lines
again_one r q l ls k e f ke h =
    let six : gives_six q l ≡ false = six_alike r q l e ∙ f in (
      ap₂ (λ (w : Row) (ws : List Row). w ∷ ws) (sym (step_alike r q l e).row) (rw ke h.rows),
      rw six (ap (λ (x : List (List ℕ)). l ∷ x) (rw ke h.kept)),
      rw six (rw ke h.listed),
    )

pub again : (r q : Replay) (ls : List (List ℕ)) → bare r ≡ bare q → Again r q ls
unfolding row_list kept_lines listed_lines other_rows
again r q [] e = record { rows = refl; kept = refl; listed = refl }
again r q (l ∷ ls) e =
    let x = go (gives_six r l) refl (λ h. again (stepped r l).replay q ls (dropped r l h ∙ e)) (again (stepped r l).replay (stepped q l).replay ls (step_alike r q l e).replay) in
    record { rows = x.0; kept = x.1; listed = x.2 }
  where
    next : Replay
    next = (stepped r l).replay

    k : List (List ℕ)
    k = kept_lines next ls

    go : (t : Bool) → gives_six r l ≡ t → (gives_six r l ≡ true → Again next q ls) → Again next (stepped q l).replay ls
        → (map aside (row_list q (cond t k (l ∷ k))) ≡ map aside (cond t (other_rows next ls) ((stepped r l).row ∷ other_rows next ls))) × (kept_lines q (cond t k (l ∷ k)) ≡ cond t k (l ∷ k)) × (listed_lines q (cond t k (l ∷ k)) ≡ [])
    go true f drop on = let h = drop f in (h.rows, h.kept, h.listed)
    go false f drop on = again_one r q l ls k e f refl on
