-- What the code keeps and lists is what the replay says. Assumes nothing.
use Rattle.std.specs.Prelude.{Result, Ok, Err}
use Prim.Native.Nat.{ℕ, suc, ◌+◌, ◌^◌, ◌<◌}
use mathlib.Core.Bool.{Bool, true, false, cond}
use mathlib.Core.List.{List, [], ◌∷◌, ◌++◌}
use mathlib.Core.Path.{◌≡◌, refl, sym, ap, ap₂, ◌∙◌}
use native.Mathlib.Omega.{arith}
use lib.ListN.{length}
use Rattle.text.specs.declared.line.Line.{Line}
use Rattle.text.specs.declared.line.Line.TheVariants.{Start, Sent, Event}
use Rattle.text.specs.declared.line.BadField.{BadField}
use Rattle.text.specs.Line.{line_of}
use Rattle.rows.specs.Entry.{entry_text}
use Rattle.trace.specs.declared.replay.Replay.{Replay}
use Rattle.trace.specs.Placed.{placed_at}
use Rattle.trace.specs.Tally.{one_more}
use Rattle.trace.specs.Replay.{begin, stepped}
use Rattle.trace.specs.Pieces.{joined}
use Rattle.mending.specs.declared.mend.Mend.{Mend}
use Rattle.mending.specs.declared.mend.Sorted.{Sorted}
use Rattle.mending.specs.Mend.{gives_six, field_of, Entry, kept_lines, listed_lines, entries_text}
use Rattle.mending.specs.Sorted.{unread, keeps, lists, sorted_here, sorted_as, sorted, kept_text, list_text}
use Rattle.mending.specs.Pieces.{mend_after, kept_texts, list_texts}
use Rattle.mending.proofs.Steps.{is_refused, started_after, or_false, goes}
use Rattle.mending.proofs.Kept.{six_is, placed_field, more}

-- the same number of lines, and a start accepted or not
pub record Beside (m : Mend) (r : Replay) : Type 0 where
  pub line : m.line ≡ r.line
  pub started : m.started ≡ r.started

pub beside_begin : Beside unread begin
unfolding begin
beside_begin = record { line = refl; started = refl }

-- the reply to a line that is refused, or not, with this first field at fault
abbrev pub reply_of : (t : Bool) (field : ℕ) → Result (Unit {0}) BadField
reply_of true field = Err record { field = field }
reply_of false field = Ok tt

-- a line that is sorted where it stands
record Here (m : Mend) (p : Result Line BadField) (x : Sorted) : Type 0 where
  pub reply : x.reply ≡ reply_of (is_refused p) (field_of p)
  pub line : x.mend.line ≡ one_more m.line
  pub started : x.mend.started ≡ started_after m.started p
  pub keeps_is : x.mend.kept ≡ cond (is_refused p) m.kept (one_more m.kept)
  pub lists_is : x.mend.listed ≡ cond (is_refused p) (one_more m.listed) m.listed

here : (m : Mend) (p : Result Line BadField) → Here m p (sorted_here m p)
unfolding sorted_here keeps lists
here m (Err b) = record { reply = refl; line = refl; started = refl; keeps_is = refl; lists_is = refl }
here m (Ok (Start time rtt)) = record { reply = refl; line = refl; started = refl; keeps_is = refl; lists_is = refl }
here m (Ok (Sent time inflight packet bytes)) = record { reply = refl; line = refl; started = or_false m.started; keeps_is = refl; lists_is = refl }
here m (Ok (Event e)) = record { reply = refl; line = refl; started = or_false m.started; keeps_is = refl; lists_is = refl }

-- and so beside a replay
pub record Sorts (m : Mend) (r : Replay) (l : List ℕ) (x : Sorted) : Type 0 where
  pub reply : x.reply ≡ reply_of (gives_six r l) (field_of (line_of l))
  pub number : x.mend.line ≡ (stepped r l).row.line
  pub next : Beside x.mend (stepped r l).replay
  pub keeps_is : x.mend.kept ≡ cond (gives_six r l) m.kept (one_more m.kept)
  pub lists_is : x.mend.listed ≡ cond (gives_six r l) (one_more m.listed) m.listed

pub sorts : (m : Mend) (r : Replay) (l : List ℕ) → Beside m r → Sorts m r l (sorted m l)
unfolding sorted sorted_as stepped
sorts m r l b =
    let p = placed_at r.started (line_of l) in
    let e : placed_at m.started (line_of l) ≡ p = ap (λ (t : Bool). placed_at t (line_of l)) b.started in
    let x = here m (placed_at m.started (line_of l)) in
    let six : is_refused (placed_at m.started (line_of l)) ≡ gives_six r l = ap is_refused e ∙ sym (six_is r l) in
    let g = goes r (line_of l) in
    record {
      reply = x.reply ∙ ap₂ reply_of six (placed_field m.started (line_of l));
      number = x.line ∙ ap one_more b.line ∙ sym g.number;
      next = record {
        line = x.line ∙ ap one_more b.line ∙ sym g.line;
        started = x.started ∙ ap₂ started_after b.started e ∙ sym g.started;
      };
      keeps_is = x.keeps_is ∙ ap (λ (t : Bool). cond t m.kept (one_more m.kept)) six;
      lists_is = x.lists_is ∙ ap (λ (t : Bool). cond t (one_more m.listed) m.listed) six;
    }

-- ---- what is written
kept_of_lem : (x : Sorted) (l : List ℕ) (field : ℕ) (t : Bool) → x.reply ≡ reply_of t field → kept_text x l ≡ cond t [] l
unfolding kept_text
kept_of_lem x l field true e = rw e
kept_of_lem x l field false e = rw e

list_of : (x : Sorted) (line field : ℕ) (t : Bool) → x.reply ≡ reply_of t field → x.mend.line ≡ line → list_text x ≡ cond t (entry_text line field) []
unfolding list_text
list_of x line field true e f = rw (e, f)
list_of x line field false e f = rw e

pub kept_follows : (m : Mend) (r : Replay) (ls : List (List ℕ)) → Beside m r → kept_texts m ls ≡ joined (kept_lines r ls)
unfolding kept_texts kept_lines joined
kept_follows m r [] b = refl
kept_follows m r (l ∷ ls) b =
    let x = sorts m r l b in
    ap₂ (λ (s t : List ℕ). s ++ t) (kept_of_lem (sorted m l) l (field_of (line_of l)) (gives_six r l) x.reply) (kept_follows (sorted m l).mend (stepped r l).replay ls x.next) ∙ go (gives_six r l)
  where
    rest : List (List ℕ)
    rest = kept_lines (stepped r l).replay ls

    go : (t : Bool) → cond t [] l ++ joined rest ≡ joined (cond t rest (l ∷ rest))
    go true = refl
    go false = refl

pub list_follows : (m : Mend) (r : Replay) (ls : List (List ℕ)) → Beside m r → list_texts m ls ≡ entries_text (listed_lines r ls)
unfolding list_texts listed_lines entries_text
list_follows m r [] b = refl
list_follows m r (l ∷ ls) b =
    let x = sorts m r l b in
    ap₂ (λ (s t : List ℕ). s ++ t) (list_of (sorted m l) (stepped r l).row.line (field_of (line_of l)) (gives_six r l) x.reply x.number) (list_follows (sorted m l).mend (stepped r l).replay ls x.next) ∙ go (gives_six r l)
  where
    rest : List Entry
    rest = listed_lines (stepped r l).replay ls

    entry : Entry
    entry = record { line = (stepped r l).row.line; field = field_of (line_of l) }

    go : (t : Bool) → cond t (entry_text (stepped r l).row.line (field_of (line_of l))) [] ++ entries_text rest ≡ entries_text (cond t (entry ∷ rest) rest)
    go true = refl
    go false = refl

-- ---- what is counted
sorted_line : (m : Mend) (l : List ℕ) → (sorted m l).mend.line ≡ one_more m.line
unfolding sorted sorted_as
sorted_line m l = (here m (placed_at m.started (line_of l))).line

pub record Counts (m : Mend) (n : Mend) (r : Replay) (ls : List (List ℕ)) : Type 0 where
  pub line : n.line ≡ m.line + length ls
  pub kept : n.kept ≡ m.kept + length (kept_lines r ls)
  pub listed : n.listed ≡ m.listed + length (listed_lines r ls)

count_here : (m : Mend) (r : Replay) (l : List ℕ) → Beside m r → m.kept + m.listed ≡ m.line → m.line + 1 < 2 ^ 64
    → let n = (sorted m l).mend in (n.line ≡ m.line + 1) × (n.kept ≡ m.kept + cond (gives_six r l) 0 1) × (n.listed ≡ m.listed + cond (gives_six r l) 1 0)
count_here m r l b s h =
    let x = sorts m r l b in (
      sorted_line m l ∙ more m.line (omega (arith, h)),
      x.keeps_is ∙ kept (gives_six r l),
      x.lists_is ∙ listed (gives_six r l),
    )
  where
    kept : (t : Bool) → cond t m.kept (one_more m.kept) ≡ m.kept + cond t 0 1
    kept true = omega arith
    kept false = more m.kept (omega (arith, s, h))

    listed : (t : Bool) → cond t (one_more m.listed) m.listed ≡ m.listed + cond t 1 0
    listed true = more m.listed (omega (arith, s, h))
    listed false = omega arith

pub count_follows : (m : Mend) (r : Replay) (ls : List (List ℕ)) → Beside m r → m.kept + m.listed ≡ m.line → m.line + length ls < 2 ^ 64 → Counts m (mend_after m ls) r ls
unfolding mend_after kept_lines listed_lines
count_follows m r [] b s h = record { line = omega arith; kept = omega arith; listed = omega arith }
count_follows m r (l ∷ ls) b s h =
    let c = count_here m r l b s (omega (arith, h)) in
    let x = go (gives_six r l) c.0 c.1 c.2 (λ s h. count_follows (sorted m l).mend (stepped r l).replay ls (sorts m r l b).next s h) in
    record { line = x.0; kept = x.1; listed = x.2 }
  where
    n : Mend
    n = (sorted m l).mend

    next : Replay
    next = (stepped r l).replay

    entry : Entry
    entry = record { line = (stepped r l).row.line; field = field_of (line_of l) }

    go : (t : Bool) → n.line ≡ m.line + 1 → n.kept ≡ m.kept + cond t 0 1 → n.listed ≡ m.listed + cond t 1 0 → (n.kept + n.listed ≡ n.line → n.line + length ls < 2 ^ 64 → Counts n (mend_after n ls) next ls)
        → ((mend_after n ls).line ≡ m.line + suc (length ls)) × ((mend_after n ls).kept ≡ m.kept + length (cond t (kept_lines next ls) (l ∷ kept_lines next ls))) × ((mend_after n ls).listed ≡ m.listed + length (cond t (entry ∷ listed_lines next ls) (listed_lines next ls)))
    go true x y z again = let c = again (omega (arith, x, y, z, s)) (omega (arith, x, h)) in (omega (arith, c.line, x), omega (arith, c.kept, y), omega (arith, c.listed, z))
    go false x y z again = let c = again (omega (arith, x, y, z, s)) (omega (arith, x, h)) in (omega (arith, c.line, x), omega (arith, c.kept, y), omega (arith, c.listed, z))
