-- What the program writes for the pieces of an input is what it would write for the whole. Assumes nothing.
use Prim.Native.Nat.{ℕ, ◌≤◌}
use mathlib.Core.List.{List, [], ◌∷◌, ◌++◌, append_assoc}
use mathlib.Core.Path.{◌≡◌, refl, sym, ap, ap₂, ◌∙◌}
use native.Mathlib.Omega.{arith}
use lib.ListN.{drop}
use Rattle.text.specs.Text.{bytes}
use Rattle.text.specs.Word.{same}
use Rattle.rows.specs.Row.{row_text}
use Rattle.trace.specs.declared.replay.Replay.{Replay}
use Rattle.trace.specs.Replay.{begin, stepped}
use Rattle.trace.specs.Stream.{lines_from, rest_from, after, rows_of, kept_of}
use Rattle.trace.specs.Output.{input_header, output_header, last_row, last_replay, rows_after, replay_after, output_of}
use Rattle.trace.specs.Pieces.{joined, run_text, AllAnswered, over, more, Fed, none, piece}
use Rattle.trace.proofs.Pieces.{lines_in, rest_in}
use Rattle.trace.proofs.Ran.{ran_on}
use Rattle.trace.proofs.Whole.{any_cut_rows, any_cut_state, any_cut_rest, none_rest, held_lines, held_rest, kept_none, last_alike}

-- ---- two lists of lines, one after the other
rows_append : (r : Replay) (a b : List (List ℕ)) → rows_of r (a ++ b) ≡ rows_of r a ++ rows_of (after r a) b
unfolding rows_of after
rows_append r [] b = refl
rows_append r (l ∷ a) b = ap (λ (t : List ℕ). row_text (stepped r l).row ++ t) (rows_append (stepped r l).replay a b) ∙ sym (append_assoc (row_text (stepped r l).row) (rows_of (stepped r l).replay a) _)

after_append : (r : Replay) (a b : List (List ℕ)) → after r (a ++ b) ≡ after (after r a) b
unfolding after
after_append r [] b = refl
after_append r (l ∷ a) b = after_append (stepped r l).replay a b

-- ---- run after run
record All (s : List ℕ) (r : Replay) (at : ℕ) (text : List ℕ) (q : Replay) (end : ℕ) : Type 0 where
  pub rows : text ≡ rows_of r (lines_from [] (drop at s))
  pub replay : q ≡ after r (lines_from [] (drop at s))
  pub ended : lines_from [] (drop end s) ≡ []
  pub rest : rest_from [] (drop at s) ≡ rest_from [] (drop end s)

module _ (room : ℕ) (fits : 148 ≤ room) where
  all : (s : List ℕ) {r : Replay} {at : ℕ} {text : List ℕ} {q : Replay} {end : ℕ} → AllAnswered s room r at text q end → All s r at text q end
  unfolding rows_of after
  all s {r} {at} (over h) =
      let z : lines_from [] (drop at s) ≡ [] = (ran_on s room (lines_from [] (drop at s)) r at 0 refl).stops h (omega (arith, fits)) in
      record { rows = sym (ap (rows_of r) z); replay = sym (ap (after r) z); ended = z; rest = refl }
  all s {r} {at} (more h a) =
      let on = ran_on s room (lines_from [] (drop at s)) r at 0 refl in
      let rest = all s a in
      record {
        rows = ap (λ (t : List ℕ). run_text r s at room ++ t) rest.rows ∙ sym on.rows;
        replay = rest.replay ∙ sym on.replay;
        ended = rest.ended;
        rest = on.rest ∙ rest.rest;
      }

  -- ---- piece after piece
  record Held (r : Replay) (held : List ℕ) (cs : List (List ℕ)) (text : List ℕ) (q : Replay) (left : List ℕ) : Type 0 where
    pub rows : text ≡ rows_of r (lines_in held cs)
    pub replay : q ≡ after r (lines_in held cs)
    pub left_is : left ≡ rest_in held cs

  one : (held c : List ℕ) → lines_from [] held ≡ [] → (r p : Replay) (text : List ℕ) (end : ℕ) → AllAnswered (held ++ c) room r 0 text p end
      → (text ≡ rows_of r (lines_from held c)) × (p ≡ after r (lines_from held c)) × (drop end (held ++ c) ≡ rest_from held c) × (lines_from [] (drop end (held ++ c)) ≡ [])
  one held c h r p text end a =
      let x = all (held ++ c) a in
      let lines = held_lines held c h in
      (x.rows ∙ ap (rows_of r) lines, x.replay ∙ ap (after r) lines, sym (none_rest [] (drop end (held ++ c)) x.ended) ∙ sym x.rest ∙ held_rest held c h, x.ended)

  fed : {r : Replay} {held : List ℕ} {cs : List (List ℕ)} {text : List ℕ} {q : Replay} {left : List ℕ} → lines_from [] held ≡ [] → Fed room r held cs text q left → Held r held cs text q left
  unfolding rows_of after lines_in rest_in
  fed h none = record { rows = refl; replay = refl; left_is = refl }
  fed {r} {held} h (piece {p = p} {q = q} {c = c} {left = left} {text = text} {next = next} {cs = cs} {end = end} a f) =
      let x = one held c h r p text end a in
      let rest = fed (kept_none (drop end (held ++ c)) x.3) f in
      let kept = ap kept_of x.2 in
      record {
        rows = ap₂ (λ (t u : List ℕ). t ++ u) x.0 (rest.rows ∙ ap₂ (λ (k : Replay) (b : List ℕ). rows_of k (lines_in b cs)) x.1 kept) ∙ sym (rows_append r (lines_from held c) (lines_in (kept_of (rest_from held c)) cs));
        replay = rest.replay ∙ ap₂ (λ (k : Replay) (b : List ℕ). after k (lines_in b cs)) x.1 kept ∙ sym (after_append r (lines_from held c) (lines_in (kept_of (rest_from held c)) cs));
        left_is = rest.left_is ∙ ap (λ (b : List ℕ). rest_in b cs) kept;
      }

  no_lines : lines_from [] [] ≡ []
  unfolding lines_from
  no_lines = refl

  pub all_pieces : (cs : List (List ℕ)) (text held : List ℕ) (r : Replay) → Fed room begin [] cs text r held → (text ++ last_row r held ≡ rows_after (joined cs)) × (last_replay r held ≡ replay_after (joined cs))
  unfolding rows_after replay_after
  all_pieces cs text held r f =
      let x = fed no_lines f in
      let end = after begin (lines_from [] (joined cs)) in
      let replay : r ≡ end = x.replay ∙ any_cut_state begin cs in
      let last = last_alike end (rest_in [] cs) (rest_from [] (joined cs)) (any_cut_rest cs) in (
        ap₂ (λ (t u : List ℕ). t ++ u) (x.rows ∙ any_cut_rows begin cs) (ap₂ last_row replay x.left_is ∙ last.0),
        ap₂ last_replay replay x.left_is ∙ last.1,
      )

-- ---- behind the right header it is the whole output
header_whole : (t : List ℕ) → output_of (input_header ++ t) ≡ output_header ++ rows_after t
unfolding output_of bytes same
header_whole t = refl

pub whole_output : (room : ℕ) (cs : List (List ℕ)) (text held : List ℕ) (r : Replay) → 148 ≤ room → Fed room begin [] cs text r held → output_header ++ (text ++ last_row r held) ≡ output_of (input_header ++ joined cs)
whole_output room cs text held r fits f = ap (λ (t : List ℕ). output_header ++ t) (all_pieces room fits cs text held r f).0 ∙ sym (header_whole (joined cs))
