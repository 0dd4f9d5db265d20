-- What `sift` has sifted and what is left is what there was. Assumes nothing.
use Prim.Native.Nat.{ℕ, ◌+◌, ◌≤◌, ◌<◌}
use mathlib.Core.Bool.{Bool, true, false, cond}
use mathlib.Core.List.{List, [], ◌∷◌, ◌++◌, append_assoc}
use mathlib.Core.Path.{◌≡◌, refl, sym, ap, ◌∙◌}
use native.Mathlib.Omega.{arith}
use lib.ListN.{length, drop}
use lib.Seq.{drop-drop}
use borrow.Author.Tests.{le-leb}
use Rattle.trace.specs.Stream.{lines_from, rest_from}
use Rattle.trace.proofs.Ran.{after_first}
use Rattle.mending.specs.declared.mend.Mend.{Mend}
use Rattle.mending.specs.Sorted.{sorted, kept_text, list_text}
use Rattle.mending.specs.Sift.{Sift, sifting, sifted, has_room, sift_of}
use Rattle.mending.specs.Pieces.{mend_after, kept_texts, list_texts}

-- x was, y is after a run of the lines of s from x on
pub record On (s : List ℕ) (x y : Sift) : Type 0 where
  pub kept : x.kept ++ kept_texts x.mend (lines_from [] (drop x.at s)) ≡ y.kept ++ kept_texts y.mend (lines_from [] (drop y.at s))
  pub list : x.list ++ list_texts x.mend (lines_from [] (drop x.at s)) ≡ y.list ++ list_texts y.mend (lines_from [] (drop y.at s))
  pub mend : mend_after x.mend (lines_from [] (drop x.at s)) ≡ mend_after y.mend (lines_from [] (drop y.at s))
  pub rest : rest_from [] (drop x.at s) ≡ rest_from [] (drop y.at s)
  pub up : x.at ≤ y.at

on_same : (s : List ℕ) (x : Sift) → On s x x
on_same s x = record { kept = refl; list = refl; mend = refl; rest = refl; up = omega arith }

on_on : (s : List ℕ) (x y z : Sift) → On s x y → On s y z → On s x z
on_on s x y z f g = record { kept = f.kept ∙ g.kept; list = f.list ∙ g.list; mend = f.mend ∙ g.mend; rest = f.rest ∙ g.rest; up = let a = f.up in let b = g.up in omega (arith, a, b) }

-- one line
on_one : (s l : List ℕ) (ls : List (List ℕ)) (x : Sift) → lines_from [] (drop x.at s) ≡ l ∷ ls → On s x (sifted x l) × (lines_from [] (drop (x.at + length l) s) ≡ ls) × (0 < length l)
unfolding sifted kept_texts list_texts mend_after
on_one s l ls x e =
    let f = after_first (drop x.at s) l ls e in
    let z : drop (length l) (drop x.at s) ≡ drop (x.at + length l) s = drop-drop (length l) x.at s in
    let next : lines_from [] (drop (x.at + length l) s) ≡ ls = ap (lines_from []) (sym z) ∙ f.0 in (
      record {
        kept = rw (e, next) (sym (append_assoc x.kept (kept_text (sorted x.mend l) l) (kept_texts (sorted x.mend l).mend ls)));
        list = rw (e, next) (sym (append_assoc x.list (list_text (sorted x.mend l)) (list_texts (sorted x.mend l).mend ls)));
        mend = rw (e, next) refl;
        rest = f.1 ∙ ap (rest_from []) z;
        up = omega arith;
      },
      next,
      f.2,
    )

module _ (room places : ℕ) (s : List ℕ) where
  sift_on : (ls : List (List ℕ)) (x : Sift) → lines_from [] (drop x.at s) ≡ ls → On s x (sift_of room places ls x)
  unfolding sift_of sifted
  sift_on [] x e = on_same s x
  sift_on (l ∷ ls) x e = let f = on_one s l ls x e in go (has_room room places x) f.0 (sift_on ls (sifted x l) f.1)
    where
      go : (t : Bool) → On s x (sifted x l) → On s (sifted x l) (sift_of room places ls (sifted x l)) → On s x (cond t (sift_of room places ls (sifted x l)) x)
      go true f g = on_on s x (sifted x l) (sift_of room places ls (sifted x l)) f g
      go false f g = on_same s x

  -- a run that sifts no line has found none
  pub stops : (m : Mend) (at : ℕ) (ls : List (List ℕ)) → 4096 ≤ room → 43 ≤ places → lines_from [] (drop at s) ≡ ls → (sift_of room places ls (sifting m at)).at ≤ at → ls ≡ []
  unfolding sift_of sifted has_room
  stops m at [] h k e g = refl
  stops m at (l ∷ ls) h k e g = absurd (moves (rw (le-leb (0 + 4096) room (omega arith), le-leb (0 + 43) places (omega arith)) at g))
    where
      f : On s (sifting m at) (sifted (sifting m at) l) × (lines_from [] (drop (at + length l) s) ≡ ls) × (0 < length l)
      f = on_one s l ls (sifting m at) e

      moves : (sift_of room places ls (sifted (sifting m at) l)).at ≤ at → ⊥
      moves q = let u = (sift_on ls (sifted (sifting m at) l) f.1).up in let w = f.2 in let v : at + length l ≤ (sift_of room places ls (sifted (sifting m at) l)).at = u in absurd (omega (arith, q, v, w))

  pub run_on : (m : Mend) (at : ℕ) → On s (sifting m at) (sift_of room places (lines_from [] (drop at s)) (sifting m at))
  run_on m at = sift_on (lines_from [] (drop at s)) (sifting m at) refl
