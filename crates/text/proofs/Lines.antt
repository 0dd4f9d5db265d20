-- A line from its fields. Assumes nothing.
use Rattle.std.specs.Prelude.{Option, None, Some, Ok}
use Rattle.std.specs.List.{slice_range}
use Prim.Native.Nat.{ℕ, suc, ◌+◌, ◌-◌, ◌<◌, ◌≤◌}
use mathlib.Core.Path.{◌≡◌, refl, sym, ap, ◌∙◌}
use mathlib.Core.Bool.{Bool, true, false, cond, ◌&&◌}
use mathlib.Core.List.{List, [], ◌∷◌, map}
use native.Mathlib.Omega.{arith}
use native.Mathlib.Numerals.{add-one}
use lib.Dec.{eqb, leb}
use lib.ListN.{length, drop, take, get_or, drop_of_length-le, length-drop}
use lib.Pointwise.{pointwise}
use lib.Seq.{drop-cons, take_all}
use borrow.Author.Tests.{le-leb, lt-leb, leb-true, leb-false}
use Rattle.text.specs.declared.number.Cell.{Cell}
use Rattle.text.specs.declared.word.Kind.{Kind}
use Rattle.text.specs.Number.{cell_of}
use Rattle.text.specs.Inner.{before, upto, cells_of}
use Rattle.text.specs.Word.{kind_of}
use Rattle.text.specs.Fields.{fields, rules_of, fault_from}
use Rattle.text.specs.Line.{made_of, refused, unless, rest_of, fields_line, body_of, ended, line_of}
use Rattle.text.proofs.Numbers.{before_le, both_false}
use Rattle.text.proofs.Splits.{fields_last, fields_more}

pub take_upto : (s : List ℕ) → take (length (upto s)) s ≡ upto s
unfolding before
take_upto [] = refl
take_upto (b ∷ s) = go (take_upto s) (eqb b 44)
  where
    go : take (length (upto s)) s ≡ upto s → (q : Bool) → take (length (cond q [] (b ∷ upto s))) (b ∷ s) ≡ cond q [] (b ∷ upto s)
    go h true = refl
    go h false = ap (λ (l : List ℕ). b ∷ l) h

-- what ten fields give
pub cells_none : (fs : List (List ℕ)) → None ≡ cells_of fs → eqb (length fs) 10 ≡ false
unfolding cells_of
cells_none fs e = go (eqb (length fs) 10) e
  where
    go : (q : Bool) → None ≡ cond q (Some (map cell_of fs)) None → q ≡ false
    go true h = absurd (cc)
    go false h = refl

pub cells_some : (fs : List (List ℕ)) (cs : List Cell) → Some cs ≡ cells_of fs → (eqb (length fs) 10 ≡ true) × (cs ≡ map cell_of fs)
unfolding cells_of
cells_some fs cs e = go (eqb (length fs) 10) e
  where
    go : (q : Bool) → Some cs ≡ cond q (Some (map cell_of fs)) None → (q ≡ true) × (cs ≡ map cell_of fs)
    go true h = (refl, cc)
    go false h = absurd (cc)

-- all that follows an index is read
pub cells_past : (s : List ℕ) (at : ℕ) (o : Option (List Cell)) → o ≡ cells_of (fields (slice_range s at (length s))) → o ≡ cells_of (fields (drop at s))
cells_past s at o e = e ∙ ap (λ l. cells_of (fields l)) (take_all _ (drop at s) (omega (arith, length-drop at s)))

module _ (s : List ℕ) (end : ℕ) (e : end ≡ length (upto s)) where
  pub body_one : end ≡ length s → refused 0 ≡ body_of s
  unfolding body_of fields_line
  body_one h = sym (rw (fields_last s (sym e ∙ h)))

  pub end_within : (end ≡ length s → ⊥) → end < length s
  end_within h = let u = before_le 44 s in go (leb (length s) end) refl
    where
      go : (q : Bool) → leb (length s) end ≡ q → end < length s
      go true w = absurd (h (let g = leb-true (length s) end w in let u = before_le 44 s in omega arith))
      go false w = leb-false (length s) end w

  pub end_least : end ≤ length s
  end_least = let u = before_le 44 s in omega arith

  kind_is : kind_of (take end s) ≡ kind_of (upto s)
  kind_is = ap (λ (n : ℕ). kind_of (take n s)) e ∙ ap kind_of (take_upto s)

  module _ (h : end ≡ length s → ⊥) where
    body_more : fields s ≡ upto s ∷ fields (drop (end + 1) s)
    body_more =
        let w = end_within h in
        let q : suc (length (upto s)) ≡ end + 1 = omega arith in
        fields_more s (omega arith) ∙ ap (λ (n : ℕ). upto s ∷ fields (drop n s)) q

    pub body_count : None ≡ cells_of (fields (drop (end + 1) s)) → refused 0 ≡ body_of s
    unfolding body_of fields_line
    body_count f = sym (rw (body_more, cells_none _ f))

    module _ (cs : List Cell) (f : Some cs ≡ cells_of (fields (drop (end + 1) s))) where
      body_whole : body_of s ≡ rest_of (kind_of (take end s)) (fields (drop (end + 1) s))
      unfolding body_of fields_line
      body_whole = rw (body_more, (cells_some _ cs f).0, kind_is)

      pub body_unknown : None ≡ kind_of (take end s) → refused 1 ≡ body_of s
      unfolding rest_of
      body_unknown z = sym (body_whole ∙ rw (← z))

      module _ (k : Kind) (z : Some k ≡ kind_of (take end s)) where
        body_ruled : body_of s ≡ unless (fault_from 2 (rules_of k) cs) (made_of k cs)
        unfolding rest_of
        body_ruled = body_whole ∙ rw (← z, (cells_some _ cs f).1)

        pub body_fault : (n : ℕ) → Some n ≡ fault_from 2 (rules_of k) cs → refused n ≡ body_of s
        body_fault n g = sym (body_ruled ∙ rw (← g))

        pub body_made : None ≡ fault_from 2 (rules_of k) cs → Ok (made_of k cs) ≡ body_of s
        body_made g = sym (body_ruled ∙ rw (← g))

-- the end of a line
and_true : (a : Bool) → (a && true) ≡ a
and_true true = refl
and_true false = refl

ended_short : (s : List ℕ) → length s < 2 → pointwise eqb (drop (length s - 2) s) (13 ∷ 10 ∷ []) ≡ false
ended_short [] h = refl
ended_short (a ∷ []) h = both_false (eqb a 13)
ended_short (a ∷ b ∷ t) h = absurd (omega arith)

pub ended_is : (s : List ℕ) → pointwise eqb (drop (length s - 2) s) (13 ∷ 10 ∷ []) ≡ ended s
unfolding ended
ended_is s = go (leb 2 (length s)) refl
  where
    go : (q : Bool) → leb 2 (length s) ≡ q → pointwise eqb (drop (length s - 2) s) (13 ∷ 10 ∷ []) ≡ (q && (eqb (get_or s (length s - 2) 0) 13 && eqb (get_or s (length s - 2 + 1) 0) 10))
    go true w =
        let l = leb-true 2 (length s) w in
        let k = length s - 2 in
        let e : drop (suc (suc k)) s ≡ [] = drop_of_length-le s (let g : length s ≤ suc (suc k) = omega arith in g) in
        rw (drop-cons s k 0 (omega arith), drop-cons s (suc k) 0 (omega arith), e, add-one k) (ap (λ q. eqb (get_or s k 0) 13 && q) (and_true _))
    go false w = ended_short s (leb-false 2 (length s) w)

pub line_long : (s : List ℕ) → 4096 < length s → refused 0 ≡ line_of s
unfolding line_of
line_long s h = rw (lt-leb (length s) 4096 h)

pub line_unended : (s : List ℕ) → ended s ≡ false → refused 0 ≡ line_of s
unfolding line_of
line_unended s h = simp (h, both_false)

pub line_sound : (s : List ℕ) → length s ≤ 4096 → ended s ≡ true → body_of (take (length s - 2) s) ≡ line_of s
unfolding line_of
line_sound s a h = simp (le-leb (length s) 4096 a, h)
