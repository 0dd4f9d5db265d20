-- Fields split at commas, one after the other; and the first at fault. Assumes nothing.
use Rattle.std.specs.Prelude.{None, Some}
use Rattle.std.specs.List.{slice_split, onto_first}
use Prim.Native.Nat.{ℕ, suc, ◌+◌, ◌<◌, ◌≤◌}
use mathlib.Core.Path.{◌≡◌, refl, sym, ap, ◌∙◌}
use mathlib.Core.Bool.{Bool, true, false, cond}
use mathlib.Core.List.{List, [], ◌∷◌}
use native.Mathlib.Omega.{arith}
use native.Mathlib.Numerals.{add-one}
use lib.Dec.{eqb}
use lib.ListN.{length, drop, get_or, drop_of_length-le}
use lib.Seq.{drop-cons}
use Rattle.text.specs.declared.number.Cell.{Cell}
use Rattle.text.specs.declared.number.Cell.TheVariants.{Empty}
use Rattle.text.specs.declared.fields.Rule.{Rule}
use Rattle.text.specs.declared.fields.Rule.TheVariants.{Blank}
use Rattle.text.specs.Inner.{before, upto}
use Rattle.text.specs.Fields.{onto, fields, accepts, fault_from}

-- the last field
pub fields_last : (t : List ℕ) → length (upto t) ≡ length t → fields t ≡ upto t ∷ []
unfolding fields before
fields_last [] h = refl
fields_last (b ∷ t) h = go (λ k. fields_last t k) (eqb b 44) refl
  where
    go : (length (upto t) ≡ length t → fields t ≡ upto t ∷ []) → (q : Bool) → eqb b 44 ≡ q → cond q ([] ∷ fields t) (onto b (fields t)) ≡ cond q [] (b ∷ upto t) ∷ []
    go again true e = absurd (let z : length (cond (eqb b 44) [] (b ∷ upto t)) ≡ 0 = rw e in omega arith)
    go again false e = rw (again (let z : length (cond (eqb b 44) [] (b ∷ upto t)) ≡ suc (length (upto t)) = rw e in omega arith))

-- a field with another after it
pub fields_more : (t : List ℕ) → length (upto t) < length t → fields t ≡ upto t ∷ fields (drop (suc (length (upto t))) t)
unfolding fields before
fields_more [] h = absurd (omega arith)
fields_more (b ∷ t) h = go (λ k. fields_more t k) (eqb b 44) refl
  where
    go : (length (upto t) < length t → fields t ≡ upto t ∷ fields (drop (suc (length (upto t))) t)) → (q : Bool) → eqb b 44 ≡ q → cond q ([] ∷ fields t) (onto b (fields t)) ≡ cond q [] (b ∷ upto t) ∷ fields (drop (length (cond q [] (b ∷ upto t))) t)
    go again true e = refl
    go again false e = rw (again (let z : length (cond (eqb b 44) [] (b ∷ upto t)) ≡ suc (length (upto t)) = rw e in omega arith))

-- the library's splitting gives the same
pub fields_split : (t : List ℕ) → slice_split (λ b. eqb b 44) t ≡ fields t
unfolding fields
fields_split [] = refl
fields_split (b ∷ t) = rw (fields_split t) (go (fields t))
  where
    go : (fs : List (List ℕ)) → cond (eqb b 44) ([] ∷ fs) (onto_first b fs) ≡ cond (eqb b 44) ([] ∷ fs) (onto b fs)
    go [] = refl
    go (f ∷ fs) = refl

-- the first field at fault
module _ (rs : List Rule) (cs : List Cell) (k : ℕ) (e : fault_from 2 rs cs ≡ fault_from (k + 2) (drop k rs) (drop k cs)) where
  pub fault_here : k < length rs → k < length cs → accepts (get_or rs k Blank) (get_or cs k Empty) ≡ false → Some (k + 2) ≡ fault_from 2 rs cs
  unfolding fault_from
  fault_here a b h = sym (e ∙ simp (drop-cons rs k Blank a, drop-cons cs k Empty b, h))

  pub fault_next : k < length rs → k < length cs → accepts (get_or rs k Blank) (get_or cs k Empty) ≡ true → fault_from 2 rs cs ≡ fault_from (k + 1 + 2) (drop (k + 1) rs) (drop (k + 1) cs)
  unfolding fault_from
  fault_next a b h =
      let q : suc (k + 2) ≡ k + 1 + 2 = omega arith in
      e ∙ simp (drop-cons rs k Blank a, drop-cons cs k Empty b, h, add-one k) (ap (λ (n : ℕ). fault_from n (drop (suc k) rs) (drop (suc k) cs)) (q ∙ ap (λ (n : ℕ). n + 2) (add-one k)))

  pub fault_none : length rs ≤ k → None ≡ fault_from 2 rs cs
  unfolding fault_from
  fault_none h = sym (e ∙ rw (drop_of_length-le rs h))
