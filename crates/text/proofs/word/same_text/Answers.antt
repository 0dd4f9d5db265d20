-- `same_text` meets its contract: the two definitions go over the bytes alike.
use Prim.Native.Nat.{ℕ}
use mathlib.Core.Path.{◌≡◌, refl, ap, ◌∙◌}
use mathlib.Core.List.{List, [], ◌∷◌}
use mathlib.Core.Bool.{◌&&◌}
use lib.Dec.{eqb}
use lib.Pointwise.{pointwise}
use Rattle.text.specs.Word.{same}
use Rattle.text.proofs.word.same_text.Goals as goal

alike : (a b : List ℕ) → pointwise eqb a b ≡ same a b
unfolding same
alike [] [] = refl
alike [] (b ∷ t) = refl
alike (a ∷ s) [] = refl
alike (a ∷ s) (b ∷ t) = ap (λ q. eqb a b && q) (alike s t)

pub returns : goal.returns
returns c = c.eq.ensures ∙ alike _ _
