-- Any cutting of a text into pieces gives the same lines. Assumes nothing.
use Prim.Native.Nat.{ℕ, ◌<◌}
use mathlib.Core.Path.{◌≡◌, refl, sym, ap, ◌∙◌}
use mathlib.Core.Bool.{Bool, true, false, cond}
use mathlib.Core.List.{List, [], ◌∷◌, ◌++◌, map}
use native.Mathlib.Omega.{arith}
use lib.Dec.{eqb, leb}
use lib.ListN.{length, take, length-append}
use mathlib.Core.List.{map-append}
use lib.Seq.{take_all, length-take-le}
use borrow.Author.Tests.{leb-true, leb-false}
use Rattle.trace.specs.Stream.{lines_from, rest_from, kept_of}
use Rattle.trace.specs.Pieces.{joined}

-- a text in two pieces
pub lines_append : (p a b : List ℕ) → lines_from p (a ++ b) ≡ lines_from p a ++ lines_from (rest_from p a) b
unfolding lines_from rest_from
lines_append p [] b = refl
lines_append p (x ∷ a) b = go (lines_append [] a b) (lines_append (p ++ (x ∷ [])) a b) (eqb x 10)
  where
    go : lines_from [] (a ++ b) ≡ lines_from [] a ++ lines_from (rest_from [] a) b → lines_from (p ++ (x ∷ [])) (a ++ b) ≡ lines_from (p ++ (x ∷ [])) a ++ lines_from (rest_from (p ++ (x ∷ [])) a) b
        → (q : Bool) → cond q ((p ++ (x ∷ [])) ∷ lines_from [] (a ++ b)) (lines_from (p ++ (x ∷ [])) (a ++ b)) ≡ cond q ((p ++ (x ∷ [])) ∷ lines_from [] a) (lines_from (p ++ (x ∷ [])) a) ++ lines_from (cond q (rest_from [] a) (rest_from (p ++ (x ∷ [])) a)) b
    go f g true = ap (λ (l : List (List ℕ)). (p ++ (x ∷ [])) ∷ l) f
    go f g false = g

pub rest_append : (p a b : List ℕ) → rest_from p (a ++ b) ≡ rest_from (rest_from p a) b
unfolding rest_from
rest_append p [] b = refl
rest_append p (x ∷ a) b = go (rest_append [] a b) (rest_append (p ++ (x ∷ [])) a b) (eqb x 10)
  where
    go : rest_from [] (a ++ b) ≡ rest_from (rest_from [] a) b → rest_from (p ++ (x ∷ [])) (a ++ b) ≡ rest_from (rest_from (p ++ (x ∷ [])) a) b → (q : Bool) → cond q (rest_from [] (a ++ b)) (rest_from (p ++ (x ∷ [])) (a ++ b)) ≡ rest_from (cond q (rest_from [] a) (rest_from (p ++ (x ∷ [])) a)) b
    go f g true = f
    go f g false = g

-- the lines of pieces, where of a line that is not ended at most 4,097 bytes are kept for the next piece
unfoldable pub lines_in : List ℕ → List (List ℕ) → List (List ℕ)
lines_in p [] = []
lines_in p (c ∷ cs) = lines_from p c ++ lines_in (kept_of (rest_from p c)) cs

unfoldable pub rest_in : List ℕ → List (List ℕ) → List ℕ
rest_in p [] = p
rest_in p (c ∷ cs) = rest_in (kept_of (rest_from p c)) cs

-- two beginnings of a line that no answer tells apart: the same, or both too long
pub data Alike : List ℕ → List ℕ → Type 0 where
  alike : {p : List ℕ} → Alike p p
  longs : {p q : List ℕ} → 4096 < length p → 4096 < length q → Alike p q

alike_more : (p q t : List ℕ) → Alike p q → Alike (p ++ t) (q ++ t)
alike_more p _ t alike = alike
alike_more p q t (longs h g) =
    let u : 4096 < length (p ++ t) = (let a = length-append p t in omega arith) in
    let v : 4096 < length (q ++ t) = (let a = length-append q t in omega arith) in
    longs u v

kept_cases : (p q : List ℕ) (t : Bool) → leb (length p) 4096 ≡ t → Alike p q → Alike (take 4097 p) q
kept_cases p q true e a = let h = leb-true (length p) 4096 e in rw (take_all 4097 p (omega arith)) a
kept_cases p _ false e alike = let h = leb-false (length p) 4096 e in let u : 4096 < length (take 4097 p) = (let z = length-take-le 4097 p (omega arith) in omega arith) in longs u h
kept_cases p q false e (longs x y) = let h = leb-false (length p) 4096 e in let u : 4096 < length (take 4097 p) = (let z = length-take-le 4097 p (omega arith) in omega arith) in longs u y

pub kept_alike : (p q : List ℕ) → Alike p q → Alike (kept_of p) q
unfolding kept_of
kept_alike p q a = kept_cases p q (leb (length p) 4096) refl a

rest_alike : (p q c : List ℕ) → Alike p q → Alike (rest_from p c) (rest_from q c)
unfolding rest_from
rest_alike p q [] a = a
rest_alike p q (x ∷ c) a = go (rest_alike (p ++ (x ∷ [])) (q ++ (x ∷ [])) c (alike_more p q (x ∷ []) a)) (eqb x 10)
  where
    go : Alike (rest_from (p ++ (x ∷ [])) c) (rest_from (q ++ (x ∷ [])) c) → (t : Bool) → Alike (cond t (rest_from [] c) (rest_from (p ++ (x ∷ [])) c)) (cond t (rest_from [] c) (rest_from (q ++ (x ∷ [])) c))
    go f true = alike
    go f false = f

-- an answer that is the same for all lines that are too long
module _ (B : Type 0) (f : List ℕ → B) (same : (l m : List ℕ) → 4096 < length l → 4096 < length m → f l ≡ f m) where
  line_alike : (p q : List ℕ) → Alike p q → f p ≡ f q
  line_alike p _ alike = refl
  line_alike p q (longs h g) = same p q h g

  lines_alike : (p q c : List ℕ) → Alike p q → map f (lines_from p c) ≡ map f (lines_from q c)
  unfolding lines_from
  lines_alike p q [] a = refl
  lines_alike p q (x ∷ c) a = go (line_alike (p ++ (x ∷ [])) (q ++ (x ∷ [])) (alike_more p q (x ∷ []) a)) (lines_alike (p ++ (x ∷ [])) (q ++ (x ∷ [])) c (alike_more p q (x ∷ []) a)) (eqb x 10)
    where
      go : f (p ++ (x ∷ [])) ≡ f (q ++ (x ∷ [])) → map f (lines_from (p ++ (x ∷ [])) c) ≡ map f (lines_from (q ++ (x ∷ [])) c) → (t : Bool) → map f (cond t ((p ++ (x ∷ [])) ∷ lines_from [] c) (lines_from (p ++ (x ∷ [])) c)) ≡ map f (cond t ((q ++ (x ∷ [])) ∷ lines_from [] c) (lines_from (q ++ (x ∷ [])) c))
      go u v true = ap (λ (b : B). b ∷ map f (lines_from [] c)) u
      go u v false = v

  -- any cutting into pieces answers as the whole
  pub any_pieces : (p q : List ℕ) (cs : List (List ℕ)) → Alike p q → map f (lines_in p cs) ≡ map f (lines_from q (joined cs))
  unfolding lines_in joined lines_from
  any_pieces p q [] a = refl
  any_pieces p q (c ∷ cs) a =
      map-append f (lines_from p c) (lines_in (kept_of (rest_from p c)) cs)
      ∙ rw (lines_alike p q c a, any_pieces (kept_of (rest_from p c)) (rest_from q c) cs (kept_alike (rest_from p c) (rest_from q c) (rest_alike p q c a)))
      (sym (ap (map f) (lines_append q c (joined cs)) ∙ map-append f (lines_from q c) (lines_from (rest_from q c) (joined cs))))

pub rest_pieces : (p q : List ℕ) (cs : List (List ℕ)) → Alike p q → Alike (rest_in p cs) (rest_from q (joined cs))
unfolding rest_in joined rest_from
rest_pieces p q [] a = a
rest_pieces p q (c ∷ cs) a = rw (rest_append q c (joined cs)) (rest_pieces (kept_of (rest_from p c)) (rest_from q c) cs (kept_alike (rest_from p c) (rest_from q c) (rest_alike p q c a)))
