-- `end_of` meets its contract.
use Rattle.std.proofs.Common.{rules, tests, Bor, Option, None, Some}
use Rattle.std.proofs.lemmas.Iterator.{YieldsList-from_slice}
use Rattle.std.proofs.lemmas.Iterator.Search.{position_from_yields_List}
use Rattle.std.specs.List.{position, position_or_len, PartBy}
use Rattle.std.specs.Option.{unwrap_or}
use Prim.Native.Nat.{ℕ, ◌+◌, ◌≤◌}
use mathlib.Core.Path.{◌≡◌, refl, sym, ap, ◌∙◌}
use mathlib.Core.Bool.{Bool, true, false, cond}
use mathlib.Core.List.{List, [], ◌∷◌}
use mathlib.Core.Logic.{inl, inr}
use native.Mathlib.Omega.{arith}
use lib.Dec.{eqb, ltb}
use lib.ListN.{length, drop, drop_of_length-le, length-drop}
use lib.Seq.{take_all}
use borrow.Author.Tests.{ltb-false}
use Rattle.text.specs.Inner.{before}
use Rattle.text.proofs.Numbers.{before_le}
use Rattle.text.proofs.find.end_of.Goals as goal

before_length : (b : ℕ) (t : List ℕ) → position_or_len (λ x. eqb x b) t ≡ length (before b t)
unfolding before
before_length b [] = refl
before_length b (x ∷ t) = go (before_length b t) (eqb x b) refl
  where
    go : position_or_len (λ y. eqb y b) t ≡ length (before b t) → (q : Bool) → eqb x b ≡ q → position_or_len (λ y. eqb y b) (x ∷ t) ≡ length (cond q [] (x ∷ before b t))
    go h true e = rw e
    go h false e = simp e (omega (arith, h))

found : (b : ℕ) (t : List ℕ) → unwrap_or (position (λ x. eqb x b) t) (length t) ≡ length (before b t)
found b t = go (ltb (position_or_len (λ x. eqb x b) t) (length t)) refl
  where
    go : (q : Bool) → ltb (position_or_len (λ x. eqb x b) t) (length t) ≡ q → unwrap_or (position (λ x. eqb x b) t) (length t) ≡ length (before b t)
    go true e = rw e (before_length b t)
    go false e = rw e (let w = ltb-false _ _ e in let l = before_length b t in let u = before_le b t in omega arith)

rest_is : (s : List ℕ) (at : ℕ) (o : Option (Bor (List ℕ))) (d : Bor (List ℕ)) → d.now ≡ [] → PartBy (λ (x : Bor (List ℕ)). x.now) s at (length s) o → (unwrap_or o d).now ≡ drop at s
rest_is s at None d e p =
    let q : length s ≤ at = elim p.0 [ inl h ↦ omega arith | inr h ↦ omega arith ] in e ∙ sym (drop_of_length-le s q)
rest_is s at (Some x) d e p = p.0.2 ∙ take_all _ (drop at s) (let l = length-drop at s in omega arith)

pub returns : goal.returns
returns c =
    let t = c.unwrap_or-rest.result.now in
    let h : c.position.result ≡ position (λ x. eqb x c.args.b) t = position_from_yields_List (λ x. eqb x c.args.b) _ _ c.position.result c.position.ensures.ran (YieldsList-from_slice _ c.iter.ensures.rest) (λ x b q k. search (rules, tests)) in
    let r : t ≡ drop c.args.at c.args.s.now = ap (λ (x : Bor (List ℕ)). x.now) c.unwrap_or-rest.ensures ∙ rest_is c.args.s.now c.args.at c.get.result _ refl c.get.ensures.lookup in
    ap (λ n. c.args.at + n) (c.unwrap_or.ensures ∙ ap (λ o. unwrap_or o (length t)) h ∙ found c.args.b t ∙ ap (λ l. length (before c.args.b l)) r)
