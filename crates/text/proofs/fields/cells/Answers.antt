-- `cells` meets its contract.
use Rattle.std.proofs.Common.{rules, tests, Bor, None, Some}
use Rattle.std.proofs.lemmas.Iterator.Consumers.{YieldsList-turn, YieldsList-end}
use Rattle.std.proofs.lemmas.Iterator.Splits.{YieldsList-from_slice_split}
use Prim.Native.Nat.{ℕ}
use mathlib.Core.Path.{◌≡◌, refl, sym, ap, ◌∙◌}
use mathlib.Core.List.{List, [], ◌∷◌, map}
use native.Mathlib.Omega.{arith}
use lib.Dec.{eqb}
use lib.ListN.{length}
use lib.Seq.{take_all}
use borrow.Author.Tests.{eq-eqb, ne_eqb}
use Rattle.text.specs.declared.number.Cell.{Cell}
use Rattle.text.specs.Number.{cell_of}
use Rattle.text.specs.Fields.{fields}
use Rattle.text.specs.Inner.{cells_of}
use Rattle.text.proofs.Splits.{fields_split}
use Rattle.text.proofs.fields.cells.Goals as goal

not_ten : (fs : List (List ℕ)) → (length fs ≡ 10 → ⊥) → None ≡ cells_of fs
unfolding cells_of
not_ten fs h = rw (ne_eqb (length fs) 10 h)

now_map : (ys : List (Bor (List ℕ))) → map (λ (f : Bor (List ℕ)). cell_of f.now) ys ≡ map cell_of (map (λ (f : Bor (List ℕ)). f.now) ys)
now_map [] = refl
now_map (y ∷ ys) = ap (λ (l : List Cell). cell_of y.now ∷ l) (now_map ys)

ten : (fs : List (List ℕ)) (cs : List Cell) → length fs ≡ 10 → cs ≡ map cell_of fs → Some cs ≡ cells_of fs
unfolding cells_of
ten fs cs h e = rw (eq-eqb (length fs) 10 h, e)

pub returns-then-count-eq10 : goal.returns-then-count-eq10
returns-then-count-eq10 c =
    let s = c.args.s.now in
    let t = YieldsList-turn (YieldsList-from_slice_split _ (λ b. eqb b 44) s (search rules) (search rules) (search rules) (λ x b q k. search (rules, tests))) c.loop-field.yielded _ c.loop-field.yielded_by _ _ c.in-Some.field c.in-Some.is c.next.ensures.steps in
    not_ten (fields s) (λ z. omega (arith, t.0, ap length (fields_split s)))

pub returns-then-count-eq10-2 : goal.returns-then-count-eq10-2
returns-then-count-eq10-2 c =
    let s = c.args.s.now in
    let t = YieldsList-end (YieldsList-from_slice_split _ (λ b. eqb b 44) s (search rules) (search rules) (search rules) (λ x b q k. search (rules, tests))) c.loop-field.yielded _ c.loop-field.yielded_by _ _ c.in-None.is c.next.ensures.steps in
    let a = take_all c.loop-field.count c.loop-field.cells (omega arith) in
    ten (fields s) c.loop-field.cells (omega (arith, t.1, ap length (fields_split s))) (sym a ∙ c.loop-field.invariant.3 ∙ now_map c.loop-field.yielded ∙ ap (map cell_of) (t.0 ∙ fields_split s))

pub returns-else-count-eq10-2 : goal.returns-else-count-eq10-2
returns-else-count-eq10-2 c =
    let s = c.args.s.now in
    let t = YieldsList-end (YieldsList-from_slice_split _ (λ b. eqb b 44) s (search rules) (search rules) (search rules) (λ x b q k. search (rules, tests))) c.loop-field.yielded _ c.loop-field.yielded_by _ _ c.in-None.is c.next.ensures.steps in
    not_ten (fields s) (λ z. c.if-count-eq10-2.false (omega (arith, t.1, ap length (fields_split s))))
