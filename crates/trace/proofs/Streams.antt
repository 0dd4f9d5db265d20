-- Lines of a text: the first one, and what `run` has done. Assumes nothing.
use Prim.Native.Nat.{ℕ, suc, ◌+◌, ◌-◌, ◌<◌, ◌≤◌}
use mathlib.Core.Path.{◌≡◌, refl, sym, ap, ◌∙◌}
use mathlib.Core.Bool.{Bool, true, false, cond}
use mathlib.Core.List.{List, [], ◌∷◌, ◌++◌, append_assoc}
use native.Mathlib.Omega.{arith}
use lib.Dec.{eqb}
use lib.ListN.{length, take, drop, length-drop}
use lib.Seq.{drop-drop, sets, length-take-le}
use borrow.Author.Tests.{le-leb, lt-leb}
use Rattle.rows.specs.Digits.{Put}
use Rattle.rows.specs.Row.{row_text}
use Rattle.rows.proofs.Decimals.{sets-append}
use Rattle.trace.specs.declared.replay.Replay.{Replay}
use Rattle.trace.specs.declared.replay.Stepped.{Stepped}
use Rattle.trace.specs.declared.stream.Ran.{Ran}
use Rattle.trace.specs.Replay.{stepped}
use Rattle.text.specs.Inner.{before}
use Rattle.text.proofs.Numbers.{before_le}
use Rattle.trace.specs.Stream.{lines_from, rest_from, ran_of, ran_text}

-- the bytes before the first line feed
abbrev pub to_lf : List ℕ → List ℕ
to_lf t = before 10 t

pub lf_le : (t : List ℕ) → length (to_lf t) ≤ length t
lf_le t = before_le 10 t

-- the first line, and no line
pub lines_first : (p t : List ℕ) → length (to_lf t) < length t → lines_from p t ≡ (p ++ take (suc (length (to_lf t))) t) ∷ lines_from [] (drop (suc (length (to_lf t))) t)
unfolding lines_from before
lines_first p [] h = absurd (omega arith)
lines_first p (b ∷ t) h = go (λ k. lines_first (p ++ (b ∷ [])) t k) (eqb b 10) refl
  where
    go : (length (to_lf t) < length t → lines_from (p ++ (b ∷ [])) t ≡ ((p ++ (b ∷ [])) ++ take (suc (length (to_lf t))) t) ∷ lines_from [] (drop (suc (length (to_lf t))) t))
        → (q : Bool) → eqb b 10 ≡ q → cond q ((p ++ (b ∷ [])) ∷ lines_from [] t) (lines_from (p ++ (b ∷ [])) t) ≡ (p ++ (b ∷ take (length (cond q [] (b ∷ to_lf t))) t)) ∷ lines_from [] (drop (length (cond q [] (b ∷ to_lf t))) t)
    go again true e = refl
    go again false e =
        let z : length (cond (eqb b 10) [] (b ∷ to_lf t)) ≡ suc (length (to_lf t)) = rw e in
        again (omega arith) ∙ ap (λ (l : List ℕ). l ∷ lines_from [] (drop (suc (length (to_lf t))) t)) (append_assoc p (b ∷ []) (take (suc (length (to_lf t))) t))

pub lines_none : (p t : List ℕ) → length (to_lf t) ≡ length t → lines_from p t ≡ []
unfolding lines_from before
lines_none p [] h = refl
lines_none p (b ∷ t) h = go (λ k. lines_none (p ++ (b ∷ [])) t k) (eqb b 10) refl
  where
    go : (length (to_lf t) ≡ length t → lines_from (p ++ (b ∷ [])) t ≡ []) → (q : Bool) → eqb b 10 ≡ q → cond q ((p ++ (b ∷ [])) ∷ lines_from [] t) (lines_from (p ++ (b ∷ [])) t) ≡ []
    go again true e = absurd (let z : length (cond (eqb b 10) [] (b ∷ to_lf t)) ≡ 0 = rw e in omega arith)
    go again false e = again (let z : length (cond (eqb b 10) [] (b ∷ to_lf t)) ≡ suc (length (to_lf t)) = rw e in omega arith)

pub rest_first : (p t : List ℕ) → length (to_lf t) < length t → rest_from p t ≡ rest_from [] (drop (suc (length (to_lf t))) t)
unfolding rest_from before
rest_first p [] h = absurd (omega arith)
rest_first p (b ∷ t) h = go (λ k. rest_first (p ++ (b ∷ [])) t k) (eqb b 10) refl
  where
    go : (length (to_lf t) < length t → rest_from (p ++ (b ∷ [])) t ≡ rest_from [] (drop (suc (length (to_lf t))) t))
        → (q : Bool) → eqb b 10 ≡ q → cond q (rest_from [] t) (rest_from (p ++ (b ∷ [])) t) ≡ rest_from [] (drop (length (cond q [] (b ∷ to_lf t))) t)
    go again true e = refl
    go again false e = let z : length (cond (eqb b 10) [] (b ∷ to_lf t)) ≡ suc (length (to_lf t)) = rw e in again (omega arith)

-- ---- the line that begins at an index: where it ends, and what follows it; or there is none
pub line_none : (s : List ℕ) (at end : ℕ) → end ≡ at + length (to_lf (drop at s)) → length s ≤ end → lines_from [] (drop at s) ≡ []
line_none s at end e h = lines_none [] (drop at s) (let l = length-drop at s in let a = lf_le (drop at s) in omega arith)

module _ (s : List ℕ) (at end : ℕ) (e : end ≡ at + length (to_lf (drop at s))) (h : end < length s) where
  short : length (to_lf (drop at s)) < length (drop at s)
  short = let l = length-drop at s in omega arith

  count : suc (length (to_lf (drop at s))) ≡ end + 1 - at
  count = omega arith

  beyond : drop (suc (length (to_lf (drop at s)))) (drop at s) ≡ drop (end + 1) s
  beyond = let q : at + suc (length (to_lf (drop at s))) ≡ end + 1 = omega arith in drop-drop (suc (length (to_lf (drop at s)))) at s ∙ ap (λ (n : ℕ). drop n s) q

  pub line_split : lines_from [] (drop at s) ≡ take (end + 1 - at) (drop at s) ∷ lines_from [] (drop (end + 1) s)
  line_split = lines_first [] (drop at s) short ∙ rw (count) (rw (← count) (ap (λ (l : List ℕ). take (suc (length (to_lf (drop at s)))) (drop at s) ∷ lines_from [] l) beyond))

  pub line_length : at + length (take (end + 1 - at) (drop at s)) ≡ end + 1
  line_length = let l = length-drop at s in let t = length-take-le (end + 1 - at) (drop at s) (omega arith) in omega arith

-- what `run` has done when it stands at `at`, with `written` bytes written
pub record Done (r₀ : Replay) (s : List ℕ) (from : ℕ) (out₀ out : List ℕ) (r : Replay) (at written : ℕ) : Type 0 where
  pub same : length out ≡ length out₀
  pub ran_is : ran_of r₀ (lines_from [] (drop from s)) from 0 (length out₀) ≡ ran_of r (lines_from [] (drop at s)) at written (length out₀)
  pub text_is : sets out₀ 0 (ran_text r₀ (lines_from [] (drop from s)) 0 (length out₀)) ≡ sets out written (ran_text r (lines_from [] (drop at s)) written (length out₀))

abbrev ran : Replay → (at written : ℕ) → Ran
ran r at written = record { replay = r; at = at; written = written }

-- what its contract says
abbrev RunIs : (r₀ : Replay) (s : List ℕ) (from : ℕ) (out₀ out : List ℕ) (r : Replay) (at written : ℕ) → Type 0
RunIs r₀ s from out₀ out r at written =
    (ran r at written ≡ ran_of r₀ (lines_from [] (drop from s)) from 0 (length out₀))
    × (out ≡ sets out₀ 0 (ran_text r₀ (lines_from [] (drop from s)) 0 (length out₀)))

pub done_none : (r : Replay) (s : List ℕ) (from : ℕ) (out : List ℕ) → Done r s from out out r from 0
done_none r s from out = record { same = refl; ran_is = refl; text_is = refl }

-- no line is left
none_ran : (r : Replay) (ls : List (List ℕ)) (at written room : ℕ) → ls ≡ [] → ran_of r ls at written room ≡ ran r at written
unfolding ran_of
none_ran r ls at written room h = rw h

none_text : (r : Replay) (ls : List (List ℕ)) (written room : ℕ) → ls ≡ [] → ran_text r ls written room ≡ []
unfolding ran_text
none_text r ls written room h = rw h

-- there is no room for a row
full_ran : (r : Replay) (ls : List (List ℕ)) (at written room : ℕ) → room < written + 148 → ran_of r ls at written room ≡ ran r at written
unfolding ran_of
full_ran r [] at written room h = refl
full_ran r (l ∷ ls) at written room h = rw (lt-leb (written + 148) room h)

full_text : (r : Replay) (ls : List (List ℕ)) (written room : ℕ) → room < written + 148 → ran_text r ls written room ≡ []
unfolding ran_text
full_text r [] written room h = refl
full_text r (l ∷ ls) written room h = rw (lt-leb (written + 148) room h)

module _ (r₀ : Replay) (s : List ℕ) (from : ℕ) (out₀ out : List ℕ) (r : Replay) (at written : ℕ) (d : Done r₀ s from out₀ out r at written) where
  pub run_full : length out₀ < written + 148 → RunIs r₀ s from out₀ out r at written
  run_full h =
      (sym (d.ran_is ∙ full_ran r (lines_from [] (drop at s)) at written (length out₀) h), sym (d.text_is ∙ ap (sets out written) (full_text r (lines_from [] (drop at s)) written (length out₀) h)))

  -- no line is left: it stands past the end, or no line feed follows
  run_none : lines_from [] (drop at s) ≡ [] → RunIs r₀ s from out₀ out r at written
  run_none z =
      (sym (d.ran_is ∙ none_ran r (lines_from [] (drop at s)) at written (length out₀) z), sym (d.text_is ∙ ap (sets out written) (none_text r (lines_from [] (drop at s)) written (length out₀) z)))

  pub run_past : length s ≤ at → RunIs r₀ s from out₀ out r at written
  run_past h = run_none (lines_none [] (drop at s) (let l = length-drop at s in let a = lf_le (drop at s) in omega arith))

  module _ (end : ℕ) (e : end ≡ at + length (to_lf (drop at s))) where
    pub run_over : length s ≤ end → RunIs r₀ s from out₀ out r at written
    run_over h = run_none (line_none s at end e h)

    module _ (h : end < length s) (fits : written + 148 ≤ length out₀) (x : Stepped) (xe : x ≡ stepped r (take (end + 1 - at) (drop at s))) (out' : List ℕ) (next : ℕ) (p : Put out out' written (row_text x.row) next) where
      split : lines_from [] (drop at s) ≡ take (end + 1 - at) (drop at s) ∷ lines_from [] (drop (end + 1) s)
      split = line_split s at end e h

      ran_next : ran_of r (lines_from [] (drop at s)) at written (length out₀) ≡ ran_of x.replay (lines_from [] (drop (end + 1) s)) (end + 1) next (length out₀)
      unfolding ran_of
      ran_next =
          ap (λ (ls : List (List ℕ)). ran_of r ls at written (length out₀)) split
          ∙ rw (le-leb (written + 148) (length out₀) fits, ← xe, line_length s at end e h, ← p.next)

      text_next : sets out written (ran_text r (lines_from [] (drop at s)) written (length out₀)) ≡ sets out' next (ran_text x.replay (lines_from [] (drop (end + 1) s)) next (length out₀))
      unfolding ran_text
      text_next =
          ap (λ (ls : List (List ℕ)). sets out written (ran_text r ls written (length out₀))) split
          ∙ rw (le-leb (written + 148) (length out₀) fits, ← xe, ← p.next)
          (sym (sets-append out written (row_text x.row) _) ∙ rw (← p.stored, ← p.next))

      pub done_next : Done r₀ s from out₀ out' x.replay (end + 1) next
      done_next =
          record {
            same = p.kept ∙ d.same;
            ran_is = d.ran_is ∙ ran_next;
            text_is = d.text_is ∙ text_next;
          }
