-- What `sift` has done, line by line. Assumes nothing.
use Prim.Native.Nat.{ℕ, ◌+◌, ◌-◌, ◌≤◌, ◌<◌}
use mathlib.Core.Bool.{true, false}
use mathlib.Core.List.{List, [], ◌∷◌, ◌++◌}
use mathlib.Core.Path.{◌≡◌, refl, sym, ap, ◌∙◌}
use native.Mathlib.Omega.{arith}
use native.Mathlib.Nat.{zero-add}
use lib.Dec.{leb}
use lib.ListN.{length, take, drop, length-append}
use lib.Seq.{sets}
use borrow.Author.Tests.{le-leb, lt-leb}
use Rattle.text.proofs.Numbers.{both_false}
use Rattle.rows.specs.Digits.{Put}
use Rattle.rows.proofs.Decimals.{sets-append}
use Rattle.trace.specs.Stream.{lines_from}
use Rattle.trace.proofs.Streams.{to_lf, line_none, line_split, line_length}
use Rattle.mending.specs.declared.mend.Mend.{Mend}
use Rattle.mending.specs.declared.mend.Sorted.{Sorted}
use Rattle.mending.specs.Sorted.{sorted, kept_text, list_text}
use Rattle.mending.specs.Sift.{Sift, sifting, sifted, has_room, sift_of, Sifts}

-- when it stands at `at`, with `kept` and `listed` bytes written, these texts
pub record Done (m₀ : Mend) (s : List ℕ) (from : ℕ) (out₀ out list₀ list : List ℕ) (m : Mend) (at kept listed : ℕ) : Type 0 where
  pub lines : List ℕ
  pub entries : List ℕ
  pub kept_is : kept ≡ length lines
  pub listed_is : listed ≡ length entries
  pub out_is : out ≡ sets out₀ 0 lines
  pub list_is : list ≡ sets list₀ 0 entries
  pub out_same : length out ≡ length out₀
  pub list_same : length list ≡ length list₀
  pub rest_is :
      sift_of (length out₀) (length list₀) (lines_from [] (drop from s)) (sifting m₀ from)
      ≡ sift_of (length out₀) (length list₀) (lines_from [] (drop at s)) (record { mend = m; at = at; kept = lines; list = entries })

pub done_none : (m : Mend) (s : List ℕ) (from : ℕ) (out list : List ℕ) → Done m s from out out list list m from 0 0
done_none m s from out list = record { lines = []; entries = []; kept_is = refl; listed_is = refl; out_is = refl; list_is = refl; out_same = refl; list_same = refl; rest_is = refl }

-- no line, and no room
none_sifted : (room places : ℕ) (ls : List (List ℕ)) (x : Sift) → ls ≡ [] → sift_of room places ls x ≡ x
unfolding sift_of
none_sifted room places ls x h = rw h

full_sifted : (room places : ℕ) (ls : List (List ℕ)) (x : Sift) → has_room room places x ≡ false → sift_of room places ls x ≡ x
unfolding sift_of
full_sifted room places [] x h = refl
full_sifted room places (l ∷ ls) x h = rw h

no_room : (room places : ℕ) (x : Sift) → room < length x.kept + 4096 → has_room room places x ≡ false
unfolding has_room
no_room room places x h = rw (lt-leb (length x.kept + 4096) room h)

no_places : (room places : ℕ) (x : Sift) → places < length x.list + 43 → has_room room places x ≡ false
unfolding has_room
no_places room places x h = rw (lt-leb (length x.list + 43) places h) (both_false (leb (length x.kept + 4096) room))

module _ (m₀ : Mend) (s : List ℕ) (from : ℕ) (out₀ out list₀ list : List ℕ) (m : Mend) (at kept listed : ℕ) (d : Done m₀ s from out₀ out list₀ list m at kept listed) where
  -- what its contract says
  abbrev SiftIs : Type 0
  SiftIs = Sifts (sift_of (length out₀) (length list₀) (lines_from [] (drop from s)) (sifting m₀ from)) (record { mend = m; at = at; kept = kept; listed = listed }) out₀ out list₀ list

  stops : sift_of (length out₀) (length list₀) (lines_from [] (drop at s)) (record { mend = m; at = at; kept = d.lines; list = d.entries }) ≡ record { mend = m; at = at; kept = d.lines; list = d.entries } → SiftIs
  stops e = rw (d.rest_is ∙ e) (record { mend = refl; at = refl; kept = d.kept_is; listed = d.listed_is; out_is = d.out_is; list_is = d.list_is })

  pub sift_full : length out₀ < kept + 4096 → SiftIs
  sift_full h = stops (full_sifted (length out₀) (length list₀) (lines_from [] (drop at s)) _ (no_room (length out₀) (length list₀) (record { mend = m; at = at; kept = d.lines; list = d.entries }) (let k = d.kept_is in omega (arith, h, k))))

  pub sift_no_places : length list₀ < listed + 43 → SiftIs
  sift_no_places h = stops (full_sifted (length out₀) (length list₀) (lines_from [] (drop at s)) _ (no_places (length out₀) (length list₀) (record { mend = m; at = at; kept = d.lines; list = d.entries }) (let k = d.listed_is in omega (arith, h, k))))

  module _ (end : ℕ) (e : end ≡ at + length (to_lf (drop at s))) where
    pub sift_over : length s ≤ end → SiftIs
    sift_over h = stops (none_sifted (length out₀) (length list₀) (lines_from [] (drop at s)) _ (line_none s at end e h))

    module _ (h : end < length s) (fits : kept + 4096 ≤ length out₀) (fits' : listed + 43 ≤ length list₀) (x : Sorted) (xe : x ≡ sorted m (take (end + 1 - at) (drop at s))) (out' list' : List ℕ) (kept' listed' : ℕ)
        (p : Put out out' kept (kept_text x (take (end + 1 - at) (drop at s))) kept') (q : Put list list' listed (list_text x) listed') where
      room : has_room (length out₀) (length list₀) (record { mend = m; at = at; kept = d.lines; list = d.entries }) ≡ true
      unfolding has_room
      room = let k = d.kept_is in let n = d.listed_is in simp (le-leb (length d.lines + 4096) (length out₀) (omega (arith, k, fits)), le-leb (length d.entries + 43) (length list₀) (omega (arith, n, fits')))

      behind : (l l' l'' t u : List ℕ) (n r : ℕ) → l' ≡ sets l 0 t → n ≡ length t → Put l' l'' n u r → l'' ≡ sets l 0 (t ++ u)
      behind l l' l'' t u n r e f g = g.stored ∙ rw (e, f) (ap (λ (k : ℕ). sets (sets l 0 t) k u) (sym (zero-add (length t))) ∙ sets-append l 0 t u)

      pub done_next : Done m₀ s from out₀ out' list₀ list' x.mend (end + 1) kept' listed'
      unfolding sift_of sifted
      done_next =
          record {
            lines = d.lines ++ kept_text x (take (end + 1 - at) (drop at s));
            entries = d.entries ++ list_text x;
            kept_is = let l = length-append d.lines (kept_text x (take (end + 1 - at) (drop at s))) in let k = d.kept_is in let n = p.next in omega (arith, l, k, n);
            listed_is = let l = length-append d.entries (list_text x) in let k = d.listed_is in let n = q.next in omega (arith, l, k, n);
            out_is = behind out₀ out out' d.lines (kept_text x (take (end + 1 - at) (drop at s))) kept kept' d.out_is d.kept_is p;
            list_is = behind list₀ list list' d.entries (list_text x) listed listed' d.list_is d.listed_is q;
            out_same = p.kept ∙ d.out_same;
            list_same = q.kept ∙ d.list_same;
            rest_is = d.rest_is ∙ ap (λ (ls : List (List ℕ)). sift_of (length out₀) (length list₀) ls (record { mend = m; at = at; kept = d.lines; list = d.entries })) (line_split s at end e h) ∙ rw (room, ← xe, line_length s at end e h);
          }
