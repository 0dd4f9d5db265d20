-- `sift`: the lines of a piece are sorted as long as there is room.
use Rattle.std.specs.Prelude.{ℕ, ◌+◌, Bool, cond, ◌&&◌, List, [], ◌∷◌, ◌++◌, ◌≡◌, leb, length}
use Rattle.std.proofs.lemmas.List.Edits.{sets}
use Rattle.mending.specs.declared.mend.Mend.{Mend}
use Rattle.mending.specs.declared.sift.Sifted.{Sifted}
use Rattle.mending.specs.Sorted.{sorted, kept_text, list_text}

-- what is known, where the next line begins, and the texts that were written
pub record Sift : Type 0 where
  pub mend : Mend
  pub at : ℕ
  pub kept : List ℕ
  pub list : List ℕ

-- before the first of the lines
abbrev pub sifting : Mend → (at : ℕ) → Sift
sifting m at = record { mend = m; at = at; kept = []; list = [] }

-- after one line more
unfoldable pub sifted : Sift → List ℕ → Sift
sifted x l =
    let y = sorted x.mend l in
    record {
      mend = y.mend;
      at = x.at + length l;
      kept = x.kept ++ kept_text y l;
      list = x.list ++ list_text y;
    }

-- no line that is kept is longer than 4,096 bytes, and no entry than 43
unfoldable pub has_room : (room places : ℕ) → Sift → Bool
has_room room places x = leb (length x.kept + 4096) room && leb (length x.list + 43) places

-- lines are sorted as long as there is room for a line and for an entry
unfoldable pub sift_of : (room places : ℕ) → List (List ℕ) → Sift → Sift
sift_of room places [] x = x
sift_of room places (l ∷ ls) x = cond (has_room room places x) (sift_of room places ls (sifted x l)) x

-- that is answered, and so much stands at the front of what was lent, and nothing else is changed
pub record Sifts (x : Sift) (r : Sifted) (out out' list list' : List ℕ) : Type 0 where
  pub mend : r.mend ≡ x.mend
  pub at : r.at ≡ x.at
  pub kept : r.kept ≡ length x.kept
  pub listed : r.listed ≡ length x.list
  pub out_is : out' ≡ sets out 0 x.kept
  pub list_is : list' ≡ sets list 0 x.list
