-- Mended traces (document 02, request k): what the functions that the program `mend` is made of return. What is kept
-- and what is listed is crates/mending/specs/Mend.antt; Laws.antt there has what holds of it. Definitions only;
-- Theorems.antt says how to read them.
use Rattle.std.specs.Prelude.{[], length, drop}
use Rattle.rows.specs.Digits.{Put}
use Rattle.rows.specs.Entry.{entry_text}
use Rattle.trace.specs.Made.{begins}
use Rattle.trace.specs.Placed.{placed_at}
use Rattle.trace.specs.Stream.{lines_from}
use Rattle.mending.specs.Sorted.{unread, sorted, kept_text, list_text}
use Rattle.mending.specs.Sift.{sifting, sift_of, Sifts}
use Rattle.rows.proofs.entry.put_entry as entry
use Rattle.trace.proofs.made.is_begun as begun
use Rattle.trace.proofs.placed.placed as placed
use Rattle.mending.proofs.mend.Mend as mend
use Rattle.mending.proofs.sift as sift
use Rattle.theorems.specs.Runs.{Gives, AsksNothing}
use Rattle.theorems.specs.Trace.{Always}

-- ---- the contracts ask nothing of the arguments
pub record MendUnasked : Type 0 where
  pub placed : AsksNothing placed.Reads.Asked
  pub begun : AsksNothing begun.Reads.Asked
  pub new : AsksNothing mend.new.Reads.Asked
  pub take : AsksNothing mend.take.Reads.Asked
  pub sift : AsksNothing sift.sift.Reads.Asked

-- ---- and every outcome that they allow is what the definitions say: of a line where it stands
-- (crates/trace/specs/Placed.antt), and whether a start is accepted; of one line more
-- (crates/mending/specs/Sorted.antt); of the lines of a piece from an index on (Sift.antt there). `put_entry` and
-- `put_sorted` ask for room: an entry, or a line that is kept, stands at the index, and nothing else is changed (`Put`,
-- crates/rows/specs/Digits.antt)
pub record MendDefined : Type 0 where
  pub placed : Gives placed.Reads.Learnt (λ κ a. placed_at a.0 a.1.0)
  pub begun : Gives begun.Reads.Learnt (λ κ a. begins a.0 a.1.0)
  pub new : Gives mend.new.Reads.Learnt (λ κ a. unread)
  pub take : Gives mend.take.Reads.Learnt (λ κ a. sorted a.0 a.1.0.now)
  pub entry :
      Always entry.Reads.Learnt
      (λ κ a x e. Put a.0.now e.0.now a.1.0 (entry_text a.1.1.0 a.1.1.1.0) x)
  pub put :
      Always sift.put_sorted.Reads.Learnt
      (λ κ a x e.
      Put a.1.1.0.now e.1.1.0.now a.1.1.1.0 (kept_text a.0 a.1.0.now) x.kept
      × Put a.1.1.1.1.0.now e.1.1.1.1.0.now a.1.1.1.1.1.0 (list_text a.0) x.listed)
  pub sift :
      Always sift.sift.Reads.Learnt
      (λ κ a x e.
      let out = a.1.1.1.0.now in
      let list = a.1.1.1.1.0.now in
      let from = a.1.1.0 in
      Sifts
      (sift_of (length out) (length list) (lines_from [] (drop from a.1.0.now)) (sifting a.0 from))
      x
      out
      e.1.1.1.0.now
      list
      e.1.1.1.1.0.now)
