-- Any two outcomes that the contract of a public function allows coincide, the reply and the bytes left in lent memory: a line for each, about what its contract says (`Reads.Learnt`).
use mathlib.Core.Path.{◌≡◌, sym, ◌∙◌}
use contract.Lifetimes.{Lfts}
use denote.Triple.Clauses.{AtExit}
use borrow.Fn.Kinds.{Dens, res_t, ended_of}
use Rattle.rows.proofs.entry as entry
use Rattle.rows.proofs.row as row

pub one_put_row :
    (κ : Lfts 1) (a : Dens κ row.put_row.Kinds.ps) (x y : (res_t row.put_row.Kinds.r κ).Denot) (s t : AtExit (ended_of 1 row.put_row.Kinds.ps row.put_row.Kinds.r) κ) →
    row.put_row.Reads.Learnt κ a x s → row.put_row.Reads.Learnt κ a y t → (x ≡ y) × (s.0.now ≡ t.0.now)
one_put_row κ a x y s t p q = (p.next ∙ sym q.next, p.stored ∙ sym q.stored)

pub one_put_entry :
    (κ : Lfts 1) (a : Dens κ entry.put_entry.Kinds.ps) (x y : (res_t entry.put_entry.Kinds.r κ).Denot) (s t : AtExit (ended_of 1 entry.put_entry.Kinds.ps entry.put_entry.Kinds.r) κ) →
    entry.put_entry.Reads.Learnt κ a x s → entry.put_entry.Reads.Learnt κ a y t → (x ≡ y) × (s.0.now ≡ t.0.now)
one_put_entry κ a x y s t p q = (p.next ∙ sym q.next, p.stored ∙ sym q.stored)

pub one_put_text :
    (κ : Lfts 2) (a : Dens κ entry.put_text.Kinds.ps) (x y : (res_t entry.put_text.Kinds.r κ).Denot) (s t : AtExit (ended_of 2 entry.put_text.Kinds.ps entry.put_text.Kinds.r) κ) →
    entry.put_text.Reads.Learnt κ a x s → entry.put_text.Reads.Learnt κ a y t → (x ≡ y) × (s.0.now ≡ t.0.now)
one_put_text κ a x y s t p q = (p.next ∙ sym q.next, p.stored ∙ sym q.stored)
