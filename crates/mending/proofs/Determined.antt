-- Any two outcomes that the contract of a public function allows coincide, the reply and the bytes left in lent memory: a line for each, about what its contract says (`Reads.Learnt`).
use mathlib.Core.Path.{◌≡◌, sym, ◌∙◌}
use contract.Lifetimes.{Lfts}
use denote.Triple.Clauses.{AtExit}
use borrow.Fn.Kinds.{Dens, res_t, ended_of}
use Rattle.numbers.specs.OneReply.{OneReply}
use Rattle.mending.proofs.mend.Mend as mend
use Rattle.mending.proofs.sift as sift

pub one_new : OneReply mend.new.Reads.Learnt
one_new κ a x y s t p q = p ∙ sym q

pub one_take : OneReply mend.take.Reads.Learnt
one_take κ a x y s t p q = p ∙ sym q

pub one_put_sorted :
    (κ : Lfts 3) (a : Dens κ sift.put_sorted.Kinds.ps) (x y : (res_t sift.put_sorted.Kinds.r κ).Denot) (s t : AtExit (ended_of 3 sift.put_sorted.Kinds.ps sift.put_sorted.Kinds.r) κ) →
    sift.put_sorted.Reads.Learnt κ a x s → sift.put_sorted.Reads.Learnt κ a y t → (x ≡ y) × (s.1.1.0.now ≡ t.1.1.0.now) × (s.1.1.1.1.0.now ≡ t.1.1.1.1.0.now)
one_put_sorted κ a x y s t p q = (
  λ i. record { kept = (p.0.next ∙ sym q.0.next) i; listed = (p.1.next ∙ sym q.1.next) i },
  p.0.stored ∙ sym q.0.stored,
  p.1.stored ∙ sym q.1.stored,
)

pub one_sift :
    (κ : Lfts 3) (a : Dens κ sift.sift.Kinds.ps) (x y : (res_t sift.sift.Kinds.r κ).Denot) (s t : AtExit (ended_of 3 sift.sift.Kinds.ps sift.sift.Kinds.r) κ) →
    sift.sift.Reads.Learnt κ a x s → sift.sift.Reads.Learnt κ a y t → (x ≡ y) × (s.1.1.1.0.now ≡ t.1.1.1.0.now) × (s.1.1.1.1.0.now ≡ t.1.1.1.1.0.now)
one_sift κ a x y s t p q = (
  λ i. record {
    mend = (p.mend ∙ sym q.mend) i;
    at = (p.at ∙ sym q.at) i;
    kept = (p.kept ∙ sym q.kept) i;
    listed = (p.listed ∙ sym q.listed) i;
  },
  p.out_is ∙ sym q.out_is,
  p.list_is ∙ sym q.list_is,
)
