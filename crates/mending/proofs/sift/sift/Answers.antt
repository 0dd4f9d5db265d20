-- `sift` meets its contract: what is left to sift gives the same as all (proofs/Sifting.antt).
use Rattle.std.proofs.Common.{arith}
use Rattle.mending.proofs.Sifting.{sift_full, sift_no_places, sift_over, done_next}
use Rattle.mending.proofs.Lines.{kept_few, kept_text_few, list_text_few}
use Rattle.mending.proofs.sift.sift.Goals as goal

pub put_sorted-ends-requires : goal.put_sorted-ends-requires
put_sorted-ends-requires c =
    let d = c.loop-sifted.invariant.0 in
    (kept_few c.loop-sifted.sifted.mend _ c.take-sorted.result c.take-sorted.ensures, omega (arith, d.out_same), omega (arith, d.list_same))

pub loop-sifted-preserved : goal.loop-sifted-preserved
loop-sifted-preserved c =
    let d = c.loop-sifted.invariant.0 in
    let x = c.take-sorted in
    let e = c.put_sorted-ends in (
      done_next _ _ _ _ _ _ _ _ _ _ _ d c.end_of-end.result c.end_of-end.ensures (omega arith) (omega (arith, d.out_same)) (omega (arith, d.list_same)) x.result x.ensures _ _ e.result.kept e.result.listed e.ensures.keeps e.ensures.lists,
      omega (arith, d.out_same, kept_text_few c.loop-sifted.sifted.mend _ x.result x.ensures),
      omega (arith, d.list_same, list_text_few x.result),
    )

pub returns-else-sifted-list : goal.returns-else-sifted-list
returns-else-sifted-list c = let d = c.loop-sifted.invariant.0 in sift_no_places _ _ _ _ _ _ _ _ _ _ _ d (omega (arith, d.list_same))

pub returns-after-loop-sifted : goal.returns-after-loop-sifted
returns-after-loop-sifted c = let d = c.loop-sifted.invariant.0 in sift_full _ _ _ _ _ _ _ _ _ _ _ d (omega (arith, d.out_same))

pub returns-then-s-end : goal.returns-then-s-end
returns-then-s-end c = sift_over _ _ _ _ _ _ _ _ _ _ _ c.loop-sifted.invariant.0 c.end_of-end.result c.end_of-end.ensures (omega arith)
