use Rattle.measured.proofs.PartFacts.{cut, no-cut, sum-more, sum-done}
use Rattle.measured.proofs.coding.decode_all.Goals as goal

pub loop-part-preserved : goal.loop-part-preserved
loop-part-preserved c =
    let here = cut c.loop-part.part-iterator c.next.new.self c.in-Some.part c.in-Some.ensures.steps c.loop-part.invariant.size in
    record {
      size = here.2;
      left = λ os d. rw (c.mix-sum.ensures, c.number.ensures) (sum-more _ _ _ _ _ _ here.0 here.1 c.decode.ensures (c.loop-part.invariant.left os d));
    }

pub returns : goal.returns
returns c = λ os d.
    sum-done _ _ _ (no-cut c.loop-part.part-iterator c.next.new.self c.in-None.ensures.steps c.loop-part.invariant.size) (c.loop-part.invariant.left os d)
