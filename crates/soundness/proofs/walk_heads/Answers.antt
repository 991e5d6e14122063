-- `soundness::walk_heads` has walked the queues of a side on the channels below c. Assumes nothing.
use Rattle.soundness.proofs.LoopLaws.{spending-next, spending-last}
use Rattle.soundness.proofs.walk_heads.Goals as goal

pub loop-c-preserved : goal.loop-c-preserved
loop-c-preserved c = spending-next _ _ _ c.loop-c-test.true (simp (c.queue_of.ensures.0) at c.walk_from-rest.ensures) c.loop-c.invariant

pub returns : goal.returns
returns c = spending-last _ _ _ c.loop-c-test.false c.loop-c.invariant
