-- `book::note_heads` has noted the receive queues of the channels below c. Assumes nothing.
use Rattle.book.proofs.HeadLaws.{noting-next, noting-last}
use Rattle.book.proofs.note_heads.Goals as goal

pub loop-c-preserved : goal.loop-c-preserved
loop-c-preserved c = noting-next c.loop-c-test.true (simp (c.queue_of.ensures.0) at c.note_from.ensures) c.loop-c.invariant

pub returns : goal.returns
returns c = noting-last c.loop-c-test.false c.loop-c.invariant
