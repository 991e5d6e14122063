-- `book::settle` has asked the queues below q. Assumes nothing.
use Rattle.std.proofs.Common.{◌∙◌}
use borrow.Author.Tests.{eq-eqb, ne_eqb}
use Rattle.book.proofs.HeadLaws.{settling-next, settling-last}
use Rattle.book.proofs.settle.Goals as goal
use Rattle.book.proofs.settle.Goals.{then-t-q, else-t-q}

pub loop-q-preserved : goal.loop-q-preserved
loop-q-preserved c = settling-next c.loop-q-test.true
    (elim c.if-t-q.branch [
      | then-t-q w ↦ w.mask-is ∙ simp (eq-eqb _ _ w.if-t-q.true) w.clear_bit-mask.ensures
      | else-t-q w ↦ w.mask-is ∙ simp (ne_eqb _ _ w.if-t-q.false)
    ])
    c.loop-q.invariant

pub returns : goal.returns
returns c = settling-last c.loop-q-test.false c.loop-q.invariant
