-- `machine::carry_out` meets its contract: a refused write stays where it is, an accepted one goes on. Assumes nothing.
use Rattle.machine.proofs.LeavesLaws.{carry-kept, carry-met}
use Rattle.machine.proofs.carry_out.Goals as goal

pub returns-then-answer_number-ne0 : goal.returns-then-answer_number-ne0
returns-then-answer_number-ne0 c = carry-kept _ _ _ _ _ _ c.answer_number.ensures c.if-answer_number-ne0.true _ c.keep.ensures

pub returns : goal.returns
returns c = carry-met _ _ _ _ _ _ c.answer_number.ensures
    c.if-answer_number-ne0.false _ _ c.unguarded_write.ensures _ c.meet.ensures
