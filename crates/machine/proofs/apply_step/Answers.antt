-- `machine::apply_step` meets its contract: the lent record's step, its number as an answer. Assumes nothing.
use Rattle.machine.proofs.LeavesLaws.{step-moves}
use Rattle.machine.proofs.apply_step.Goals as goal

pub returns : goal.returns
returns c = step-moves _ _ _ _ _ _ c.hosted-burst.ensures c.plain-answer.ensures
