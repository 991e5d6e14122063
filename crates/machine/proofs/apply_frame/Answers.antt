-- `machine::apply_frame` meets its contract: the lent record's frame, its number as an answer. Assumes nothing.
use Rattle.machine.proofs.LeavesLaws.{frame-moves}
use Rattle.machine.proofs.apply_frame.Goals as goal

pub returns : goal.returns
returns c = frame-moves _ _ _ _ _ c.hosted_frame-answer.ensures c.plain.ensures c.keep.ensures
