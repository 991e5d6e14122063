-- `guard::answer_to`: 0 accepts. Assumes nothing.
use Rattle.guard.proofs.GivesLaws.{answer-refused, answer-accepted}
use Rattle.guard.proofs.answer_to.Goals as goal

pub returns-then-n-eq0 : goal.returns-then-n-eq0
returns-then-n-eq0 c = answer-accepted _ c.if-n-eq0.true

pub returns-else-n-eq0 : goal.returns-else-n-eq0
returns-else-n-eq0 c = answer-refused _ c.if-n-eq0.false
