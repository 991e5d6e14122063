-- `guard::is_last`: the queue has a head, and its last descriptor begins at word k. Assumes nothing.
use Rattle.guard.proofs.JudgeLaws.{last-no, last-test}
use Rattle.guard.proofs.is_last.Goals as goal

pub returns-in-Some : goal.returns-in-Some
returns-in-Some c = last-test _ _ _ _ c.in-Some.ensures.0 c.in-Some.ensures.1 c.last_from.ensures

pub returns-in-None : goal.returns-in-None
returns-in-None c = last-no _ _ _ c.in-None.ensures
