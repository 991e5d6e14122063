-- `guard::hand_over`: the chain is judged over the words in use; without fault it is taken. Assumes nothing.
use Rattle.layout.proofs.RefusalLaws.{refusal-some}
use Rattle.guard.proofs.ChainLaws.{over-refused, over-taken}
use Rattle.guard.proofs.hand_over.Goals as goal

pub returns-in_default : goal.returns-in_default
returns-in_default c = rw c.in_default.is (over-refused _ _ _ _ _ _ _ c.in_default.ensures (refusal-some _))

pub returns : goal.returns
returns c = over-taken _ _ _ _ _ _ _ c.in-Ok.ensures c.take_chain.ensures
