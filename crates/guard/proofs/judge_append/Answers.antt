-- `guard::judge_append`: the chain is judged over the words in use; without fault it is taken and its address stored. Assumes nothing.
use Rattle.layout.proofs.RefusalLaws.{refusal-some}
use Rattle.guard.proofs.ChainLaws.{append-refused, append-taken}
use Rattle.guard.proofs.judge_append.Goals as goal

pub returns-in_default : goal.returns-in_default
returns-in_default c = rw c.in_default.is (append-refused _ _ _ _ _ _ _ _ c.in_default.ensures (refusal-some _))

pub returns : goal.returns
returns c = append-taken _ _ _ _ _ _ _ _ _ c.in-Ok.ensures c.take_chain.ensures c.put_at.ensures
