-- `guard::judge_start`: the chain, then head and HDP. Assumes nothing.
use Rattle.std.proofs.Common.{refl}
use Rattle.std.proofs.lemmas.Result.{err_from_is_err_and}
use Rattle.layout.proofs.RefusalLaws.{refusal-some}
use Rattle.guard.proofs.GivesLaws.{start-refused, start-taken}
use Rattle.guard.proofs.judge_start.Goals as goal

pub returns-in_err-hand_over : goal.returns-in_err-hand_over
returns-in_err-hand_over c =
    let p = err_from_is_err_and c.from_residual.result c.from_residual.ensures.1 in
    rw (p.1, p.2) (start-refused _ _ _ _ _ _ _ c.side_of-s.ensures c.in_err-hand_over.ensures (refusal-some _))

pub returns : goal.returns
returns c = start-taken _ _ c.args.t.now _ _ _ _ c.side_of-s.ensures c.in_ok-hand_over.ensures refl refl
