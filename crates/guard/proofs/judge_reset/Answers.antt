-- `guard::judge_reset`: the rule, then the flag and the bit. Assumes nothing.
use Rattle.std.proofs.lemmas.Result.{err_from_is_err_and}
use Rattle.layout.proofs.RefusalLaws.{refusal-some}
use Rattle.guard.proofs.GivesLaws.{ruled-refused, ruled-wrote}
use Rattle.guard.proofs.judge_reset.Goals as goal

pub returns-in_err-reset_number : goal.returns-in_err-reset_number
returns-in_err-reset_number c =
    let p = err_from_is_err_and c.from_residual.result c.from_residual.ensures.1 in
    rw (p.1, p.2) (ruled-refused _ _ c.in_err-reset_number.ensures (refusal-some _))

pub returns : goal.returns
returns c = ruled-wrote _ c.in_ok-reset_number.ensures c.begin_reset.ensures
