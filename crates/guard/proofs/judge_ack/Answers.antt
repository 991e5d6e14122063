-- `guard::judge_ack`: the rule, then the register. Assumes nothing.
use Rattle.std.proofs.Common.{Bool, ap, ◌∙◌}
use Rattle.std.proofs.lemmas.Result.{err_from_is_err_and}
use Rattle.registers.specs.Rules.{ack_fault}
use Rattle.layout.proofs.RefusalLaws.{refusal-some}
use Rattle.guard.proofs.GivesLaws.{ruled-refused, ruled-wrote}
use Rattle.guard.proofs.judge_ack.Goals as goal

pub returns-in_err-ack_fault : goal.returns-in_err-ack_fault
returns-in_err-ack_fault c =
    let p = err_from_is_err_and c.from_residual.result c.from_residual.ensures.1 in
    rw (p.1, p.2) (ruled-refused _ _
    (c.in_err-ack_fault.ensures ∙ ap (λ (b : Bool). ack_fault b c.args.v) c.is_awaiting.ensures) (refusal-some _))

pub returns : goal.returns
returns c = ruled-wrote _ (c.in_ok-ack_fault.ensures ∙ ap (λ (b : Bool). ack_fault b c.args.v) c.is_awaiting.ensures) c.write_ack.ensures
