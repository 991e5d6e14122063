-- `guard::judge_zero`: the rule decides. Assumes nothing.
use Rattle.std.proofs.Common.{sym, ap, ◌∙◌}
use Rattle.std.proofs.lemmas.Result.{err_from_is_err_and}
use Rattle.guard.specs.declared.Effect.TheVariants.{Plain}
use Rattle.guard.specs.Answers.{answer_to}
use Rattle.layout.proofs.RefusalLaws.{refusal-some}
use Rattle.guard.proofs.GivesLaws.{answer-refused, answer-accepted}
use Rattle.guard.proofs.judge_zero.Goals as goal

pub returns-in_err-zero_fault : goal.returns-in_err-zero_fault
returns-in_err-zero_fault c =
    let p = err_from_is_err_and c.from_residual.result c.from_residual.ensures.1 in
    rw (p.1, p.2) (answer-refused Plain (refusal-some _) ∙ ap (answer_to Plain) c.in_err-zero_fault.ensures)

pub returns : goal.returns
returns c = answer-accepted Plain (sym c.in_ok-zero_fault.ensures)
