-- `machine::plain` meets its contract: a refusal's number is not 0. Assumes nothing.
use borrow.Author.Tests.{ne_eqb}
use Rattle.guard.specs.Answers.{answer_to}
use Rattle.layout.proofs.RefusalLaws.{refusal-some}
use Rattle.machine.proofs.plain.Goals as goal

pub returns-in-Ok : goal.returns-in-Ok
unfolding answer_to
returns-in-Ok c = simp c.in-Ok.is

pub returns-in-Err : goal.returns-in-Err
unfolding answer_to
returns-in-Err c = simp (c.in-Err.is, c.from.ensures, ne_eqb _ _ (refusal-some c.in-Err.refusal))
