-- `guard::judge_head`: the rule over the table, then the head, then the chain. Assumes nothing.
use Rattle.std.proofs.lemmas.Result.{err_from_is_err_and}
use Rattle.layout.proofs.RefusalLaws.{refusal-some}
use Rattle.guard.proofs.GivesLaws.{head-refused, head-zeroed, head-busy, head-start}
use Rattle.guard.proofs.judge_head.Goals as goal

pub returns-in_err-head_number : goal.returns-in_err-head_number
returns-in_err-head_number c =
    let p = err_from_is_err_and c.from_residual.result c.from_residual.ensures.1 in
    rw (p.1, p.2) (head-refused _ _ _ _ _ _ _ c.in_err-head_number.ensures (refusal-some _))

pub returns-then-is_awaiting : goal.returns-then-is_awaiting
returns-then-is_awaiting c = head-zeroed _ _ _ _ _ _ _ c.in_ok-head_number.ensures c.is_awaiting.ensures
    c.if-is_awaiting.true c.write_head.ensures

pub returns-then-t-q-ne0 : goal.returns-then-t-q-ne0
returns-then-t-q-ne0 c = head-busy _ _ _ _ _ _ _ c.in_ok-head_number.ensures c.is_awaiting.ensures
    c.if-is_awaiting.false c.if-t-q-ne0.true

pub returns : goal.returns
returns c = head-start _ _ _ _ _ _ _ c.in_ok-head_number.ensures c.is_awaiting.ensures
    c.if-is_awaiting.false c.if-t-q-ne0.false c.judge_start.ensures
