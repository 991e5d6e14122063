-- `kinds::change_block`: without fault the kind is stored. Assumes nothing.
use Rattle.std.proofs.Common.{sym, arith}
use Rattle.std.proofs.lemmas.Result.{err_from_is_err_and}
use borrow.Author.Tests.{ltb-true, leb-true}
use Rattle.layout.proofs.RefusalLaws.{refusal-some}
use Rattle.kinds.proofs.KindLaws.{kind-tests, kind-refused, kind-changed}
use Rattle.kinds.proofs.change_block.Goals as goal

pub returns-in_err-kind_fault : goal.returns-in_err-kind_fault
returns-in_err-kind_fault c =
    let p = err_from_is_err_and c.from_residual.result c.from_residual.ensures.1 in
    rw (p.1, p.2) (kind-refused _ _ _ _ _ _ c.in_err-kind_fault.ensures (refusal-some _))

pub overflow_cast-kinds : goal.overflow_cast-kinds
overflow_cast-kinds c = record { fits = omega (arith, leb-true c.args.k 4 (kind-tests _ _ _ _ _ (sym c.in_ok-kind_fault.ensures)).2) }

pub bounds-kinds-b : goal.bounds-kinds-b
bounds-kinds-b c = ltb-true _ _ (kind-tests _ _ _ _ _ (sym c.in_ok-kind_fault.ensures)).0

pub returns : goal.returns
returns c = kind-changed _ _ _ _ _ c.in_ok-kind_fault.ensures
