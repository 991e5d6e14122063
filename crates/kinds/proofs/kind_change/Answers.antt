-- `kinds::kind_change`: 1 or 2, then the release and the judge. Assumes nothing.
use Rattle.layout.proofs.RefusalLaws.{refusal-some}
use Rattle.guard.proofs.GivesLaws.{zero-size}
use Rattle.kinds.proofs.KindLaws.{change-refused, change-gives, judge-same}
use Rattle.kinds.proofs.kind_change.Goals as goal

pub returns-in-Err : goal.returns-in-Err
returns-in-Err c = rw c.into.ensures (change-refused _ _ _ _ _ _ _ c.in-Err.ensures (refusal-some _))

pub unwrap-requires : goal.unwrap-requires
unwrap-requires c = c.as_array.ensures.variant.1 (zero-size _ _ _ _ _ c.in_default.ensures)

pub returns : goal.returns
returns c =
    let e = rw c.unwrap.ensures at c.as_array.ensures.cases in
    rw c.into-2.ensures (change-gives _ _ _ _ _ _ _ c.in_default.ensures (judge-same _ _ _ _ _ _ _ e.same c.change_released.ensures))
