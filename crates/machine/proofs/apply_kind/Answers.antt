-- `machine::apply_kind` meets its contract: the registers, then the guard alone decides; the controller stays as it is. Assumes nothing.
use Rattle.machine.proofs.LeavesLaws.{kind-leaves}
use Rattle.machine.proofs.apply_kind.Goals as goal

pub returns : goal.returns
returns c = kind-leaves _ _ _ _ _ _ _
    c.load_registers.ensures _ _ _ _ _ _ _ _ _
    c.kind_change.ensures c.keep.ensures
