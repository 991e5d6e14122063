-- `machine::apply_write` meets its contract: the registers, the guard, then what it let pass. Assumes nothing.
use Rattle.machine.proofs.LeavesLaws.{write-leaves}
use Rattle.machine.proofs.apply_write.Goals as goal

pub returns : goal.returns
returns c = write-leaves _ _ _ _ _ _ _
    c.load_registers.ensures _ _ _ _ _ _ _ _ _
    _ c.guest_write-answer.ensures c.carry_out.ensures
