-- `registers::load_registers` copies the registers in two pieces. Assumes nothing.
use Rattle.registers.proofs.LoadLaws.{registers-loaded}
use Rattle.registers.proofs.load_registers.Goals as goal

pub returns : goal.returns
returns c = registers-loaded _ _ _ c.told-t c.told-c c.copy_from_slice.ensures.after
