-- `descriptor::has_flag` reads the bit that the flag's number names. Assumes nothing.
use native.Mathlib.Omega.{arith}
use Rattle.descriptor.specs.Fields.{sop, eop, owner, eoq, td}
use Rattle.descriptor.proofs.has_flag.Goals as goal

pub returns : goal.returns
unfolding sop eop owner eoq td
returns c = grind arith
