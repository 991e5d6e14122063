-- `chain::buffer_room` asks the blocks of the whole buffer: its length is in order, so that there are such bytes. Assumes nothing.
use native.Mathlib.Omega.{arith}
use Rattle.descriptor.proofs.RuleLaws.{length_fault-length, length_fault-end}
use Rattle.chain.proofs.buffer_room.Goals as goal

pub room_of-requires : goal.room_of-requires
room_of-requires c = omega (arith, length_fault-length _ _ _ _ c.requires, length_fault-end _ _ _ _ c.requires)
