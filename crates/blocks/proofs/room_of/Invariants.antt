-- `blocks::room_of`: what the blocks still ahead say is what all of them say. Assumes nothing.
use Rattle.std.proofs.Common.{◌≡◌, ◌-◌, ◌≤◌, ◌^◌}
use Rattle.blocks.specs.Room.{room_for}
use Rattle.blocks.proofs.room_of.Given as goal

abbrev pub invariant-loop-b : goal.invariant-loop-b
invariant-loop-b l = (l.end ≤ 2 ^ 20) × (room_for l.side l.kinds l.b (l.end - l.b) ≡ room_for l.side l.kinds
    l.initial.b (l.end - l.initial.b))
