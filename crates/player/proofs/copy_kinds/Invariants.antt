-- `player::copy_kinds`: the kinds copied so far are the first of those to be copied. Assumes nothing.
use Rattle.std.proofs.Common.{◌≡◌, length, take}
use Rattle.player.proofs.copy_kinds.Given as goal

abbrev pub invariant-loop-i : goal.invariant-loop-i
invariant-loop-i l = (take l.i l.kinds ≡ take l.i l.listed) × (length l.kinds ≡ length l.listed)
