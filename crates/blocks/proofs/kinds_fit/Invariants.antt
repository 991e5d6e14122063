-- `blocks::kinds_fit`: what is left to ask, with the highest kind so far, is the same at every turn. Assumes nothing.
use Rattle.std.proofs.Common.{◌≡◌, leb, drop}
use Rattle.layout.specs.Choice.{both}
use Rattle.blocks.specs.Kinds.{all_kinds}
use Rattle.blocks.proofs.kinds_fit.Given as goal

abbrev pub invariant-loop-i : goal.invariant-loop-i
invariant-loop-i l = both (leb l.top 4) (all_kinds (drop l.i l.kinds)) ≡ all_kinds l.kinds
