-- `soundness::count_lengths` has counted the entries passed. Assumes nothing.
use Rattle.soundness.proofs.LoopLaws.{Counting}
use Rattle.soundness.proofs.count_lengths.Given as goal

abbrev pub invariant-loop-length : goal.invariant-loop-length
invariant-loop-length l = Counting l.lens l.length-index l.n
