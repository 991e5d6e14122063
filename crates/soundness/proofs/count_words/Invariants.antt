-- `soundness::count_words` has counted the entries passed, and has the highest. Assumes nothing.
use Rattle.soundness.proofs.LoopLaws.{Tallying}
use Rattle.soundness.proofs.count_words.Given as goal

abbrev pub invariant-loop-entry : goal.invariant-loop-entry
invariant-loop-entry l = Tallying l.used l.entry-index l.top l.n
