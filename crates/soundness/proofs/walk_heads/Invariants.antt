-- `soundness::walk_heads` has walked the queues of a side on the channels below c. Assumes nothing.
use Rattle.words.specs.Word.{word}
use Rattle.soundness.specs.Spent.{ask_of}
use Rattle.soundness.proofs.LoopLaws.{Spending}
use Rattle.soundness.proofs.walk_heads.Given as goal

abbrev pub invariant-loop-c : goal.invariant-loop-c
invariant-loop-c l = Spending (word l.m) (ask_of l.side l.used l.lens) l.side l.t l.initial.met l.left l.c l.met l.rest
