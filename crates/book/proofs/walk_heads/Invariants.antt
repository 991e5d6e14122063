-- `book::walk_heads` has walked the chains of the queues passed. Assumes nothing.
use Rattle.words.specs.Word.{word}
use Rattle.book.proofs.HeadLaws.{Walking}
use Rattle.book.proofs.walk_heads.Given as goal

abbrev pub invariant-loop-head : goal.invariant-loop-head
invariant-loop-head l = Walking (word l.m) l.head-items l.initial.met l.head-index l.good l.met
