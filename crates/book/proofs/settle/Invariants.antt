-- `book::settle` has asked the queues below q. Assumes nothing.
use Rattle.book.proofs.HeadLaws.{Settling}
use Rattle.book.proofs.settle.Given as goal

abbrev pub invariant-loop-q : goal.invariant-loop-q
invariant-loop-q l = Settling l.t l.q l.mask
