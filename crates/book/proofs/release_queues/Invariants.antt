-- `book::release_queues` has released the queues passed. Assumes nothing.
use Rattle.words.specs.Word.{word}
use Rattle.book.proofs.HeadLaws.{Releasing}
use Rattle.book.proofs.release_queues.Given as goal

abbrev pub invariant-loop-head : goal.invariant-loop-head
invariant-loop-head l =
    Releasing (word l.m) l.mode l.initial.head-items (l.initial.used, l.initial.lens) l.head-index l.head-items (l.used, l.lens)
