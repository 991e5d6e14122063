-- `book::note_heads` has noted the receive queues of the channels below c. Assumes nothing.
use Rattle.words.specs.Word.{word}
use Rattle.book.proofs.HeadLaws.{Noting}
use Rattle.book.proofs.note_heads.Given as goal

abbrev pub invariant-loop-c : goal.invariant-loop-c
invariant-loop-c l = Noting (word l.m) l.t l.initial.firsts l.c l.firsts
