-- `book::take_chain`: what is left to take completes the whole; at each turn fewer words are free. Assumes nothing.
use Rattle.std.proofs.Common.{◌≡◌}
use Rattle.words.specs.Word.{word}
use Rattle.words.specs.WordSet.{free_count}
use Rattle.book.specs.HandOver.{taken_from}
use Rattle.book.proofs.take_chain.Given as goal

abbrev pub invariant-loop-next : goal.invariant-loop-next
invariant-loop-next l =
    taken_from (word l.m) l.side (l.used, l.lens) l.p
    ≡ taken_from (word l.m) l.side (l.initial.used, l.initial.lens) l.initial.p

abbrev pub decreases-loop-next : goal.decreases-loop-next
decreases-loop-next l = free_count l.used
