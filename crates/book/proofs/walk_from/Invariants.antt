-- `book::walk_from`: what is left to walk gives the answer of the whole; at each turn fewer words are free. Assumes nothing.
use Rattle.std.proofs.Common.{◌≡◌}
use Rattle.words.specs.Word.{word}
use Rattle.words.specs.WordSet.{free_count}
use Rattle.book.specs.Sound.{walk_from}
use Rattle.book.proofs.walk_from.Given as goal

abbrev pub invariant-loop-next : goal.invariant-loop-next
invariant-loop-next l = walk_from (word l.m) l.met l.p ≡ walk_from (word l.m) l.initial.met l.initial.p

abbrev pub decreases-loop-next : goal.decreases-loop-next
decreases-loop-next l = free_count l.met
