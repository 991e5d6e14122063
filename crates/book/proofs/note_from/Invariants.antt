-- `book::note_from`: what is left to note completes the whole; at each turn fewer words are left to note. Assumes nothing.
use Rattle.std.proofs.Common.{◌≡◌}
use Rattle.words.specs.Word.{word}
use Rattle.words.specs.WordSet.{free_count}
use Rattle.book.specs.Sound.{firsts_from}
use Rattle.book.proofs.note_from.Given as goal

abbrev pub invariant-loop-next : goal.invariant-loop-next
invariant-loop-next l = firsts_from (word l.m) l.firsts l.p ≡ firsts_from (word l.m) l.initial.firsts l.initial.p

abbrev pub decreases-loop-next : goal.decreases-loop-next
decreases-loop-next l = free_count l.firsts
