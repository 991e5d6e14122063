-- `guard::last_from`: the last descriptor from the next one on is the last from here on. Assumes nothing.
use Rattle.std.proofs.Common.{◌≡◌, ◌-◌}
use Rattle.layout.specs.Layout.{desc_words, addr}
use Rattle.words.specs.Word.{word}
use Rattle.guard.specs.Judges.{last_from, last_of}
use Rattle.guard.proofs.last_from.Given as goal

abbrev pub invariant-loop : goal.invariant-loop
invariant-loop l = last_from (word l.m) (desc_words - l.counter) (addr l.at.word) ≡ last_of (word l.m) (addr l.fn.first.word)
