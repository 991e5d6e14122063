-- `words::write_word` stores the four bytes of a word, the lowest first. Assumes nothing.
use native.Mathlib.Omega.{arith}
use lib.ListN.{length-set}
use Rattle.words.specs.Word.{put_word}
use borrow.Author.Rules.{rules}
use Rattle.words.proofs.write_word.Goals as goal

pub bounds-m-at-2 : goal.bounds-m-at-2
bounds-m-at-2 c = simp length-set (omega arith)

pub bounds-m-at-3 : goal.bounds-m-at-3
bounds-m-at-3 c = simp length-set (omega arith)

pub bounds-m-at-4 : goal.bounds-m-at-4
bounds-m-at-4 c = simp length-set (omega arith)

pub returns : goal.returns
unfolding put_word
returns c = search rules
