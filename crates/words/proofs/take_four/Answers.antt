-- `words::take_four` sets four bytes to 1, one after the other. Assumes nothing.
use Rattle.words.specs.WordSet.{add_four}
use borrow.Author.Rules.{rules}
use Rattle.words.proofs.take_four.Goals as goal

pub returns : goal.returns
unfolding add_four
returns c = search rules
