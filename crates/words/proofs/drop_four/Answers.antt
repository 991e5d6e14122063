-- `words::drop_four` sets four bytes to 0, one after the other. Assumes nothing.
use Rattle.words.specs.WordSet.{drop_four}
use borrow.Author.Rules.{rules}
use Rattle.words.proofs.drop_four.Goals as goal

pub returns : goal.returns
unfolding drop_four
returns c = search rules
