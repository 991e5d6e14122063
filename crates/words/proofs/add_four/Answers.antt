-- `words::add_four` adds the four words to the set that the bytes stand for. Assumes nothing.
use Rattle.words.specs.WordSet.{view}
use borrow.Author.Rules.{rules}
use Rattle.words.proofs.add_four.Goals as goal

pub returns : goal.returns
unfolding view
returns c = search rules
