-- `words::is_used` asks whether one byte is 0. Assumes nothing.
use Rattle.words.specs.WordSet.{has}
use borrow.Author.Rules.{rules}
use Rattle.words.proofs.is_used.Goals as goal

pub returns : goal.returns
unfolding has
returns c = search rules
