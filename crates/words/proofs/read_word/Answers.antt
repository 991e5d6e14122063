-- `words::read_word` puts four bytes together, the lowest first. Assumes nothing.
use Rattle.words.specs.Word.{word_at}
use borrow.Author.Rules.{rules}
use Rattle.words.proofs.read_word.Goals as goal

pub returns : goal.returns
unfolding word_at
returns c = search rules
