-- `words::word_of` reads word k at four times k. Assumes nothing.
use Rattle.words.specs.Word.{word}
use Rattle.words.proofs.word_of.Goals as goal

pub returns : goal.returns
unfolding word
returns c = c.read_word.ensures
