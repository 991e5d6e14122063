-- `words::four_free` reads the four entries as one number; within the list the default does not matter. Assumes nothing.
use Rattle.words.proofs.SetLaws.{free_at-number}
use Rattle.words.proofs.four_free.Goals as goal

pub returns : goal.returns
returns c = free_at-number _ _ _ c.requires c.read_word.ensures
