-- `words::is_free` asks the set that the bytes stand for. Assumes nothing.
use Rattle.words.specs.WordSet.{view}
use Rattle.words.proofs.is_free.Goals as goal

pub returns : goal.returns
unfolding view
returns c = c.four_free.ensures
