-- `words::copy_set` leaves the words in use in the set. Assumes nothing.
use mathlib.Core.Path.{refl}
use Rattle.words.specs.WordSet.{view}
use Rattle.words.proofs.copy_set.Goals as goal

pub returns : goal.returns
unfolding view
returns c = refl
