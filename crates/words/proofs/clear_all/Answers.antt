-- `words::clear_all` leaves no word in the set. Assumes nothing.
use mathlib.Core.Path.{refl}
use Rattle.words.specs.WordSet.{empty_set}
use Rattle.words.proofs.clear_all.Goals as goal

pub returns : goal.returns
unfolding empty_set
returns c = refl
