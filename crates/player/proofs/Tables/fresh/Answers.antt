-- `player::Tables::fresh`: zeros everywhere. Assumes nothing.
use Rattle.std.proofs.Common.{refl}
use Rattle.words.specs.WordSet.{empty_set}
use Rattle.player.proofs.Tables.fresh.Goals as goal

pub returns : goal.returns
unfolding empty_set
returns c = record { mem = refl; state = refl; used = refl; lens = refl }
