-- `api::gresomund_fresh`: zeros everywhere; no word is in use. Assumes nothing.
use Rattle.std.proofs.Common.{rules}
use Rattle.words.specs.WordSet.{empty_set}
use Rattle.api.proofs.gresomund_fresh.Goals as goal

pub returns : goal.returns
unfolding empty_set
returns c = search rules
