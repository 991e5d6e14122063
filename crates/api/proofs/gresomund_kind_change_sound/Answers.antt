-- `api::gresomund_kind_change_sound`: the inner call's own promise, its answer packed. Assumes nothing.
use Rattle.api.proofs.CrossingLaws.{crosses}
use Rattle.api.proofs.gresomund_kind_change_sound.Goals as goal

pub returns : goal.returns
returns c = crosses c.kind_change_sound.ensures c.pack.ensures
