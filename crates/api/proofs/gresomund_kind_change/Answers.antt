-- `api::gresomund_kind_change`: the inner call's own promise, its answer packed. Assumes nothing.
use Rattle.api.proofs.CrossingLaws.{crosses}
use Rattle.api.proofs.gresomund_kind_change.Goals as goal

pub returns : goal.returns
returns c = crosses c.kind_change.ensures c.pack.ensures
