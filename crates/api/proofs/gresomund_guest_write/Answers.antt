-- `api::gresomund_guest_write`: the inner call's own promise, its answer packed. Assumes nothing.
use Rattle.api.proofs.CrossingLaws.{crosses}
use Rattle.api.proofs.gresomund_guest_write.Goals as goal

pub returns : goal.returns
returns c = crosses c.guest_write.ensures c.pack.ensures
