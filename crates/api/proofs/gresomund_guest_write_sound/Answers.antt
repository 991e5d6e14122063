-- `api::gresomund_guest_write_sound`: the inner call's own promise, its answer packed. Assumes nothing.
use Rattle.api.proofs.CrossingLaws.{crosses}
use Rattle.api.proofs.gresomund_guest_write_sound.Goals as goal

pub returns : goal.returns
returns c = crosses c.guest_write_sound.ensures c.pack.ensures
