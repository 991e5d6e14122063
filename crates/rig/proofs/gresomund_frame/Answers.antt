-- `rig::gresomund_frame`: the host's own promise, in parts. Assumes nothing.
use Rattle.rig.proofs.PartLaws.{came-of}
use Rattle.rig.proofs.gresomund_frame.Goals as goal

pub returns : goal.returns
returns c = came-of _ _ _ _ _ _ c.read_record-k.ensures c.hosted_frame-a.ensures c.save_record.ensures c.number.ensures
