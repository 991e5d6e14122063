-- `rig::gresomund_unguarded`: the controller's own promise, in parts. Assumes nothing.
use Rattle.rig.proofs.PartLaws.{written_of}
use Rattle.rig.proofs.gresomund_unguarded.Goals as goal

pub returns : goal.returns
returns c = let s = c.save_stepped.ensures in
    written_of _ _ _ _ _ _ _ _ _ _ c.read_record-k.ensures c.unguarded_write-s.ensures s.0 s.1 s.2
