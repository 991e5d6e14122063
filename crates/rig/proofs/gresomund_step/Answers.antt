-- `rig::gresomund_step`: the host's own promise, in parts. Assumes nothing.
use Rattle.rig.proofs.PartLaws.{stepped-of}
use Rattle.rig.proofs.gresomund_step.Goals as goal

pub returns : goal.returns
returns c = let a = c.args in
    let s = c.save_stepped.ensures in
    stepped-of _ _ _ a.engine a.channel _ _ _ _ _ _ c.engine_at.ensures c.read_record-k.ensures c.hosted-s.ensures s.0
    s.1 s.2
