-- `kinds::kind_change_sound`: the state is fit and sound, so the release and the judge are all. Assumes nothing.
use Rattle.guard.proofs.GivesLaws.{fit-size}
use Rattle.kinds.proofs.KindLaws.{change-sound, judge-same}
use Rattle.kinds.proofs.kind_change_sound.Goals as goal

pub unwrap-requires : goal.unwrap-requires
unwrap-requires c = c.as_array.ensures.variant.1 (fit-size _ _ _ _ _ c.requires.0)

pub returns : goal.returns
returns c =
    let e = rw c.unwrap.ensures at c.as_array.ensures.cases in
    rw c.into.ensures
    (change-sound _ _ _ _ _ _ _ c.requires.0 c.requires.1 (judge-same _ _ _ _ _ _ _ e.same c.change_released.ensures))
