-- `guard::write_released`: the judge, on what the release leaves. Assumes nothing.
use Rattle.guard.proofs.GivesLaws.{released-gives}
use Rattle.guard.proofs.write_released.Goals as goal

pub returns : goal.returns
returns c = released-gives _ _ _ _ _ _ _ (c.release_any.ensures _) c.judge_address.ensures
