-- `soundness::walk_from` is one step, and the walk from where that goes. Assumes nothing.
use Rattle.std.proofs.Common.{◌∙◌}
use Rattle.soundness.proofs.StepLaws.{spent-on, spent-over, spent-falls}
use Rattle.soundness.proofs.walk_from.Goals as goal

pub loop-next-smaller : goal.loop-next-smaller
loop-next-smaller c = spent-falls _ _ _ _ _ c.in-Continue.ensures

pub loop-next-preserved : goal.loop-next-preserved
loop-next-preserved c = spent-on _ _ _ _ _ c.in-Continue.ensures ∙ c.loop-next.invariant

pub returns-in-Break : goal.returns-in-Break
returns-in-Break c = spent-over _ _ _ _ _ c.in-Break.ensures ∙ c.loop-next.invariant
