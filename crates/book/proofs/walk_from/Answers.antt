-- `book::walk_from` is one step, and the walk from where that goes. Assumes nothing.
use Rattle.std.proofs.Common.{◌∙◌}
use Rattle.book.proofs.SoundLaws.{walk-on, walk-over, walk-falls}
use Rattle.book.proofs.walk_from.Goals as goal

pub loop-next-smaller : goal.loop-next-smaller
loop-next-smaller c = walk-falls _ _ _ c.in-Some.ensures

pub loop-next-preserved : goal.loop-next-preserved
loop-next-preserved c = walk-on _ _ _ c.in-Some.ensures ∙ c.loop-next.invariant

pub returns : goal.returns
returns c = walk-over _ _ _ c.in_default.ensures ∙ c.loop-next.invariant
