-- `book::take_chain` is one step, and the hand-over from where that goes. Assumes nothing.
use Rattle.std.proofs.Common.{◌∙◌}
use Rattle.book.proofs.HandOverLaws.{taken-on, taken-over, taken-falls}
use Rattle.book.proofs.take_chain.Goals as goal

pub loop-next-smaller : goal.loop-next-smaller
loop-next-smaller c = taken-falls _ _ _ _ c.in-Some.ensures

pub loop-next-preserved : goal.loop-next-preserved
loop-next-preserved c = taken-on _ _ _ _ c.in-Some.ensures ∙ c.loop-next.invariant

pub returns : goal.returns
returns c = taken-over _ _ _ _ c.in_default.ensures ∙ c.loop-next.invariant
