-- `book::note_from` is one step, and the noting from where that goes. Assumes nothing.
use Rattle.std.proofs.Common.{◌∙◌}
use Rattle.book.proofs.SoundLaws.{firsts-on, firsts-over, firsts-falls}
use Rattle.book.proofs.note_from.Goals as goal

pub loop-next-smaller : goal.loop-next-smaller
loop-next-smaller c = firsts-falls _ _ _ c.in-Some.ensures

pub loop-next-preserved : goal.loop-next-preserved
loop-next-preserved c = firsts-on _ _ _ c.in-Some.ensures ∙ c.loop-next.invariant

pub returns : goal.returns
returns c = firsts-over _ _ _ c.in_default.ensures ∙ c.loop-next.invariant
