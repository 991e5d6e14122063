-- `layout::word_number` divides the offset of a good pointer by 4. Assumes nothing.
use Rattle.std.proofs.Common.{refl}
use Rattle.layout.specs.Layout.{word_of}
use Rattle.layout.proofs.PointerLaws.{good_ptr-bounds, good_ptr-is}
use Rattle.layout.proofs.word_number.Goals as goal

pub overflow_sub-result : goal.overflow_sub-result
overflow_sub-result c = (good_ptr-bounds _ c.requires).0

pub returns : goal.returns
unfolding word_of
returns c = (refl, (good_ptr-is _ c.requires).1)
