-- `layout::descriptor_word` turns the offset. Assumes nothing.
use Rattle.std.proofs.Common.{arith}
use Rattle.layout.proofs.PointerLaws.{place_is}
use Rattle.layout.proofs.descriptor_word.Goals as goal

pub returns : goal.returns
returns c = place_is _ _ (omega arith) (omega (arith, c.ranges.p))
