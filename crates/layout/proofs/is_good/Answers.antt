-- `layout::is_good` asks the place. Assumes nothing.
use Rattle.std.proofs.Common.{arith}
use Rattle.layout.proofs.PointerLaws.{place-test}
use Rattle.layout.proofs.is_good.Goals as goal

pub returns : goal.returns
returns c = place-test _ _ (omega arith) c.descriptor_word.ensures
