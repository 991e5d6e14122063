-- `guard::word_at`: an address in descriptor memory is not below it. Assumes nothing.
use Rattle.std.proofs.Common.{sym, ◌∙◌, arith}
use Rattle.layout.proofs.PointerLaws.{in_descriptors-bounds}
use Rattle.guard.proofs.word_at.Goals as goal

pub overflow_sub-result : goal.overflow_sub-result
overflow_sub-result c = omega (arith, in_descriptors-bounds _ (sym c.is_descriptor.ensures ∙ c.if-is_descriptor.true))
