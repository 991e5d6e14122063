-- `layout::slots::slot_at`: a place up to that of the last descriptor is that of a good pointer. Assumes nothing.
use Rattle.std.proofs.Common.{◌∙◌, arith}
use Rattle.layout.proofs.PointerLaws.{place-fits, place-good, place-past}
use Rattle.layout.proofs.slots.slot_at.Goals as goal

pub returns-then-word-le-LAST_DESCRIPTOR : goal.returns-then-word-le-LAST_DESCRIPTOR
returns-then-word-le-LAST_DESCRIPTOR c =
    let g = place-fits c.args.p (omega arith) (omega arith) in
    (g, c.descriptor_word-word.ensures ∙ place-good _ g)

pub returns-else-word-le-LAST_DESCRIPTOR : goal.returns-else-word-le-LAST_DESCRIPTOR
returns-else-word-le-LAST_DESCRIPTOR c = place-past c.args.p (omega arith)
