-- `layout::is_descriptor`: the two ends of descriptor memory. Assumes nothing.
use Rattle.std.proofs.Common.{le-ltb, lt-ltb}
use Rattle.std.proofs.lemmas.Bool.{lt-leb}
use Rattle.layout.specs.Layout.{in_descriptors}
use Rattle.layout.proofs.is_descriptor.Goals as goal

pub returns-then-a-ge-DESC_FIRST : goal.returns-then-a-ge-DESC_FIRST
unfolding in_descriptors
returns-then-a-ge-DESC_FIRST c = simp (le-ltb _ _ c.if-a-ge-DESC_FIRST.true)

pub returns-else-a-ge-DESC_FIRST : goal.returns-else-a-ge-DESC_FIRST
unfolding in_descriptors
returns-else-a-ge-DESC_FIRST c = simp (lt-ltb _ _ c.if-a-ge-DESC_FIRST.false, lt-leb _ _ c.if-a-ge-DESC_FIRST.false)
