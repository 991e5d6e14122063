-- `layout::side_of`: even queues transmit, odd ones receive. Assumes nothing.
use Rattle.std.proofs.Common.{eq-eqb, ne_eqb}
use Rattle.layout.specs.Layout.{side_of}
use Rattle.layout.proofs.side_of.Goals as goal

pub returns-then-q-eq0 : goal.returns-then-q-eq0
unfolding side_of
returns-then-q-eq0 c = simp (eq-eqb _ _ c.if-q-eq0.true)

pub returns-else-q-eq0 : goal.returns-else-q-eq0
unfolding side_of
returns-else-q-eq0 c = simp (ne_eqb _ _ c.if-q-eq0.false)
