-- `guard::is_fit`: the size, then the kinds. Assumes nothing.
use Rattle.std.proofs.Common.{eq-eqb, ne_eqb}
use Rattle.book.specs.World.{fit_parts}
use Rattle.guard.proofs.is_fit.Goals as goal

pub returns-then-m-eq-DESC_BYTES : goal.returns-then-m-eq-DESC_BYTES
unfolding fit_parts
returns-then-m-eq-DESC_BYTES c = simp (eq-eqb _ _ c.if-m-eq-DESC_BYTES.true) c.kinds_fit.ensures

pub returns-else-m-eq-DESC_BYTES : goal.returns-else-m-eq-DESC_BYTES
unfolding fit_parts
returns-else-m-eq-DESC_BYTES c = simp (ne_eqb _ _ c.if-m-eq-DESC_BYTES.false)
