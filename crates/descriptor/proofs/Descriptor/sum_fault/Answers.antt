-- `Descriptor::sum_fault` asks EOP, then compares; on a receive buffer both sides are 0. Assumes nothing.
use mathlib.Core.Path.{◌∙◌, sym}
use borrow.Author.Tests.{ne_eqb}
use Rattle.descriptor.specs.Rules.{end_fault}
use Rattle.descriptor.proofs.RuleLaws.{sum_fault-end}
use Rattle.descriptor.proofs.Descriptor.sum_fault.Goals as goal

pub returns-then-sum_at-packet_length : goal.returns-then-sum_at-packet_length
unfolding end_fault
returns-then-sum_at-packet_length c =
    let told = simp c.sop_at.ensures at c.packet_length.ensures in
    sym (sum_fault-end _ _ _ (sym c.has_flag.ensures ∙ c.if-has_flag.true)
    ∙ simp (← c.sum_at.ensures, ← told, ne_eqb _ _ c.if-sum_at-packet_length.true))
