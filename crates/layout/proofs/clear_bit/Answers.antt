-- `layout::clear_bit` takes away the weight of a bit that is set. Assumes nothing.
use Rattle.std.proofs.Common.{sym, ◌∙◌}
use Rattle.layout.specs.Bits.{clear_bit}
use Rattle.layout.proofs.BitLaws.{bit_le}
use Rattle.layout.proofs.clear_bit.Goals as goal

pub overflow_sub-result : goal.overflow_sub-result
overflow_sub-result c = let a = c.args in
    rw c.weight.ensures (bit_le a.k a.w (sym c.has_bit.ensures ∙ c.if-has_bit.true))

pub returns-then-has_bit : goal.returns-then-has_bit
unfolding clear_bit
returns-then-has_bit c = simp (sym c.has_bit.ensures ∙ c.if-has_bit.true, c.weight.ensures)

pub returns-else-has_bit : goal.returns-else-has_bit
unfolding clear_bit
returns-else-has_bit c = simp (sym c.has_bit.ensures ∙ c.if-has_bit.false)
