-- `layout::set_bit` adds the weight of a bit that is clear. Assumes nothing.
use Rattle.std.proofs.Common.{◌+◌, ◌^◌, ◌<◌, sym, ◌∙◌, rules}
use Rattle.layout.specs.Bits.{set_bit}
use Rattle.layout.proofs.BitLaws.{set_bit-lt}
use Rattle.layout.proofs.set_bit.Goals as goal

pub returns-then-has_bit : goal.returns-then-has_bit
unfolding set_bit
returns-then-has_bit c = simp (sym c.has_bit.ensures ∙ c.if-has_bit.true)

pub overflow_add-result : goal.overflow_add-result
unfolding set_bit
overflow_add-result c = let a = c.args in
    let b = sym c.has_bit.ensures ∙ c.if-has_bit.false in
    let h : a.w + 2 ^ a.k < 2 ^ 32 = simp b at (set_bit-lt 32 a.k a.w (search rules) (search rules)) in
    record { fits = rw c.weight.ensures h }

pub returns-else-has_bit : goal.returns-else-has_bit
unfolding set_bit
returns-else-has_bit c = simp (sym c.has_bit.ensures ∙ c.if-has_bit.false, c.weight.ensures)
