-- `blocks::touches_block` asks whether the range begins before the block's end, and ends after its start. Assumes nothing.
use Rattle.std.proofs.Common.{◌+◌, ◌*◌, ◌∙◌, ◌≡◌, true, false, nat_lt, arith, lt-ltb, le-ltb, ltb-true, ltb-false, sym}
use Rattle.layout.specs.Layout.{ram_first, block_bytes}
use Rattle.layout.proofs.ChoiceLaws.{clash}
use Rattle.blocks.specs.Room.{touches}
use Rattle.blocks.proofs.touches_block.Goals.{then-len-gt0, else-len-gt0}
use Rattle.blocks.proofs.touches_block.Goals as goal

pub returns-then-lo-start : goal.returns-then-lo-start
unfolding touches
returns-then-lo-start c = let s = c.args in elim c.if-len-gt0.branch [
  | then-len-gt0 w ↦
      let l : nat_lt s.lo (ram_first + block_bytes * (s.b + 1)) ≡ true =
      lt-ltb s.lo (ram_first + block_bytes * (s.b + 1)) (
      let h = ltb-true _ _ (sym w.value-is ∙ c.if-lo-start.true) in
      omega (arith, h, c.from.ensures, c.from-lo.ensures)) in
      simp (lt-ltb 0 s.len w.if-len-gt0.true, l, c.from.ensures, c.from-lo.ensures, c.from-then-lo-start.ensures)
  | else-len-gt0 w ↦ clash c.if-lo-start.true (w.value-is ∙ le-ltb 0 s.len w.if-len-gt0.false)
]

pub returns-else-lo-start : goal.returns-else-lo-start
unfolding touches
returns-else-lo-start c = let s = c.args in elim c.if-len-gt0.branch [
  | then-len-gt0 w ↦
      let l : nat_lt s.lo (ram_first + block_bytes * (s.b + 1)) ≡ false =
      le-ltb s.lo (ram_first + block_bytes * (s.b + 1)) (
      let h = ltb-false _ _ (sym w.value-is ∙ c.if-lo-start.false) in
      omega (arith, h, c.from.ensures, c.from-lo.ensures)) in
      simp (lt-ltb 0 s.len w.if-len-gt0.true, l, c.if-lo-start.false)
  | else-len-gt0 w ↦ simp (le-ltb 0 s.len w.if-len-gt0.false, c.if-lo-start.false)
]
