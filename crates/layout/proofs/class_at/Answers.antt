-- `layout::class_at` looks an address up where the list has it, and nowhere else. Assumes nothing.
use Rattle.std.proofs.Common.{le-ltb, lt-ltb}
use Rattle.layout.specs.Class.{class_at}
use Rattle.layout.proofs.class_at.Goals.{
  else-a-ge-REGISTERS_FIRST-via-then-a-ge-REGISTERS_FIRST+else-a-lt-REGISTERS_END,
  else-a-ge-REGISTERS_FIRST-via-else-a-ge-REGISTERS_FIRST,
}
use Rattle.layout.proofs.class_at.Goals as goal

pub returns-then-a-lt-REGISTERS_END : goal.returns-then-a-lt-REGISTERS_END
unfolding class_at
returns-then-a-lt-REGISTERS_END c =
    simp (le-ltb _ _ c.if-a-ge-REGISTERS_FIRST.true, lt-ltb _ _ c.if-a-lt-REGISTERS_END.true) c.class_of.ensures

pub returns-else-a-ge-REGISTERS_FIRST : goal.returns-else-a-ge-REGISTERS_FIRST
unfolding class_at
returns-else-a-ge-REGISTERS_FIRST c = elim c.else-a-ge-REGISTERS_FIRST.branch [
  | else-a-ge-REGISTERS_FIRST-via-then-a-ge-REGISTERS_FIRST+else-a-lt-REGISTERS_END w ↦
      simp (le-ltb _ _ w.if-a-ge-REGISTERS_FIRST.true, le-ltb _ _ w.if-a-lt-REGISTERS_END.false)
  | else-a-ge-REGISTERS_FIRST-via-else-a-ge-REGISTERS_FIRST w ↦ simp (lt-ltb _ _ w.if-a-ge-REGISTERS_FIRST.false)
]
