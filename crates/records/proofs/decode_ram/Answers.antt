-- `records::decode_ram`: each test of the code is one of the definition. Assumes nothing.
use mathlib.Core.Bool.{true, false}
use mathlib.Core.Path.{sym, ◌∙◌}
use native.Mathlib.Omega.{arith}
use Rattle.records.proofs.RecordLaws.{ram-cut, ram-over, ram-rest, ram-whole}
use Rattle.records.proofs.decode_ram.Goals as goal

pub returns-in_default : goal.returns-in_default
returns-in_default c = sym (ram-cut _ c.in_default.len_below)

pub returns-then-blocks-gt-RAM_MAX : goal.returns-then-blocks-gt-RAM_MAX
returns-then-blocks-gt-RAM_MAX c = ram-over _ _ (c.from-blocks.ensures ∙ c.from_le_bytes-n.ensures) c.if-blocks-gt-RAM_MAX.true

pub returns-in_default-get : goal.returns-in_default-get
returns-in_default-get c = ram-rest _ _ (c.from-blocks.ensures ∙ c.from_le_bytes-n.ensures)
    (omega (arith, c.in_default-get.ensures.lookup))

pub returns-then-not-kinds_fit : goal.returns-then-not-kinds_fit
returns-then-not-kinds_fit c = let part = c.in-Some.ensures.lookup in
    ram-whole _ _ _ false (c.from-blocks.ensures ∙ c.from_le_bytes-n.ensures) c.if-blocks-gt-RAM_MAX.false
    c.in-len4-up.len_at_least part.0.1 part.0.2 (sym c.if-not-kinds_fit.ensures)

pub returns : goal.returns
returns c = let part = c.in-Some.ensures.lookup in
    rw (c.from.ensures ∙ sym c.from-blocks.ensures)
    (ram-whole _ _ _ true (c.from-blocks.ensures ∙ c.from_le_bytes-n.ensures) c.if-blocks-gt-RAM_MAX.false
    c.in-len4-up.len_at_least part.0.1 part.0.2 (sym c.if-not-kinds_fit.ensures))
