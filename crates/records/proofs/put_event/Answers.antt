-- `records::put_event` is the line of what happened, by its cases. Assumes nothing.
use mathlib.Core.Path.{refl, ap, ◌∙◌}
use native.Mathlib.Omega.{arith}
use Rattle.records.specs.declared.Event.TheVariants.{Moved}
use Rattle.records.specs.Lines.{line_of}
use Rattle.records.proofs.put_event.Goals as goal

pub returns-in-Wrote : goal.returns-in-Wrote
unfolding line_of
returns-in-Wrote c = simp c.in-Wrote.is (rw (c.hex8.ensures, c.from.ensures) at c.put_line.ensures)

pub returns-in-Changed : goal.returns-in-Changed
unfolding line_of
returns-in-Changed c = simp c.in-Changed.is (rw (c.from-in-Changed.ensures, c.from-in-Changed-2.ensures) at c.put_number_line.ensures)

pub returns-in-Framed : goal.returns-in-Framed
unfolding line_of
returns-in-Framed c =
    simp c.in-Framed.is (rw (c.from-in-Framed.ensures, c.from-in-Framed-2.ensures) at c.put_number_line-in-Framed.ensures)

pub returns-in-Quiet : goal.returns-in-Quiet
unfolding line_of
returns-in-Quiet c = simp (c.in-Moved.is ∙ ap Moved c.in-Quiet.is) (record { ends = omega arith; bytes = refl })

pub returns-in-Read : goal.returns-in-Read
unfolding line_of
returns-in-Read c = simp (c.in-Moved.is ∙ ap Moved c.in-Read.is)
    (rw (c.hex8-in-Read.ensures, c.from-in-Read.ensures) at c.put_line-in-Read.ensures)

pub returns-in-Store : goal.returns-in-Store
unfolding line_of
returns-in-Store c = simp (c.in-Moved.is ∙ ap Moved c.in-Store.is)
    (rw (c.hex8-in-Store.ensures, c.from-in-Store.ensures) at c.put_line-in-Store.ensures)
