-- `records::put_decimal`: the digits are those that std writes. Assumes nothing.
-- The place is compared as a number (`prints-at`), so that a wrong one is refused for its value, and a right one in other words is not.
use mathlib.Core.Path.{◌∙◌}
use native.Mathlib.Omega.{arith}
use Rattle.records.proofs.LineLaws.{decimal-same}
use Rattle.records.proofs.PrintLaws.{prints-at}
use Rattle.records.proofs.put_decimal.Goals as goal

pub returns : goal.returns
returns c = prints-at (omega arith)
    (rw (c.as_bytes.ensures.value ∙ c.format.ensures.text ∙ decimal-same c.args.n c.ranges.n.fits) at c.put_text.ensures)
