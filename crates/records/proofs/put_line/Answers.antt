-- `records::put_line`: the letter, the first part and what stands behind it. Assumes nothing.
use Rattle.records.proofs.PrintLaws.{prints-then}
use Rattle.records.proofs.put_line.Goals as goal

pub returns : goal.returns
returns c = prints-then c.put_text-first.ensures (prints-then c.put_text-tail.ensures c.put_tail.ensures)
