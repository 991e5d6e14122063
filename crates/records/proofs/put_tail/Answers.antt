-- `records::put_tail`: a blank, a number and a newline, one behind the other. Assumes nothing.
use native.Mathlib.Omega.{arith}
use Rattle.records.proofs.PrintLaws.{prints-then}
use Rattle.records.proofs.LineLaws.{length-decimal}
use Rattle.records.proofs.put_tail.Goals as goal

pub put_text-requires : goal.put_text-requires
put_text-requires c = omega (arith, length-decimal c.args.n)

pub returns : goal.returns
returns c = prints-then c.put_text-number.ensures (prints-then c.put_decimal-newline.ensures c.put_text.ensures)
