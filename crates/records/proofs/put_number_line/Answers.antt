-- `records::put_number_line`: the letter, the number and what stands behind it. Assumes nothing.
use native.Mathlib.Omega.{arith}
use Rattle.records.proofs.PrintLaws.{prints-then}
use Rattle.records.proofs.LineLaws.{length-decimal}
use Rattle.records.proofs.put_number_line.Goals as goal

pub put_tail-requires : goal.put_tail-requires
put_tail-requires c = omega (arith, length-decimal c.args.b)

pub returns : goal.returns
returns c = prints-then c.put_text-first.ensures (prints-then c.put_decimal-tail.ensures c.put_tail.ensures)
