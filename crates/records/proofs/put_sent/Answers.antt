-- `records::put_sent`: words and numbers in turn, and a newline. Assumes nothing.
use native.Mathlib.Omega.{arith}
use Rattle.records.proofs.PrintLaws.{prints-then}
use Rattle.records.proofs.LineLaws.{length-decimal}
use Rattle.records.specs.Lines.{sent_line}
use Rattle.records.proofs.put_sent.Goals as goal

pub put_text-second-requires : goal.put_text-second-requires
put_text-second-requires c = omega (arith, length-decimal c.args.a)

pub put_decimal-newline-requires : goal.put_decimal-newline-requires
put_decimal-newline-requires c = omega (arith, length-decimal c.args.a)

pub put_text-requires : goal.put_text-requires
put_text-requires c = let a = c.args in
    omega (arith, length-decimal a.a, length-decimal a.b)

pub returns : goal.returns
unfolding sent_line
returns c = prints-then c.put_text-first.ensures
    (prints-then c.put_decimal-word.ensures
    (prints-then c.put_text-second.ensures
    (prints-then c.put_decimal-newline.ensures c.put_text.ensures)))
