-- `layout::weight` is a power of 2 that a word holds. Assumes nothing.
use Rattle.std.proofs.Common.{◌^◌, ◌<◌, arith, rules}
use lib.Pow.{pow-lt}
use Rattle.layout.proofs.weight.Goals as goal

pub returns : goal.returns
returns c = let k = c.args.k in
    let h : 2 ^ k < 2 ^ 32 = pow-lt {i = k} {j = 32} (search rules) in
    omega (arith, h)
