-- `soundness::count_lengths` has counted the entries passed. Assumes nothing.
use Rattle.std.proofs.Common.{◌≤◌, length, ◌∙◌, arith}
use Rattle.soundness.proofs.LoopLaws.{one_most, counting-first, counting-next, counting-last}
use Rattle.soundness.proofs.count_lengths.Goals as goal

pub overflow_add-n : goal.overflow_add-n
overflow_add-n c = let most = c.loop-length.invariant.most in
    omega (arith, one_most)

pub loop-length-init : goal.loop-length-init
loop-length-init c = counting-first _

pub loop-length-preserved : goal.loop-length-preserved
loop-length-preserved c = counting-next c.from-n.ensures c.loop-length.invariant

pub returns : goal.returns
returns c = let all : length c.args.lens.now ≤ c.loop-length.length-index = omega arith in
    let most = c.loop-length.invariant.most in
    (c.from.ensures ∙ counting-last all c.loop-length.invariant, omega arith)
