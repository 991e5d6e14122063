-- `soundness::walk_from`: what is left to walk gives the answer of the whole; at each turn less is left. Assumes nothing.
use Rattle.std.proofs.Common.{◌≡◌}
use Rattle.words.specs.Word.{word}
use Rattle.soundness.specs.Spent.{ask_of, spent_from}
use Rattle.soundness.proofs.walk_from.Given as goal

abbrev pub invariant-loop-next : goal.invariant-loop-next
invariant-loop-next l =
    spent_from (word l.m) (ask_of l.side l.used l.lens) l.met l.p l.left
    ≡ spent_from (word l.m) (ask_of l.side l.used l.lens) l.initial.met l.initial.p l.initial.left

abbrev pub decreases-loop-next : goal.decreases-loop-next
decreases-loop-next l = l.left
