-- `guard::last_from`: the last descriptor from the next one on is the last from here on. Assumes nothing.
use Rattle.std.proofs.Common.{◌+◌, ◌-◌, sym, ◌∙◌, arith}
use Rattle.layout.specs.Layout.{desc_words}
use Rattle.words.specs.Word.{word}
use Rattle.guard.proofs.JudgeLaws.{last_of-is, last_none, last-stop, last-go}
use Rattle.guard.proofs.last_from.Goals as goal

pub loop-init : goal.loop-init
loop-init c = last_of-is _ _

pub returns-in_default : goal.returns-in_default
returns-in_default c =
    sym (last-stop (word c.args.m.now) (desc_words - c.loop.counter) _ c.word_of.ensures
    (omega arith) c.in_default.ensures) ∙ c.loop.invariant

pub loop-preserved : goal.loop-preserved
loop-preserved c =
    last-go (word c.args.m.now) (desc_words - c.loop.counter) _ c.word_of.ensures (desc_words - (c.loop.counter + 1)) (omega arith)
    c.in-Some.ensures.0 c.in-Some.ensures.1 ∙ c.loop.invariant

pub returns : goal.returns
returns c = sym (last_none (word c.args.m.now) (desc_words - c.loop.counter) _ (omega arith)) ∙ c.loop.invariant
