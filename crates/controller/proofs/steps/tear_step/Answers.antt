-- `controller::steps::tear_step` meets its contract: the queue of that side and channel, if there is one. Assumes nothing.
use mathlib.Core.Path.{◌∙◌, sym}
use Rattle.controller.proofs.StepLaws.{off-channel}
use Rattle.controller.proofs.steps.tear_step.Goals as goal

pub returns-then-ch-ge-CHANNELS : goal.returns-then-ch-ge-CHANNELS
returns-then-ch-ge-CHANNELS c = let a = c.args in
    c.give.ensures _ ∙ sym (off-channel a.c a.m.now _ c.if-ch-ge-CHANNELS.true)
