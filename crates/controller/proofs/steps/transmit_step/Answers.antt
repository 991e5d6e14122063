-- `controller::steps::transmit_step` meets its contract: the engine's step picks the case, and unfit it has written nothing.
-- Assumes nothing.
use mathlib.Core.Path.{◌∙◌, sym, ap}
use mathlib.Core.List.{List}
use Prim.Native.Nat.{ℕ}
use Rattle.phases.proofs.StepLaws.{send-unfit}
use Rattle.controller.specs.declared.Controller.{Controller}
use Rattle.controller.specs.Controller.{StepDone, undefine}
use Rattle.controller.proofs.StepLaws.{off-channel, sent}
use Rattle.controller.proofs.steps.transmit_step.Goals as goal

pub returns-then-ch-ge-CHANNELS : goal.returns-then-ch-ge-CHANNELS
returns-then-ch-ge-CHANNELS c = c.give.ensures _ ∙ sym (off-channel c.args.c c.args.m.now _ c.if-ch-ge-CHANNELS.true)

pub returns-in_default : goal.returns-in_default
returns-in_default c =
    let a = c.args in
    let x = c.step_transmit.new.m in
    c.give_undefined.ensures x
    ∙ ap (λ (y : List ℕ). undefine a.c y) (send-unfit _ a.m.now x _ _ _ (sym c.in_default.ensures))
    ∙ sent a.ch a.c a.m.now x c.if-ch-ge-CHANNELS.false c.queue_of-q.ensures.0
    c.is_held.ensures c.hdp.ensures c.cp.ensures c.in_default.ensures

pub returns : goal.returns
returns c =
    let a = c.args in
    let x = c.step_transmit.new.m in
    ap {B = StepDone} (λ (d : Controller). record { ctl = d; mem = x; burst = c.in-Some.s.burst; number = 0 })
    (simp (c.queue_of-q.ensures.0, c.saturating_add.ensures, c.from.ensures) at c.set_registers.ensures)
    ∙ sent a.ch a.c a.m.now x c.if-ch-ge-CHANNELS.false c.queue_of-q.ensures.0
    c.is_held.ensures c.hdp.ensures c.cp.ensures c.in-Some.ensures
