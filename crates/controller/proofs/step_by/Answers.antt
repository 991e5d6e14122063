-- `controller::step_by` meets its contract: memory and mark pick the case, and the arm's engine its step. Assumes nothing.
use mathlib.Core.Path.{◌∙◌, sym, ap}
use mathlib.Core.List.{List}
use Prim.Native.Nat.{ℕ}
use Rattle.controller.specs.Controller.{answer, move_of, step_of}
use Rattle.controller.proofs.EntryLaws.{entry-unfit, entry-undefined, entered}
use Rattle.controller.proofs.step_by.Goals as goal

pub returns-in_default : goal.returns-in_default
unfolding step_of
returns-in_default c =
    let a = c.args in
    c.give.ensures _ ∙ sym (entry-unfit a.c a.m.now (move_of a.e a.c a.m.now) c.in_default.ensures.cases)

pub returns-then-c : goal.returns-then-c
unfolding step_of
returns-then-c c =
    let a = c.args in
    let whole = c.in-Some.ensures.cases in
    c.give-then-c.ensures _ ∙ ap (λ (x : List ℕ). answer 22 a.c x) whole.same
    ∙ sym (entry-undefined a.c a.m.now (move_of a.e a.c a.m.now) whole.long c.if-c.true)

pub returns-in-Reset : goal.returns-in-Reset
returns-in-Reset c =
    let a = c.args in
    let whole = c.in-Some.ensures.cases in
    c.reset_step.ensures _ ∙ entered a.c whole.same whole.long c.if-c.false c.in-Reset.is

pub returns-in-Transmit : goal.returns-in-Transmit
returns-in-Transmit c =
    let a = c.args in
    let whole = c.in-Some.ensures.cases in
    c.transmit_step.ensures ∙ entered a.c whole.same whole.long c.if-c.false c.in-Transmit.is

pub returns-in-Receive : goal.returns-in-Receive
returns-in-Receive c =
    let a = c.args in
    let whole = c.in-Some.ensures.cases in
    c.receive_step.ensures ∙ entered a.c whole.same whole.long c.if-c.false c.in-Receive.is

pub returns-in-TearTransmit : goal.returns-in-TearTransmit
returns-in-TearTransmit c =
    let a = c.args in
    let whole = c.in-Some.ensures.cases in
    c.tear_step.ensures ∙ entered a.c whole.same whole.long c.if-c.false c.in-TearTransmit.is

pub returns-in-TearReceive : goal.returns-in-TearReceive
returns-in-TearReceive c =
    let a = c.args in
    let whole = c.in-Some.ensures.cases in
    c.tear_step-in-TearReceive.ensures ∙ entered a.c whole.same whole.long c.if-c.false c.in-TearReceive.is
