-- `controller::steps::tear_queue` meets its contract: what is pending, the engine and the stage pick the case. Assumes nothing.
use mathlib.Core.Path.{◌∙◌, sym, ap}
use native.Mathlib.Omega.{arith}
use Rattle.controller.specs.declared.Controller.{Controller}
use Rattle.controller.specs.Controller.{answer, tear_step}
use Rattle.controller.proofs.StepLaws.{tear-1, tear-2, tear-3}
use Rattle.controller.proofs.steps.tear_queue.Goals as goal
use Rattle.controller.proofs.steps.tear_queue.Goals.{in-2, in_default, then-not-is_tearing-via-then-not-is_tearing}
use Rattle.controller.proofs.steps.tear_queue.Goals.{then-not-is_tearing-via-else-not-is_tearing+then-not-is_quiet}

pub returns-then-not-is_tearing : goal.returns-then-not-is_tearing
unfolding tear_step
returns-then-not-is_tearing c = c.give.ensures _ ∙ elim c.then-not-is_tearing.branch [
  | then-not-is_tearing-via-then-not-is_tearing w ↦ simp (sym c.is_tearing.ensures ∙ w.if-not-is_tearing.true)
  | then-not-is_tearing-via-else-not-is_tearing+then-not-is_quiet w ↦ simp (
    sym c.is_tearing.ensures ∙ w.if-not-is_tearing.false,
    sym w.is_quiet.ensures ∙ w.if-not-is_quiet.true,
  )
]

pub returns-in-1 : goal.returns-in-1
returns-in-1 c =
    let a = c.args in
    let tearing = sym c.is_tearing.ensures ∙ c.if-not-is_tearing.false in
    let still = sym c.is_quiet.ensures ∙ c.if-not-is_quiet.false in
    c.tear_mark.ensures ∙ sym (tear-1 a.q a.c a.m.now tearing still (sym c.stage.ensures ∙ c.in-1.is))

pub returns : goal.returns
returns c =
    let a = c.args in
    let m = a.m.now in
    let tearing = sym c.is_tearing.ensures ∙ c.if-not-is_tearing.false in
    let still = sym c.is_quiet.ensures ∙ c.if-not-is_quiet.false in
    let n = c.stage.ensures in
    c.give-2.ensures m ∙ elim c.match-stage.branch [
      | in-2 w ↦
          ap (λ (d : Controller). answer 0 d m) (w.c-is ∙ w.tear_clear.ensures)
          ∙ sym (tear-2 a.q a.c m tearing still (sym n ∙ w.in-2.is))
      | in_default w ↦
          ap (λ (d : Controller). answer 0 d m) (w.c-is ∙ w.tear_report.ensures)
          ∙ sym (tear-3 a.q a.c m tearing still (omega arith) (omega arith))
    ]
