-- `controller::steps::reset_step` meets its contract: what is pending and all engines pick the case. Assumes nothing.
use mathlib.Core.Path.{◌∙◌, sym, ap}
use mathlib.Core.List.{List}
use Rattle.registers.specs.Table.{set_reset_bit, unmarked}
use Rattle.controller.specs.declared.Channel.{Channel}
use Rattle.controller.specs.Controller.{answer, set_state, set_channels, reset_step}
use Rattle.controller.proofs.steps.reset_step.Goals as goal
use Rattle.controller.proofs.steps.reset_step.Goals.{then-not-is_resetting-via-then-not-is_resetting}
use Rattle.controller.proofs.steps.reset_step.Goals.{then-not-is_resetting-via-else-not-is_resetting+then-not-are_all_quiet}

pub returns-then-not-is_resetting : goal.returns-then-not-is_resetting
unfolding reset_step
returns-then-not-is_resetting c = λ m. c.give.ensures m ∙ elim c.then-not-is_resetting.branch [
  | then-not-is_resetting-via-then-not-is_resetting w ↦ simp (sym c.is_resetting.ensures ∙ w.if-not-is_resetting.true)
  | then-not-is_resetting-via-else-not-is_resetting+then-not-are_all_quiet w ↦ simp (
    sym c.is_resetting.ensures ∙ w.if-not-is_resetting.false,
    sym w.are_all_quiet.ensures ∙ w.if-not-are_all_quiet.true,
  )
]

pub returns : goal.returns
unfolding reset_step
returns c = λ m.
    let a = c.args.c in
    let idle = ap (λ (l : List Channel). answer 0 (set_state (set_reset_bit 0 (unmarked a.state)) (set_channels l a)) m)
    c.idle_channels-idle.ensures in
    simp (
      sym c.is_resetting.ensures ∙ c.if-not-is_resetting.false,
      sym c.are_all_quiet.ensures ∙ c.if-not-are_all_quiet.false,
    ) (c.give-2.ensures m ∙ idle)
