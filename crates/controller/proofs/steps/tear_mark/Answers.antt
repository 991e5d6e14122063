-- `controller::steps::tear_mark` meets its contract: HDP picks the case. Assumes nothing.
use Prim.Native.Nat.{ℕ}
use mathlib.Core.Path.{◌∙◌, sym, ap}
use mathlib.Core.List.{List}
use borrow.Author.Tests.{eq-eqb, ne_eqb}
use Rattle.marks.specs.Marks.{td_mark, marked}
use Rattle.controller.specs.Controller.{answer, set_stage, tear_mark}
use Rattle.controller.proofs.steps.tear_mark.Goals as goal
use Rattle.controller.proofs.steps.tear_mark.Goals.{then-p-ne0+in-Some, else-p-ne0}

pub returns-in_default : goal.returns-in_default
unfolding tear_mark
returns-in_default c =
    simp (sym c.hdp-p.ensures, ne_eqb _ _ c.if-p-ne0.true, c.in_default.ensures) (c.give_undefined.ensures _)

pub returns : goal.returns
unfolding tear_mark
returns c =
    let a = c.args in
    let gave = λ (x : List ℕ). answer 0 (set_stage a.q 2 a.c) x in
    c.give.ensures _ ∙ elim c.if-p-ne0.branch [
      | then-p-ne0+in-Some w ↦
          simp (sym c.hdp-p.ensures, ne_eqb _ _ w.if-p-ne0.true, w.in-Some.ensures.0)
          (ap gave (w.m-is ∙ w.mark_td.ensures ∙ ap (λ (k : ℕ). marked td_mark k a.m.now) w.in-Some.ensures.1))
      | else-p-ne0 w ↦ simp (sym c.hdp-p.ensures, eq-eqb _ _ w.if-p-ne0.false) (ap gave w.m-is)
    ]
