-- Guard and controller over one memory, one operation at a time.
--     Machine                 controller, descriptor memory, kinds, the guard's small state, words in use and lengths
--     world_of s               what the guard sees of it: the registers in its small state are read from the controller first
--     Op, apply o s           one operation, whole; what it answered, did and left
--     fresh_machine kinds      "A fresh machine has zero descriptor memory and registers, empty queues, idle engines"
--     run_ops os s             operations one after another
-- Assumes nothing: these are definitions.
use Rattle.std.specs.Prelude.{ℕ, List, [], ◌∷◌, replicate, eqb}
use Rattle.layout.specs.Choice.{pick}
use Rattle.layout.specs.Layout.{desc_bytes}
use Rattle.registers.specs.Table.{loaded}
use Rattle.book.specs.World.{World, fresh_state, fresh_used, fresh_lens}
use Rattle.guard.specs.declared.Answer.{Answer}
use Rattle.guard.specs.declared.Answer.TheVariants.{Refused}
use Rattle.guard.specs.declared.Effect.TheVariants.{Plain}
use Rattle.guard.specs.Answers.{Outcome, number_of, answer_to}
use Rattle.guard.specs.Guard.{guest_write}
use Rattle.kinds.specs.Kinds.{kind_change}
use Rattle.phases.specs.declared.Burst.{Burst}
use Rattle.phases.specs.declared.Burst.TheVariants.{Quiet}
use Rattle.phases.specs.declared.Engine.{Engine}
use Rattle.controller.specs.declared.Controller.{Controller}
use Rattle.controller.specs.Controller.{StepDone, step_of, frame_of, unguarded_write, fresh_controller}

pub record Machine : Type 0 where
  pub ctl : Controller
  pub mem : List ℕ
  pub kinds : List ℕ
  pub state : List ℕ
  pub used : List ℕ
  pub lens : List ℕ

abbrev pub world_of : Machine → World
world_of s = record { mem = s.mem; kinds = s.kinds; state = loaded s.ctl.state s.state; used = s.used; lens = s.lens }

-- the machine with the guard's world; its registers are read anew before the next call
abbrev pub with_world : World → Machine → Machine
with_world t s = record { ctl = s.ctl; mem = t.mem; kinds = t.kinds; state = t.state; used = t.used; lens = t.lens }

abbrev pub with_ctl : Controller → List ℕ → Machine → Machine
with_ctl c m s = record { ctl = c; mem = m; kinds = s.kinds; state = s.state; used = s.used; lens = s.lens }

-- the machine after an operation, its answer, and the burst made
pub record Happened : Type 0 where
  pub machine : Machine
  pub answer : Answer
  pub burst : Burst

-- an accepted guest write reaches the controller as a write that no guard has judged; 22 there is the answer
abbrev pub reached : Answer → StepDone → Machine → Happened
reached a x s =
    pick (eqb x.number 0)
    (record { machine = with_ctl x.ctl x.mem s; answer = a; burst = Quiet })
    (record { machine = with_ctl x.ctl x.mem s; answer = Refused x.number; burst = Quiet })

abbrev pub carried_out : ℕ → ℕ → Outcome → Machine → Happened
carried_out a v o s =
    let t = with_world o.world s in
    let x = unguarded_write a v s.ctl o.world.mem in
    pick (eqb (number_of o.answer) 0) (reached o.answer x t) (record { machine = t; answer = o.answer; burst = Quiet })

-- a number as an answer
abbrev pub answer_of : ℕ → Answer
answer_of n = answer_to Plain n

pub data Op : Type 0 where
  write : ℕ → ℕ → Op
  kind : ℕ → ℕ → Op
  frame : ℕ → Op
  step : Engine → Op

unfoldable pub apply_write : ℕ → ℕ → Machine → Happened
apply_write a v s = carried_out a v (guest_write a v (world_of s)) s

unfoldable pub apply_kind : ℕ → ℕ → Machine → Happened
apply_kind b k s =
    let o = kind_change b k (world_of s) in
    record { machine = with_world o.world s; answer = o.answer; burst = Quiet }

unfoldable pub apply_frame : ℕ → Machine → Happened
apply_frame n s =
    let x = frame_of n s.ctl in
    record { machine = with_ctl x.ctl s.mem s; answer = answer_of x.number; burst = Quiet }

unfoldable pub apply_step : Engine → Machine → Happened
apply_step e s =
    let x = step_of e s.ctl s.mem in
    record { machine = with_ctl x.ctl x.mem s; answer = answer_of x.number; burst = x.burst }

abbrev pub apply : Op → Machine → Happened
apply (write a v) s = apply_write a v s
apply (kind b k) s = apply_kind b k s
apply (frame n) s = apply_frame n s
apply (step e) s = apply_step e s

abbrev pub run_ops : List Op → Machine → Machine
run_ops [] s = s
run_ops (o ∷ os) s = run_ops os (apply o s).machine

unfoldable pub fresh_machine : List ℕ → Machine
fresh_machine kinds = record {
  ctl = fresh_controller;
  mem = replicate desc_bytes 0;
  kinds = kinds;
  state = fresh_state;
  used = fresh_used;
  lens = fresh_lens;
}
