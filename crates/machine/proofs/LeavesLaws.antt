-- The parts put together: what guard and controller leave is what the machine's definitions say. Assumes nothing.
--     met-kept, met-refused      the controller's answer to an accepted write
--     carry-kept, carry-met      a refused write, and one that went on
--     write-leaves, kind-leaves  a whole guest write, a whole kind change
--     frame-moves, step-moves    a frame, a step
use Prim.Native.Nat.{ℕ}
use mathlib.Core.Path.{◌≡◌, refl, ap, ◌∙◌, subst}
use mathlib.Core.Bool.{Bool, true, false}
use mathlib.Core.List.{List}
use mathlib.Core.Logic.{◌≢◌}
use lib.Dec.{eqb}
use borrow.Author.Tests.{eq-eqb, ne_eqb}
use Rattle.layout.specs.Choice.{pick}
use Rattle.layout.specs.Refusals.{fault}
use Rattle.registers.specs.Table.{loaded}
use Rattle.guard.specs.declared.Answer.{Answer}
use Rattle.guard.specs.declared.Answer.TheVariants.{Refused}
use Rattle.guard.specs.Answers.{Outcome, number_of, world_at, Gives}
use Rattle.guard.specs.Guard.{guest_write}
use Rattle.kinds.specs.Kinds.{kind_change}
use Rattle.phases.specs.declared.Burst.TheVariants.{Quiet}
use Rattle.phases.specs.declared.Engine.{Engine}
use Rattle.controller.specs.declared.Controller.{Controller}
use Rattle.controller.specs.declared.Stepped.{Stepped}
use Rattle.controller.specs.declared.Arrived.{Arrived}
use Rattle.controller.specs.Controller.{StepDone, outcome, step_of, Framed, arrival, frame_of, unguarded_write}
use Rattle.machine.specs.declared.After.{After}
use Rattle.machine.specs.Machine.{Machine, with_world, with_ctl, carried_out, answer_of, apply_write, apply_kind, apply_frame, apply_step}
use Rattle.machine.specs.After.{machine_at, left_alone, met, reached_by, Leaves, Moves}

module _ (c : Controller) (n : ℕ) (a : Answer) (r : After) where
  pub met-kept : n ≡ 0 → r ≡ left_alone c a → r ≡ met c n a
  unfolding met
  met-kept h e = rw (eq-eqb n 0 h) e

  pub met-refused : n ≢ 0 → r ≡ left_alone c (Refused n) → r ≡ met c n a
  unfolding met
  met-refused h e = rw (ne_eqb n 0 h) e

module _ (a v : ℕ) (c : Controller) (x : Answer) (m : List ℕ) (n : ℕ) (i : n ≡ number_of x) where
  pub carry-kept : n ≢ 0 → (r : After) → r ≡ left_alone c x → (r, m) ≡ reached_by a v c x m
  unfolding reached_by
  carry-kept h r e = rw (← i, ne_eqb n 0 h) (ap (λ (y : After). (y, m)) e)

  pub carry-met : n ≡ 0 → (s : Stepped) (m' : List ℕ) → outcome s m' ≡ unguarded_write a v c m
      → (r : After) → r ≡ met s.ctl (fault s.answer) x
      → (r, m') ≡ reached_by a v c x m
  unfolding reached_by
  carry-met h s m' o r e = rw (← i, eq-eqb n 0 h, ← o) (ap (λ (y : After). (y, m')) e)

-- ---- a whole guest write, a whole kind change

abbrev Reached : Type 0
Reached = After × List ℕ

module _ (s : Machine) (o : Outcome) (r : After) (m k t u l : List ℕ)
    (ek : k ≡ o.world.kinds) (et : t ≡ o.world.state) (eu : u ≡ o.world.used) (el : l ≡ o.world.lens) where
  -- whichever way it went, what was handed back has the parts that the machine has
  all-parts : (c : Controller) (m' : List ℕ) (a : Answer) → ◌≡◌ {A = Reached} (r, m) (left_alone c a, m')
      → Leaves (record { machine = with_ctl c m' (with_world o.world s); answer = a; burst = Quiet }) r m k t u l
  all-parts c m' a e = record {
    answer = ap (λ (y : Reached). y.0.answer) e;
    burst = ap (λ (y : Reached). y.0.burst) e;
    ctl = ap (λ (y : Reached). y.0.ctl) e;
    mem = ap (λ (y : Reached). y.1) e;
    kinds = ek;
    state = et;
    used = eu;
    lens = el;
  }

  pick-leaves : (p q : Bool) (x : StepDone)
      → (r, m) ≡ pick {A = Reached} p (pick q (left_alone x.ctl o.answer) (left_alone x.ctl (Refused x.number)), x.mem)
      (left_alone s.ctl o.answer, o.world.mem)
      → Leaves (pick p (pick q
      (record { machine = with_ctl x.ctl x.mem (with_world o.world s); answer = o.answer; burst = Quiet })
      (record { machine = with_ctl x.ctl x.mem (with_world o.world s); answer = Refused x.number; burst = Quiet }))
      (record { machine = with_world o.world s; answer = o.answer; burst = Quiet })) r m k t u l
  pick-leaves true true x e = all-parts x.ctl x.mem o.answer e
  pick-leaves true false x e = all-parts x.ctl x.mem (Refused x.number) e
  pick-leaves false q x e = all-parts s.ctl o.world.mem o.answer e

  reached-leaves : (a v : ℕ) → (r, m) ≡ reached_by a v s.ctl o.answer o.world.mem → Leaves (carried_out a v o s) r m k t u l
  unfolding reached_by met
  reached-leaves a v e =
      pick-leaves (eqb (number_of o.answer) 0) (eqb (unguarded_write a v s.ctl o.world.mem).number 0)
      (unguarded_write a v s.ctl o.world.mem) e

-- t0 is the small state with the controller's registers; m1 to l1 are what the guard left, with its answer x
module _ (c : Controller) (m k t u l t0 : List ℕ) (e0 : t0 ≡ loaded c.state t) (x : Answer) (m1 k1 t1 u1 l1 : List ℕ) (r : After) where
  pub write-leaves : (a v : ℕ) (m2 : List ℕ) → Gives (guest_write a v (world_at m k t0 u l)) x m1 k1 t1 u1 l1
      → (r, m2) ≡ reached_by a v c x m1 → Leaves (apply_write a v (machine_at c m k t u l)) r m2 k1 t1 u1 l1
  unfolding apply_write
  write-leaves a v m2 g e =
      let o = guest_write a v (world_at m k (loaded c.state t) u l) in
      let h : Gives o x m1 k1 t1 u1 l1 = subst (λ (z : List ℕ). Gives (guest_write a v (world_at m k z u l)) x m1 k1 t1 u1 l1) e0 g in
      reached-leaves (machine_at c m k t u l) o r m2 k1 t1 u1 l1 h.kinds h.state h.used h.lens a v
      (e ∙ ap (λ (y : Answer). reached_by a v c y m1) h.answer ∙ ap (λ (y : List ℕ). reached_by a v c o.answer y) h.mem)

  pub kind-leaves : (p q : ℕ) → Gives (kind_change p q (world_at m k t0 u l)) x m1 k1 t1 u1 l1 → r ≡ left_alone c x
      → Leaves (apply_kind p q (machine_at c m k t u l)) r m1 k1 t1 u1 l1
  unfolding apply_kind
  kind-leaves p q g e =
      let o = kind_change p q (world_at m k (loaded c.state t) u l) in
      let h : Gives o x m1 k1 t1 u1 l1 = subst (λ (z : List ℕ). Gives (kind_change p q (world_at m k z u l)) x m1 k1 t1 u1 l1) e0 g in
      record {
        answer = ap (λ (y : After). y.answer) e ∙ h.answer;
        burst = ap (λ (y : After). y.burst) e;
        ctl = ap (λ (y : After). y.ctl) e;
        mem = h.mem;
        kinds = h.kinds;
        state = h.state;
        used = h.used;
        lens = h.lens;
      }

-- ---- the controller alone

pub frame-moves : (n : ℕ) (c : Controller) (r : Arrived) (a : Answer) (x : After) → arrival r ≡ frame_of n c
    → a ≡ answer_of (fault r.answer) → x ≡ left_alone r.ctl a → (m : List ℕ) → Moves (apply_frame n) c m x m
unfolding apply_frame
frame-moves n c r a x e i h m k t u l = record {
  answer = ap (λ (y : After). y.answer) h ∙ i ∙ ap (λ (z : Framed). answer_of z.number) e;
  burst = ap (λ (y : After). y.burst) h;
  ctl = ap (λ (y : After). y.ctl) h ∙ ap (λ (z : Framed). z.ctl) e;
  mem = refl;
  kinds = refl;
  state = refl;
  used = refl;
  lens = refl;
}

pub step-moves : (e : Engine) (c : Controller) (m : List ℕ) (r : Stepped) (a : Answer) (m1 : List ℕ) → outcome r m1 ≡ step_of e c m
    → a ≡ answer_of (fault r.answer) → Moves (apply_step e) c m (record { ctl = r.ctl; answer = a; burst = r.burst }) m1
unfolding apply_step
step-moves e c m r a m1 q i k t u l = record {
  answer = i ∙ ap (λ (z : StepDone). answer_of z.number) q;
  burst = ap (λ (z : StepDone). z.burst) q;
  ctl = ap (λ (z : StepDone). z.ctl) q;
  mem = ap (λ (z : StepDone). z.mem) q;
  kinds = refl;
  state = refl;
  used = refl;
  lens = refl;
}
