-- Which numbers a guard call can answer where the invariant holds: 0, or 3 to 21. Answers 1 and 2 never occur, and the
-- controller adds no 22 of its own. Assumes nothing.
--     admitted-acts                  a guard call is judged on the released book, never answered 1 or 2
--     guest-number, change-number    the guard's answer to a guest write and to a kind change
--     agrees                         what the guard sees of the released machine is the controller's
--     answer-is                      the machine's answer to a guest write is the guard's
--     write-number, kind-number      so of any machine with the invariant
use Prim.Native.Nat.{ℕ}
use mathlib.Core.Path.{◌≡◌, refl, ap, ◌∙◌, sym, subst}
use mathlib.Core.Bool.{Bool, true, false}
use mathlib.Core.Logic.{inl, inr}
use lib.Dec.{eqb}
use borrow.Author.Tests.{eq-eqb, eqb-true}
use Rattle.layout.specs.Choice.{pick}
use Rattle.book.specs.World.{World, release}
use Rattle.guard.specs.declared.Answer.{Answer}
use Rattle.guard.specs.Answers.{number_of, Outcome}
use Rattle.guard.specs.Judges.{judge}
use Rattle.guard.specs.Guard.{admitted, guest_write}
use Rattle.kinds.specs.Kinds.{judge_kind, kind_change}
use Rattle.controller.specs.Controller.{unguarded_write}
use Rattle.machine.specs.Machine.{Machine, write, kind, apply, apply_write, apply_kind, world_of, carried_out}
use Rattle.safety.specs.Follows.{refusals, is_in, Refuses, Number, Agrees}
use Rattle.safety.proofs.Inv.{Inv}
use Rattle.safety.proofs.Calm.{released, release-calm, release-loaded}
use Rattle.safety.proofs.Twice.{never-unfit, never-unsound}
use Rattle.safety.proofs.Refusals.{Verdict, judge-verdict, kind-verdict}
use Rattle.safety.proofs.Allowed.{allowed}
use Rattle.safety.proofs.Registers.{calm-alike}

-- ---- the guard

refuses-number : (n : ℕ) → Refuses n → Number n
refuses-number n r = at (eqb n 0)
  where
    at : (t : Bool) → pick t true (is_in n refusals) ≡ true
    at true = refl
    at false = r

verdict-number : (s : World) (o : Outcome) → Verdict s o → Number (number_of o.answer)
verdict-number s o (inl r) = rw r.is (refuses-number r.number r.told)
verdict-number s o (inr x) = rw x.is refl

-- neither 1 nor 2
pub admitted-acts : (s : Machine) → Inv s → (act : World → Outcome) → admitted (world_of s) act ≡ act (release (world_of s))
unfolding admitted
admitted-acts s i act = rw (never-unfit s i, never-unsound s i) refl

pub guest-number : (a x : ℕ) (s : Machine) → Inv s → Number (number_of (guest_write a x (world_of s)).answer)
unfolding guest_write
guest-number a x s i =
    let t = release (world_of s) in
    rw (admitted-acts s i (λ t. judge a x t)) (verdict-number t (judge a x t) (judge-verdict a x t))

pub change-number : (b k : ℕ) (s : Machine) → Inv s → Number (number_of (kind_change b k (world_of s)).answer)
unfolding kind_change
change-number b k s i =
    let t = release (world_of s) in
    rw (admitted-acts s i (λ t. judge_kind b k t)) (verdict-number t (judge_kind b k t) (kind-verdict b k t))

-- ---- the machine

-- where the controller answers 0 the guard's answer stands
carried-answer : (a x : ℕ) (o : Outcome) (s : Machine)
    → (number_of o.answer ≡ 0 → (unguarded_write a x s.ctl o.world.mem).number ≡ 0)
    → (carried_out a x o s).answer ≡ o.answer
carried-answer a x o s f = at (eqb (number_of o.answer) 0) refl
  where
    at : (t : Bool) → eqb (number_of o.answer) 0 ≡ t → (carried_out a x o s).answer ≡ o.answer
    at true e = rw (e, eq-eqb (unguarded_write a x s.ctl o.world.mem).number 0 (f (eqb-true (number_of o.answer) 0 e))) refl
    at false e = rw e refl

-- what the guard sees of the released machine is the controller's
pub agrees : (s : Machine) → Inv s → Agrees (release (world_of s)) s.ctl
agrees s i =
    let c = release-calm s i in
    record {
      alike = calm-alike (released s) c (release-loaded s i);
      here = c.sized.book.size;
      there = c.sized.ctl.size;
      defined = c.defined;
    }

-- "22 controller undefined (model only)": a guarded write is answered by the guard alone
pub answer-is : (a x : ℕ) (s : Machine) → Inv s → (apply_write a x s).answer ≡ (guest_write a x (world_of s)).answer
unfolding apply_write guest_write
answer-is a x s i = carried-answer a x (admitted (world_of s) (λ t. judge a x t)) s
    (numbered (admitted (world_of s) (λ t. judge a x t)) (admitted-acts s i (λ t. judge a x t)))
  where
    numbered : (o : Outcome) → o ≡ judge a x (release (world_of s)) → number_of o.answer ≡ 0
        → (unguarded_write a x s.ctl o.world.mem).number ≡ 0
    numbered o e z =
        subst (λ (y : Outcome). (unguarded_write a x s.ctl y.world.mem).number ≡ 0) (sym e)
        (allowed a x (release (world_of s)) s.ctl (agrees s i) (release-calm s i).held.fit.size
        (ap (λ (y : Outcome). number_of y.answer) (sym e) ∙ z)).number

pub write-number : (a x : ℕ) (s : Machine) → Inv s → Number (number_of (apply (write a x) s).answer)
write-number a x s i = subst (λ (y : Answer). Number (number_of y)) (sym (answer-is a x s i)) (guest-number a x s i)

pub kind-number : (b k : ℕ) (s : Machine) → Inv s → Number (number_of (apply (kind b k) s).answer)
unfolding apply_kind
kind-number b k s i = change-number b k s i
