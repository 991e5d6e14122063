-- Demand 3: after every legal sequence of operations from a fresh start, every legal operation is safe. Assumes nothing.
--     write_kept, kind-kept    a write, a kind change: safe, and the invariant holds after it
--     apply-kept               every operation
--     apply-inv, run-inv       the invariant, after an operation and after a sequence
--     always, sound-always     every sequence from a fresh start: the statement, and that the book stays sound
use Prim.Native.Nat.{ℕ, ◌%◌, ◌<◌, ◌^◌}
use mathlib.Core.Path.{◌≡◌, refl, ap, sym, subst}
use mathlib.Core.List.{List, [], ◌∷◌}
use mathlib.Core.Logic.{inl, inr, ◌≢◌}
use native.Mathlib.Omega.{arith}
use lib.Dec.{eqb}
use Rattle.layout.specs.Layout.{in_descriptors}
use Rattle.book.specs.World.{World}
use Rattle.guard.specs.Answers.{Outcome, number_of}
use Rattle.guard.specs.Judges.{judge}
use Rattle.guard.specs.Guard.{admitted, guest_write}
use Rattle.kinds.specs.Kinds.{judge_kind, kind_change}
use Rattle.machine.specs.Machine.{Machine, Op, write, kind, frame, step, apply, run_ops, world_of, with_world, carried_out, apply_write}
use Rattle.machine.specs.Machine.{apply_kind, fresh_machine}
use Rattle.safety.specs.Statement.{Legal, AllLegal, Safety, Soundness}
use Rattle.safety.proofs.Inv.{Inv}
use Rattle.safety.proofs.Machines.{Kept, frame-kept, step_kept, fresh-inv}
use Rattle.safety.proofs.Calm.{Calm, Loaded, book_of, calm-inv, released, release-calm, release-loaded}
use Rattle.safety.proofs.Twice.{never-unfit, never-unsound}
use Rattle.safety.proofs.Refusals.{Verdict, judge-verdict, kind-verdict, refuses-not, release-kinds}
use Rattle.safety.proofs.KindChanges.{KindOutcome, judge_kind-changed, kind-calm}
use Rattle.safety.proofs.Writes.{Fair, Passes, passes-refuse, passes-pick, fair-refused, word-passes}
use Rattle.safety.proofs.RegisterWrites.{class-passes}
use Rattle.safety.proofs.Numbers.{admitted-acts}

-- ---- a write

judge-passes : (a x : ℕ) → x < 2 ^ 32 → (s : Machine) → Calm s → Loaded s → Passes a x s (judge a x (book_of s))
unfolding judge
judge-passes a x b s c l =
    passes-pick a x s (eqb (a % 4) 0) _ _
    (λ whole. passes-pick a x s (in_descriptors a) _ _ (λ there. word-passes a x b s c whole there)
    (λ away. class-passes a x s c l whole away))
    (λ e. passes-refuse a x s 3 (book_of s) (omega arith))

write-fair : (a x : ℕ) → x < 2 ^ 32 → (s : Machine) → Calm s → Loaded s → Fair s (carried_out a x (judge a x (book_of s)) s)
write-fair a x b s c l = at (judge-verdict a x (book_of s))
  where
    at : Verdict (book_of s) (judge a x (book_of s)) → Fair s (carried_out a x (judge a x (book_of s)) s)
    at (inl r) = fair-refused a x s c (judge a x (book_of s)) r
    at (inr y) = judge-passes a x b s c l (ap number_of y.is)

pub write_kept : (a x : ℕ) → x < 2 ^ 32 → (s : Machine) → Inv s → Kept (write a x) s
unfolding apply_write guest_write
write_kept a x b s i = record {
  safe = record {
    defined = f.inv.defined;
    answered = f.answered;
    in_place = rw (release-kinds (world_of s)) at f.in_place;
    spares = tt;
  };
  inv = f.inv;
}
  where
    f : Fair (released s) (carried_out a x (admitted (world_of s) (λ t. judge a x t)) s)
    f =
        subst (λ (o : Outcome). Fair (released s) (carried_out a x o s)) (sym (admitted-acts s i (λ t. judge a x t)))
        (write-fair a x b (released s) (release-calm s i) (release-loaded s i))

-- ---- a kind change

record Settled (s : Machine) (o : Outcome) : Type 0 where
  pub inv : Inv (with_world o.world s)
  pub answered : number_of o.answer ≢ 22

kind-settled : (b k : ℕ) (s : Machine) → Calm s → Settled s (judge_kind b k (book_of s))
kind-settled b k s c = at (judge_kind b k (book_of s)) (kind-verdict b k (book_of s)) (judge_kind-changed b k (book_of s))
  where
    at : (o : Outcome) → Verdict (book_of s) o → KindOutcome b k (book_of s) o → Settled s o
    at o (inl r) x = rw r.is (record { inv = calm-inv s c; answered = refuses-not r.number 22 r.told refl })
    at o (inr y) x =
        let e : number_of o.answer ≡ 0 = ap number_of y.is in
        let d = x.changed e in
        record {
          inv = subst (λ (t : World). Inv (with_world t s)) (sym (x.world e))
              (calm-inv _ (kind-calm s c b k d.low d.high d.clear));
          answered = λ z. omega (arith, z, e);
        }

pub kind-kept : (b k : ℕ) (s : Machine) → Inv s → Kept (kind b k) s
unfolding apply_kind kind_change
kind-kept b k s i = record { safe = record { defined = f.inv.defined; answered = f.answered; in_place = tt; spares = tt }; inv = f.inv }
  where
    f : Settled s (admitted (world_of s) (λ t. judge_kind b k t))
    f =
        let x = kind-settled b k (released s) (release-calm s i) in
        subst (Settled s) (sym (admitted-acts s i (λ t. judge_kind b k t))) (record { inv = x.inv; answered = x.answered })

-- ---- every operation, and every sequence

pub apply-kept : (o : Op) → Legal o → (s : Machine) → Inv s → Kept o s
apply-kept (write a x) l s i = write_kept a x l.1 s i
apply-kept (kind b k) l s i = kind-kept b k s i
apply-kept (frame n) l s i = frame-kept n s i
apply-kept (step e) l s i = step_kept e s i

pub apply-inv : (o : Op) → Legal o → (s : Machine) → Inv s → Inv (apply o s).machine
apply-inv o l s i = (apply-kept o l s i).inv

pub run-inv : (os : List Op) → AllLegal os → (s : Machine) → Inv s → Inv (run_ops os s)
run-inv [] l s i = i
run-inv (o ∷ os) l s i = run-inv os l.1 (apply o s).machine (apply-inv o l.0 s i)

pub always : Safety
always kinds f os l o k = (apply-kept o k (run_ops os (fresh_machine kinds)) (run-inv os l (fresh_machine kinds) (fresh-inv kinds f))).safe

pub sound-always : Soundness
sound-always kinds f os l =
    let s = run_ops os (fresh_machine kinds) in
    let i = run-inv os l (fresh_machine kinds) (fresh-inv kinds f) in
    (never-unfit s i, never-unsound s i)
