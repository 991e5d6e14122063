-- Any two outcomes that one promise allows are the same. Assumes nothing.
--     outcome-unique, arrival-unique     what was handed back is known from its outcome
--     step-by-unique, unguarded-write-unique, take-frame-by-unique, fresh-unique     a theorem for each public function
use Prim.Native.Nat.{ℕ}
use mathlib.Core.Path.{◌≡◌, ap, ◌∙◌, sym}
use Rattle.std.proofs.Common.{Result}
use Rattle.layout.specs.declared.refusals.Refusal.{Refusal}
use mathlib.Core.List.{List}
use Rattle.controller.specs.declared.Controller.{Controller}
use Rattle.phases.specs.declared.Engine.{Engine}
use Rattle.controller.specs.declared.Stepped.{Stepped}
use Rattle.controller.specs.declared.Arrived.{Arrived}
use Rattle.layout.proofs.RefusalLaws.{fault-unique}
use Rattle.controller.specs.Controller.{StepDone, outcome, step_of, Framed, arrival, frame_of, unguarded_write, fresh_controller}

pub outcome-unique : (o : StepDone) (r s : Stepped) (x y : List ℕ) → outcome r x ≡ o → outcome s y ≡ o → (r ≡ s) × (x ≡ y)
outcome-unique o r s x y p q =
    let e = p ∙ sym q in
    let same = fault-unique r.answer s.answer (ap (λ (z : StepDone). z.number) e) in (
      ap {B = Stepped} (λ (z : StepDone). record { ctl = z.ctl; burst = z.burst; answer = r.answer }) e
          ∙ ap {B = Stepped} (λ (x : Result Unit Refusal). record { ctl = s.ctl; burst = s.burst; answer = x }) same,
      ap (λ (z : StepDone). z.mem) e,
    )

pub arrival-unique : (o : Framed) (r s : Arrived) → arrival r ≡ o → arrival s ≡ o → r ≡ s
arrival-unique o r s p q =
    let e = p ∙ sym q in
    ap {B = Arrived} (λ (z : Framed). record { ctl = z.ctl; answer = r.answer }) e
    ∙ ap {B = Arrived} (λ (x : Result Unit Refusal). record { ctl = s.ctl; answer = x })
    (fault-unique r.answer s.answer (ap (λ (z : Framed). z.number) e))

pub step-by-unique : (c : Controller) (m : List ℕ) (e : Engine) (r s : Stepped) (x y : List ℕ)
    → outcome r x ≡ step_of e c m → outcome s y ≡ step_of e c m → (r ≡ s) × (x ≡ y)
step-by-unique c m e r s x y p q = outcome-unique (step_of e c m) r s x y p q

pub unguarded-write-unique : (c : Controller) (m : List ℕ) (a v : ℕ) (r s : Stepped) (x y : List ℕ)
    → outcome r x ≡ unguarded_write a v c m → outcome s y ≡ unguarded_write a v c m → (r ≡ s) × (x ≡ y)
unguarded-write-unique c m a v r s x y p q = outcome-unique (unguarded_write a v c m) r s x y p q

pub take-frame-by-unique : (c : Controller) (n : ℕ) (r s : Arrived) → arrival r ≡ frame_of n c → arrival s ≡ frame_of n c → r ≡ s
take-frame-by-unique c n r s p q = arrival-unique (frame_of n c) r s p q

pub fresh-unique : (r s : Controller) → r ≡ fresh_controller → s ≡ fresh_controller → r ≡ s
fresh-unique r s p q = p ∙ sym q
