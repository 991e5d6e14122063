-- Any two outcomes that one promise allows are the same. Assumes nothing.
--     step-engine-unique, take-frame-unique, hosted-unique, hosted-frame-unique     a theorem for each public function
use Prim.Native.Nat.{ℕ}
use mathlib.Core.Path.{◌≡◌, ap, ◌∙◌, sym}
use mathlib.Core.List.{List}
use Rattle.std.proofs.Common.{Result}
use Rattle.layout.specs.Refusals.{fault}
use Rattle.layout.specs.declared.refusals.Refusal.{Refusal}
use Rattle.controller.specs.declared.Controller.{Controller}
use Rattle.phases.specs.declared.Engine.{Engine}
use Rattle.controller.specs.declared.Stepped.{Stepped}
use Rattle.controller.specs.declared.Arrived.{Arrived}
use Rattle.controller.specs.Controller.{outcome, step_of, arrival, frame_of}
use Rattle.layout.proofs.RefusalLaws.{fault-unique}
use Rattle.controller.proofs.UniqueLaws.{outcome-unique, arrival-unique}
use Rattle.host.specs.declared.Told.{Told}
use Rattle.host.specs.Host.{Tells, told_of, tells}

both-same : {A : Type 0} {x y z : A} → x ≡ z → y ≡ z → x ≡ y
both-same p q = p ∙ sym q

told-same : (r s : Told) → tells r ≡ tells s → r ≡ s
told-same r s e =
    ap {B = Told} (λ (x : Tells). record { burst = x.burst; answer = r.answer }) e
    ∙ ap {B = Told} (λ (x : Result Unit Refusal). record { burst = s.burst; answer = x })
    (fault-unique r.answer s.answer (ap (λ (x : Tells). x.number) e))

pub step-engine-unique : (c : Controller) (m : List ℕ) (e : Engine) (r s : Told) (d b : Controller) (x y : List ℕ)
    → (tells r ≡ told_of (step_of e c m)) × (d ≡ (step_of e c m).ctl) × (x ≡ (step_of e c m).mem)
    → (tells s ≡ told_of (step_of e c m)) × (b ≡ (step_of e c m).ctl) × (y ≡ (step_of e c m).mem) → (r ≡ s) × (d ≡ b) × (x ≡ y)
step-engine-unique c m e r s d b x y p q = (told-same r s (both-same p.0 q.0), both-same p.1 q.1, both-same p.2 q.2)

pub take-frame-unique : (c : Controller) (n : ℕ) (r s : Result Unit Refusal) (d b : Controller)
    → (fault r ≡ (frame_of n c).number) × (d ≡ (frame_of n c).ctl) → (fault s ≡ (frame_of n c).number) × (b ≡ (frame_of n c).ctl)
    → (r ≡ s) × (d ≡ b)
take-frame-unique c n r s d b p q = (fault-unique r s (both-same p.0 q.0), both-same p.1 q.1)

pub hosted-unique : (c : Controller) (m : List ℕ) (e : Engine) (r s : Stepped) (x y : List ℕ)
    → outcome r x ≡ step_of e c m → outcome s y ≡ step_of e c m → (r ≡ s) × (x ≡ y)
hosted-unique c m e r s x y p q = outcome-unique (step_of e c m) r s x y p q

pub hosted-frame-unique : (c : Controller) (n : ℕ) (r s : Arrived) → arrival r ≡ frame_of n c → arrival s ≡ frame_of n c → r ≡ s
hosted-frame-unique c n r s p q = arrival-unique (frame_of n c) r s p q
