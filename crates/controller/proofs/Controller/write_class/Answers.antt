-- `controller::Controller::write_class` meets its contract: the refusal's number picks the case. Assumes nothing.
use Prim.Native.Nat.{ℕ}
use mathlib.Core.Path.{◌≡◌, sym, ap, ◌∙◌}
use borrow.Author.Tests.{ne_eqb}
use Rattle.std.proofs.Common.{Err}
use Rattle.layout.specs.Refusals.{refusal_number}
use Rattle.layout.specs.declared.refusals.Refusal.TheVariants.{NotGuarded}
use Rattle.controller.specs.Controller.{answer, set_state, register_write}
use Rattle.layout.proofs.RefusalLaws.{fault-unique, refusal-some}
use Rattle.controller.proofs.Controller.write_class.Goals as goal

pub returns-in-Ok : goal.returns-in-Ok
unfolding register_write
returns-in-Ok c = λ m.
    let begun = c.begin_engine.ensures in
    let t = c.write_register.ensures in
    simp (sym c.in-Ok.ensures) (λ i. answer 0 (set_state (t i) (begun i)) m)

pub returns-in-NotGuarded : goal.returns-in-NotGuarded
unfolding register_write
returns-in-NotGuarded c = λ m.
    let number = ap refusal_number c.in-NotGuarded.is in
    simp (sym c.in-Err.ensures ∙ number) (ap (λ (n : ℕ). answer n c.args.self.now m) number)

pub returns-in_default : goal.returns-in_default
unfolding register_write
returns-in_default c = λ m.
    let r = c.in-Err.refusal in
    let other = λ (e : refusal_number r ≡ 4). c.in_default.not-NotGuarded (cc (fault-unique (Err r) (Err NotGuarded) e)) in
    simp (sym c.in-Err.ensures, ne_eqb _ _ (refusal-some r), ne_eqb _ _ other)
