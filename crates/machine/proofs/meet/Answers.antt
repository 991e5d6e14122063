-- `machine::meet` meets its contract: 0 leaves the guard's answer, any other number is the answer. Assumes nothing.
use Prim.Native.Nat.{ℕ}
use mathlib.Core.Path.{sym, ap, ◌∙◌}
use Rattle.layout.specs.Refusals.{fault}
use Rattle.guard.specs.declared.Answer.TheVariants.{Refused}
use Rattle.layout.proofs.RefusalLaws.{refusal-some}
use Rattle.machine.specs.After.{left_alone}
use Rattle.machine.proofs.LeavesLaws.{met-kept, met-refused}
use Rattle.machine.proofs.meet.Goals as goal

pub returns-in-Ok : goal.returns-in-Ok
returns-in-Ok c = met-kept _ _ _ _ (ap fault c.in-Ok.is) c.keep.ensures

pub returns-in-Err : goal.returns-in-Err
returns-in-Err c =
    let number = ap fault c.in-Err.is in
    met-refused _ _ _ _ (λ e. refusal-some c.in-Err.refusal (sym number ∙ e))
    (c.keep-in-Err.ensures ∙ ap (λ (n : ℕ). left_alone c.args.s.ctl (Refused n)) (c.from.ensures ∙ sym number))
