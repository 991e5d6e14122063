-- `records::decode_first`: an `RM` record or nothing. Assumes nothing.
use mathlib.Core.Path.{◌∙◌}
use native.Mathlib.Omega.{arith}
use Rattle.records.proofs.RecordLaws.{first-ram, first-bad}
use Rattle.records.proofs.decode_first.Goals as goal

pub returns-in_default : goal.returns-in_default
returns-in_default c = first-bad _ (λ h e f. omega arith)

pub returns-in_default-2 : goal.returns-in_default-2
returns-in_default-2 c = first-bad _ (λ h e f. omega arith)

pub returns-in_default-3 : goal.returns-in_default-3
returns-in_default-3 c = first-bad _ (λ h e f. omega arith)

pub returns : goal.returns
returns c = c.decode_ram.ensures ∙ first-ram _ (omega arith) (omega arith) (omega arith)
