-- `records::decode_later` goes by the mark. Assumes nothing.
use mathlib.Core.Path.{◌∙◌}
use native.Mathlib.Omega.{arith}
use Rattle.records.proofs.RecordLaws.{later-write, later-kind, later-frame, later-steps, later-bad, later-short}
use Rattle.records.proofs.decode_later.Goals as goal

pub returns-in-71 : goal.returns-in-71
returns-in-71 c = c.decode_write.ensures ∙ later-write _ (omega arith) (omega arith)

pub returns-in-75 : goal.returns-in-75
returns-in-75 c = c.decode_kind.ensures ∙ later-kind _ (omega arith) (omega arith)

pub returns-in-70 : goal.returns-in-70
returns-in-70 c = c.decode_frame.ensures ∙ later-frame _ (omega arith) (omega arith)

pub returns-in-83 : goal.returns-in-83
returns-in-83 c = c.decode_steps.ensures ∙ later-steps _ (omega arith) (omega arith)

pub returns-in_default : goal.returns-in_default
returns-in_default c = later-short _ c.in_default.len_below

pub returns-in_default-2 : goal.returns-in_default-2
returns-in_default-2 c = later-bad _ (λ e f. omega arith) (λ e f. omega arith) (λ e f. omega arith) (λ e f. omega arith)

pub returns-in_default-3 : goal.returns-in_default-3
returns-in_default-3 c = later-bad _ (λ e f. omega arith) (λ e f. omega arith) (λ e f. omega arith) (λ e f. omega arith)

pub returns-in_default-4 : goal.returns-in_default-4
returns-in_default-4 c = later-bad _ (λ e f. omega arith) (λ e f. omega arith) (λ e f. omega arith) (λ e f. omega arith)

pub returns-in_default-5 : goal.returns-in_default-5
returns-in_default-5 c = later-bad _ (λ e f. omega arith) (λ e f. omega arith) (λ e f. omega arith) (λ e f. omega arith)

pub returns-in_default-6 : goal.returns-in_default-6
returns-in_default-6 c = later-bad _ (λ e f. omega arith) (λ e f. omega arith) (λ e f. omega arith) (λ e f. omega arith)
