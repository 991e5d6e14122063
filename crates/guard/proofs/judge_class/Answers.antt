-- `guard::judge_class` goes by the class number. Assumes nothing.
use Rattle.std.proofs.Common.{ℕ, refl, ap, ◌∙◌, arith}
use Rattle.layout.specs.Layout.{queue_of}
use Rattle.layout.specs.declared.Side.{Side}
use Rattle.registers.specs.Rules.{tear_queue}
use Rattle.guard.proofs.GivesLaws.{class-head}
use Rattle.guard.proofs.ClassLaws.{class-ack, class-teardown, class-reset, class-zero, class-passed, class-unoffered, class_low}
use Rattle.guard.proofs.ClassLaws.{class-mid, class-past, queue_of-side}
use Rattle.guard.proofs.judge_class.Goals as goal

pub returns-in-34 : goal.returns-in-34
returns-in-34 c = class-reset _ _ _ _ _ _ _ c.in-34.is c.judge_reset.ensures

pub returns-in-0-to-1 : goal.returns-in-0-to-1
returns-in-0-to-1 c = class-head _ _ _ _ _ _ _ (omega arith) refl c.judge_head.ensures

pub returns-in-16-to-17 : goal.returns-in-16-to-17
returns-in-16-to-17 c = class-ack _ _ _ _ _ _ _ (omega arith) (omega arith) refl c.judge_ack.ensures

pub returns-in-32-to-33 : goal.returns-in-32-to-33
returns-in-32-to-33 c = class-teardown _ _ _ _ _ _ _ (omega arith) (omega arith) (c.tear_queue.ensures.0
    ∙ ap (λ (k : ℕ). tear_queue k c.args.v) (ap (λ (s : Side). queue_of s 0) c.side_of.ensures ∙ queue_of-side _ (omega arith)))
    c.judge_teardown.ensures

pub returns-in-35-to-47 : goal.returns-in-35-to-47
returns-in-35-to-47 c = class-zero _ _ _ _ _ _ _ (omega arith)
    (omega arith) c.judge_zero.ensures

pub returns-in-48-to-63 : goal.returns-in-48-to-63
returns-in-48-to-63 c = class-passed _ _ _ _ _ _ _ (omega arith) (omega arith)

pub returns-in-64-to-79 : goal.returns-in-64-to-79
returns-in-64-to-79 c = class-unoffered _ _ _ _ _ _ _ (omega arith) (omega arith)

pub returns-in_default : goal.returns-in_default
returns-in_default c = class_low _ _ _ _ _ _ _ (omega arith) (omega arith)

pub returns-in_default-2 : goal.returns-in_default-2
returns-in_default-2 c = class-mid _ _ _ _ _ _ _ (omega arith) (omega arith)

pub returns-in_default-3 : goal.returns-in_default-3
returns-in_default-3 c = class-past _ _ _ _ _ _ _ (omega arith)
