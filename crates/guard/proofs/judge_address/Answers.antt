-- `guard::judge_address`: 3, then descriptor memory or a register. Assumes nothing.
use Rattle.std.proofs.Common.{refl}
use Rattle.guard.proofs.JudgeLaws.{word-found, word-none}
use Rattle.guard.proofs.GivesLaws.{judge-3, address_word, address-class}
use Rattle.guard.proofs.judge_address.Goals as goal

pub returns-then-a-ne0 : goal.returns-then-a-ne0
returns-then-a-ne0 c = judge-3 _ _ _ _ _ _ _ c.if-a-ne0.true

pub judge_word-requires : goal.judge_word-requires
judge_word-requires c = (word-found _ _ c.in-Some.ensures).3

pub returns-in-Some : goal.returns-in-Some
returns-in-Some c =
    let f = word-found _ _ c.in-Some.ensures in
    address_word _ _ _ _ _ _ _ c.if-a-ne0.false refl f.0 f.2 c.judge_word.ensures

pub returns-in-None : goal.returns-in-None
returns-in-None c = address-class _ _ _ _ _ _ _ c.if-a-ne0.false refl
    (word-none _ c.if-a-ne0.false c.in-None.ensures) c.class_at.ensures c.judge_class.ensures
