-- `kinds::change_released`: the released world is judged. Assumes nothing.
use Rattle.std.proofs.Common.{sym, refl}
use Rattle.book.proofs.ReleaseLaws.{release-parts}
use Rattle.layout.proofs.RefusalLaws.{refusal-some}
use Rattle.guard.proofs.GivesLaws.{answer-refused, answer-accepted}
use Rattle.kinds.proofs.KindLaws.{kind-gives, kind-released}
use Rattle.kinds.proofs.change_released.Goals as goal

pub returns-in-Ok : goal.returns-in-Ok
returns-in-Ok c = kind-released _ _ _ _ _ _ _ (sym (release-parts _ c.release_book.ensures))
    (kind-gives _ _ _ _ _ _ _ c.in-Ok.ensures (answer-accepted _ refl))

pub returns-in-Err : goal.returns-in-Err
returns-in-Err c = kind-released _ _ _ _ _ _ _ (sym (release-parts _ c.release_book.ensures))
    (kind-gives _ _ _ _ _ _ _ c.in-Err.ensures (answer-refused _ (refusal-some _)))
