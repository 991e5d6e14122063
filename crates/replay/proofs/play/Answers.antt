-- `replay::play` meets its contract: each record by its own operation, and its line. Assumes nothing.
use Rattle.replay.proofs.PlayLaws.{ram-plays, write-plays, kind-plays, frame-plays, steps-plays}
use Rattle.replay.proofs.play.Goals as goal

pub returns-in-Ram-clause-plays : goal.returns-in-Ram-clause-plays
returns-in-Ram-clause-plays c = rw c.in-Ram.is (ram-plays _ _ _ _ _ _ _ _ _)

pub returns-in-Write-clause-plays : goal.returns-in-Write-clause-plays
returns-in-Write-clause-plays c = rw c.in-Write.is
    (write-plays c.show.ensures.ctl _ c.answer_number.ensures _ _ c.apply_write-answer.ensures c.show.ensures.text)

pub returns-in-Kind-clause-plays : goal.returns-in-Kind-clause-plays
returns-in-Kind-clause-plays c = rw c.in-Kind.is
    (kind-plays c.show-in-Kind.ensures.ctl _ c.answer_number-in-Kind.ensures _ _
    (rw c.from.ensures at c.apply_kind-answer.ensures)
    c.show-in-Kind.ensures.text)

pub returns-in-Frame-clause-plays : goal.returns-in-Frame-clause-plays
returns-in-Frame-clause-plays c = let a = c.args in
    let met = c.apply_frame-answer.ensures a.m.now a.kinds.now a.t.now a.used.now a.lens.now in
    rw c.in-Frame.is
    (frame-plays c.show-in-Frame.ensures.ctl _ c.answer_number-in-Frame.ensures _ (rw c.from-in-Frame.ensures at met)
    c.show-in-Frame.ensures.text)

pub returns-in-Steps-clause-plays : goal.returns-in-Steps-clause-plays
returns-in-Steps-clause-plays c = rw c.in-Steps.is (steps-plays _ _ _ (c.play_steps.ensures.goes _ _ _ _))
