-- `guard::guest_write_sound`: the state is fit and sound, so the release and the judge are all;
-- a store to a free word needs no release. Assumes nothing.
use Rattle.guard.proofs.GivesLaws.{fit-size, write-same, write-sound, store-sound}
use Rattle.guard.proofs.AckLaws.{ack-sound}
use Rattle.guard.proofs.guest_write_sound.Goals as goal

pub unreachable-requires : goal.unreachable-requires
unreachable-requires c = c.in_default.ensures.cases (fit-size _ _ _ _ _ c.requires.0)

pub returns-in-Some-stored_word : goal.returns-in-Some-stored_word
returns-in-Some-stored_word c =
    let e = c.in-Some.ensures.cases in
    write-same _ _ _ _ _ _ _ e.same (store-sound _ _ _ _ _ _ _ (rw e.same c.requires.0)
    (rw e.same c.requires.1) c.in-Some-stored_word.ensures.0 c.in-Some-stored_word.ensures.2
    c.put_at.ensures)

pub returns-in-Some-quiet_cp : goal.returns-in-Some-quiet_cp
returns-in-Some-quiet_cp c =
    let e = c.in-Some.ensures.cases in
    let q = c.in-Some-quiet_cp.ensures in
    rw c.into.ensures
    (write-same _ _ _ _ _ _ _ e.same (ack-sound _ _ _ _ _ _ _ _ (rw e.same c.requires.0) (rw e.same c.requires.1) q.0
    (q.1, q.2) c.judge_ack.ensures))

pub returns : goal.returns
returns c =
    let e = c.in-Some.ensures.cases in
    rw c.into-2.ensures
    (write-same _ _ _ _ _ _ _ e.same (write-sound _ _ _ _ _ _ _ (rw e.same c.requires.0) (rw e.same c.requires.1) c.write_released.ensures))
