-- `player::act` meets its contract: a record and its lines, or the last line. Assumes nothing.
use Rattle.std.proofs.Common.{◌≤◌, length, refl, sym, arith}
use lib.Seq.{length-take-le}
use Rattle.records.proofs.LineLaws.{length-bad_line, length-sent_line}
use Rattle.player.proofs.StandLaws.{line-room, line-ends, decoded-is, acted-end, acted-bad, acted-good}
use Rattle.player.proofs.act.Goals.{in-Ok-None, in-Err}
use Rattle.player.proofs.act.Goals as goal

pub returns-in-Ok-Some-clause-acted : goal.returns-in-Ok-Some-clause-acted
returns-in-Ok-Some-clause-acted g c =
    let h = c.requires in
    acted-good _ _ _ _ _ _ _ _ _ _ _ _ _ (decoded-is c.in-Ok-Some.is
    (rw c.in-Ok-Some.is at c.in-Ok-Some.field-0-is)) _ _ _ _ _ _ _ _ c.play-played.ensures.plays
    (record { ctl = refl; at = refl; window = c.pass.ensures; offset = c.saturating_add.ensures })
    (omega (arith, c.play-played.ensures.end_bound, h.1, h.2)) h.0

pub slice_bounds-write_all-end : goal.slice_bounds-write_all-end
slice_bounds-write_all-end g c = elim c.match-d.branch [
  | in-Ok-None w ↦ rw (w.end-is, w.out-is) (line-room w.put_totals-end.ensures (length-sent_line _ _) (omega arith))
  | in-Err w ↦ rw (w.end-is, w.out-is) (line-room w.put_bad-end.ensures (length-bad_line _) (omega arith))
]

pub slice_bounds-write_all-end-2 : goal.slice_bounds-write_all-end-2
slice_bounds-write_all-end-2 g c =
    let h : c.match-d.end ≤ length c.match-d.out = elim c.match-d.branch [
      | in-Ok-None w ↦ rw (w.end-is, w.out-is) (line-room w.put_totals-end.ensures (length-sent_line _ _) (omega arith))
      | in-Err w ↦ rw (w.end-is, w.out-is) (line-room w.put_bad-end.ensures (length-bad_line _) (omega arith))
    ] in
    sym (length-take-le _ _ h)

pub returns-clause-acted : goal.returns-clause-acted
returns-clause-acted g c = elim c.match-d.branch [
  | in-Ok-None w ↦
      rw (w.end-is, w.out-is)
      (acted-end _ _ _ _ _ _ _ _ _ _ _ _ _ (decoded-is w.in-Ok-None.is (rw w.in-Ok-None.is at w.in-Ok-None.field-0-is))
      (line-ends w.put_totals-end.ensures (length-sent_line _ _) (omega arith)))
  | in-Err w ↦
      rw (w.end-is, w.out-is)
      (acted-bad _ _ _ _ _ _ _ _ _ _ _ _ _ w.in-Err.is (line-ends w.put_bad-end.ensures (length-bad_line _) (omega arith)))
]
