-- `player::replay_rest`: a turn more, the run over, and no turn left. Assumes nothing.
use Rattle.std.proofs.Common.{◌+◌, ◌-◌, ◌≤◌, arith}
use Rattle.player.specs.Stands.{offset_end}
use Rattle.player.proofs.StreamLaws.{turns-on-none, turns-on-more, turns-on-last, turns-on-all}
use Rattle.player.proofs.replay_rest.Goals as goal

pub loop-init : goal.loop-init
loop-init g c =
    let h : offset_end ≤ (offset_end - 1) + c.args.first.offset = omega (arith, c.requires.3) in
    (c.requires.2, turns-on-none _ _ _ _ _ _ _ _ _ _ _ h)

pub loop-preserved : goal.loop-preserved
loop-preserved g c =
    let on = rw c.in-Ok-Continue.field-0-is at c.in-Ok-Continue.ensures.on in (
      on.turned.holds,
      turns-on-more _ _ _ _ _ _ _ _ _ _ _ _ _ _ _ _ _ _ _ _ _ c.loop.invariant.1 _ _ _ c.in-Ok-Continue.next _ _ _ _ _ _ _ (omega arith) on,
    )

pub returns-in-Ok-Break-clause-on : goal.returns-in-Ok-Break-clause-on
returns-in-Ok-Break-clause-on g c =
    let on = rw c.in-Ok-Break.field-0-is at c.in-Ok-Break.ensures.on in
    turns-on-last _ _ _ _ _ _ _ _ _ _ _ _ _ _ _ _ _ _ _ _ _ c.loop.invariant.1 _ _ c.in-Ok-Break.last _ _ _ _ _ _ _ on

pub returns-clause-on : goal.returns-clause-on
returns-clause-on g c = turns-on-all _ _ _ _ _ _ _ _ _ _ _ _ _ _ _ _ _ _ _ _ _ c.loop.invariant.1 (omega arith) c.loop.invariant.0
