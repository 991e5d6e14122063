-- `player::replay_rest` meets its contract: turns fall, and what stands before a turn stands after it. Assumes nothing.
use Rattle.std.proofs.Common.{◌-◌}
use Rattle.player.specs.Stands.{Holds, offset_end}
use Rattle.player.specs.Streams.{ReachedOn}
use Rattle.player.proofs.replay_rest.Given as goal

abbrev pub invariant-loop : goal.invariant-loop
invariant-loop g l =
    let f = l.initial in
    Holds l.s l.input l.out
    × ReachedOn (g.R.Read.remaining f.source) (g.R.Read.remaining l.source) (g.W.Write.contents f.to) (g.W.Write.contents l.to)
    (offset_end - 1 - l.counter) f.s f.tables.mem f.kinds f.tables.state f.tables.used f.tables.lens f.input f.out
    l.s l.tables.mem l.kinds l.tables.state l.tables.used l.tables.lens l.input l.out
