-- `replay::play_steps` meets its contract: one step behind another. Assumes nothing.
use Prim.Native.Nat.{◌+◌, ◌*◌, ◌≤◌}
use Rattle.records.specs.Lines.{line_max}
use Rattle.replay.specs.Replay.{steps_of}
use Rattle.replay.specs.Plays.{Goes}
use Rattle.replay.proofs.play_steps.Given as goal

abbrev pub invariant-loop : goal.invariant-loop
invariant-loop l = record {
  room : l.ran.end ≤ l.at + line_max * l.counter;
  made : Goes (steps_of l.e l.counter) l.initial.ran.ctl l.initial.m l.ran l.m l.initial.out l.at l.out;
}
