-- `records::hex8`: the digits still to store, in front of those stored, are the eight of a. Assumes nothing.
use mathlib.Core.Path.{◌≡◌}
use mathlib.Core.List.{◌++◌}
use lib.ListN.{length, drop}
use Rattle.records.specs.Lines.{hex_for, hex8}
use Rattle.records.proofs.hex8.Given as goal

abbrev pub invariant-loop-k : goal.invariant-loop-k
invariant-loop-k l = record {
  stored : hex_for l.k l.m ++ drop l.k l.digits ≡ hex8 l.a;
  eight : length l.digits ≡ 8;
}
