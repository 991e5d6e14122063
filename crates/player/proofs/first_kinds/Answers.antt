-- `player::first_kinds`: the kinds lie behind mark and N, and the bytes have them all. Assumes nothing.
use Rattle.std.proofs.Common.{arith}
use Rattle.player.proofs.FirstLaws.{ram-is, first-count}
use Rattle.player.proofs.StandLaws.{decoded-is}
use Rattle.player.proofs.first_kinds.Goals as goal

pub slice_bounds-result-count : goal.slice_bounds-result-count
slice_bounds-result-count c =
    let i = c.in-Ok-Some-Ram-default in
    omega (arith, ram-is c.args.bs.now c.decode_record.ensures (decoded-is i.is i.field-0-is) i.field-0-0-0-is)

pub slice_bounds-result-start : goal.slice_bounds-result-start
slice_bounds-result-start c =
    let i = c.in-Ok-Some-Ram-default in
    omega (arith, ram-is c.args.bs.now c.decode_record.ensures (decoded-is i.is i.field-0-is) i.field-0-0-0-is)

pub slice_bounds-result-end : goal.slice_bounds-result-end
slice_bounds-result-end c =
    let i = c.in-Ok-Some-Ram-default in
    omega (arith, ram-is c.args.bs.now c.decode_record.ensures (decoded-is i.is i.field-0-is) i.field-0-0-0-is)

pub returns-in-Ok-Some-Ram-default-clause-count : goal.returns-in-Ok-Some-Ram-default-clause-count
returns-in-Ok-Some-Ram-default-clause-count c =
    let i = c.in-Ok-Some-Ram-default in
    first-count c.args.bs.now c.decode_record.ensures (decoded-is i.is i.field-0-is) i.field-0-0-0-is
