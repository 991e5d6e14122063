-- `phases::transmit::latch`: without a fault the first byte is an address. Assumes nothing.
use Rattle.std.proofs.Common.{rules, arith}
use Rattle.phases.proofs.FetchLaws.{fetch-address}
use Rattle.phases.proofs.transmit.latch.Goals as goal

pub overflow_cast-result : goal.overflow_cast-result
overflow_cast-result c = let a = c.args in
    let d = a.d in
    let h = fetch-address a.pl d.next d.buffer d.word2 d.word3 (search rules) c.requires in
    record { fits = omega (arith, h) }
