-- `rig::save_channels`: the rows below ch are saved. Assumes nothing.
use mathlib.Core.Path.{◌≡◌}
use Rattle.rig.specs.Record.{tx_to, rx_to}
use Rattle.rig.proofs.save_channels.Given as goal

abbrev pub invariant-loop-ch : goal.invariant-loop-ch
invariant-loop-ch l = (l.tx ≡ tx_to l.ch l.all l.initial.tx) × (l.rx ≡ rx_to l.ch l.all l.initial.rx)
