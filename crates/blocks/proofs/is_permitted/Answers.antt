-- `blocks::is_permitted` goes by the side. Assumes nothing.
use Rattle.blocks.proofs.is_permitted.Goals as goal

pub returns-in-Transmit : goal.returns-in-Transmit
returns-in-Transmit c = simp c.in-Transmit.is

pub returns-in-Receive : goal.returns-in-Receive
returns-in-Receive c = simp c.in-Receive.is
