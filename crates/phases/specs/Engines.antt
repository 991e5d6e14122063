-- Who takes a step, by number. Document 01, the bench: "engine (0 reset, 1 transmit, 2 receive, 3, 4 their teardowns)".
--     engine_at which channel     the reset for 0; on that channel the transmit engine for 1, the receive engine for 2, the transmit
--                                teardown for 3, the receive teardown for any other
-- Assumes nothing: these are definitions.
use Rattle.std.specs.Prelude.{ℕ, eqb}
use Rattle.layout.specs.Choice.{pick}
use Rattle.phases.specs.declared.Engine.{Engine}
use Rattle.phases.specs.declared.Engine.TheVariants.{Reset, Transmit, Receive, TearTransmit, TearReceive}

unfoldable pub engine_at : ℕ → ℕ → Engine
engine_at which channel =
    pick (eqb which 0) Reset
    (pick (eqb which 1) (Transmit channel)
    (pick (eqb which 2) (Receive channel) (pick (eqb which 3) (TearTransmit channel) (TearReceive channel))))
