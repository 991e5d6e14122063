-- What is asked of a phase. Document 01, "The controller's steps".
--     quiet_tx, quiet_rx     the engine is "idle, waiting or, transmit only, at 1 of a new packet"
--     waits                "the engine waits"
-- Assumes nothing: these are definitions.
use Rattle.std.specs.Prelude.{Bool, true, false}
use Rattle.phases.specs.declared.Sending.{Sending}
use Rattle.phases.specs.declared.Sending.TheVariants as S
use Rattle.phases.specs.declared.Receiving.{Receiving}
use Rattle.phases.specs.declared.Receiving.TheVariants as R

abbrev pub quiet_tx : Sending → Bool
quiet_tx S.Idle = true
quiet_tx S.New = true
quiet_tx (S.Within p) = false
quiet_tx (S.Moving r) = false
quiet_tx (S.Ended e) = false
quiet_tx (S.Marking e) = false
quiet_tx (S.Owning e) = false
quiet_tx (S.Done e) = false

abbrev pub quiet_rx : Receiving → Bool
quiet_rx R.Idle = true
quiet_rx R.Wait = true
quiet_rx (R.Fetch f) = false
quiet_rx (R.Moving s) = false
quiet_rx (R.Ended e) = false
quiet_rx (R.Last s) = false
quiet_rx (R.First s) = false
quiet_rx (R.Done e) = false

abbrev pub waits : Receiving → Bool
waits R.Idle = false
waits R.Wait = true
waits (R.Fetch f) = false
waits (R.Moving s) = false
waits (R.Ended e) = false
waits (R.Last s) = false
waits (R.First s) = false
waits (R.Done e) = false
