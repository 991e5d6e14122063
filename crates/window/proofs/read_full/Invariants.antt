-- `window::read_full`: what was read lies in front of the buffer, and each read that goes on leaves less room. Assumes nothing.
use Rattle.std.proofs.Common.{◌≡◌, ◌-◌, ◌≤◌, length, take}
use Rattle.std.specs.Io.KnownBytes.{Consumes}
use Rattle.window.proofs.read_full.Given as goal

abbrev pub invariant-loop-done : goal.invariant-loop-done
invariant-loop-done g l =
    (l.done ≤ length l.buf) × (length l.buf ≡ length l.initial.buf)
    × Consumes (g.R.Read.remaining l.initial.source) (g.R.Read.remaining l.source) (take l.done l.buf)

abbrev pub decreases-loop-done : goal.decreases-loop-done
decreases-loop-done g l = length l.buf - l.done
