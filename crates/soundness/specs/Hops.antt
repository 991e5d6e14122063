-- What is left to do after one descriptor, as the walk's own function tells it: each of these reads such an answer as the `Next` of the
-- walk's definition.
--     spent h s     of a walk that takes away, with the set s: it goes on at a pointer with so many left, or is over with so many left
-- Assumes nothing: these are definitions.
use Rattle.std.specs.Prelude.{ℕ, List}
use Rattle.std.specs.declared.ops.ControlFlow.{ControlFlow}
use Rattle.std.specs.declared.ops.ControlFlow.TheVariants.{Continue, Break}
use Rattle.layout.specs.Run.{Next, go, stop}
use Rattle.soundness.specs.Spent.{SSt, SOut}

abbrev pub spent : ControlFlow ℕ (ℕ × ℕ) → List ℕ → Next SSt SOut
spent (Break left) s = stop (left, s)
spent (Continue at) s = go (s, at.0, at.1)
