-- What a step on a lent record hands back. Document 01, "The controller's steps".
--     Tells         the burst and the number of the answer
--     told_of o     those of an outcome
--     tells r       those of what was handed back
-- Assumes nothing: these are definitions.
use Rattle.std.specs.Prelude.{ℕ}
use Rattle.layout.specs.Refusals.{fault}
use Rattle.phases.specs.declared.Burst.{Burst}
use Rattle.controller.specs.Controller.{StepDone}
use Rattle.host.specs.declared.Told.{Told}

pub record Tells : Type 0 where
  pub burst : Burst
  pub number : ℕ

abbrev pub told_of : StepDone → Tells
told_of o = record { burst = o.burst; number = o.number }

abbrev pub tells : Told → Tells
tells r = record { burst = r.burst; number = fault r.answer }
