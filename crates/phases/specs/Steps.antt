-- What a step of either engine hands back. Document 01, "The controller's steps".
--     to_phase state hdp cp      on to a phase, with HDP and CP, and no burst
-- Assumes nothing: these are definitions.
use Rattle.std.specs.Prelude.{ℕ, Option, Some}
use Rattle.phases.specs.declared.Burst.TheVariants.{Quiet}
use Rattle.phases.specs.declared.Step.{Step}

abbrev pub to_phase : {S : Type 0} → S → ℕ → ℕ → Option (Step S)
to_phase state hdp cp = Some (record { state = state; hdp = hdp; cp = cp; burst = Quiet; octets = 0 })
