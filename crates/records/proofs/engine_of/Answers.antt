-- `records::engine_of` goes by the number. Assumes nothing.
use Prim.Native.Nat.{ℕ, ◌+◌, ◌/◌, ◌%◌}
use mathlib.Core.Path.{ap, ◌∙◌}
use native.Mathlib.Omega.{arith}
use borrow.Author.Tests.{eq-eqb, ne_eqb}
use Rattle.phases.specs.Engines.{engine_at}
use Rattle.records.specs.Records.{engine_of}
use Rattle.records.proofs.engine_of.Goals as goal

pub returns-in-None : goal.returns-in-None
unfolding engine_of
returns-in-None c = simp (eq-eqb c.args.e 0 (omega arith))

pub returns-in-Some : goal.returns-in-Some
unfolding engine_of
returns-in-Some c = simp (ne_eqb c.args.e 0 (λ e. omega arith))
    (c.engine_at.ensures ∙ ap (λ (k : ℕ). engine_at (k % 4 + 1) (k / 4)) c.in-Some.ensures.1)
