-- A call of the controller as a caller in C sees it: a record in parts, and what the call leaves.
--     Lent, lent           the answer, the record's parts, the burst's words and descriptor memory afterwards
--     lent_by p o           what the outcome o leaves of the parts p
--     Came, came, came_by   the same for a frame, which moves nothing over the bus and has no memory
-- Assumes nothing: these are definitions.
use Rattle.std.specs.Prelude.{ℕ, List}
use Rattle.controller.specs.Controller.{StepDone, Framed}
use Rattle.rig.specs.Record.{Parts, saved_in, burst_words}

pub record Lent : Type 0 where
  pub answer : ℕ
  pub parts : Parts
  pub burst : List ℕ
  pub mem : List ℕ

abbrev pub lent : ℕ → Parts → List ℕ → List ℕ → Lent
lent n p b m = record { answer = n; parts = p; burst = b; mem = m }

unfoldable pub lent_by : Parts → StepDone → Lent
lent_by p o = lent o.number (saved_in p o.ctl) (burst_words o.burst) o.mem

pub record Came : Type 0 where
  pub answer : ℕ
  pub parts : Parts

abbrev pub came : ℕ → Parts → Came
came n p = record { answer = n; parts = p }

unfoldable pub came_by : Parts → Framed → Came
came_by p o = came o.number (saved_in p o.ctl)
