-- What a record hands back and leaves, held to what the machine does and to the lines that are printed for it.
--     Plays p r m k t u l x at y   a record: controller and end r, the tables m k t u l, and all its lines in the buffer x, that became y
--                                  from `at` on
--     Goes f c m r m' x at y       the same of a result of the controller alone, whatever kinds, small state, words in use and lengths
--                                  there are
-- Assumes nothing: these are definitions.
use Rattle.std.specs.Prelude.{ℕ, ◌≡◌, List}
use Rattle.controller.specs.declared.Controller.{Controller}
use Rattle.machine.specs.Machine.{Machine}
use Rattle.machine.specs.After.{machine_at}
use Rattle.records.specs.declared.Event.{Event}
use Rattle.records.specs.Lines.{lines_of, Prints}
use Rattle.replay.specs.declared.Played.{Played}

pub record Plays (p : List Event × Machine) (r : Played) (m k t u l x : List ℕ) (at : ℕ) (y : List ℕ) : Type 0 where
  pub ctl : r.ctl ≡ p.1.ctl
  pub mem : m ≡ p.1.mem
  pub kinds : k ≡ p.1.kinds
  pub state : t ≡ p.1.state
  pub used : u ≡ p.1.used
  pub lens : l ≡ p.1.lens
  pub text : Prints x at (lines_of p.0) y r.end

abbrev pub Goes : (Machine → List Event × Machine) → Controller → List ℕ → Played → List ℕ → List ℕ → ℕ → List ℕ → Type 0
Goes f c m r m' x at y = (k t u l : List ℕ) → Plays (f (machine_at c m k t u l)) r m' k t u l x at y
