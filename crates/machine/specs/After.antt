-- What an operation hands back, held to what the machine does.
--     machine_at              a machine from what an operation is handed
--     left_alone, met, reached_by   what is handed back where the controller is left alone, has answered, and either of the two
--     Leaves h r m k t u l   an operation's result and the tables it leaves are those of h: the promise of every operation
--     Moves f c m r m'       a result of the controller alone leaves what f says, whatever small state, kinds, words in use and
--                            lengths there are
-- Assumes nothing: these are definitions.
use Rattle.std.specs.Prelude.{ℕ, ◌≡◌, List, eqb}
use Rattle.layout.specs.Choice.{pick}
use Rattle.guard.specs.declared.Answer.{Answer}
use Rattle.guard.specs.declared.Answer.TheVariants.{Refused}
use Rattle.guard.specs.Answers.{number_of}
use Rattle.phases.specs.declared.Burst.TheVariants.{Quiet}
use Rattle.controller.specs.declared.Controller.{Controller}
use Rattle.controller.specs.Controller.{unguarded_write}
use Rattle.machine.specs.declared.After.{After}
use Rattle.machine.specs.Machine.{Machine, Happened}

abbrev pub machine_at : Controller → List ℕ → List ℕ → List ℕ → List ℕ → List ℕ → Machine
machine_at c m k t u l = record { ctl = c; mem = m; kinds = k; state = t; used = u; lens = l }

abbrev pub left_alone : Controller → Answer → After
left_alone c a = record { ctl = c; answer = a; burst = Quiet }

unfoldable pub met : Controller → ℕ → Answer → After
met c n a = pick (eqb n 0) (left_alone c a) (left_alone c (Refused n))

unfoldable pub reached_by : ℕ → ℕ → Controller → Answer → List ℕ → After × List ℕ
reached_by a v c answer m =
    let x = unguarded_write a v c m in
    pick (eqb (number_of answer) 0) (met x.ctl x.number answer, x.mem) (left_alone c answer, m)

pub record Leaves (h : Happened) (r : After) (m k t u l : List ℕ) : Type 0 where
  pub answer : r.answer ≡ h.answer
  pub burst : r.burst ≡ h.burst
  pub ctl : r.ctl ≡ h.machine.ctl
  pub mem : m ≡ h.machine.mem
  pub kinds : k ≡ h.machine.kinds
  pub state : t ≡ h.machine.state
  pub used : u ≡ h.machine.used
  pub lens : l ≡ h.machine.lens

abbrev pub Moves : (Machine → Happened) → Controller → List ℕ → After → List ℕ → Type 0
Moves f c m r m' = (k t u l : List ℕ) → Leaves (f (machine_at c m k t u l)) r m' k t u l
