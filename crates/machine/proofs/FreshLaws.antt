-- A fresh machine, as the guard sees it. Assumes nothing.
--     fresh-state, fresh-used, fresh-lens   its part of the guard is what `gresomund_fresh` leaves
--     loaded-zeros      the registers of a fresh controller are those that stand there already
--     fresh-guard       so the guard's first call sees zero descriptor memory, the kinds, and that part
use Prim.Native.Nat.{ℕ}
use mathlib.Core.Path.{◌≡◌, refl, ap}
use mathlib.Core.List.{List}
use lib.ListN.{replicate}
use Rattle.layout.specs.Layout.{desc_bytes}
use Rattle.registers.specs.Table.{loaded}
use Rattle.book.specs.World.{fresh_state, fresh_used, fresh_lens}
use Rattle.guard.specs.Answers.{world_at}
use Rattle.controller.specs.Controller.{fresh_controller}
use Rattle.machine.specs.Machine.{world_of, fresh_machine}

module _ (kinds : List ℕ) where
  pub fresh-state : (fresh_machine kinds).state ≡ fresh_state
  unfolding fresh_machine
  fresh-state = refl

  pub fresh-used : (fresh_machine kinds).used ≡ fresh_used
  unfolding fresh_machine
  fresh-used = refl

  pub fresh-lens : (fresh_machine kinds).lens ≡ fresh_lens
  unfolding fresh_machine
  fresh-lens = refl

loaded-zeros : loaded fresh_controller.state fresh_state ≡ fresh_state
unfolding loaded fresh_controller
loaded-zeros = refl

pub fresh-guard : (kinds : List ℕ)
    → world_of (fresh_machine kinds) ≡ world_at (replicate desc_bytes 0) kinds fresh_state fresh_used fresh_lens
unfolding fresh_machine
fresh-guard kinds = ap (λ (t : List ℕ). world_at (replicate desc_bytes 0) kinds t fresh_used fresh_lens) loaded-zeros
