-- A machine as "Both sides of each line" has it: "Kinds 0,1,2,3, initialised". Assumes nothing: these are definitions.
--     hdp_addr q         the address of HDP of queue q; tx_hdp, rx_hdp are those of TX0_HDP and RX0_HDP
--     ready             a fresh machine after a zero to each register that awaits one, each a whole guest write
--     desc d x0 .. x3   the four guest writes that lay out a descriptor at word d
--     answered os a v   the number given to the write of v to a, after the operations os from `ready`
use Rattle.std.specs.Prelude.{ℕ, zero, suc, ◌+◌, ◌*◌, ◌%◌, List, [], ◌∷◌, ◌++◌}
use Rattle.layout.specs.Layout.{addr, queues, channel_of}
use Rattle.guard.specs.Answers.{number_of}
use Rattle.guard.specs.Rulings.{cp_address}
use Rattle.machine.specs.Machine.{Machine, Op, write, apply, run_ops, fresh_machine}

abbrev pub hdp_addr : ℕ → ℕ
hdp_addr q = 0x4A10_0A00 + 32 * (q % 2) + 4 * channel_of q

abbrev pub tx_hdp : ℕ
tx_hdp = hdp_addr 0

abbrev pub rx_hdp : ℕ
rx_hdp = hdp_addr 1

-- of the first n queues
abbrev pub zeros : ℕ → List Op
zeros zero = []
zeros (suc q) = zeros q ++ write (hdp_addr q) 0 ∷ write (cp_address q) 0 ∷ []

unfoldable pub ready : Machine
ready = run_ops (zeros queues) (fresh_machine (0 ∷ 1 ∷ 2 ∷ 3 ∷ []))

abbrev pub desc : ℕ → ℕ → ℕ → ℕ → ℕ → List Op
desc d x0 x1 x2 x3 =
    write (addr d) x0 ∷ write (addr (d + 1)) x1 ∷ write (addr (d + 2)) x2 ∷ write (addr (d + 3)) x3 ∷ []

unfoldable pub answered : List Op → ℕ → ℕ → ℕ
answered os a v = number_of (apply (write a v) (run_ops os ready)).answer
