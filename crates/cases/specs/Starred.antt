-- The starred cases of document 01, "Both sides of each line": one fact for each starred half line, through the whole guest write, on a
-- machine that was initialised by guest writes. Also here: "One packet of 60 + 40 bytes takes 9" steps, and the answers of the bench's
-- example, which is that of the paper.
--     rx_one, tx_one, rx_chain    the number given to the start of a receive buffer, of a transmit packet, of a chain of two
--     tx_two, sending, hdp_after a packet of two buffers; the machine n transmit steps after its start; what its HDP reads then
--     Starred                  the table
-- Proved: proofs/Starred.antt. Assumes nothing: these are definitions.
use Rattle.std.specs.Prelude.{ℕ, zero, suc, ◌+◌, ◌≡◌, false, List, [], ◌∷◌, ◌++◌, eqb}
use Rattle.layout.specs.Layout.{addr}
use Rattle.registers.specs.Table.{hdp_of}
use Rattle.guard.specs.Answers.{number_of}
use Rattle.phases.specs.declared.Engine.TheVariants.{Transmit}
use Rattle.machine.specs.Machine.{Machine, Op, write, kind, step, apply, run_ops, fresh_machine}
use Rattle.cases.specs.Scene.{tx_hdp, rx_hdp, ready, desc, answered}

-- a receive buffer, a transmit packet of one buffer and one of two: the numbers that differ from case to case
unfoldable pub rx_one : ℕ → ℕ → ℕ → ℕ
rx_one d x1 x2 = answered (desc d 0 x1 x2 0x2000_0000) rx_hdp (addr d)

unfoldable pub tx_one : ℕ → ℕ → ℕ
tx_one x1 n = answered (desc 0 0 x1 n (0xE000_0000 + n)) tx_hdp (addr 0)

unfoldable pub tx_two : ℕ → List Op
tx_two packet = desc 0 (addr 4) 0x8000_1000 60 (0xA000_0000 + packet) ++ desc 4 0 0x8000_1040 40 0x4000_0000

unfoldable pub rx_chain : ℕ → ℕ
rx_chain d = answered (desc d 0 0x8000_1000 1 0x2000_0000 ++ desc 0 (addr d) 0x8000_1000 1 0x2000_0000) rx_hdp (addr 0)

-- the machine after a packet of 60 + 40 bytes was started, and after n transmit steps more
unfoldable pub sending : ℕ → Machine
sending zero = run_ops (tx_two 100 ++ write tx_hdp (addr 0) ∷ []) ready
sending (suc n) = (apply (step (Transmit 0)) (sending n)).machine

unfoldable pub hdp_after : ℕ → ℕ
hdp_after n = hdp_of (sending n).ctl.state 0

-- the table, one fact for each starred half line
pub record Starred : Type 0 where
  -- "HDP pointer 0x4A103FF0 good; 0x4A103FF4: 12."
  pub hdp-4A103FF0-0 : rx_one 2044 0x8000_1FFF 1 ≡ 0
  pub hdp-4A103FF4-12 : answered [] rx_hdp 0x4A10_3FF4 ≡ 12
  -- "Receive 0x80001FFF length 1: 0; length 2: 16."
  pub rx-80001FFF-1-0 : rx_one 0 0x8000_1FFF 1 ≡ 0
  pub rx-80001FFF-2-16 : rx_one 0 0x8000_1FFF 2 ≡ 16
  -- "Transmit 0x80001FFF length 2, packet 2: 0. 0x80003FFF length 2: 16. 0xFFFFFFFF length 2: 15; length 1: 16."
  pub tx-80001FFF-2-0 : tx_one 0x8000_1FFF 2 ≡ 0
  pub tx-80003FFF-2-16 : tx_one 0x8000_3FFF 2 ≡ 16
  pub tx-FFFFFFFF-2-15 : tx_one 0xFFFF_FFFF 2 ≡ 15
  pub tx-FFFFFFFF-1-16 : tx_one 0xFFFF_FFFF 1 ≡ 16
  -- "Receive word 2 0x00000800: 15; 0x08000001 is length 1."
  pub rx-word2-800-15 : rx_one 0 0x8000_1000 0x0000_0800 ≡ 15
  pub rx-word2-8000001-0 : rx_one 0 0x8000_1FFF 0x0800_0001 ≡ 0
  -- "Chain 0x4A102000 then 0x4A10200C: 13; 0x4A102010 good."
  pub chain-200C-13 : rx_chain 3 ≡ 13
  pub chain-2010-0 : rx_chain 4 ≡ 0
  -- "Transmit 60 + 40, packet 100: 0; 101: 17."
  pub tx-60-40-100-0 : answered (tx_two 100) tx_hdp (addr 0) ≡ 0
  pub tx-60-40-101-17 : answered (tx_two 101) tx_hdp (addr 0) ≡ 17
  -- "One packet of 60 + 40 bytes takes 9": HDP reads 0 after nine transmit steps and not after eight
  pub nine-steps : hdp_after 9 ≡ 0
  pub not_eight : eqb (hdp_after 8) 0 ≡ false
  pub sent-100 : (sending 9).ctl.sent ≡ 100
  -- the bench's example: GW 4A100A04, 0 and then KC 1, 2 on a fresh machine
  pub example-write-5 : number_of (apply (write 0x4A10_0A04 0) (fresh_machine (0 ∷ 1 ∷ 2 ∷ 3 ∷ []))).answer ≡ 5
  pub example-kind-0 : number_of (apply (kind 1 2) (fresh_machine (0 ∷ 1 ∷ 2 ∷ 3 ∷ []))).answer ≡ 0
