-- Four beliefs about the controller that are false: for each the operations from a fresh start that refute it, and the facts.
-- Document 01, "Where earlier filters went wrong" and "Judging".
--     times n o, number_for o s, packet d   n times the operation o; the number it is given; one packet of 60 bytes at word d
--     released_early, EmptyQueue        an empty queue does not mean an idle controller
--     shrunk, LengthNow                the length now in word 2 does not say what may still be stored
--     latched_zero, left_behind, LateAppend   an append that is accepted is not always sent
--     code_left, tearing, OldCode       a CP of 0xFFFFFFFC does not mean that this teardown is done
-- Proved: proofs/Beliefs.antt. Assumes nothing: these are definitions.
use Rattle.std.specs.Prelude.{ℕ, zero, suc, get_or, ◌≡◌, true, false, List, [], ◌∷◌, ◌++◌}
use Rattle.layout.specs.Layout.{addr}
use Rattle.words.specs.Word.{word}
use Rattle.words.specs.WordSet.{has}
use Rattle.blocks.specs.Room.{touches}
use Rattle.descriptor.specs.Fields.{owner, length_of}
use Rattle.registers.specs.Table.{head_of, hdp_of, cp_of, tearing_of, set_tearing}
use Rattle.book.specs.Release.{released_flags}
use Rattle.guard.specs.Answers.{number_of}
use Rattle.guard.specs.Rulings.{cp_address}
use Rattle.phases.specs.declared.Sending.TheVariants as S
use Rattle.controller.specs.Controller.{tx_of}
use Rattle.phases.specs.declared.Engine.TheVariants.{Transmit, Receive, TearTransmit}
use Rattle.layout.specs.declared.Side.TheVariants as Side
use Rattle.guard.specs.declared.Answer.TheVariants.{Accepted}
use Rattle.guard.specs.declared.Effect.TheVariants.{Appended}
use Rattle.machine.specs.Machine.{Machine, Op, write, kind, frame, step, world_of, apply, run_ops}
use Rattle.cases.specs.Scene.{tx_hdp, rx_hdp, ready, desc}

abbrev pub times : ℕ → Op → List Op
times zero o = []
times (suc n) o = o ∷ times n o

-- the number that an operation is given
unfoldable pub number_for : Op → Machine → ℕ
number_for o s = number_of (apply o s).answer

-- one packet of 60 bytes in Linux data, laid out at word d, and its start
abbrev pub packet : ℕ → List Op
packet d = desc d 0 0x8000_1000 60 0xE000_003C

-- ---- an empty queue: "between steps 5 and 6 it is not" idle

-- a packet is sent up to and with step 5; then any guard call, here a kind change, releases it
unfoldable pub released_early : Machine
released_early = run_ops (packet 0 ++ write tx_hdp (addr 0) ∷ times 5 (step (Transmit 0)) ++ kind 1 1 ∷ []) ready

pub record EmptyQueue : Type 0 where
  -- the book's transmit queue is empty and its words are free for the guest
  pub empty : head_of released_early.state 0 ≡ 0
  pub free : has released_early.used 0 ≡ false
  pub rewritten : number_for (write (addr 0) 0x4A10_2010) released_early ≡ 0
  -- the controller still stands on that descriptor, with step 6 to do
  pub busy : tx_of released_early.ctl 0 ≡ S.Done (record { next = 0 })
  pub standing : hdp_of released_early.ctl.state 0 ≡ 0x4A10_2000
  -- so a start is refused by what HDP reads, where the book alone would let it through
  pub refused : number_for (write tx_hdp (addr 4)) (run_ops (packet 4) released_early) ≡ 10
  -- and accepted after step 6
  pub accepted : number_for (write tx_hdp (addr 4)) (run_ops (packet 4 ++ step (Transmit 0) ∷ []) released_early) ≡ 0

-- ---- the length in word 2: "the controller has shrunk it"

-- blocks 1 and 2 are Linux data; a buffer of 512 bytes reaches over both; a frame of 16 bytes is stored, up to and with step 4
unfoldable pub shrunk : Machine
shrunk = run_ops (kind 2 1 ∷ desc 0 0 0x8000_1F00 512 0x2000_0000 ++ write rx_hdp (addr 0) ∷ frame 16 ∷ times 4 (step (Receive 0))) ready

pub record LengthNow : Type 0 where
  pub now : length_of Side.Receive (word shrunk.mem 2) ≡ 16
  pub recorded : get_or shrunk.lens 0 0 ≡ 512
  -- by the length now, the buffer would end before block 2; by the recorded one it does not
  pub missed : touches 2 (word shrunk.mem 1) 16 ≡ false
  pub met : touches 2 (word shrunk.mem 1) 512 ≡ true
  pub refused : number_for (kind 2 2) shrunk ≡ 21
  -- the queue is released with step 5, and the block may change
  pub accepted : number_for (kind 2 2) (run_ops (step (Receive 0) ∷ []) shrunk) ≡ 0

-- ---- a late append: "EOQ releases it"

-- step 3 latched a next of 0; then a second packet is laid out
unfoldable pub latched_zero : Machine
latched_zero = run_ops (packet 0 ++ write tx_hdp (addr 0) ∷ times 3 (step (Transmit 0)) ++ packet 4) ready

-- appended, and the controller goes on for eight steps more
unfoldable pub left_behind : Machine
left_behind = run_ops (write (addr 0) (addr 4) ∷ times 8 (step (Transmit 0))) latched_zero

pub record LateAppend : Type 0 where
  pub appended : (apply (write (addr 0) (addr 4)) latched_zero).answer ≡ Accepted (Appended Side.Transmit 0)
  -- the engine is idle, only the first packet was sent, the second is as it was handed over
  pub idle : tx_of left_behind.ctl 0 ≡ S.Idle
  pub hdp : hdp_of left_behind.ctl.state 0 ≡ 0
  pub sent : left_behind.ctl.sent ≡ 60
  pub unsent : owner (word left_behind.mem 7) ≡ true
  -- the next guard call frees both packets
  pub held : has left_behind.used 4 ≡ true
  pub freed : has (apply (kind 1 1) left_behind).machine.used 4 ≡ false

-- ---- the code of a teardown: the one before may have left it

abbrev pub tx_cp : ℕ
tx_cp = cp_address 0

abbrev pub tx_teardown : ℕ
tx_teardown = 0x4A10_0808

-- a first teardown runs to its end, its code is not acknowledged, and a second packet is started
unfoldable pub code_left : Machine
code_left =
    run_ops
    (packet 0 ++ write tx_hdp (addr 0) ∷ write tx_teardown 0 ∷ times 3 (step (TearTransmit 0)) ++ packet 4 ++ write tx_hdp (addr 4) ∷ [])
    ready

-- the code is acknowledged and a second teardown is asked for
unfoldable pub tearing : Machine
tearing = run_ops (write tx_cp 0xFFFF_FFFC ∷ write tx_teardown 0 ∷ []) code_left

pub record OldCode : Type 0 where
  -- the first teardown's code stands, and the engine is at work on the second packet
  pub code : cp_of code_left.ctl.state 0 ≡ 0xFFFF_FFFC
  pub busy : tx_of code_left.ctl 0 ≡ S.New
  pub standing : hdp_of code_left.ctl.state 0 ≡ 0x4A10_2010
  -- were a second teardown pending now, the next release would take it for done
  pub believed : tearing_of (released_flags (set_tearing 0 (world_of code_left).state)) 0 ≡ false
  -- so it is refused until the code is acknowledged
  pub refused : number_for (write tx_teardown 0) code_left ≡ 10
  -- then it is pending with book and controller, and CP does not read the code before it is done
  pub acknowledged : cp_of tearing.ctl.state 0 ≡ 0
  pub pending_book : tearing_of tearing.state 0 ≡ true
  pub pending_model : tearing_of tearing.ctl.state 0 ≡ true
  pub done : cp_of (run_ops (times 3 (step (TearTransmit 0))) tearing).ctl.state 0 ≡ 0xFFFF_FFFC
