-- The controller record and every way it changes. Document 01, "The controller's steps".
--     tx_of, rx_of c ch              the phases of a channel
--     stage_of c q                  which teardown step of a queue comes next
--     StepDone                     the record and descriptor memory afterwards, the burst made, the answer
--     outcome r m                  the same, of what a step handed back and the memory that it left
--     answer, undefine             nothing but an answer; undefined now and later (22)
--     transmit_step, receive_step ch one step of an engine
--     quiet_engine c q              engine q is "idle, waiting or, transmit only, at 1 of a new packet"
--     tear_step q                   teardown steps 1 to 3 of a queue
--     reset_step                    the reset
--     move_of e, step_of e           the step of any engine; the same, where memory and record allow one
--     frame_of n                    a frame of n bytes arrives on channel 0: 23, 24, or it is taken
--     arrival r                    the same, of what was handed back
--     unguarded_write a v           a guest write that no guard has judged
--     fresh_controller              "A fresh machine has zero descriptor memory and registers, .. idle engines, and awaits all four zeros"
-- Registers and flags are a table (crate registers), as the guard's are; no head is ever set in it.
-- Assumes nothing: these are definitions.
use Rattle.std.specs.Prelude.{ℕ, ◌+◌, ◌-◌, ◌/◌, ◌%◌, min, Bool, true, false, not, List, [], ◌∷◌, length, get_or, set, replicate, eqb, leb}
use Rattle.std.specs.Prelude.{ltb, Option, Some, None}
use Rattle.layout.specs.Choice.{pick, both}
use Rattle.layout.specs.Layout.{desc_first, desc_bytes, length_max, good_ptr, word_of, in_descriptors, channels, queues, side_of}
use Rattle.layout.specs.Layout.{channel_of}
use Rattle.layout.specs.Layout.{queue_of}
use Rattle.layout.specs.Class.{class_at, hdp_class}
use Rattle.layout.specs.Refusals.{fault}
use Rattle.layout.specs.declared.Side.{Side}
use Rattle.layout.specs.declared.Side.TheVariants as Sides
use Rattle.words.specs.Word.{put}
use Rattle.marks.specs.Marks.{td_mark, marked}
use Rattle.registers.specs.Table.{state_words, hdp_of, cp_of, tearing_of, awaiting, reset_of, set_hdp, set_cp, clear_tearing, set_reset_bit}
use Rattle.registers.specs.Table.{unmarked}
use Rattle.registers.specs.Rules.{teardown_done, register_fault, written}
use Rattle.phases.specs.declared.Burst.{Burst}
use Rattle.phases.specs.declared.Burst.TheVariants.{Quiet}
use Rattle.phases.specs.declared.Engine.{Engine}
use Rattle.phases.specs.declared.Engine.TheVariants.{Reset, Transmit, Receive, TearTransmit, TearReceive}
use Rattle.phases.specs.declared.Sending.{Sending}
use Rattle.phases.specs.declared.Sending.TheVariants as S
use Rattle.phases.specs.declared.Receiving.{Receiving}
use Rattle.phases.specs.declared.Receiving.TheVariants as R
use Rattle.phases.specs.declared.Step.{Step}
use Rattle.phases.specs.Transmit.{send_step}
use Rattle.phases.specs.Receive.{take_step}
use Rattle.phases.specs.Quiet.{quiet_tx, quiet_rx, waits}
use Rattle.controller.specs.declared.Channel.{Channel}
use Rattle.controller.specs.declared.Controller.{Controller}
use Rattle.controller.specs.declared.Stepped.{Stepped}
use Rattle.controller.specs.declared.Arrived.{Arrived}

-- ---- the channels

abbrev pub idle_channel : Channel
idle_channel = record { tx = S.Idle; rx = R.Idle }

-- every engine idle
abbrev pub idle_channels : List Channel
idle_channels = replicate channels idle_channel

abbrev pub tx_of : Controller → ℕ → Sending
tx_of c ch = (get_or c.channels ch idle_channel).tx

abbrev pub rx_of : Controller → ℕ → Receiving
rx_of c ch = (get_or c.channels ch idle_channel).rx

abbrev pub stage_of : Controller → ℕ → ℕ
stage_of c q = get_or c.stages q 1

-- ---- named changes of the record

abbrev pub set_state : List ℕ → Controller → Controller
set_state t c = record
    { state = t; stages = c.stages; channels = c.channels; undefined = c.undefined; sent = c.sent; received = c.received }

abbrev pub set_stage : ℕ → ℕ → Controller → Controller
set_stage q n c = record {
  state = c.state;
  stages = set c.stages q n;
  channels = c.channels;
  undefined = c.undefined;
  sent = c.sent;
  received = c.received;
}

abbrev pub set_channels : List Channel → Controller → Controller
set_channels cs c = record
    { state = c.state; stages = c.stages; channels = cs; undefined = c.undefined; sent = c.sent; received = c.received }

abbrev pub set_tx : ℕ → Sending → Controller → Controller
set_tx ch s c = set_channels (set c.channels ch (record { tx = s; rx = rx_of c ch })) c

abbrev pub set_rx : ℕ → Receiving → Controller → Controller
set_rx ch s c = set_channels (set c.channels ch (record { tx = tx_of c ch; rx = s })) c

abbrev pub set_totals : ℕ → ℕ → Controller → Controller
set_totals a b c = record { state = c.state; stages = c.stages; channels = c.channels; undefined = c.undefined; sent = a; received = b }

abbrev pub set_undefined : Controller → Controller
set_undefined c = record {
  state = c.state;
  stages = c.stages;
  channels = c.channels;
  undefined = true;
  sent = c.sent;
  received = c.received;
}

pub record StepDone : Type 0 where
  pub ctl : Controller
  pub mem : List ℕ
  pub burst : Burst
  pub number : ℕ

-- what a step handed back, with the memory that it left
abbrev pub outcome : Stepped → List ℕ → StepDone
outcome r m = record { ctl = r.ctl; mem = m; burst = r.burst; number = fault r.answer }

-- an answer, and nothing else. "A step that cannot move changes nothing": it answers 0
abbrev pub answer : ℕ → Controller → List ℕ → StepDone
answer n c m = record { ctl = c; mem = m; burst = Quiet; number = n }

-- "after 22 the controller is marked undefined and nothing else changes, now or later"
abbrev pub undefine : Controller → List ℕ → StepDone
undefine c m = record { ctl = set_undefined c; mem = m; burst = Quiet; number = 22 }

-- totals stop at 2^64 − 1
abbrev pub added : ℕ → ℕ → ℕ
added t n = min (t + n) 0xFFFF_FFFF_FFFF_FFFF

-- ---- the engines

-- HDP and CP of a queue
abbrev pub set_regs : ℕ → ℕ → ℕ → Controller → Controller
set_regs q hdp cp c = set_state (set_hdp q hdp (set_cp q cp c.state)) c

abbrev pub send_moved : ℕ → Option (Step Sending) × List ℕ → Controller → List ℕ → StepDone
send_moved ch (None, x) c m = undefine c m
send_moved ch (Some s, x) c m = record {
  ctl = set_regs (queue_of Sides.Transmit ch) s.hdp s.cp
      (set_totals (added c.sent s.octets) c.received (set_tx ch s.state c));
  mem = x;
  burst = s.burst;
  number = 0;
}

abbrev pub take_moved : ℕ → Option (Step Receiving) × List ℕ → Controller → List ℕ → StepDone
take_moved ch (None, x) c m = undefine c m
take_moved ch (Some s, x) c m = record {
  ctl = set_regs (queue_of Sides.Receive ch) s.hdp s.cp (set_totals c.sent (added c.received s.octets) (set_rx ch s.state c));
  mem = x;
  burst = s.burst;
  number = 0;
}

-- reset or that queue's teardown is pending
abbrev pub held_back : Controller → ℕ → Bool
held_back c q = pick (reset_of c.state) true (tearing_of c.state q)

unfoldable pub transmit_step : ℕ → Controller → List ℕ → StepDone
transmit_step ch c m =
    let q = queue_of Sides.Transmit ch in
    send_moved ch (send_step (held_back c q) m (tx_of c ch) (hdp_of c.state q) (cp_of c.state q)) c m

unfoldable pub receive_step : ℕ → Controller → List ℕ → StepDone
receive_step ch c m =
    let q = queue_of Sides.Receive ch in
    take_moved ch (take_step m (rx_of c ch) (hdp_of c.state q) (cp_of c.state q)) c m

-- ---- teardown and reset
abbrev pub quiet_by : Side → Controller → ℕ → Bool
quiet_by Sides.Transmit c ch = quiet_tx (tx_of c ch)
quiet_by Sides.Receive c ch = quiet_rx (rx_of c ch)

abbrev pub quiet_engine : Controller → ℕ → Bool
quiet_engine c q = quiet_by (side_of q) c (channel_of q)

abbrev pub idle_by : Side → ℕ → Controller → Controller
idle_by Sides.Transmit ch c = set_tx ch S.Idle c
idle_by Sides.Receive ch c = set_rx ch R.Idle c

abbrev pub set_idle : ℕ → Controller → Controller
set_idle q c = idle_by (side_of q) (channel_of q) c

-- "(1) set TD at HDP if nonzero"
unfoldable pub tear_mark : ℕ → Controller → List ℕ → StepDone
tear_mark q c m =
    let p = hdp_of c.state q in
    pick (eqb p 0) (answer 0 (set_stage q 2 c) m)
    (pick (good_ptr p) (answer 0 (set_stage q 2 c) (marked td_mark (word_of p) m)) (undefine c m))

-- "(2) HDP 0, engine idle"
abbrev pub tear_clear : ℕ → Controller → Controller
tear_clear q c = set_stage q 3 (set_state (set_hdp q 0 c.state) (set_idle q c))

-- "(3) CP 0xFFFFFFFC, no longer pending"
abbrev pub tear_report : ℕ → Controller → Controller
tear_report q c = set_stage q 1 (set_state (clear_tearing q (set_cp q teardown_done c.state)) c)

-- "Teardown, when pending and that engine is idle, waiting or, transmit only, at 1 of a new packet"
unfoldable pub tear_step : ℕ → Controller → List ℕ → StepDone
tear_step q c m =
    let n = stage_of c q in
    pick (both (tearing_of c.state q) (quiet_engine c q))
    (pick (eqb n 1) (tear_mark q c m)
    (pick (eqb n 2) (answer 0 (tear_clear q c) m) (answer 0 (tear_report q c) m)))
    (answer 0 c m)

-- both engines of a channel are quiet, and of all channels
abbrev pub quiet_channel : Channel → Bool
quiet_channel x = both (quiet_tx x.tx) (quiet_rx x.rx)

abbrev pub all_quiet : List Channel → Bool
all_quiet [] = true
all_quiet (x ∷ xs) = both (quiet_channel x) (all_quiet xs)

-- "Reset, when pending and both engines are so: bit cleared, engines idle, four registers await zero with their old values"
unfoldable pub reset_step : Controller → List ℕ → StepDone
reset_step c m =
    pick (both (reset_of c.state) (all_quiet c.channels))
    (answer 0 (set_state (set_reset_bit 0 (unmarked c.state)) (set_channels idle_channels c)) m)
    (answer 0 c m)

-- a memory of another size is answered 1; then an undefined controller 22
abbrev pub unless_undefined : Controller → List ℕ → StepDone → StepDone
unless_undefined c m x = pick (eqb (length m) desc_bytes) (pick c.undefined (answer 22 c m) x) (answer 1 c m)

-- an engine of a channel that there is not cannot move
abbrev pub on_channel : ℕ → Controller → List ℕ → StepDone → StepDone
on_channel ch c m x = pick (ltb ch channels) x (answer 0 c m)

abbrev pub move_of : Engine → Controller → List ℕ → StepDone
move_of Reset c m = reset_step c m
move_of (Transmit ch) c m = on_channel ch c m (transmit_step ch c m)
move_of (Receive ch) c m = on_channel ch c m (receive_step ch c m)
move_of (TearTransmit ch) c m = on_channel ch c m (tear_step (queue_of Sides.Transmit ch) c m)
move_of (TearReceive ch) c m = on_channel ch c m (tear_step (queue_of Sides.Receive ch) c m)

unfoldable pub step_of : Engine → Controller → List ℕ → StepDone
step_of e c m = unless_undefined c m (move_of e c m)

-- ---- a frame: "taken (go to 1) when HDP is nonzero, the engine waits, and no reset or receive teardown is pending; else 24"
pub record Framed : Type 0 where
  pub ctl : Controller
  pub number : ℕ

abbrev pub framed : ℕ → Controller → Framed
framed n c = record { ctl = c; number = n }

-- the same, of what was handed back
abbrev pub arrival : Arrived → Framed
arrival r = framed (fault r.answer) r.ctl

unfoldable pub frame_of : ℕ → Controller → Framed
frame_of n c =
    let q = queue_of Sides.Receive 0 in
    let p = hdp_of c.state q in
    pick c.undefined (framed 22 c)
    (pick (both (leb 1 n) (leb n length_max))
    (pick (both (not (eqb p 0)) (both (waits (rx_of c 0)) (not (held_back c q))))
    (framed 0 (set_rx 0 (R.Fetch (record { first = p; stored = 0; left = n })) c))
    (framed 24 c))
    (framed 23 c))

-- ---- a write that no guard has judged
-- an accepted HDP write is a start unless it zeroes: "puts the transmit engine at step 1 or the receive engine to waiting"
abbrev pub begun_by : Side → ℕ → Controller → Controller
begun_by Sides.Transmit ch c = set_tx ch S.New c
begun_by Sides.Receive ch c = set_rx ch R.Wait c

abbrev pub set_begun : ℕ → Controller → Controller
set_begun q c = begun_by (side_of q) (channel_of q) c

abbrev pub starts_engine : Controller → ℕ → Bool
starts_engine c n = both (ltb n (hdp_class + queues)) (not (awaiting c.state))

unfoldable pub register_write : ℕ → ℕ → Controller → List ℕ → StepDone
register_write n v c m =
    let k = register_fault c.state n v in
    let begun = pick (starts_engine c n) (set_begun (n - hdp_class) c) c in
    pick (eqb k 0) (answer 0 (set_state (written c.state n v) begun) m)
    (pick (eqb k 4) (answer 4 c m) (undefine c m))

-- "Without the guard, a write to which the rules above give 5 to 10, read over the model's own marks and pending flags and no
-- book, makes it undefined (22); 3 and 4 change nothing; all else takes effect."
unfoldable pub unguarded_write : ℕ → ℕ → Controller → List ℕ → StepDone
unguarded_write a v c m =
    unless_undefined c m
    (pick (eqb (a % 4) 0)
    (pick (in_descriptors a)
    (answer 0 c (put m ((a - desc_first) / 4) v))
    (register_write (class_at a) v c m))
    (answer 3 c m))

unfoldable pub fresh_controller : Controller
fresh_controller = record {
  state = replicate state_words 0;
  stages = replicate queues 1;
  channels = idle_channels;
  undefined = false;
  sent = 0;
  received = 0;
}
