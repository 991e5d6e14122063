-- The invariant: what holds of guard and controller between any two operations. Assumes nothing: these are definitions.
-- It is said of the machine itself, each clause for a queue number: queue 2·c transmits on channel c, queue 2·c + 1 receives there.
-- All that is said of a queue is said of what the release would leave of it now (`left_of`); so what the book has not yet seen of the
-- controller's work needs no clause. Every pointer in a clause is `start` of a list.
--     Fit m                      descriptor memory is 8,192 bytes
--     Sendable, Fillable         descriptors still to be fetched: fresh, and in blocks of Linux; fresh, and as long as recorded
--     Long lens w ds             each receive length is the recorded one
--     Roomy K lens w ds          receive buffers at their recorded lengths lie in Linux data
--     Ready F L h n              an engine before its queue: at teardown step 1 it is still to be used (F), at 2 it is torn down
--     Spot w L first h n         an engine inside the first packet of L, at descriptor d: cs before it, rs behind
--     Latched, Latch             the next that was latched, before and after EOQ is marked for it
--     Owned F w L first h n l    a packet with its last descriptor marked, before OWNER is cleared: both sides
--     Through F L h n l          between steps 5 and 6: L is what the next leads to
--     TxInv, RxInv               the clause of each phase
--     Phase, phase_of c q         the phase of the engine of queue q, of either side
--     idle, Serves               whether it is idle; its clause
--     Post, post_of s q           a queue's registers and flags, and the teardown step that comes next
--     Common, common_of s         reset, its bit and the marks, in book and controller
--     left_of s qs q              what the release would leave of queue q
--     Table t, Sized s           tables of their size, whose flags are flags
--     Held s qs                  all queues: heads, links, words in use, recorded lengths
--     Shared c                   reset and marks: the book's, through the release's own rules, are the controller's
--     TearingFits c p idle              teardown of one queue, likewise
--     Inv s                      the invariant
use Prim.Native.Nat.{ℕ, ◌+◌, ◌≤◌, ◌<◌, ◌^◌}
use mathlib.Core.Path.{◌≡◌}
use mathlib.Core.Bool.{Bool, true, false, not}
use mathlib.Core.List.{List, [], ◌∷◌, ◌++◌}
use mathlib.Core.Logic.{◌⊎◌, ◌≢◌}
use lib.ListN.{length, get_or}
use lib.Dec.{eqb}
use Rattle.layout.specs.Choice.{pick, both}
use Rattle.layout.specs.Bits.{bit}
use Rattle.layout.specs.Layout.{desc_bytes, length_max, address_end, good_ptr, addr, channels as channelCount, queues, marks as markCount}
use Rattle.layout.specs.Layout.{side_of, channel_of}
use Rattle.layout.specs.declared.Side.{Side}
use Rattle.layout.specs.declared.Side.TheVariants.{Transmit, Receive}
use Rattle.words.specs.Word.{word}
use Rattle.words.proofs.WordLaws.{Bytes}
use Rattle.blocks.specs.Kinds.{fit_kinds}
use Rattle.blocks.specs.Room.{room_of}
use Rattle.blocks.specs.declared.Room.TheVariants.{Free}
use Rattle.descriptor.specs.Fields.{eop, eoq, length_of}
use Rattle.descriptor.specs.declared.Place.{Place}
use Rattle.descriptor.specs.declared.Place.TheVariants.{Start, Middle, Buffer}
use Rattle.registers.specs.Table.{state_words, reset_at, head_of, hdp_of, cp_of, marks_of, tearings_of, tearing_of, awaiting, reset_of}
use Rattle.registers.specs.Table.{bit_of}
use Rattle.registers.specs.Rules.{teardown_done}
use Rattle.book.specs.declared.Mode.{Mode}
use Rattle.book.specs.declared.Mode.TheVariants as Modes
use Rattle.queue.proofs.Queue.{start, All, Linked, Sole, Recorded, Fresh, flat, receiving, kept}
use Rattle.queue.proofs.Queue as queue
use Rattle.queue.proofs.KeptLaws.{NoEop, Live}
use Rattle.queue.proofs.NumberLaws.{queue_at}
use Rattle.phases.specs.declared.Packet.{Packet}
use Rattle.phases.specs.declared.Reading.{Reading}
use Rattle.phases.specs.declared.Closing.{Closing}
use Rattle.phases.specs.declared.Sending.{Sending}
use Rattle.phases.specs.declared.Sending.TheVariants as S
use Rattle.phases.specs.declared.Frame.{Frame}
use Rattle.phases.specs.declared.Storing.{Storing}
use Rattle.phases.specs.declared.Filled.{Filled}
use Rattle.phases.specs.declared.Stored.{Stored}
use Rattle.phases.specs.declared.Receiving.{Receiving}
use Rattle.phases.specs.declared.Receiving.TheVariants as R
use Rattle.controller.specs.declared.Controller.{Controller}
use Rattle.controller.specs.Controller.{tx_of, rx_of, stage_of}
use Rattle.machine.specs.Machine.{Machine}

-- ---- memory

pub record Fit (m : List ℕ) : Type 0 where
  pub size : length m ≡ desc_bytes
  pub bytes : Bytes m

-- ---- what is still to be fetched

pub record Sendable (K : List ℕ) (w : ℕ → ℕ) (pl : Place) (ds : List ℕ) : Type 0 where
  pub fresh : Fresh w pl ds
  pub room : queue.Roomy K Transmit w ds

abbrev pub Long : List ℕ → (ℕ → ℕ) → List ℕ → Type 0
Long lens w ds = All (λ d. length_of Receive (w (d + 2)) ≡ get_or lens d 0) ds

pub record Fillable (lens : List ℕ) (w : ℕ → ℕ) (ds : List ℕ) : Type 0 where
  pub fresh : Fresh w Buffer ds
  pub long : Long lens w ds

-- of the whole receive queue, also of what was fetched: the controller shrinks a length in word 2, not the recorded one
abbrev pub Roomy : List ℕ → List ℕ → (ℕ → ℕ) → List ℕ → Type 0
Roomy K lens w ds = All (λ d. room_of Receive K (w (d + 1)) (get_or lens d 0) ≡ Free) ds

-- ---- where an engine stands; h is HDP, n the teardown step that comes next

-- before its queue: it is still to be used, or TD was set at its head
pub record Ready (F : List ℕ → Type 0) (L : List ℕ) (h n : ℕ) : Type 0 where
  pub good : good_ptr h ≡ true
  pub state : ((n ≡ 1) × (start L ≡ h) × F L) ⊎ ((n ≡ 2) × (L ≡ []))

-- inside the first packet, or frame, of the queue: at d
pub record Spot (w : ℕ → ℕ) (L : List ℕ) (first h n : ℕ) : Type 0 where
  pub cs : List ℕ
  pub d : ℕ
  pub rs : List ℕ
  pub split : L ≡ cs ++ d ∷ rs
  pub top : first ≡ start L
  pub here : h ≡ addr d
  pub small : d ≤ 2044
  pub before : All (NoEop w) cs
  pub live : Live w L
  pub stage : n ≡ 1

-- the next that was latched behind d: an append may have come after it
abbrev pub Latched : List ℕ → ℕ → Type 0
Latched rs l = (l ≡ 0) ⊎ ((l ≡ start rs) × (l ≢ 0))

-- and EOQ where it was 0
abbrev pub Latch : (ℕ → ℕ) → ℕ → List ℕ → ℕ → Type 0
Latch w d rs l = ((l ≡ 0) × (eoq (w (d + 3)) ≡ true)) ⊎ ((l ≡ start rs) × (eoq (w (d + 3)) ≡ false) × (l ≢ 0))

-- transmit step 5 and receive step 5
pub record Owned (F : List ℕ → Type 0) (w : ℕ → ℕ) (L : List ℕ) (first h n l : ℕ) : Type 0 where
  pub spot : Spot w L first h n
  pub todo : F spot.rs
  pub last : eop (w (spot.d + 3)) ≡ true
  pub latch : Latch w spot.d spot.rs l

-- transmit step 6 and receive step 6: nothing is said of the finished packet, whose words may be in use anew
pub record Through (F : List ℕ → Type 0) (L : List ℕ) (h n l : ℕ) : Type 0 where
  pub good : good_ptr h ≡ true
  pub stage : n ≡ 1
  pub next : start L ≡ l
  pub todo : F L

-- ---- the transmit engine

-- the place behind a descriptor that was fetched
abbrev pub place_after : Bool → ℕ → ℕ → Place
place_after eop word3 sum = pick eop Start (Middle word3 sum)

pub record AtWithin (K : List ℕ) (w : ℕ → ℕ) (L : List ℕ) (h n : ℕ) (p : Packet) : Type 0 where
  pub spot : Spot w L p.sop h n
  pub todo : Sendable K w (Middle p.word3 p.sum) (spot.d ∷ spot.rs)

-- steps 2 and 3: d was fetched
pub record Fetched (K : List ℕ) (w : ℕ → ℕ) (L : List ℕ) (h n sop word3 sum l : ℕ) (end : Bool) : Type 0 where
  pub spot : Spot w L sop h n
  pub todo : Sendable K w (place_after end word3 sum) spot.rs
  pub next : end ≡ false → l ≡ start spot.rs
  pub last : eop (w (spot.d + 3)) ≡ end
  pub clean : eoq (w (spot.d + 3)) ≡ false

pub record AtMoving (K : List ℕ) (w : ℕ → ℕ) (L : List ℕ) (h n : ℕ) (r : Reading) : Type 0 where
  pub fetched : Fetched K w L h n r.sop r.word3 r.sum r.next r.eop
  pub some : 1 ≤ r.left
  pub below : r.at + r.left ≤ address_end
  pub room : room_of Transmit K r.at r.left ≡ Free

pub record AtMarking (K : List ℕ) (w : ℕ → ℕ) (L : List ℕ) (h n : ℕ) (c : Closing) : Type 0 where
  pub spot : Spot w L c.sop h n
  pub todo : Sendable K w Start spot.rs
  pub last : eop (w (spot.d + 3)) ≡ true
  pub clean : eoq (w (spot.d + 3)) ≡ false
  pub latch : Latched spot.rs c.next

abbrev pub TxInv : List ℕ → (ℕ → ℕ) → List ℕ → ℕ → ℕ → Sending → Type 0
TxInv K w L h n S.Idle = L ≡ []
TxInv K w L h n S.New = Ready (Sendable K w Start) L h n
TxInv K w L h n (S.Within p) = AtWithin K w L h n p
TxInv K w L h n (S.Moving r) = AtMoving K w L h n r
TxInv K w L h n (S.Ended e) = Fetched K w L h n e.sop e.word3 e.sum e.next e.eop
TxInv K w L h n (S.Marking c) = AtMarking K w L h n c
TxInv K w L h n (S.Owning c) = Owned (Sendable K w Start) w L c.sop h n c.next
TxInv K w L h n (S.Done l) = Through (Sendable K w Start) L h n l.next

abbrev pub idle_tx : Sending → Bool
idle_tx S.Idle = true
idle_tx S.New = false
idle_tx (S.Within p) = false
idle_tx (S.Moving r) = false
idle_tx (S.Ended e) = false
idle_tx (S.Marking c) = false
idle_tx (S.Owning c) = false
idle_tx (S.Done l) = false

-- ---- the receive engine

pub record AtFetch (lens : List ℕ) (w : ℕ → ℕ) (L : List ℕ) (h n : ℕ) (f : Frame) : Type 0 where
  pub spot : Spot w L f.first h n
  pub todo : Fillable lens w (spot.d ∷ spot.rs)
  pub some : 1 ≤ f.left
  pub short : f.stored + f.left ≤ length_max

-- steps 2 to 4: d was fetched and is not yet marked
pub record Taken (lens : List ℕ) (w : ℕ → ℕ) (L : List ℕ) (h n first : ℕ) : Type 0 where
  pub spot : Spot w L first h n
  pub todo : Fillable lens w spot.rs
  pub no_eop : NoEop w spot.d
  pub clean : eoq (w (spot.d + 3)) ≡ false

pub record AtStoring (lens : List ℕ) (w : ℕ → ℕ) (L : List ℕ) (h n : ℕ) (s : Storing) : Type 0 where
  pub taken : Taken lens w L h n s.first
  pub more : 1 ≤ s.left
  pub some : 1 ≤ s.room
  pub short : s.stored + s.left ≤ length_max
  pub from : w (taken.spot.d + 1) ≤ s.at
  pub until : s.at + s.room ≡ w (taken.spot.d + 1) + get_or lens taken.spot.d 0
  pub below : s.at + s.room ≤ address_end
  pub few : s.here ≤ s.stored

pub record AtFilled (lens : List ℕ) (w : ℕ → ℕ) (L : List ℕ) (h n : ℕ) (e : Filled) : Type 0 where
  pub taken : Taken lens w L h n e.first
  pub short : e.stored + e.left ≤ length_max
  pub few : e.here ≤ e.stored

pub record AtLast (lens : List ℕ) (w : ℕ → ℕ) (L : List ℕ) (h n : ℕ) (s : Stored) : Type 0 where
  pub taken : Taken lens w L h n s.first
  pub short : s.stored ≤ length_max
  pub few : s.here ≤ s.stored
  pub latch : Latched taken.spot.rs s.next

pub record AtFirst (lens : List ℕ) (w : ℕ → ℕ) (L : List ℕ) (h n : ℕ) (s : Stored) : Type 0 where
  pub owned : Owned (Fillable lens w) w L s.first h n s.next
  pub short : s.stored ≤ length_max

abbrev pub RxInv : List ℕ → (ℕ → ℕ) → List ℕ → ℕ → ℕ → Receiving → Type 0
RxInv lens w L h n R.Idle = L ≡ []
RxInv lens w L h n R.Wait = Ready (Fillable lens w) L h n
RxInv lens w L h n (R.Fetch f) = AtFetch lens w L h n f
RxInv lens w L h n (R.Moving s) = AtStoring lens w L h n s
RxInv lens w L h n (R.Ended e) = AtFilled lens w L h n e
RxInv lens w L h n (R.Last s) = AtLast lens w L h n s
RxInv lens w L h n (R.First s) = AtFirst lens w L h n s
RxInv lens w L h n (R.Done l) = Through (Fillable lens w) L h n l.next

abbrev pub idle_rx : Receiving → Bool
idle_rx R.Idle = true
idle_rx R.Wait = false
idle_rx (R.Fetch f) = false
idle_rx (R.Moving s) = false
idle_rx (R.Ended e) = false
idle_rx (R.Last s) = false
idle_rx (R.First s) = false
idle_rx (R.Done l) = false

-- ---- the engine of a queue, of either side

pub data Phase : Type 0 where
  sending : Sending → Phase
  taking : Receiving → Phase

abbrev pub phase_by : Side → Controller → ℕ → Phase
phase_by Transmit c ch = sending (tx_of c ch)
phase_by Receive c ch = taking (rx_of c ch)

abbrev pub phase_of : Controller → ℕ → Phase
phase_of c q = phase_by (side_of q) c (channel_of q)

abbrev pub idle : Phase → Bool
idle (sending ph) = idle_tx ph
idle (taking ph) = idle_rx ph

-- its clause, over what is left of its queue
abbrev pub Serves : List ℕ → List ℕ → (ℕ → ℕ) → List ℕ → ℕ → ℕ → Phase → Type 0
Serves K lens w L h n (sending ph) = TxInv K w L h n ph
Serves K lens w L h n (taking ph) = RxInv lens w L h n ph

-- what stands still to be used before it
abbrev pub Todo : Side → List ℕ → List ℕ → (ℕ → ℕ) → List ℕ → Type 0
Todo Transmit K lens w L = Sendable K w Start L
Todo Receive K lens w L = Fillable lens w L

-- the blocks of what is left of a receive queue
abbrev pub RoomIn : Side → List ℕ → List ℕ → (ℕ → ℕ) → List ℕ → Type 0
RoomIn Transmit K lens w L = Unit
RoomIn Receive K lens w L = Roomy K lens w L

-- ---- what is read off a machine

pub record Post : Type 0 where
  pub hdp : ℕ
  pub cp : ℕ
  pub stage : ℕ
  pub mark : Bool
  pub booked : Bool
  pub tearing : Bool

-- `mark` is that of its HDP; teardown is pending: in the book (`booked`), in the controller (`tearing`)
abbrev pub post_of : Machine → ℕ → Post
post_of s q = record {
  hdp = hdp_of s.ctl.state q;
  cp = cp_of s.ctl.state q;
  stage = stage_of s.ctl q;
  mark = bit q (marks_of s.ctl.state);
  booked = tearing_of s.state q;
  tearing = tearing_of s.ctl.state q;
}

pub record Common : Type 0 where
  pub bit : Bool
  pub reset : Bool
  pub marks : ℕ
  pub waits : Bool
  pub book_reset : Bool
  pub book_marks : ℕ

-- `waits`: one of the registers is not yet zeroed
abbrev pub common_of : Machine → Common
common_of s = record {
  bit = bit_of s.ctl.state;
  reset = reset_of s.ctl.state;
  marks = marks_of s.ctl.state;
  waits = awaiting s.ctl.state;
  book_reset = reset_of s.state;
  book_marks = marks_of s.state;
}

-- a reset that the book still has as pending is over
abbrev pub over : Common → Bool
over c = both c.book_reset (not c.bit)

abbrev pub words_of : Machine → ℕ → ℕ
words_of s = word s.mem

-- how the release would begin
abbrev pub mode_of : Machine → Mode
mode_of s = pick (over (common_of s)) Modes.All Modes.Head

abbrev pub left_of : Machine → List (List ℕ) → ℕ → List ℕ
left_of s qs q = kept (words_of s) (mode_of s) (queue_at qs q)

-- ---- tables, queues

pub record Table (t : List ℕ) : Type 0 where
  pub size : length t ≡ state_words
  pub marks : marks_of t < 2 ^ markCount
  pub tearings : tearings_of t < 2 ^ queues
  pub reset : get_or t reset_at 0 ≤ 1

pub record Sized (s : Machine) : Type 0 where
  pub book : Table s.state
  pub ctl : Table s.ctl.state
  pub stages : length s.ctl.stages ≡ queues
  pub channels : length s.ctl.channels ≡ channelCount

pub record Held (s : Machine) (qs : List (List ℕ)) : Type 0 where
  pub fit : Fit s.mem
  pub kinds : fit_kinds s.kinds ≡ true
  pub many : length qs ≡ queues
  pub heads : (q : ℕ) → q < queues → head_of s.state q ≡ start (queue_at qs q)
  pub linked : (q : ℕ) → Linked (words_of s) (queue_at qs q)
  pub sole : Sole s.used (flat qs)
  pub recorded : Recorded s.lens (receiving qs)

-- ---- reset, marks, teardown: what the book lags behind is what the release's first two rules take away

pub record Shared (c : Common) : Type 0 where
  pub resets : pick (over c) false c.book_reset ≡ c.reset
  pub marks : pick (over c) 0 c.book_marks ≡ c.marks
  pub bits : c.bit ≡ c.reset
  pub ready : c.reset ≡ true → c.waits ≡ false

-- one queue; rests says that its engine is idle
pub record TearingFits (c : Common) (p : Post) (rests : Bool) : Type 0 where
  pub settles : pick (eqb p.cp teardown_done) false p.booked ≡ p.tearing
  pub young : p.tearing ≡ true → p.cp ≢ teardown_done
  pub stage : p.tearing ≡ false → p.stage ≡ 1
  pub lasts : p.booked ≡ true → p.tearing ≡ false → rests ≡ true
  pub alone : c.reset ≡ true → p.tearing ≡ false
  pub ready : p.tearing ≡ true → c.waits ≡ false
  pub asleep : c.waits ≡ true → rests ≡ true
  pub zeroed : p.mark ≡ true → rests ≡ true → p.hdp ≡ 0

-- ---- all together

pub record Inv (s : Machine) : Type 0 where
  pub qs : List (List ℕ)
  pub sized : Sized s
  pub defined : s.ctl.undefined ≡ false
  pub held : Held s qs
  pub shared : Shared (common_of s)
  pub turn : (q : ℕ) → q < queues → TearingFits (common_of s) (post_of s q) (idle (phase_of s.ctl q))
  pub engine : (q : ℕ) → q < queues
      → Serves s.kinds s.lens (words_of s) (left_of s qs q) (post_of s q).hdp (post_of s q).stage (phase_of s.ctl q)
  pub room : (q : ℕ) → q < queues → RoomIn (side_of q) s.kinds s.lens (words_of s) (left_of s qs q)
