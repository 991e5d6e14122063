-- A step of an engine: a change of its registers, stage and phase alone, and a mark in a descriptor of its queue. Assumes nothing.
--     Sided q ph                the phase is one of the queue's side
--     set_phase q ph c           the record with the phase of queue q
--     phase-channels            the phases are those of the channels
--     phase-here, phase-there   the phase that was set is the queue's, and no other changed
--     table_fits, fits-table    a table of flags, as it is computed, and back
--     NearTable t u q           u differs from t in heads, registers and teardown of queue q alone
--     near-table, near-hdp, near-cp, near-finished   it is near itself; each change of queue q
--     Near c d q                d differs from c in that, in stage and phase of queue q, and in totals alone
--     near-self, near-state, near-totals, near-stage, near-phase   likewise
--     Stands s d q p ph         d is near the controller of s, with post p and phase ph at queue q
--     shared_of, turn-of, serves-of   a clause, where what it speaks of is the same
--     move-near, touch-near     the invariant, where a record near the old one is put in its place, without and with a mark
--     touch-leaves              a step of queue q leaves every word of every other queue
--     touch-spares              and every word that is not in use
--     Fine s x                  the result of a controller step on a machine: all that is asked of it
--     fine-quiet                such a result, where nothing goes over the bus
--     went q ph h cp a b        the result of a step of an engine that went
--     near-went, went-stands    its record
--     move-fine, touch-fine     the invariant after it, without and with a mark
use Prim.Native.Nat.{ℕ, ◌+◌, ◌<◌}
use mathlib.Core.Path.{◌≡◌, refl, ap, ◌∙◌, sym}
use mathlib.Core.Bool.{Bool, true, false}
use mathlib.Core.List.{List, ◌∷◌, ◌++◌}
use mathlib.Core.Logic.{◌≢◌}
use native.Mathlib.Omega.{arith}
use lib.ListN.{length, get_or, set, length-set}
use lib.Seq.{get_or-set_same, get_or-set_other}
use Rattle.layout.specs.Choice.{pick}
use Rattle.layout.specs.Bits.{bit}
use Rattle.layout.specs.Layout.{channels as channelCount, queues, side_of, channel_of, queue_of}
use Rattle.layout.specs.declared.Side.{Side}
use Rattle.layout.specs.declared.Side.TheVariants.{Transmit, Receive}
use Rattle.words.specs.Word.{word}
use Rattle.words.specs.WordSet.{has}
use Rattle.registers.specs.Table.{state_words, hdp_of, cp_of, marks_of, tearing_of, awaiting, reset_of, bit_of, set_hdp, set_cp}
use Rattle.registers.specs.Table.{clear_tearing}
use Rattle.registers.specs.Table.{flags_fit}
use Rattle.registers.proofs.TableLaws.{length-set_hdp, hdp_of-set_hdp-same, hdp_of-set_hdp-other, cp_of-set_hdp, marks_of-set_hdp}
use Rattle.registers.proofs.TableLaws.{tearing_of-set_hdp}
use Rattle.registers.proofs.TableLaws.{reset_of-set_hdp, bit_of-set_hdp, length-set_cp, cp_of-set_cp-same, cp_of-set_cp-other}
use Rattle.registers.proofs.TableLaws.{hdp_of-set_cp}
use Rattle.registers.proofs.TableLaws.{marks_of-set_cp, tearing_of-set_cp, reset_of-set_cp, bit_of-set_cp, length-set_tearings}
use Rattle.registers.proofs.TableLaws.{hdp_of-set_tearings}
use Rattle.registers.proofs.TableLaws.{cp_of-set_tearings, marks_of-set_tearings, reset_of-set_tearings, bit_of-set_tearings}
use Rattle.registers.proofs.TableLaws.{tearing_of-clear_tearing-other, flags_fit-bounds, bounds-flags_fit, flags_fit-set_hdp}
use Rattle.registers.proofs.TableLaws.{flags_fit-set_cp}
use Rattle.registers.proofs.TableLaws.{flags_fit-clear_tearing}
use Rattle.book.specs.declared.Mode.{Mode}
use Rattle.book.specs.declared.Mode.TheVariants.{Head, All as Whole}
use Rattle.queue.proofs.Queue.{All, Linked, flat, kept}
use Rattle.queue.proofs.LinkLaws.{all_join, all_map, all-every, linked-same}
use Rattle.queue.proofs.StoreLaws.{Same, Same3, sames-three, same-nexts, Only, Change}
use Rattle.queue.proofs.RoomyLaws.{room-now-same}
use Rattle.queue.proofs.NumberLaws.{each, queue-of, queue_at, without, Marked, marked-there}
use Rattle.phases.specs.declared.Sending.{Sending}
use Rattle.phases.specs.declared.Receiving.{Receiving}
use Rattle.phases.specs.declared.Burst.{Burst}
use Rattle.phases.specs.declared.Burst.TheVariants.{Quiet}
use Rattle.controller.specs.declared.Channel.{Channel}
use Rattle.controller.specs.declared.Controller.{Controller}
use Rattle.controller.specs.Controller.{StepDone, answer, idle_channel, tx_of, rx_of, stage_of, set_tx, set_rx, set_stage, set_state}
use Rattle.controller.specs.Controller.{set_totals}
use Rattle.controller.specs.Controller.{set_regs}
use Rattle.machine.specs.Machine.{Machine, with_ctl}
use Rattle.safety.specs.Statement.{InPlace}
use Rattle.safety.proofs.Inv.{Fit, Phase, sending, taking, phase_by, phase_of, idle, Serves, RoomIn, Post, post_of, Common, common_of}
use Rattle.safety.proofs.Inv.{over, words_of, mode_of, left_of, Table, Sized, Shared, TearingFits, Inv}
use Rattle.safety.proofs.Frame.{kept-part, lengths-same}
use Rattle.safety.proofs.Serve.{serves-new}
use Rattle.safety.proofs.Marks.{spared, with_regs}

-- ---- the engine of a queue

abbrev pub Sided : ℕ → Phase → Type 0
Sided q (sending ph) = side_of q ≡ Transmit
Sided q (taking ph) = side_of q ≡ Receive

abbrev pub set_phase : ℕ → Phase → Controller → Controller
set_phase q (sending ph) c = set_tx (channel_of q) ph c
set_phase q (taking ph) c = set_rx (channel_of q) ph c

-- the phases are those of the channels
pub phase-channels : (c d : Controller) → d.channels ≡ c.channels → (j : ℕ) → phase_of d j ≡ phase_of c j
phase-channels c d e j = at (side_of j)
  where
    at : (side : Side) → phase_by side d (channel_of j) ≡ phase_by side c (channel_of j)
    at Transmit = rw e refl
    at Receive = rw e refl

module _ (c : Controller) (ch : ℕ) where
  -- the engines of a channel that is set to x
  at_here : (x : Channel) → ch < length c.channels → get_or (set c.channels ch x) ch idle_channel ≡ x
  at_here x l = get_or-set_same c.channels ch x idle_channel l

  at_there : (x : Channel) (j : ℕ) → j ≢ ch → get_or (set c.channels ch x) j idle_channel ≡ get_or c.channels j idle_channel
  at_there x j n = get_or-set_other c.channels ch j x idle_channel n

  tx-there : (x : Channel) → ch < length c.channels → x.tx ≡ tx_of c ch → (j : ℕ)
      → (get_or (set c.channels ch x) j idle_channel).tx ≡ tx_of c j
  tx-there x l e = each (λ j. (get_or (set c.channels ch x) j idle_channel).tx ≡ tx_of c j) ch
      (ap (λ (y : Channel). y.tx) (at_here x l) ∙ e) (λ j n. ap (λ (y : Channel). y.tx) (at_there x j n))

  rx-there : (x : Channel) → ch < length c.channels → x.rx ≡ rx_of c ch → (j : ℕ)
      → (get_or (set c.channels ch x) j idle_channel).rx ≡ rx_of c j
  rx-there x l e = each (λ j. (get_or (set c.channels ch x) j idle_channel).rx ≡ rx_of c j) ch
      (ap (λ (y : Channel). y.rx) (at_here x l) ∙ e) (λ j n. ap (λ (y : Channel). y.rx) (at_there x j n))

-- two queues of one side are on two channels
channels-differ : (q j : ℕ) → side_of j ≡ side_of q → j ≢ q → channel_of j ≢ channel_of q
channels-differ q j e n z = n (sym (queue-of j) ∙ ap (λ (s : Side). queue_of s (channel_of j)) e ∙ ap (queue_of (side_of q)) z ∙ queue-of q)

module _ (c : Controller) (q : ℕ) (l : channel_of q < length c.channels) where
  pub phase-here : (ph : Phase) → Sided q ph → phase_of (set_phase q ph c) q ≡ ph
  phase-here (sending ph) e = rw e (ap (λ (y : Channel). sending y.tx) (at_here c (channel_of q) _ l))
  phase-here (taking ph) e = rw e (ap (λ (y : Channel). taking y.rx) (at_here c (channel_of q) _ l))

  pub phase-there : (ph : Phase) → Sided q ph → (j : ℕ) → j ≢ q → phase_of (set_phase q ph c) j ≡ phase_of c j
  phase-there ph e j n = at (side_of j) refl ph e
    where
      at : (side : Side) → side_of j ≡ side → (ph : Phase) → Sided q ph
          → phase_by side (set_phase q ph c) (channel_of j) ≡ phase_by side c (channel_of j)
      at Transmit f (sending ph) e =
          ap (λ (y : Channel). sending y.tx) (at_there c (channel_of q) _ (channel_of j) (channels-differ q j (f ∙ sym e) n))
      at Transmit f (taking ph) e = ap (λ (y : Sending). sending y) (tx-there c (channel_of q) _ l refl (channel_of j))
      at Receive f (sending ph) e = ap (λ (y : Receiving). taking y) (rx-there c (channel_of q) _ l refl (channel_of j))
      at Receive f (taking ph) e =
          ap (λ (y : Channel). taking y.rx) (at_there c (channel_of q) _ (channel_of j) (channels-differ q j (f ∙ sym e) n))

-- ---- a table near another

pub table_fits : {t : List ℕ} → Table t → flags_fit t ≡ true
table_fits {t} x = bounds-flags_fit t x.marks x.tearings x.reset

pub fits-table : {t : List ℕ} → length t ≡ state_words → flags_fit t ≡ true → Table t
fits-table {t} l f = let b = flags_fit-bounds t f in record { size = l; marks = b.0; tearings = b.1; reset = b.2 }

pub record NearTable (t u : List ℕ) (q : ℕ) : Type 0 where
  pub table : Table u
  pub marks : marks_of u ≡ marks_of t
  pub reset : reset_of u ≡ reset_of t
  pub bit : bit_of u ≡ bit_of t
  pub hdp : (j : ℕ) → j < queues → j ≢ q → hdp_of u j ≡ hdp_of t j
  pub cp : (j : ℕ) → j < queues → j ≢ q → cp_of u j ≡ cp_of t j
  pub tearing : (j : ℕ) → j < queues → j ≢ q → tearing_of u j ≡ tearing_of t j

pub near-table : {t : List ℕ} {q : ℕ} → Table t → NearTable t t q
near-table x =
    record { table = x; marks = refl; reset = refl; bit = refl; hdp = λ j l m. refl; cp = λ j l m. refl; tearing = λ j l m. refl }

module _ {t u : List ℕ} {q : ℕ} (l : q < queues) (n : NearTable t u q) where
  pub near-hdp : (v : ℕ) → NearTable t (set_hdp q v u) q
  near-hdp v = record {
    table = fits-table (length-set_hdp u q v ∙ n.table.size) (flags_fit-set_hdp u q v l ∙ table_fits n.table);
    marks = marks_of-set_hdp u q v l ∙ n.marks;
    reset = reset_of-set_hdp u q v l ∙ n.reset;
    bit = bit_of-set_hdp u q v l ∙ n.bit;
    hdp = λ j b m. hdp_of-set_hdp-other u q v j m ∙ n.hdp j b m;
    cp = λ j b m. cp_of-set_hdp u q v j l ∙ n.cp j b m;
    tearing = λ j b m. tearing_of-set_hdp u q v j l ∙ n.tearing j b m;
  }

  pub near-cp : (v : ℕ) → NearTable t (set_cp q v u) q
  near-cp v = record {
    table = fits-table (length-set_cp u q v ∙ n.table.size) (flags_fit-set_cp u q v l ∙ table_fits n.table);
    marks = marks_of-set_cp u q v l ∙ n.marks;
    reset = reset_of-set_cp u q v l ∙ n.reset;
    bit = bit_of-set_cp u q v l ∙ n.bit;
    hdp = λ j b m. hdp_of-set_cp u q v j b ∙ n.hdp j b m;
    cp = λ j b m. cp_of-set_cp-other u q v j m ∙ n.cp j b m;
    tearing = λ j b m. tearing_of-set_cp u q v j l ∙ n.tearing j b m;
  }

  -- its teardown is over
  pub near-finished : NearTable t (clear_tearing q u) q
  near-finished = record {
    table = fits-table (length-set_tearings u _ ∙ n.table.size) (flags_fit-clear_tearing u (table_fits n.table) q);
    marks = marks_of-set_tearings u _ ∙ n.marks;
    reset = reset_of-set_tearings u _ ∙ n.reset;
    bit = bit_of-set_tearings u _ ∙ n.bit;
    hdp = λ j b m. hdp_of-set_tearings u _ j b ∙ n.hdp j b m;
    cp = λ j b m. cp_of-set_tearings u _ j b ∙ n.cp j b m;
    tearing = λ j b m. tearing_of-clear_tearing-other u q n.table.size j m ∙ n.tearing j b m;
  }

-- ---- a controller near another

pub record Near (c d : Controller) (q : ℕ) : Type 0 where
  pub state : NearTable c.state d.state q
  pub stages : length d.stages ≡ queues
  pub channels : length d.channels ≡ channelCount
  pub defined : d.undefined ≡ c.undefined
  pub stage : (j : ℕ) → j < queues → j ≢ q → stage_of d j ≡ stage_of c j
  pub phase : (j : ℕ) → j < queues → j ≢ q → phase_of d j ≡ phase_of c j

pub near-self : {s : Machine} (q : ℕ) → Sized s → Near s.ctl s.ctl q
near-self q z = record {
  state = near-table z.ctl;
  stages = z.stages;
  channels = z.channels;
  defined = refl;
  stage = λ j l m. refl;
  phase = λ j l m. refl;
}

module _ {c d : Controller} {q : ℕ} (n : Near c d q) where
  pub near-state : (t : List ℕ) → NearTable c.state t q → Near c (set_state t d) q
  near-state t x = record {
    state = x;
    stages = n.stages;
    channels = n.channels;
    defined = n.defined;
    stage = n.stage;
    phase = λ j b m. phase-channels d _ refl j ∙ n.phase j b m;
  }

  pub near-totals : (a b : ℕ) → Near c (set_totals a b d) q
  near-totals a b = record {
    state = n.state;
    stages = n.stages;
    channels = n.channels;
    defined = n.defined;
    stage = n.stage;
    phase = λ j b m. phase-channels d _ refl j ∙ n.phase j b m;
  }

  pub near-stage : (k : ℕ) → Near c (set_stage q k d) q
  near-stage k = record {
    state = n.state;
    stages = length-set d.stages q k ∙ n.stages;
    channels = n.channels;
    defined = n.defined;
    stage = λ j b m. get_or-set_other d.stages q j k 1 m ∙ n.stage j b m;
    phase = λ j b m. phase-channels d _ refl j ∙ n.phase j b m;
  }

  pub near-phase : q < queues → (ph : Phase) → Sided q ph → Near c (set_phase q ph d) q
  near-phase l ph e = at ph (λ j b m. phase-there d q (omega (arith, n.channels)) ph e j m ∙ n.phase j b m)
    where
      at : (ph : Phase) → ((j : ℕ) → j < queues → j ≢ q → phase_of (set_phase q ph d) j ≡ phase_of c j) → Near c (set_phase q ph d) q
      at (sending ph) f = record {
        state = n.state;
        stages = n.stages;
        channels = length-set d.channels (channel_of q) _ ∙ n.channels;
        defined = n.defined;
        stage = n.stage;
        phase = f;
      }
      at (taking ph) f = record {
        state = n.state;
        stages = n.stages;
        channels = length-set d.channels (channel_of q) _ ∙ n.channels;
        defined = n.defined;
        stage = n.stage;
        phase = f;
      }

-- ---- the invariant, with a controller near the old one

-- d is near the controller of s, with post p and phase ph at queue q
pub record Stands (s : Machine) (d : Controller) (q : ℕ) (p : Post) (ph : Phase) : Type 0 where
  pub near : Near s.ctl d q
  pub post : post_of (with_ctl d s.mem s) q ≡ p
  pub phase : phase_of d q ≡ ph

awaiting-of : (t u : List ℕ) → marks_of u ≡ marks_of t → awaiting u ≡ awaiting t
unfolding awaiting
awaiting-of t u e = rw e refl

module _ (s : Machine) (d : Controller) (q : ℕ) (n : Near s.ctl d q) (m : List ℕ) where
  common-near : common_of (with_ctl d m s) ≡ common_of s
  common-near =
      let t = s.ctl.state in
      let a = n.state.bit in
      let b = n.state.reset in
      let c = n.state.marks in
      let e = awaiting-of t d.state c in
      cc

  post-near : (j : ℕ) → j < queues → j ≢ q → post_of (with_ctl d m s) j ≡ post_of s j
  post-near j l k =
      let a = n.state.hdp j l k in
      let b = n.state.cp j l k in
      let c = n.stage j l k in
      let e = ap (bit j) n.state.marks in
      let f = n.state.tearing j l k in
      cc

  left_near : (qs : List (List ℕ)) (j : ℕ) → left_of (with_ctl d m s) qs j ≡ kept (word m) (mode_of s) (queue_at qs j)
  left_near qs j = ap (λ (c : Common). kept (word m) (pick (over c) Whole Head) (queue_at qs j)) common-near

pub shared_of : {c c' : Common} → c' ≡ c → Shared c → Shared c'
shared_of e x = rw e x

pub turn-of : {c c' : Common} {p p' : Post} {b b' : Bool} → c' ≡ c → p' ≡ p → b' ≡ b → TearingFits c p b → TearingFits c' p' b'
turn-of e f g t = rw (e, f, g) t

pub serves-of : (K lens : List ℕ) (w : ℕ → ℕ) (L L' : List ℕ) (p p' : Post) (ph ph' : Phase) → L' ≡ L → p' ≡ p → ph' ≡ ph
    → Serves K lens w L p.hdp p.stage ph → Serves K lens w L' p'.hdp p'.stage ph'
serves-of K lens w L L' p p' ph ph' e f g x = rw (e, f, g) x

-- the blocks, where word 1 of each is as it was
room-same : (side : Side) (K lens : List ℕ) (w v : ℕ → ℕ) (L : List ℕ) → All (λ y. v (y + 1) ≡ w (y + 1)) L → RoomIn side K lens w L
    → RoomIn side K lens v L
room-same Transmit K lens w v L a r = tt
room-same Receive K lens w v L a r = room-now-same K lens w v L a r

room-part : (side : Side) (K lens : List ℕ) (w v : ℕ → ℕ) (n : Mode) (L : List ℕ) → RoomIn side K lens v L
    → RoomIn side K lens v (kept w n L)
room-part Transmit K lens w v n L r = tt
room-part Receive K lens w v n L r = kept-part _ w n L r

module _ (s : Machine) (i : Inv s) (q : ℕ) (l : q < queues) {d : Controller} {p : Post} {ph : Phase} (x : Stands s d q p ph) where
  -- descriptor memory m: every queue is linked there, and every other than q has the words that it had
  put-near : (m : List ℕ) → Fit m → ((j : ℕ) → Linked (word m) (queue_at i.qs j))
      → ((j : ℕ) → j ≢ q → All (Same3 (words_of s) (word m)) (left_of s i.qs j))
      → ((j : ℕ) → j ≢ q → kept (word m) (mode_of s) (queue_at i.qs j) ≡ left_of s i.qs j)
      → TearingFits (common_of s) p (idle ph)
      → Serves s.kinds s.lens (word m) (kept (word m) (mode_of s) (queue_at i.qs q)) p.hdp p.stage ph
      → RoomIn (side_of q) s.kinds s.lens (word m) (kept (word m) (mode_of s) (queue_at i.qs q))
      → Inv (with_ctl d m s)
  put-near m f k same left t e r =
      let n = x.near in
      let h = i.held in
      let qs = i.qs in
      let u = with_ctl d m s in
      let w = words_of s in
      let common = common-near s d q n m in
      record {
        qs = qs;
        sized = record { book = i.sized.book; ctl = n.state.table; stages = n.stages; channels = n.channels };
        defined = n.defined ∙ i.defined;
        held = record { fit = f; kinds = h.kinds; many = h.many; heads = h.heads; linked = k; sole = h.sole; recorded = h.recorded };
        shared = shared_of common i.shared;
        turn = each (λ j. j < queues → TearingFits (common_of u) (post_of u j) (idle (phase_of d j))) q
            (λ b. turn-of common x.post (ap idle x.phase) t)
            (λ j o b. turn-of common (post-near s d q n m j b o) (ap idle (n.phase j b o)) (i.turn j b));
        engine = each (λ j. j < queues
            → Serves s.kinds s.lens (word m) (left_of u qs j) (post_of u j).hdp (post_of u j).stage (phase_of d j)) q
            (λ b. serves-of s.kinds s.lens (word m) _ _ _ _ _ _ (left_near s d q n m qs q) x.post x.phase e)
            (λ j o b. serves-of s.kinds s.lens (word m) _ _ _ _ _ _ (left_near s d q n m qs j ∙ left j o) (post-near s d q n m j b o)
            (n.phase j b o)
            (serves-new s.kinds s.lens s.lens w (word m) (left_of s qs j) (same j o) (lengths-same s.lens (left_of s qs j)) _ _
            (phase_of s.ctl j) (i.engine j b)));
        room = each (λ j. j < queues → RoomIn (side_of j) s.kinds s.lens (word m) (left_of u qs j)) q
            (λ b. rw (left_near s d q n m qs q) r)
            (λ j o b. rw (left_near s d q n m qs j, left j o)
            (room-same (side_of j) s.kinds s.lens w (word m) (left_of s qs j)
            (all_map (Same3 w (word m)) _ (λ y z. z.0) (left_of s qs j) (same j o)) (i.room j b)));
      }

  -- registers, stage and phase alone
  pub move-near : TearingFits (common_of s) p (idle ph) → Serves s.kinds s.lens (words_of s) (left_of s i.qs q) p.hdp p.stage ph
      → Inv (with_ctl d s.mem s)
  move-near t e =
      let w = words_of s in
      put-near s.mem i.held.fit i.held.linked (λ j o. all-every (Same3 w w) (λ y. (refl, refl, refl)) (left_of s i.qs j))
      (λ j o. refl) t e (i.room q l)

-- ---- a mark

-- the words of a descriptor that keep its blocks: all but words 2 and 3 of d
same1 : (w v : ℕ → ℕ) (ds : List ℕ) → All (Same w v) ds → All (λ y. v (y + 1) ≡ w (y + 1)) ds
same1 w v ds a = all_map (Same w v) (λ y. v (y + 1) ≡ w (y + 1)) (λ y s. s.1) ds a

module _ (s : Machine) (i : Inv s) (q : ℕ) (m : List ℕ) (cs : List ℕ) (d : ℕ) (rs : List ℕ) (o : Only d (words_of s) (word m))
    (e : left_of s i.qs q ≡ cs ++ d ∷ rs) where
  touched : Marked (words_of s) (word m) (mode_of s) i.qs q cs d rs
  touched = marked-there (words_of s) (word m) (mode_of s) i.qs q cs d rs i.held.sole o e

  -- a step of queue q leaves every word of every other queue
  pub touch-leaves : (j : ℕ) → j ≢ q → All (Same (words_of s) (word m)) (queue_at i.qs j)
  touch-leaves = touched.there

  -- and every word that is not in use
  pub touch-spares : (k : ℕ) → has s.used k ≡ false → word m k ≡ words_of s k
  touch-spares = spared (words_of s) (word m) (mode_of s) i.qs q cs d rs e i.held.sole o

  -- words 2 and 3 of one descriptor of what is left of queue q change too
  pub touch-near : q < queues → {c : Controller} {p : Post} {ph : Phase} → Stands s c q p ph → Fit m → TearingFits (common_of s) p (idle ph)
      → (Change (words_of s) (word m) (mode_of s) (queue_at i.qs q) cs d rs (flat (without q i.qs))
      → Serves s.kinds s.lens (word m) (kept (word m) Head (cs ++ d ∷ rs)) p.hdp p.stage ph)
      → Inv (with_ctl c m s)
  touch-near l x f t g =
      let w = words_of s in
      let v = word m in
      let qs = i.qs in
      let c = touched.here in
      let one : All (λ y. v (y + 1) ≡ w (y + 1)) (cs ++ d ∷ rs) =
      all_join _ cs (d ∷ rs) (same1 w v cs c.before) (c.same1, same1 w v rs c.behind) in
      put-near s i q l x m f
      (each (λ j. Linked v (queue_at qs j)) q (c.linked (i.held.linked q))
      (λ j n. linked-same w v (queue_at qs j) (same-nexts w v (queue_at qs j) (touch-leaves j n)) (i.held.linked j)))
      (λ j n. kept-part (Same3 w v) w (mode_of s) (queue_at qs j) (sames-three w v (queue_at qs j) (touch-leaves j n)))
      touched.left
      t
      (rw c.left (g c))
      (rw c.left (room-part (side_of q) s.kinds s.lens v v Head (cs ++ d ∷ rs)
      (room-same (side_of q) s.kinds s.lens w v (cs ++ d ∷ rs) one (rw e at (i.room q l)))))

-- ---- the result of a step

pub record Fine (s : Machine) (x : StepDone) : Type 0 where
  pub inv : Inv (with_ctl x.ctl x.mem s)
  pub number : x.number ≡ 0
  pub in_place : InPlace s.kinds x.burst
  pub spares : (k : ℕ) → has s.used k ≡ false → word x.mem k ≡ words_of s k

pub fine-quiet : {s : Machine} {c : Controller} {m : List ℕ} → Inv (with_ctl c m s)
    → ((k : ℕ) → has s.used k ≡ false → word m k ≡ words_of s k)
    → Fine s (answer 0 c m)
fine-quiet i f = record { inv = i; number = refl; in_place = tt; spares = f }

-- a step of the engine of queue q that went: phase, HDP, CP, both totals, burst, memory
abbrev pub went : ℕ → Phase → ℕ → ℕ → ℕ → ℕ → Burst → List ℕ → Controller → StepDone
went q ph h cp a b burst m c = record { ctl = set_regs q h cp (set_totals a b (set_phase q ph c)); mem = m; burst = burst; number = 0 }

module _ (s : Machine) (z : Sized s) (q : ℕ) (l : q < queues) (ph : Phase) (side : Sided q ph) (h cp a b : ℕ) where
  abbrev went_to : Controller
  went_to = set_regs q h cp (set_totals a b (set_phase q ph s.ctl))

  pub near-went : Near s.ctl went_to q
  near-went =
      let n = near-phase (near-self q z) l ph side in
      near-state (near-totals n a b) _ (near-hdp l (near-cp l n.state cp) h)

  post-went : post_of (with_ctl went_to s.mem s) q ≡ with_regs h cp (post_of s q)
  post-went = at ph
    where
      t : List ℕ
      t = s.ctl.state

      u : List ℕ
      u = set_cp q cp t

      there : post_of (with_ctl (set_regs q h cp s.ctl) s.mem s) q ≡ with_regs h cp (post_of s q)
      there =
          let e = hdp_of-set_hdp-same u q h (length-set_cp t q cp ∙ z.ctl.size) l in
          let f = cp_of-set_hdp u q h q l ∙ cp_of-set_cp-same t q cp z.ctl.size l in
          let g = ap (bit q) (marks_of-set_hdp u q h l ∙ marks_of-set_cp t q cp l) in
          let k = tearing_of-set_hdp u q h q l ∙ tearing_of-set_cp t q cp q l in
          cc

      at : (ph : Phase) → post_of (with_ctl (set_regs q h cp (set_totals a b (set_phase q ph s.ctl))) s.mem s) q
          ≡ with_regs h cp (post_of s q)
      at (sending ph) = there
      at (taking ph) = there

  pub went-stands : Stands s went_to q (with_regs h cp (post_of s q)) ph
  went-stands = record {
    near = near-went;
    post = post-went;
    phase = phase-channels (set_phase q ph s.ctl) went_to refl q ∙ phase-here s.ctl q (omega (arith, z.channels)) ph side;
  }

module _ (s : Machine) (i : Inv s) (q : ℕ) (l : q < queues) (ph : Phase) (side : Sided q ph) (h cp a b : ℕ) where
  -- phase and registers change, and something may go over the bus
  pub move-fine : (burst : Burst) → InPlace s.kinds burst
      → TearingFits (common_of s) (with_regs h cp (post_of s q)) (idle ph)
      → Serves s.kinds s.lens (words_of s) (left_of s i.qs q) h (post_of s q).stage ph
      → Fine s (went q ph h cp a b burst s.mem s.ctl)
  move-fine burst place t e = record {
    inv = move-near s i q l (went-stands s i.sized q l ph side h cp a b) t e;
    number = refl;
    in_place = place;
    spares = λ k f. refl;
  }

  -- words 2 and 3 of one descriptor of what is left of the queue change too
  pub touch-fine : (m : List ℕ) (cs : List ℕ) (d : ℕ) (rs : List ℕ) → Only d (words_of s) (word m) → Fit m
      → left_of s i.qs q ≡ cs ++ d ∷ rs
      → TearingFits (common_of s) (with_regs h cp (post_of s q)) (idle ph)
      → (Change (words_of s) (word m) (mode_of s) (queue_at i.qs q) cs d rs (flat (without q i.qs))
      → Serves s.kinds s.lens (word m) (kept (word m) Head (cs ++ d ∷ rs)) h (post_of s q).stage ph)
      → Fine s (went q ph h cp a b Quiet m s.ctl)
  touch-fine m cs d rs o f e t g = record {
    inv = touch-near s i q m cs d rs o e l (went-stands s i.sized q l ph side h cp a b) f t g;
    number = refl;
    in_place = tt;
    spares = touch-spares s i q m cs d rs o e;
  }
