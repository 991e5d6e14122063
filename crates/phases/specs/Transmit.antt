-- The transmit engine, one numbered item of document 01 at a time ("The controller's steps", Transmit).
-- w is descriptor memory as a function of the word number; the current descriptor is the one at HDP.
--     fetch w pl sop hdp cp     (1), at place pl of the packet that began at sop
--     read_burst                 (2)
--     close w                   (3)
--     mark_eoq, clear_own m       (4), (5): they write descriptor memory m
--     finish                    (6)
--     send_step held m phase     the step of any phase; held: "While reset or transmit teardown is pending"
-- Each gives what follows, or None ("A record unfit for its step"). Assumes nothing: these are definitions.
use Rattle.std.specs.Prelude.{ℕ, ◌+◌, ◌-◌, min, Bool, List, eqb, ltb, Option, Some, None}
use Rattle.layout.specs.Choice.{pick}
use Rattle.layout.specs.Layout.{good_ptr, word_of, address_end}
use Rattle.layout.specs.declared.Side.TheVariants.{Transmit}
use Rattle.words.specs.Word.{word}
use Rattle.descriptor.specs.Fields.{eop, length_of, first_byte, packet_length}
use Rattle.descriptor.specs.Rules.{sop_at, sum_at, fetch_fault}
use Rattle.marks.specs.Marks.{eoq_mark, owner_mark, marked}
use Rattle.descriptor.specs.declared.Place.{Place}
use Rattle.descriptor.specs.declared.Place.TheVariants.{Start, Middle}
use Rattle.phases.specs.declared.Burst.TheVariants.{Quiet, Read}
use Rattle.phases.specs.declared.Reading.{Reading}
use Rattle.phases.specs.declared.Finished.{Finished}
use Rattle.phases.specs.declared.Closing.{Closing}
use Rattle.phases.specs.declared.Sending.{Sending}
use Rattle.phases.specs.declared.Sending.TheVariants.{Idle, New, Within, Moving, Ended, Marking, Owning, Done}
use Rattle.phases.specs.declared.Step.{Step}
use Rattle.phases.specs.Steps.{to_phase}

-- "(1) fetch, latching range, next, flags, and at SOP the packet length; undefined on 12, 14, 15, 17"
abbrev pub latch : Place → ℕ → ℕ → ℕ → ℕ → ℕ → Sending
latch pl sop x0 x1 x2 x3 =
    Moving (record {
      sop = sop;
      word3 = sop_at pl x3;
      sum = sum_at pl x2;
      at = first_byte Transmit x1 x2 x3;
      left = length_of Transmit x2;
      next = x0;
      eop = eop x3;
    })

abbrev pub latched : (ℕ → ℕ) → Place → ℕ → ℕ → Sending
latched w pl sop d = latch pl sop (w d) (w (d + 1)) (w (d + 2)) (w (d + 3))

unfoldable pub fetch : (ℕ → ℕ) → Place → ℕ → ℕ → ℕ → Option (Step Sending)
fetch w pl sop hdp cp =
    let d = word_of hdp in
    pick (good_ptr hdp)
    (pick (eqb (fetch_fault pl (w d) (w (d + 1)) (w (d + 2)) (w (d + 3))) 0) (to_phase (latched w pl sop d) hdp cp) None)
    None

-- "(2) One read burst of min(64, remaining) bytes per step"; the burst that leaves nothing moves on to 3
abbrev pub advanced : Reading → ℕ → Sending
advanced r n =
    pick (ltb n r.left)
    (Moving (record {
      sop = r.sop;
      word3 = r.word3;
      sum = r.sum;
      at = r.at + n;
      left = r.left - n;
      next = r.next;
      eop = r.eop;
    }))
    (Ended (record { sop = r.sop; word3 = r.word3; sum = r.sum; next = r.next; eop = r.eop }))

unfoldable pub read_burst : Reading → ℕ → ℕ → Option (Step Sending)
read_burst r hdp cp =
    pick (eqb r.left 0) None
    (pick (ltb address_end (r.at + r.left)) None
    (Some (record {
      state = advanced r (min 64 r.left);
      hdp = hdp;
      cp = cp;
      burst = Read r.at (min 64 r.left);
      octets = 0;
    })))

-- "(3) No EOP: go to the latched next and 1. EOP: latch word 0 afresh."
unfoldable pub close : (ℕ → ℕ) → Finished → ℕ → ℕ → Option (Step Sending)
close w e hdp cp =
    pick e.eop
    (pick (good_ptr hdp)
    (to_phase (Marking (record { sop = e.sop; word3 = e.word3; next = w (word_of hdp) })) hdp cp)
    None)
    (to_phase (Within (record { sop = e.sop; word3 = e.word3; sum = e.sum })) e.next cp)

-- "(4) If latched 0, set EOQ there."
unfoldable pub mark_eoq : List ℕ → Closing → ℕ → ℕ → Option (Step Sending) × List ℕ
mark_eoq m e hdp cp =
    pick (eqb e.next 0)
    (pick (good_ptr hdp) (to_phase (Owning e) hdp cp, marked eoq_mark (word_of hdp) m) (None, m))
    (to_phase (Owning e) hdp cp, m)

-- what a packet that was sent adds to `sent`: its packet length
unfoldable pub octets_of : ℕ → ℕ
octets_of word3 = packet_length word3

-- "(5) Clear OWNER in the SOP descriptor."
unfoldable pub clear_own : List ℕ → Closing → ℕ → ℕ → Option (Step Sending) × List ℕ
clear_own m e hdp cp =
    pick (good_ptr e.sop) (
      Some (record { state = Done (record { next = e.next }); hdp = hdp; cp = cp; burst = Quiet; octets = octets_of e.word3 }),
      marked owner_mark (word_of e.sop) m,
    )
    (None, m)

-- "(6) CP takes the EOP descriptor's address; HDP takes the latched next; 0 is idle, else 1."
unfoldable pub finish : ℕ → ℕ → Option (Step Sending)
finish next hdp = to_phase (pick (eqb next 0) Idle New) next hdp

-- "While reset or transmit teardown is pending, a new packet is not fetched"; "A step that cannot move changes nothing"
unfoldable pub send_step : Bool → List ℕ → Sending → ℕ → ℕ → Option (Step Sending) × List ℕ
send_step held m Idle hdp cp = (to_phase Idle hdp cp, m)
send_step held m New hdp cp = (pick held (to_phase New hdp cp) (fetch (word m) Start hdp hdp cp), m)
send_step held m (Within p) hdp cp = (fetch (word m) (Middle p.word3 p.sum) p.sop hdp cp, m)
send_step held m (Moving r) hdp cp = (read_burst r hdp cp, m)
send_step held m (Ended e) hdp cp = (close (word m) e hdp cp, m)
send_step held m (Marking e) hdp cp = mark_eoq m e hdp cp
send_step held m (Owning e) hdp cp = clear_own m e hdp cp
send_step held m (Done e) hdp cp = (finish e.next hdp, m)
