-- The receive engine, one numbered item of document 01 at a time ("The controller's steps", Receive).
-- w is descriptor memory as a function of the word number; the current descriptor is the one at HDP.
--     too_long stored left     "a frame over 2,047"
--     fetch w                 (1)
--     store_burst              (2)
--     close w                 (3)
--     mark_last, mark_first m   (4), (5): they write descriptor memory m
--     finish                  (6)
--     take_step m phase        the step of any phase
-- Assumes nothing: these are definitions.
use Rattle.std.specs.Prelude.{ℕ, ◌+◌, ◌-◌, min, Bool, not, List, eqb, ltb, Option, Some, None}
use Rattle.layout.specs.Choice.{pick, both}
use Rattle.layout.specs.Layout.{good_ptr, word_of, address_end, word_max, length_max}
use Rattle.layout.specs.declared.Side.TheVariants.{Receive}
use Rattle.words.specs.Word.{word}
use Rattle.descriptor.specs.Fields.{length_of}
use Rattle.descriptor.specs.Rules.{fetch_fault}
use Rattle.marks.specs.Marks.{first_mark, marked, last_marked}
use Rattle.descriptor.specs.declared.Place.TheVariants.{Buffer}
use Rattle.phases.specs.declared.Burst.TheVariants.{Quiet, Store}
use Rattle.phases.specs.declared.Frame.{Frame}
use Rattle.phases.specs.declared.Storing.{Storing}
use Rattle.phases.specs.declared.Filled.{Filled}
use Rattle.phases.specs.declared.Stored.{Stored}
use Rattle.phases.specs.declared.Receiving.{Receiving}
use Rattle.phases.specs.declared.Receiving.TheVariants.{Idle, Wait, Fetch, Moving, Ended, Last, First, Done}
use Rattle.phases.specs.declared.Step.{Step}
use Rattle.phases.specs.Steps.{to_phase}

abbrev pub too_long : ℕ → ℕ → Bool
too_long stored left = ltb length_max (stored + left)

-- "(1) fetch, undefined on 12, 14, 15"
unfoldable pub fetch : (ℕ → ℕ) → Frame → ℕ → ℕ → Option (Step Receiving)
fetch w f hdp cp =
    let d = word_of hdp in
    pick (too_long f.stored f.left) None
    (pick (good_ptr hdp)
    (pick (eqb (fetch_fault Buffer (w d) (w (d + 1)) (w (d + 2)) (w (d + 3))) 0)
    (to_phase (Moving (record {
      first = f.first;
      stored = f.stored;
      left = f.left;
      at = w (d + 1);
      room = length_of Receive (w (d + 2));
      here = 0;
    })) hdp cp)
    None)
    None)

-- "(2) One store burst of min(64, room left in the buffer, frame left) bytes per step"
abbrev pub burst_size : Storing → ℕ
burst_size s = min 64 (min s.room s.left)

abbrev pub advanced : Storing → ℕ → Receiving
advanced s n =
    pick (both (ltb n s.room) (ltb n s.left))
    (Moving (record {
      first = s.first;
      stored = s.stored + n;
      left = s.left - n;
      at = s.at + n;
      room = s.room - n;
      here = min (s.here + n) word_max;
    }))
    (Ended (record {
      first = s.first;
      stored = s.stored + n;
      left = s.left - n;
      room = s.room - n;
      here = min (s.here + n) word_max;
    }))

unfoldable pub store_burst : Storing → ℕ → ℕ → Option (Step Receiving)
store_burst s hdp cp =
    pick (too_long s.stored s.left) None
    (pick (eqb (min s.room s.left) 0) None
    (pick (ltb address_end (s.at + s.room)) None
    (Some (record {
      state = advanced s (burst_size s);
      hdp = hdp;
      cp = cp;
      burst = Store s.at (burst_size s);
      octets = 0;
    }))))

-- "(3) Buffer full and bytes left: read next; nonzero, go there and 1; 0, latch that 0, drop the rest and note overrun.
-- Otherwise latch next."
unfoldable pub close : (ℕ → ℕ) → Filled → ℕ → ℕ → Option (Step Receiving)
close w e hdp cp =
    let next = w (word_of hdp) in
    let full = both (eqb e.room 0) (not (eqb e.left 0)) in
    pick (too_long e.stored e.left) None
    (pick (good_ptr hdp)
    (pick (both full (not (eqb next 0)))
    (to_phase (Fetch (record { first = e.first; stored = e.stored; left = e.left })) next cp)
    (to_phase (Last (record { first = e.first; stored = e.stored; here = e.here; next = next; overrun = full })) hdp cp))
    None)

-- "(4) In the last descriptor set EOP, length to the bytes stored there, and EOQ if latched 0."
unfoldable pub mark_last : List ℕ → Stored → ℕ → ℕ → Option (Step Receiving) × List ℕ
mark_last m s hdp cp =
    pick (ltb length_max s.here) (None, m)
    (pick (good_ptr hdp) (to_phase (First s) hdp cp, last_marked s.here s.next (word_of hdp) m) (None, m))

-- "(5) In the first set SOP, packet length to all bytes stored, bit 22 to the overrun, and clear OWNER"
unfoldable pub mark_first : List ℕ → Stored → ℕ → ℕ → Option (Step Receiving) × List ℕ
mark_first m s hdp cp =
    pick (ltb length_max s.stored) (None, m)
    (pick (good_ptr s.first) (
      Some (record { state = Done (record { next = s.next }); hdp = hdp; cp = cp; burst = Quiet; octets = s.stored }),
      marked (first_mark s.stored s.overrun) (word_of s.first) m,
    )
    (None, m))

-- "(6) CP and HDP as for transmit; 0 is idle, else wait."
unfoldable pub finish : ℕ → ℕ → Option (Step Receiving)
finish next hdp = to_phase (pick (eqb next 0) Idle Wait) next hdp

unfoldable pub take_step : List ℕ → Receiving → ℕ → ℕ → Option (Step Receiving) × List ℕ
take_step m Idle hdp cp = (to_phase Idle hdp cp, m)
take_step m Wait hdp cp = (to_phase Wait hdp cp, m)
take_step m (Fetch f) hdp cp = (fetch (word m) f hdp cp, m)
take_step m (Moving s) hdp cp = (store_burst s hdp cp, m)
take_step m (Ended e) hdp cp = (close (word m) e hdp cp, m)
take_step m (Last s) hdp cp = mark_last m s hdp cp
take_step m (First s) hdp cp = mark_first m s hdp cp
take_step m (Done e) hdp cp = (finish e.next hdp, m)
