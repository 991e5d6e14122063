-- Every step of a transmit engine keeps the invariant, is never undefined, reads blocks of Linux alone and marks descriptors
-- in use alone. Assumes nothing.
--     fetch-is, burst-is, ..   what a step of a fit record computes to
--     After x m                what is asked of a step that hands back x and leaves the memory m
--     sends, quietly           a step that goes on
--     new-fine, .., done-fine  the step of each phase
--     transmit-fine            every step
use Rattle.std.proofs.Common.{Option, Some, None}
use Prim.Native.Nat.{ℕ, ◌+◌, ◌*◌, ◌-◌, ◌≤◌, ◌<◌, ◌^◌, min}
use mathlib.Core.Path.{◌≡◌, refl, ap, ◌∙◌, sym}
use mathlib.Core.Bool.{Bool, true, false}
use mathlib.Core.List.{List, [], ◌∷◌}
use mathlib.Core.Logic.{◌⊎◌, inl, inr}
use native.Mathlib.Omega.{arith}
use lib.Dec.{eqb, ltb}
use borrow.Author.Tests.{eq-eqb, ne_eqb, eqb-true, eqb-false, le-ltb, ltb-true}
use Rattle.layout.specs.Choice.{pick}
use Rattle.layout.specs.Layout.{good_ptr, word_of, addr, address_end, channels}
use Rattle.layout.specs.declared.Side.TheVariants.{Transmit}
use Rattle.layout.proofs.ChoiceLaws.{clash}
use Rattle.layout.proofs.PointerLaws.{good_ptr-addr, word_of-addr}
use Rattle.words.specs.Word.{word}
use Rattle.blocks.proofs.RoomLaws.{room-free, room-inside}
use Rattle.descriptor.specs.Fields.{eop, eoq, owner, td}
use Rattle.descriptor.specs.Rules.{side_at, sop_at, sum_at, behind, own_fault, fetch_fault}
use Rattle.marks.specs.Marks.{eoq_mark, owner_mark, marked}
use Rattle.descriptor.specs.declared.Place.{Place}
use Rattle.descriptor.specs.declared.Place.TheVariants.{Start, Middle, Buffer}
use Rattle.descriptor.proofs.RuleLaws.{own_fault-parts}
use Rattle.marks.proofs.FlagLaws.{eoq-eoq_mark, eop-eoq_mark, owner-eoq_mark, td-eoq_mark, eoq_mark-lt, owner-owner_mark, eop-owner_mark}
use Rattle.marks.proofs.FlagLaws.{eoq-owner_mark, td-owner_mark, owner_mark-lt}
use Rattle.registers.specs.Table.{tearing_of, reset_of}
use Rattle.queue.proofs.Queue.{start, Linked, Fresh}
use Rattle.queue.proofs.StoreLaws.{marked-only}
use Rattle.queue.proofs.FreshLaws.{own-ends, LengthFits, length-fits, fetch-good, fresh-live}
use Rattle.phases.specs.declared.Burst.TheVariants.{Quiet, Read}
use Rattle.phases.specs.declared.Reading.{Reading}
use Rattle.phases.specs.declared.Finished.{Finished}
use Rattle.phases.specs.declared.Closing.{Closing}
use Rattle.phases.specs.declared.Sending.{Sending}
use Rattle.phases.specs.declared.Sending.TheVariants.{Idle, New, Within, Moving, Ended, Marking, Owning, Done}
use Rattle.phases.specs.declared.Step.{Step}
use Rattle.phases.specs.Steps.{to_phase}
use Rattle.phases.specs.Transmit.{latched, fetch, advanced, read_burst, close, mark_eoq, clear_own, finish, send_step}
use Rattle.controller.specs.Controller.{tx_of, send_moved, added, held_back, transmit_step}
use Rattle.machine.specs.Machine.{Machine}
use Rattle.safety.proofs.Inv.{Sendable, Ready, Spot, Latched, Through, place_after, Fetched, TxInv, idle_tx, sending, Post, post_of}
use Rattle.safety.proofs.Inv.{common_of, words_of, left_of, TearingFits, Inv}
use Rattle.safety.proofs.Ends.{top_start, latched as latched-next, spot-linked, spot-next}
use Rattle.safety.proofs.Marks.{side-queue, channel-queue, queue-lt, phase-queue, word_fits, marked-fits, marked-reads, with_regs}
use Rattle.safety.proofs.Marks.{turn-move, turn-done}
use Rattle.safety.proofs.Touch.{Fine, went, move-fine}
use Rattle.safety.proofs.LastSteps.{pointer-good, pointer_word, left-linked, spot-first, mark-last, mark-first, through-idle}
use Rattle.safety.proofs.LastSteps.{through-ready}

-- ---- what a step of a fit record computes to

fetch-is : (w : ℕ → ℕ) (pl : Place) (p h cp d : ℕ) → h ≡ addr d → d ≤ 2044 → fetch_fault pl (w d) (w (d + 1)) (w (d + 2)) (w (d + 3)) ≡ 0
    → fetch w pl p h cp ≡ to_phase (latched w pl p d) h cp
unfolding fetch
fetch-is w pl p h cp d e b f = rw e (simp (good_ptr-addr d b, word_of-addr d, f))

-- the place behind, as the engine keeps it
behind-place : (pl : Place) (x2 x3 : ℕ) → side_at pl ≡ Transmit → behind pl x2 x3 ≡ place_after (eop x3) (sop_at pl x3) (sum_at pl x2)
unfolding behind
behind-place Start x2 x3 s = refl
behind-place (Middle a n) x2 x3 s = refl
behind-place Buffer x2 x3 s = let z : ◌≡◌ {A = ℕ} 0 1 = cc in absurd (omega arith)

own-length : (pl : Place) (x1 x2 x3 : ℕ) → side_at pl ≡ Transmit → own_fault pl x1 x2 x3 ≡ 0 → LengthFits Transmit x1 x2 x3
own-length pl x1 x2 x3 s e = length-fits Transmit x1 x2 x3 (rw s at (own_fault-parts pl x1 x2 x3 e).1)

burst-is : (r : Reading) (h cp : ℕ) → 1 ≤ r.left → r.at + r.left ≤ address_end
    → read_burst r h cp
    ≡ Some (record { state = advanced r (min 64 r.left); hdp = h; cp = cp; burst = Read r.at (min 64 r.left); octets = 0 })
unfolding read_burst
burst-is r h cp a b = simp (ne_eqb r.left 0 (λ z. omega (arith, z, a)), le-ltb address_end (r.at + r.left) b)

not-held : (a b : Bool) → pick a true b ≡ false → b ≡ false
not-held true b e = clash refl e
not-held false b e = e

-- ---- the engine of a channel

module _ (s : Machine) (i : Inv s) (ch : ℕ) (l : ch < channels) where
  abbrev q : ℕ
  q = 2 * ch

  -- its queue's registers, its words, and what is left of its queue
  abbrev here : Post
  here = post_of s q

  abbrev w : ℕ → ℕ
  w = words_of s

  abbrev L : List ℕ
  L = left_of s i.qs q

  linked : Linked w L
  linked = left-linked s i q

  -- what stands there to be done in phase ph, at HDP h
  abbrev Stands : ℕ → Sending → Type 0
  Stands h ph = TxInv s.kinds w L h here.stage ph

  abbrev After : Option (Step Sending) → List ℕ → Type 0
  After x m = Fine s (send_moved ch (x, m) s.ctl s.mem)

  -- ---- a step that goes on

  sends : (r : Step Sending) (m : List ℕ)
      → Fine s (went q (sending r.state) r.hdp r.cp (added s.ctl.sent r.octets) s.ctl.received r.burst m s.ctl)
      → After (Some r) m
  sends r m f = rw (channel-queue Transmit ch) at f

  -- no burst, and memory as it was
  quietly : (ph : Sending) (h cp : ℕ) → TearingFits (common_of s) (with_regs h cp here) (idle_tx ph) → Stands h ph
      → After (to_phase ph h cp) s.mem
  quietly ph h cp t e =
      sends _ s.mem (move-fine s i q (queue-lt Transmit ch l) (sending ph) (side-queue Transmit ch) h cp _ _ Quiet tt t e)

  module _ (t : TearingFits (common_of s) here false) where
    -- ---- step 1

    fetch-fine : (pl : Place) → side_at pl ≡ Transmit → (p : ℕ) (z : Spot w L p here.hdp here.stage)
        → Sendable s.kinds w pl (z.d ∷ z.rs)
        → After (fetch w pl p here.hdp here.cp) s.mem
    fetch-fine pl side p z f =
        let d = z.d in
        let lk = spot-linked w L z linked in
        let fits = own-length pl (w (d + 1)) (w (d + 2)) (w (d + 3)) side f.fresh.0 in
        rw (fetch-is w pl p here.hdp here.cp d z.here z.small (fetch-good w pl d z.rs f.fresh lk.1))
        (quietly (latched w pl p d) here.hdp here.cp t
        (record {
          fetched = record {
            spot = z;
            todo = record { fresh = rw (← behind-place pl (w (d + 2)) (w (d + 3)) side) f.fresh.1; room = f.room.1 };
            next = λ e. lk.1;
            last = refl;
            clean = (own-ends pl (w (d + 1)) (w (d + 2)) (w (d + 3)) f.fresh.0).0;
          };
          some = fits.some;
          below = fits.last;
          room = f.room.0;
        }))

    -- a new packet
    new-fine : Ready (Sendable s.kinds w Start) L here.hdp here.stage
        → After (pick (held_back s.ctl q) (to_phase New here.hdp here.cp) (fetch w Start here.hdp here.hdp here.cp))
        s.mem
    new-fine r = at (held_back s.ctl q) refl
      where
        fetches : ((here.stage ≡ 1) × (start L ≡ here.hdp) × Sendable s.kinds w Start L) ⊎ ((here.stage ≡ 2) × (L ≡ []))
            → here.stage ≡ 1
            → After (fetch w Start here.hdp here.hdp here.cp) s.mem
        fetches (inl x) one =
            let e = x.1 in
            let top = top_start L (rw e r.good) in
            let lk : Linked w (top.f ∷ top.fs) = rw top.is at linked in
            fetch-fine Start refl here.hdp
            (record {
              cs = [];
              d = top.f;
              rs = top.fs;
              split = top.is;
              top = sym e;
              here = sym e ∙ ap start top.is;
              small = lk.0;
              before = tt;
              live = fresh-live w Transmit L x.2.fresh;
              stage = one;
            })
            (rw top.is at x.2)
        fetches (inr x) one = absurd (omega (arith, one, x.0))

        at : (b : Bool) → held_back s.ctl q ≡ b
            → After (pick b (to_phase New here.hdp here.cp) (fetch w Start here.hdp here.hdp here.cp)) s.mem
        at true e = quietly New here.hdp here.cp t r
        at false e = fetches r.state (t.stage (not-held (reset_of s.ctl.state) (tearing_of s.ctl.state q) e))

    -- ---- step 2

    moving-fine : (r : Reading) → Stands here.hdp (Moving r) → After (read_burst r here.hdp here.cp) s.mem
    moving-fine r e =
        rw (burst-is r here.hdp here.cp e.some e.below)
        (sends _ s.mem
        (move-fine s i q (queue-lt Transmit ch l) (sending (advanced r n)) (side-queue Transmit ch) here.hdp here.cp _ _
        (Read r.at n)
        (λ x a b. room-free Transmit s.kinds r.at r.left e.room e.some x (a, omega (arith, b)))
        (on-turn (ltb n r.left)) (on (ltb n r.left) refl)))
      where
        n : ℕ
        n = min 64 r.left

        more : Sending
        more = Moving (record
            { sop = r.sop; word3 = r.word3; sum = r.sum; at = r.at + n; left = r.left - n; next = r.next; eop = r.eop })

        ended : Sending
        ended = Ended (record { sop = r.sop; word3 = r.word3; sum = r.sum; next = r.next; eop = r.eop })

        on-turn : (b : Bool) → TearingFits (common_of s) here (idle_tx (pick b more ended))
        on-turn true = t
        on-turn false = t

        on : (b : Bool) → ltb n r.left ≡ b → Stands here.hdp (pick b more ended)
        on true c =
            let k = ltb-true n r.left c in
            record {
              fetched = e.fetched;
              some = omega (arith, k);
              below = omega (arith, k, e.below);
              room = room-inside Transmit s.kinds r.at r.left (r.at + n) (r.left - n) e.room (omega arith) (omega (arith, k))
                  (omega (arith, k));
            }
        on false c = e.fetched

    -- ---- step 3

    ended-fine : (e : Finished) → Stands here.hdp (Ended e) → After (close w e here.hdp here.cp) s.mem
    unfolding close
    ended-fine e f = at e.eop f
      where
        marking : ℕ → Sending
        marking n = Marking (record { sop = e.sop; word3 = e.word3; next = n })

        within : Sending
        within = Within (record { sop = e.sop; word3 = e.word3; sum = e.sum })

        at : (b : Bool) → Fetched s.kinds w L here.hdp here.stage e.sop e.word3 e.sum e.next b
            → After (pick b (pick (good_ptr here.hdp) (to_phase (marking (w (word_of here.hdp))) here.hdp here.cp) None)
            (to_phase within e.next here.cp)) s.mem
        at true f =
            let z = f.spot in
            rw (pointer-good z.here z.small, pointer_word z.here)
            (quietly (marking (w z.d)) here.hdp here.cp t
            (record {
              spot = z;
              todo = f.todo;
              last = f.last;
              clean = f.clean;
              latch = latched-next z.rs (w z.d) (spot-linked w L z linked).1;
            }))
        at false f = go f.spot.rs refl
          where
            go : (rs : List ℕ) → f.spot.rs ≡ rs → After (to_phase within e.next here.cp) s.mem
            go [] x = let none : Fresh w (Middle e.word3 e.sum) [] = rw x at f.todo.fresh in absurd (omega arith)
            go (r ∷ rs) x =
                let lr : Linked w (r ∷ rs) = rw x at (spot-linked w L f.spot linked).2 in
                quietly within e.next here.cp (turn-move t e.next)
                (record {
                  spot = spot-next w L e.sop here.hdp here.stage f.spot r rs x lr.0 f.last e.next
                      (f.next refl ∙ ap start x);
                  todo = rw x at f.todo;
                })

    -- ---- step 4

    marking-fine : (c : Closing) → Stands here.hdp (Marking c)
        → Fine s (send_moved ch (mark_eoq s.mem c here.hdp here.cp) s.ctl s.mem)
    unfolding mark_eoq
    marking-fine c e = at e.latch
      where
        z : Spot w L c.sop here.hdp here.stage
        z = e.spot

        x : ℕ
        x = w (z.d + 3)

        small : eoq_mark x < 2 ^ 32
        small = eoq_mark-lt x (word_fits s.mem (z.d + 3) i.held.fit)

        there : word (marked eoq_mark z.d s.mem) (z.d + 3) ≡ eoq_mark x
        there = marked-reads eoq_mark z.d s.mem small i.held.fit z.small

        at : Latched z.rs c.next
            → Fine s (send_moved ch
            (pick (eqb c.next 0)
            (pick (good_ptr here.hdp) (to_phase (Owning c) here.hdp here.cp, marked eoq_mark (word_of here.hdp) s.mem)
            (None, s.mem)) (to_phase (Owning c) here.hdp here.cp, s.mem)) s.ctl s.mem)
        at (inl n) =
            rw (eq-eqb c.next 0 n, pointer-good z.here z.small, pointer_word z.here)
            (sends _ (marked eoq_mark z.d s.mem)
            (mark-last s i q (queue-lt Transmit ch l) Transmit (sending (Owning c)) (side-queue Transmit ch) t c.sop c.next z
            e.todo
            (marked eoq_mark z.d s.mem) (marked-only eoq_mark z.d s.mem)
            (marked-fits eoq_mark z.d s.mem small i.held.fit)
            (ap owner there ∙ owner-eoq_mark x) (ap td there ∙ td-eoq_mark x) (ap eop there ∙ eop-eoq_mark x ∙ e.last)
            (inl (n, ap eoq there ∙ eoq-eoq_mark x))
            (λ ds o. o) _ _))
        at (inr n) =
            rw (ne_eqb c.next 0 n.1)
            (quietly (Owning c) here.hdp here.cp t
            (record { spot = z; todo = e.todo; last = e.last; latch = inr (n.0, e.clean, n.1) }))

    -- ---- step 5

    owning-fine : (c : Closing) → Stands here.hdp (Owning c)
        → Fine s (send_moved ch (clear_own s.mem c here.hdp here.cp) s.ctl s.mem)
    unfolding clear_own
    owning-fine c o =
        rw (spot-first w L o.spot linked)
        (sends _ (marked owner_mark (word_of c.sop) s.mem)
        (mark-first s i q (queue-lt Transmit ch l) Transmit (sending (Done (record { next = c.next }))) (side-queue Transmit ch) t
        c.sop c.next o owner_mark
        (λ x b. record {
          small = owner_mark-lt x b;
          end = eop-owner_mark x;
          last = eoq-owner_mark x;
          whole = td-owner_mark x;
          given = owner-owner_mark x;
        })
        (λ ds r. r) _ _))

    -- ---- step 6

    done-fine : (n : ℕ) → Through (Sendable s.kinds w Start) L here.hdp here.stage n → After (finish n here.hdp) s.mem
    unfolding finish
    done-fine n r = at (eqb n 0) refl
      where
        at : (b : Bool) → eqb n 0 ≡ b → After (to_phase (pick b Idle New) n here.hdp) s.mem
        at true e = quietly Idle n here.hdp (turn-done t r.good n true (λ x. eqb-true n 0 e)) (through-idle _ L r (eqb-true n 0 e))
        at false e = quietly New n here.hdp (turn-done t r.good n false (λ x. clash x refl))
            (through-ready _ L r w linked (eqb-false n 0 e))

  -- ---- every step

  from-phase : (ph : Sending) → TearingFits (common_of s) here (idle_tx ph) → Stands here.hdp ph
      → Fine s (send_moved ch (send_step (held_back s.ctl q) s.mem ph here.hdp here.cp) s.ctl s.mem)
  unfolding send_step
  from-phase Idle t e = quietly Idle here.hdp here.cp t e
  from-phase New t e = new-fine t e
  from-phase (Within p) t e = fetch-fine t (Middle p.word3 p.sum) refl p.sop e.spot e.todo
  from-phase (Moving r) t e = moving-fine t r e
  from-phase (Ended f) t e = ended-fine t f e
  from-phase (Marking c) t e = marking-fine t c e
  from-phase (Owning c) t e = owning-fine t c e
  from-phase (Done n) t e = done-fine t n.next e

pub transmit-fine : (s : Machine) → Inv s → (ch : ℕ) → ch < channels → Fine s (transmit_step ch s.ctl s.mem)
unfolding transmit_step
transmit-fine s i ch l =
    let is = phase-queue Transmit s.ctl ch in
    let b = queue-lt Transmit ch l in
    from-phase s i ch l (tx_of s.ctl ch) (rw is at (i.turn (2 * ch) b)) (rw is at (i.engine (2 * ch) b))
