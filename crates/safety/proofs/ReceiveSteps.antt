-- Every step of a receive engine keeps the invariant, is never undefined, stores into Linux data alone and marks descriptors
-- in use alone. Assumes nothing.
--     fetch-is, burst-is, ..   what a step of a fit record computes to
--     After x m                what is asked of a step that hands back x and leaves the memory m
--     takes, quietly           a step that goes on
--     fetch-fine, .., done-fine   the step of each phase
--     receive-fine             every step
use Rattle.std.proofs.Common.{Option, Some}
use Prim.Native.Nat.{ℕ, ◌+◌, ◌*◌, ◌-◌, ◌≤◌, ◌<◌, min}
use mathlib.Core.Path.{◌≡◌, refl, ap, ◌∙◌}
use mathlib.Core.Bool.{Bool, true, false, not}
use mathlib.Core.List.{List, [], ◌∷◌}
use mathlib.Core.Logic.{inl, inr, ◌≢◌}
use native.Mathlib.Omega.{arith}
use lib.ListN.{get_or}
use lib.Dec.{eqb, ltb}
use borrow.Author.Tests.{eq-eqb, ne_eqb, eqb-true, eqb-false, le-ltb, ltb-true, not-true}
use Rattle.layout.specs.Choice.{pick, both}
use Rattle.layout.specs.Layout.{addr, address_end, word_of, word_max, length_max, channels}
use Rattle.layout.specs.declared.Side.TheVariants.{Receive}
use Rattle.layout.proofs.ChoiceLaws.{clash, both_left, both_right}
use Rattle.layout.proofs.PointerLaws.{good_ptr-addr, word_of-addr}
use Rattle.words.specs.Word.{word}
use Rattle.blocks.specs.Room.{room_of}
use Rattle.blocks.specs.declared.Room.TheVariants.{Free}
use Rattle.blocks.proofs.RoomLaws.{room-free}
use Rattle.descriptor.specs.Fields.{eop, eoq, owner, td, length_of, first_byte}
use Rattle.descriptor.specs.Rules.{fetch_fault}
use Rattle.marks.specs.Marks.{last_mark, first_mark, marked, last_marked}
use Rattle.descriptor.specs.declared.Place.TheVariants.{Buffer}
use Rattle.descriptor.proofs.RuleLaws.{flags_fault-buffer, own_fault-parts}
use Rattle.marks.proofs.MarkLaws.{word-last_marked-flags}
use Rattle.marks.proofs.FlagLaws.{eop-last_mark, eoq-last_mark, owner-last_mark, td-last_mark, owner-first_mark, eop-first_mark}
use Rattle.marks.proofs.FlagLaws.{eoq-first_mark}
use Rattle.marks.proofs.FlagLaws.{td-first_mark, first_mark-lt}
use Rattle.queue.proofs.Queue.{start, Linked}
use Rattle.queue.proofs.LinkLaws.{all_right}
use Rattle.queue.proofs.StoreLaws.{last-marked-only}
use Rattle.queue.proofs.FreshLaws.{length-fits, behind-buffer, fetch-good}
use Rattle.phases.specs.declared.Burst.TheVariants.{Quiet, Store}
use Rattle.phases.specs.declared.Frame.{Frame}
use Rattle.phases.specs.declared.Storing.{Storing}
use Rattle.phases.specs.declared.Filled.{Filled}
use Rattle.phases.specs.declared.Stored.{Stored}
use Rattle.phases.specs.declared.Receiving.{Receiving}
use Rattle.phases.specs.declared.Receiving.TheVariants.{Idle, Wait, Fetch, Moving, Ended, Last, First, Done}
use Rattle.phases.specs.declared.Step.{Step}
use Rattle.phases.specs.Steps.{to_phase}
use Rattle.phases.specs.Receive.{too_long, fetch, burst_size, advanced, store_burst, close, mark_last, mark_first, finish}
use Rattle.phases.specs.Receive.{take_step}
use Rattle.controller.specs.Controller.{rx_of, take_moved, added, receive_step}
use Rattle.machine.specs.Machine.{Machine}
use Rattle.safety.proofs.Inv.{Fillable, Roomy, Spot, Latched, Latch, Through, RxInv, idle_rx, taking, Post, post_of, common_of}
use Rattle.safety.proofs.Inv.{words_of, left_of, TearingFits, Inv}
use Rattle.safety.proofs.Ends.{latched, spot-linked, spot-next}
use Rattle.safety.proofs.Marks.{side-queue, channel-queue, queue-lt, phase-queue, last-marked-fits, with_regs, turn-move, turn-done}
use Rattle.safety.proofs.Touch.{Fine, went, move-fine}
use Rattle.safety.proofs.LastSteps.{pointer-good, pointer_word, left-linked, spot-first, mark-last, mark-first, through-idle}
use Rattle.safety.proofs.LastSteps.{through-ready}

-- ---- what a step of a fit record computes to

not-long : (a b : ℕ) → a + b ≤ length_max → too_long a b ≡ false
not-long a b h = le-ltb length_max (a + b) h

fetch-is : (w : ℕ → ℕ) (f : Frame) (h cp d : ℕ) → h ≡ addr d → d ≤ 2044 → f.stored + f.left ≤ length_max
    → fetch_fault Buffer (w d) (w (d + 1)) (w (d + 2)) (w (d + 3)) ≡ 0
    → fetch w f h cp
    ≡ to_phase (Moving (record {
      first = f.first;
      stored = f.stored;
      left = f.left;
      at = w (d + 1);
      room = length_of Receive (w (d + 2));
      here = 0;
    })) h cp
unfolding fetch
fetch-is w f h cp d e b s x = rw e (simp (not-long f.stored f.left s, good_ptr-addr d b, word_of-addr d, x))

receive-first : (x1 x2 x3 : ℕ) → first_byte Receive x1 x2 x3 ≡ x1
unfolding first_byte
receive-first x1 x2 x3 = refl

burst-is : (s : Storing) (h cp : ℕ) → 1 ≤ s.left → 1 ≤ s.room → s.stored + s.left ≤ length_max → s.at + s.room ≤ address_end
    → store_burst s h cp ≡ Some
    (record { state = advanced s (burst_size s); hdp = h; cp = cp; burst = Store s.at (burst_size s); octets = 0 })
unfolding store_burst
burst-is s h cp a b c e =
    simp (
      not-long s.stored s.left c,
      ne_eqb (min s.room s.left) 0 (λ z. omega (arith, z, a, b)),
      le-ltb address_end (s.at + s.room) e,
    )

-- ---- the engine of a channel

module _ (s : Machine) (i : Inv s) (ch : ℕ) (l : ch < channels) where
  abbrev q : ℕ
  q = 2 * ch + 1

  -- its queue's registers, its words, and what is left of its queue
  abbrev here : Post
  here = post_of s q

  abbrev w : ℕ → ℕ
  w = words_of s

  abbrev L : List ℕ
  L = left_of s i.qs q

  linked : Linked w L
  linked = left-linked s i q

  roomy : Roomy s.kinds s.lens w L
  roomy = rw (side-queue Receive ch) at (i.room q (queue-lt Receive ch l))

  -- what stands there to be done in phase ph, at HDP h
  abbrev Stands : ℕ → Receiving → Type 0
  Stands h ph = RxInv s.lens w L h here.stage ph

  abbrev After : Option (Step Receiving) → List ℕ → Type 0
  After x m = Fine s (take_moved ch (x, m) s.ctl s.mem)

  -- ---- a step that goes on

  takes : (r : Step Receiving) (m : List ℕ)
      → Fine s (went q (taking r.state) r.hdp r.cp s.ctl.sent (added s.ctl.received r.octets) r.burst m s.ctl)
      → After (Some r) m
  takes r m f = rw (channel-queue Receive ch) at f

  -- no burst, and memory as it was
  quietly : (ph : Receiving) (h cp : ℕ) → TearingFits (common_of s) (with_regs h cp here) (idle_rx ph) → Stands h ph
      → After (to_phase ph h cp) s.mem
  quietly ph h cp t e = takes _ s.mem (move-fine s i q (queue-lt Receive ch l) (taking ph) (side-queue Receive ch) h cp _ _ Quiet tt t e)

  module _ (t : TearingFits (common_of s) here false) where
    -- ---- step 1

    fetch-fine : (f : Frame) → Stands here.hdp (Fetch f) → After (fetch w f here.hdp here.cp) s.mem
    fetch-fine f e =
        let z = e.spot in
        let d = z.d in
        let lk = spot-linked w L z linked in
        let own = own_fault-parts Buffer (w (d + 1)) (w (d + 2)) (w (d + 3)) e.todo.fresh.0 in
        let flags = flags_fault-buffer (w (d + 3)) own.0 in
        let fits = length-fits Receive (w (d + 1)) (w (d + 2)) (w (d + 3)) own.1 in
        let end : w (d + 1) + length_of Receive (w (d + 2)) ≤ address_end =
        rw (receive-first (w (d + 1)) (w (d + 2)) (w (d + 3))) at fits.last in
        rw (fetch-is w f here.hdp here.cp d z.here z.small e.short (fetch-good w Buffer d z.rs e.todo.fresh lk.1))
        (quietly _ here.hdp here.cp t
        (record {
          taken = record {
            spot = z;
            todo = record { fresh = rw (behind-buffer (w (d + 2)) (w (d + 3))) at e.todo.fresh.1; long = e.todo.long.1 };
            no_eop = flags.2;
            clean = flags.3;
          };
          more = e.some;
          some = fits.some;
          short = e.short;
          from = omega arith;
          until = ap (λ (n : ℕ). w (d + 1) + n) e.todo.long.0;
          below = end;
          few = omega arith;
        }))

    -- ---- step 2

    moving-fine : (r : Storing) → Stands here.hdp (Moving r) → After (store_burst r here.hdp here.cp) s.mem
    moving-fine r e =
        rw (burst-is r here.hdp here.cp e.more e.some e.short e.below)
        (takes _ s.mem
        (move-fine s i q (queue-lt Receive ch l) (taking (advanced r n)) (side-queue Receive ch) here.hdp here.cp _ _
        (Store r.at n)
        (λ x a b. room-free Receive s.kinds (w (z.d + 1)) long free (omega (arith, e.some, e.from, e.until)) x
        (omega (arith, a, e.from), omega (arith, b, e.until)))
        (on-turn (both (ltb n r.room) (ltb n r.left))) (on (both (ltb n r.room) (ltb n r.left)) refl)))
      where
        z : Spot w L r.first here.hdp here.stage
        z = e.taken.spot

        n : ℕ
        n = burst_size r

        long : ℕ
        long = get_or s.lens z.d 0

        free : room_of Receive s.kinds (w (z.d + 1)) long ≡ Free
        free = (all_right _ z.cs (z.d ∷ z.rs) (rw z.split at roomy)).0

        more : Receiving
        more = Moving (record {
          first = r.first;
          stored = r.stored + n;
          left = r.left - n;
          at = r.at + n;
          room = r.room - n;
          here = min (r.here + n) word_max;
        })

        ended : Receiving
        ended = Ended (record
            { first = r.first; stored = r.stored + n; left = r.left - n; room = r.room - n; here = min (r.here + n) word_max })

        on-turn : (b : Bool) → TearingFits (common_of s) here (idle_rx (pick b more ended))
        on-turn true = t
        on-turn false = t

        on : (b : Bool) → both (ltb n r.room) (ltb n r.left) ≡ b → Stands here.hdp (pick b more ended)
        on true c =
            let a = ltb-true n r.room (both_left _ _ c) in
            let b = ltb-true n r.left (both_right (ltb n r.room) _ c) in
            record {
              taken = e.taken;
              more = omega (arith, b);
              some = omega (arith, a);
              short = omega (arith, b, e.short);
              from = omega (arith, e.from);
              until = omega (arith, a, e.until);
              below = omega (arith, a, e.below);
              few = omega (arith, e.few);
            }
        on false c = record { taken = e.taken; short = omega (arith, e.short); few = omega (arith, e.few) }

    -- ---- step 3

    ended-fine : (f : Filled) → Stands here.hdp (Ended f) → After (close w f here.hdp here.cp) s.mem
    unfolding close
    ended-fine f e =
        rw (not-long f.stored f.left e.short, pointer-good z.here z.small, pointer_word z.here)
        (at (both full (not (eqb (w z.d) 0))) refl)
      where
        z : Spot w L f.first here.hdp here.stage
        z = e.taken.spot

        lk : Linked w (z.d ∷ z.rs)
        lk = spot-linked w L z linked

        full : Bool
        full = both (eqb f.room 0) (not (eqb f.left 0))

        on : Receiving
        on = Fetch (record { first = f.first; stored = f.stored; left = f.left })

        last : Receiving
        last = Last (record { first = f.first; stored = f.stored; here = f.here; next = w z.d; overrun = full })

        go : (rs : List ℕ) → z.rs ≡ rs → w z.d ≢ 0 → f.left ≢ 0 → After (to_phase on (w z.d) here.cp) s.mem
        go [] x n k = absurd (n (lk.1 ∙ ap start x))
        go (r ∷ rs) x n k =
            let lr : Linked w (r ∷ rs) = rw x at lk.2 in
            quietly on (w z.d) here.cp (turn-move t (w z.d))
            (record {
              spot = spot-next w L f.first here.hdp here.stage z r rs x lr.0 e.taken.no_eop (w z.d) (lk.1 ∙ ap start x);
              todo = rw x at e.taken.todo;
              some = omega (arith, k);
              short = e.short;
            })

        at : (b : Bool) → both full (not (eqb (w z.d) 0)) ≡ b
            → After (pick b (to_phase on (w z.d) here.cp) (to_phase last here.hdp here.cp)) s.mem
        at true x =
            go z.rs refl
            (eqb-false (w z.d) 0 (not-true _ (both_right full _ x)))
            (eqb-false f.left 0 (not-true _ (both_right (eqb f.room 0) _ (both_left full _ x))))
        at false x =
            quietly last here.hdp here.cp t
            (record { taken = e.taken; short = omega (arith, e.short); few = e.few; latch = latched z.rs (w z.d) lk.1 })

    -- ---- step 4

    last-fine : (r : Stored) → Stands here.hdp (Last r)
        → Fine s (take_moved ch (mark_last s.mem r here.hdp here.cp) s.ctl s.mem)
    unfolding mark_last
    last-fine r e =
        rw (le-ltb length_max r.here (omega (arith, few)), pointer-good z.here z.small, pointer_word z.here)
        (takes _ m
        (mark-last s i q (queue-lt Receive ch l) Receive (taking (First r)) (side-queue Receive ch) t r.first r.next z
        e.taken.todo m
        (last-marked-only r.here r.next z.d s.mem) (last-marked-fits r.here r.next z.d s.mem few i.held.fit)
        (ap owner there ∙ owner-last_mark r.next x) (ap td there ∙ td-last_mark r.next x) (ap eop there ∙ eop-last_mark r.next x)
        (latch e.latch)
        (λ ds o. record { owned = o; short = e.short }) _ _))
      where
        z : Spot w L r.first here.hdp here.stage
        z = e.taken.spot

        x : ℕ
        x = w (z.d + 3)

        m : List ℕ
        m = last_marked r.here r.next z.d s.mem

        few : r.here < 2048
        few = omega (arith, e.short, e.few)

        there : word m (z.d + 3) ≡ last_mark r.next x
        there = word-last_marked-flags r.here r.next z.d s.mem i.held.fit.size z.small i.held.fit.bytes

        latch : Latched z.rs r.next → Latch (word m) z.d z.rs r.next
        latch (inl n) = inl (n, ap eoq there ∙ eoq-last_mark r.next x ∙ rw (eq-eqb r.next 0 n) refl)
        latch (inr n) = inr (n.0, ap eoq there ∙ eoq-last_mark r.next x ∙ rw (ne_eqb r.next 0 n.1) e.taken.clean, n.1)

    -- ---- step 5

    first_fine : (r : Stored) → Stands here.hdp (First r)
        → Fine s (take_moved ch (mark_first s.mem r here.hdp here.cp) s.ctl s.mem)
    unfolding mark_first
    first_fine r e =
        rw (le-ltb length_max r.stored e.short, spot-first w L e.owned.spot linked)
        (takes _ (marked mark (word_of r.first) s.mem)
        (mark-first s i q (queue-lt Receive ch l) Receive (taking (Done (record { next = r.next }))) (side-queue Receive ch) t r.first
        r.next e.owned mark
        (λ x b. record {
          small = first_mark-lt r.stored r.overrun x short b;
          end = eop-first_mark r.stored r.overrun x short;
          last = eoq-first_mark r.stored r.overrun x short;
          whole = td-first_mark r.stored r.overrun x short;
          given = owner-first_mark r.stored r.overrun x;
        })
        (λ ds o. o) _ _))
      where
        mark : ℕ → ℕ
        mark x = first_mark r.stored r.overrun x

        short : r.stored < 2048
        short = omega (arith, e.short)

    -- ---- step 6

    done-fine : (n : ℕ) → Through (Fillable s.lens w) L here.hdp here.stage n → After (finish n here.hdp) s.mem
    unfolding finish
    done-fine n r = at (eqb n 0) refl
      where
        at : (b : Bool) → eqb n 0 ≡ b → After (to_phase (pick b Idle Wait) n here.hdp) s.mem
        at true e = quietly Idle n here.hdp (turn-done t r.good n true (λ x. eqb-true n 0 e)) (through-idle _ L r (eqb-true n 0 e))
        at false e = quietly Wait n here.hdp (turn-done t r.good n false (λ x. clash x refl))
            (through-ready _ L r w linked (eqb-false n 0 e))

  -- ---- every step

  from-phase : (ph : Receiving) → TearingFits (common_of s) here (idle_rx ph) → Stands here.hdp ph
      → Fine s (take_moved ch (take_step s.mem ph here.hdp here.cp) s.ctl s.mem)
  unfolding take_step
  from-phase Idle t e = quietly Idle here.hdp here.cp t e
  from-phase Wait t e = quietly Wait here.hdp here.cp t e
  from-phase (Fetch f) t e = fetch-fine t f e
  from-phase (Moving r) t e = moving-fine t r e
  from-phase (Ended f) t e = ended-fine t f e
  from-phase (Last r) t e = last-fine t r e
  from-phase (First r) t e = first_fine t r e
  from-phase (Done n) t e = done-fine t n.next e

pub receive-fine : (s : Machine) → Inv s → (ch : ℕ) → ch < channels → Fine s (receive_step ch s.ctl s.mem)
unfolding receive_step
receive-fine s i ch l =
    let is = phase-queue Receive s.ctl ch in
    let b = queue-lt Receive ch l in
    from-phase s i ch l (rx_of s.ctl ch) (rw is at (i.turn (2 * ch + 1) b)) (rw is at (i.engine (2 * ch + 1) b))
