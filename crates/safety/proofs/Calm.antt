-- A machine whose book has just been released: book and controller agree flag by flag, and the queues are all that is left.
-- Every guard call works on such a one. Assumes nothing.
--     Duty, duty-same          what is said of a queue's teardown, with nothing left for the book to see
--     Calm s                   the invariant of such a machine, over the queues themselves
--     Loaded s                 the registers in its small state are the controller's
--     book_of s                 the guard's world, as the machine holds it: what the guard sees where the registers are the controller's
--     calm-inv                 it is the invariant
--     released s               the machine with its book released
--     release-calm             it is calm
--     release-loaded           its registers are the controller's
use Prim.Native.Nat.{ℕ, ◌<◌}
use mathlib.Core.Path.{◌≡◌, refl, ap, ◌∙◌, sym, subst}
use mathlib.Core.Bool.{Bool, true, false, not}
use mathlib.Core.List.{List, [], ◌++◌, append-nil}
use mathlib.Core.Logic.{◌≢◌}
use native.Mathlib.Omega.{arith}
use lib.ListN.{length, get_or}
use lib.Seq.{length-take-le, ext_get_or}
use lib.Dec.{eqb}
use borrow.Author.Tests.{ne_eqb}
use Rattle.layout.specs.Choice.{pick, both}
use Rattle.layout.specs.Bits.{bit}
use Rattle.layout.specs.Layout.{queues, side_of}
use Rattle.layout.proofs.ChoiceLaws.{clash, pick_same}
use Rattle.layout.proofs.BitLaws.{bits-same}
use Rattle.registers.specs.Table.{state_words, is_device, heads_of, marks_of, tearings_of, awaiting, reset_of, bit_of, loaded}
use Rattle.registers.specs.Rules.{teardown_done}
use Rattle.registers.proofs.TableLaws.{get_or-heads_of, flags_fit-bounds, bounds-flags_fit, get_or-loaded, length-loaded, heads_of-loaded}
use Rattle.registers.proofs.TableLaws.{cp_of-loaded, marks_of-loaded, tearing_of-loaded, reset_of-loaded, bit_of-loaded, flags_fit-loaded}
use Rattle.book.specs.declared.Mode.TheVariants.{Head}
use Rattle.book.specs.HandOver.{Uses}
use Rattle.book.specs.Release.{reset_over, released_flags, with_heads}
use Rattle.book.specs.World.{World, release}
use Rattle.queue.proofs.Queue.{All, LinkedAll, flat, starts, kept, kept_all, gone_all, drop_all}
use Rattle.queue.proofs.LinkLaws.{all_map, all-every}
use Rattle.queue.proofs.SoleLaws.{sole-perm, sole-apart}
use Rattle.queue.proofs.KeptLaws.{kept-live, kept-linked}
use Rattle.queue.proofs.StoreLaws.{Same3}
use Rattle.queue.proofs.RecordLaws.{None, apart_none, drop-other}
use Rattle.queue.proofs.ReleasedLaws.{gone-kept-count, released-queues, released-sole, released-recorded}
use Rattle.queue.proofs.NumberLaws.{part-all, queue_at, linked-each}
use Rattle.queue.proofs.SetLaws.{queue-kept, length-kept, length-starts, start-number, heads-starts}
use Rattle.queue.proofs.StateLaws.{Settled, settles, release-parts}
use Rattle.machine.specs.Machine.{Machine, world_of, with_world}
use Rattle.safety.proofs.Inv.{phase_of, idle, Serves, RoomIn, Post, post_of, Common, common_of, over, words_of, mode_of, Sized, Held}
use Rattle.safety.proofs.Inv.{TearingFits, Inv}
use Rattle.safety.proofs.Frame.{SameLength}
use Rattle.safety.proofs.Serve.{serves-live, serves-new, room-new}

-- one queue; rests says that its engine is idle
pub record Duty (c : Common) (p : Post) (rests : Bool) : Type 0 where
  pub young : p.tearing ≡ true → p.cp ≢ teardown_done
  pub stage : p.tearing ≡ false → p.stage ≡ 1
  pub alone : c.reset ≡ true → p.tearing ≡ false
  pub ready : p.tearing ≡ true → c.waits ≡ false
  pub asleep : c.waits ≡ true → rests ≡ true
  pub zeroed : p.mark ≡ true → rests ≡ true → p.hdp ≡ 0

pub record Calm (s : Machine) : Type 0 where
  pub qs : List (List ℕ)
  pub sized : Sized s
  pub defined : s.ctl.undefined ≡ false
  pub held : Held s qs
  pub marks : marks_of s.state ≡ marks_of s.ctl.state
  pub tearings : tearings_of s.state ≡ tearings_of s.ctl.state
  pub resets : reset_of s.state ≡ reset_of s.ctl.state
  pub bits : bit_of s.ctl.state ≡ reset_of s.ctl.state
  pub ready : reset_of s.ctl.state ≡ true → awaiting s.ctl.state ≡ false
  pub duty : (q : ℕ) → q < queues → Duty (common_of s) (post_of s q) (idle (phase_of s.ctl q))
  pub engine : (q : ℕ) → q < queues
      → Serves s.kinds s.lens (words_of s) (queue_at qs q) (post_of s q).hdp (post_of s q).stage (phase_of s.ctl q)
  pub room : (q : ℕ) → q < queues → RoomIn (side_of q) s.kinds s.lens (words_of s) (queue_at qs q)

-- it is what is read of reset, marks and post
pub duty-same : {c c' : Common} {p p' : Post} {b b' : Bool} → c'.reset ≡ c.reset → c'.waits ≡ c.waits → p'.tearing ≡ p.tearing
    → p'.cp ≡ p.cp
    → p'.stage ≡ p.stage → p'.mark ≡ p.mark → p'.hdp ≡ p.hdp → b' ≡ b → Duty c p b → Duty c' p' b'
duty-same r w t k n m h b d = record {
  young = λ x z. d.young (sym t ∙ x) (sym k ∙ z);
  stage = λ x. n ∙ d.stage (sym t ∙ x);
  alone = λ x. t ∙ d.alone (sym r ∙ x);
  ready = λ x. w ∙ d.ready (sym t ∙ x);
  asleep = λ x. b ∙ d.asleep (sym w ∙ x);
  zeroed = λ x y. h ∙ d.zeroed (sym m ∙ x) (sym b ∙ y);
}

abbrev pub Loaded : Machine → Type 0
Loaded s = loaded s.ctl.state s.state ≡ s.state

-- `with_world (book_of s) s` is s
abbrev pub book_of : Machine → World
book_of s = record { mem = s.mem; kinds = s.kinds; state = s.state; used = s.used; lens = s.lens }

-- ---- it is the invariant

turn-of : (c : Common) (p : Post) (rests : Bool) → p.booked ≡ p.tearing → Duty c p rests → TearingFits c p rests
turn-of c p rests e d = record {
  settles = at p.tearing refl;
  young = d.young;
  stage = d.stage;
  lasts = λ b f. clash (sym e ∙ b) f;
  alone = d.alone;
  ready = d.ready;
  asleep = d.asleep;
  zeroed = d.zeroed;
}
  where
    at : (t : Bool) → p.tearing ≡ t → pick (eqb p.cp teardown_done) false p.booked ≡ p.tearing
    at true f = rw (ne_eqb p.cp teardown_done (d.young f)) e
    at false f = rw (e, f) (pick_same (eqb p.cp teardown_done) false)

-- the reset is not over where the bit reads as it is pending
not-over : (r b : Bool) → b ≡ r → both r (not b) ≡ false
not-over true b e = rw e refl
not-over false b e = refl

pub calm-inv : (s : Machine) → Calm s → Inv s
calm-inv s c =
    let n : over (common_of s) ≡ false = not-over (reset_of s.state) (bit_of s.ctl.state) (c.bits ∙ sym c.resets) in
    record {
      qs = c.qs;
      sized = c.sized;
      defined = c.defined;
      held = c.held;
      shared = record { resets = rw n c.resets; marks = rw n c.marks; bits = c.bits; ready = c.ready };
      turn = λ q l. turn-of (common_of s) (post_of s q) (idle (phase_of s.ctl q)) (ap (bit q) c.tearings) (c.duty q l);
      engine = λ q l. rw (n, still q l) (c.engine q l);
      room = λ q l. rw (n, still q l) (c.room q l);
    }
  where
    still : (q : ℕ) → q < queues → kept (words_of s) Head (queue_at c.qs q) ≡ queue_at c.qs q
    still q l =
        kept-live (words_of s) (queue_at c.qs q)
        (serves-live s.kinds s.lens (words_of s) (queue_at c.qs q) (post_of s q).hdp (post_of s q).stage (phase_of s.ctl q)
        (c.engine q l))

-- ---- the release

abbrev pub released : Machine → Machine
released s = with_world (release (world_of s)) s

module _ (s : Machine) (i : Inv s) where
  abbrev w : ℕ → ℕ
  w = words_of s

  abbrev qs : List (List ℕ)
  qs = i.qs

  -- what is left of the queues, and what goes
  abbrev ks : List (List ℕ)
  ks = kept_all w (mode_of s) qs

  abbrev uses : Uses
  uses = drop_all (s.used, s.lens) (gone_all w (mode_of s) qs)

  -- the small state that the guard sees
  abbrev seen : List ℕ
  seen = loaded s.ctl.state s.state

  over-seen : reset_over seen ≡ over (common_of s)
  over-seen = rw (reset_of-loaded s.ctl.state s.state, bit_of-loaded s.ctl.state s.state i.sized.book.size) refl

  pub heads-seen : heads_of (world_of s).state ≡ starts i.qs
  heads-seen =
      heads_of-loaded s.ctl.state s.state
      ∙ heads-starts (heads_of s.state) qs
      (length-take-le queues s.state (omega (arith, i.sized.book.size)) ∙ sym i.held.many)
      (λ q h. let l : q < queues = omega (arith, i.held.many) in get_or-heads_of s.state q l ∙ i.held.heads q l)

  pub all-linked : LinkedAll (words_of s) i.qs
  all-linked = linked-each w qs i.held.linked

  -- the machine that the release leaves
  abbrev left : List ℕ → Machine
  left t = record { ctl = s.ctl; mem = s.mem; kinds = s.kinds; state = t; used = uses.0; lens = uses.1 }

  abbrev state : List ℕ
  state = released_flags (with_heads (starts ks) seen)

  release-is : released s ≡ left state
  release-is =
      ap (λ (t : World). with_world t s)
      (release-parts (world_of s) (starts ks) uses
      (rw (over-seen, heads-seen)
      (released-queues w (mode_of s) qs [] (s.used, s.lens) all-linked (rw (append-nil (flat qs)) i.held.sole))))

  seen_size : length seen ≡ state_words
  seen_size = length-loaded s.ctl.state s.state ∙ i.sized.book.size

  heads-many : length (starts ks) ≡ length (heads_of seen)
  heads-many = length-starts ks ∙ length-kept w (mode_of s) qs ∙ sym (length-starts qs) ∙ ap length (sym heads-seen)

  settled-seen : Settled (starts ks) seen state
  settled-seen =
      settles (starts ks) seen heads-many seen_size
      (flags_fit-loaded s.ctl.state s.state
      ∙ bounds-flags_fit s.state i.sized.book.marks i.sized.book.tearings i.sized.book.reset)

  -- recorded lengths of what is left are as they were
  lengths-left : (q : ℕ) → All (SameLength s.lens uses.1) (queue_at ks q)
  lengths-left q =
      let gs = gone_all w (mode_of s) qs in
      let a = sole-apart {ds = gs ++ flat ks} (sole-perm (gone-kept-count w (mode_of s) qs) i.held.sole) in
      part-all (SameLength s.lens uses.1) q ks
      (all_map (λ d. None d gs) (SameLength s.lens uses.1) (drop-other (s.used, s.lens) gs) (flat ks) (apart_none gs (flat ks) a))

  same-words : (ds : List ℕ) → All (Same3 w w) ds
  same-words ds = all-every (Same3 w w) (λ d. (refl, refl, refl)) ds

  -- teardowns, queue by queue
  tearings-left : tearings_of state ≡ tearings_of s.ctl.state
  tearings-left =
      bits-same queues (tearings_of state) (tearings_of s.ctl.state) (flags_fit-bounds state settled-seen.fit).1
      i.sized.ctl.tearings
      (λ q l. settled-seen.tearing q l
      ∙ rw (cp_of-loaded s.ctl.state s.state q i.sized.book.size l, tearing_of-loaded s.ctl.state s.state q)
      (i.turn q l).settles)

  left-calm : Calm (left state)
  left-calm =
      let z = settled-seen in
      let f = flags_fit-bounds state z.fit in
      let o = over-seen in
      record {
        qs = ks;
        sized = record {
          book = record { size = z.size; marks = f.0; tearings = f.1; reset = f.2 };
          ctl = i.sized.ctl;
          stages = i.sized.stages;
          channels = i.sized.channels;
        };
        defined = i.defined;
        held = record {
          fit = i.held.fit;
          kinds = i.held.kinds;
          many = length-kept w (mode_of s) qs ∙ i.held.many;
          heads = λ q l. z.heads q l ∙ start-number ks q;
          linked = λ q. rw (queue-kept w (mode_of s) qs q) (kept-linked w (mode_of s) (queue_at qs q) (i.held.linked q));
          sole = released-sole w (mode_of s) qs (s.used, s.lens) i.held.sole;
          recorded = released-recorded w (mode_of s) qs (s.used, s.lens) i.held.sole i.held.recorded;
        };
        marks = z.marks ∙ rw (o, marks_of-loaded s.ctl.state s.state) i.shared.marks;
        tearings = tearings-left;
        resets = z.reset ∙ rw (o, reset_of-loaded s.ctl.state s.state) i.shared.resets;
        bits = i.shared.bits;
        ready = i.shared.ready;
        duty = λ q l. let t = i.turn q l in
            record { young = t.young; stage = t.stage; alone = t.alone; ready = t.ready; asleep = t.asleep; zeroed = t.zeroed };
        engine = λ q l. serves-new s.kinds s.lens uses.1 w w (queue_at ks q) (same-words (queue_at ks q)) (lengths-left q)
            (post_of s q).hdp (post_of s q).stage (phase_of s.ctl q)
            (rw (queue-kept w (mode_of s) qs q) (i.engine q l));
        room = λ q l. room-new s.kinds s.lens uses.1 w w (queue_at ks q) (same-words (queue_at ks q)) (lengths-left q) (side_of q)
            (rw (queue-kept w (mode_of s) qs q) (i.room q l));
      }

  left-loaded : Loaded (left state)
  left-loaded =
      ext_get_or 0 (loaded s.ctl.state state) state (length-loaded s.ctl.state state)
      (λ k h. let l : k < length state = omega (arith, length-loaded s.ctl.state state) in
      get_or-loaded s.ctl.state state k l ∙ at k l (is_device k) refl)
    where
      at : (k : ℕ) → k < length state → (b : Bool) → is_device k ≡ b → pick b (get_or s.ctl.state k 0) (get_or state k 0) ≡ get_or state k 0
      at k h true d =
          sym (settled-seen.device k d
          ∙ get_or-loaded s.ctl.state s.state k (omega (arith, settled-seen.size, i.sized.book.size)) ∙ rw d refl)
      at k h false d = refl

  pub release-calm : Calm (released s)
  release-calm = rw release-is left-calm

  pub release-loaded : Loaded (released s)
  release-loaded = subst (λ (t : Machine). Loaded t) (sym release-is) left-loaded
