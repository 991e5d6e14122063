-- A start, over a machine whose book has just been released: the queue there is empty, and takes the chain that was judged; the
-- engine stands before it. One law for every queue. Assumes nothing.
--     begins side              the phase of an engine that begins
--     begun q p c              what the controller makes of a start at p
--     ready-begins             the clause of an engine that begins
--     start-calm               the machine that a start leaves
--     start-writes             what the controller makes of it
--     head-starts              the judge's acceptance, and the controller's
use Prim.Native.Nat.{ℕ, ◌+◌, ◌-◌, ◌<◌}
use mathlib.Core.Path.{◌≡◌, refl, ap, ◌∙◌, sym}
use mathlib.Core.Bool.{true, false}
use mathlib.Core.List.{List, [], ◌++◌}
use mathlib.Core.Logic.{inl, ◌≢◌}
use native.Mathlib.Omega.{arith}
use lib.ListN.{get_or}
use borrow.Author.Tests.{lt-ltb}
use Rattle.layout.specs.Bits.{bit}
use Rattle.layout.specs.Layout.{good_ptr, queues, side_of, channel_of}
use Rattle.layout.specs.Class.{hdp_class}
use Rattle.layout.specs.declared.Side.{Side}
use Rattle.layout.specs.declared.Side.TheVariants.{Transmit, Receive}
use Rattle.layout.proofs.ChoiceLaws.{clash}
use Rattle.registers.specs.Table.{head_of, hdp_of, tearing_of, awaiting, reset_of, set_head, set_hdp}
use Rattle.registers.specs.Rules.{head_number, register_fault, written}
use Rattle.registers.proofs.TableLaws.{length-set_head, head_of-set_head-same, head_of-set_head-other, marks_of-set_head}
use Rattle.registers.proofs.TableLaws.{tearings_of-set_head}
use Rattle.registers.proofs.TableLaws.{reset_of-set_head, flags_fit-set_head, length-set_hdp, head_of-set_hdp, hdp_of-set_hdp-same}
use Rattle.registers.proofs.TableLaws.{marks_of-set_hdp}
use Rattle.registers.proofs.TableLaws.{awaiting-set_hdp, tearings_of-set_hdp, tearing_of-set_hdp, reset_of-set_hdp, bit_of-set_hdp}
use Rattle.registers.proofs.TableLaws.{flags_fit-set_hdp}
use Rattle.registers.proofs.RegisterLaws.{by_class-head, head_written-set, head_fault-none}
use Rattle.chain.specs.Chain.{place_of}
use Rattle.guard.specs.Judges.{judge_chain, started}
use Rattle.queue.proofs.Queue.{start, All, Linked}
use Rattle.queue.proofs.LinkLaws.{all-every, start-zero}
use Rattle.queue.proofs.StoreLaws.{Same3}
use Rattle.queue.proofs.JudgedLaws.{Judged, judged-list}
use Rattle.queue.proofs.NumberLaws.{each, queue_at}
use Rattle.queue.proofs.SetLaws.{queue-set-other}
use Rattle.phases.specs.declared.Sending.TheVariants as S
use Rattle.phases.specs.declared.Receiving.TheVariants as R
use Rattle.controller.specs.declared.Controller.{Controller}
use Rattle.controller.specs.Controller.{stage_of, set_state, answer, begun_by, set_begun, register_write}
use Rattle.machine.specs.Machine.{Machine, with_world, with_ctl}
use Rattle.safety.proofs.Inv.{Phase, sending, taking, phase_of, idle, Serves, Todo, RoomIn, post_of, common_of, words_of}
use Rattle.safety.proofs.Ends.{good_start}
use Rattle.safety.proofs.Touch.{Sided, set_phase, phase-channels, phase-here, table_fits, fits-table, Near, near-self, near-table}
use Rattle.safety.proofs.Touch.{near-hdp, near-state, near-phase}
use Rattle.safety.proofs.Serve.{serves-new, room-new}
use Rattle.safety.proofs.Calm.{Duty, duty-same, Calm, book_of}
use Rattle.safety.proofs.Stores.{longer, handed, taken-sole, taken-recorded, taken-many, queue-here, taken-lengths, taken-todo}
use Rattle.safety.proofs.Stores.{taken-room}

-- ---- an engine that begins

abbrev pub begins : Side → Phase
begins Transmit = sending S.New
begins Receive = taking R.Wait

abbrev pub begun : ℕ → ℕ → Controller → Controller
begun q p c = set_state (set_hdp q p c.state) (set_begun q c)

begun-phase : (side : Side) (q : ℕ) (c : Controller) → begun_by side (channel_of q) c ≡ set_phase q (begins side) c
begun-phase Transmit q c = refl
begun-phase Receive q c = refl

sided-begins : (side : Side) (q : ℕ) → side_of q ≡ side → Sided q (begins side)
sided-begins Transmit q e = e
sided-begins Receive q e = e

begun-stages : (side : Side) (ch : ℕ) (c : Controller) → (begun_by side ch c).stages ≡ c.stages
begun-stages Transmit ch c = refl
begun-stages Receive ch c = refl

begins-awake : (side : Side) → idle (begins side) ≡ false
begins-awake Transmit = refl
begins-awake Receive = refl

pub ready-begins : (side : Side) (K lens : List ℕ) (w : ℕ → ℕ) (L : List ℕ) (h n : ℕ) → good_ptr h ≡ true → n ≡ 1 → start L ≡ h
    → Todo side K lens w L
    → Serves K lens w L h n (begins side)
ready-begins Transmit K lens w L h n g e f t = record { good = g; state = inl (e, f, t) }
ready-begins Receive K lens w L h n g e f t = record { good = g; state = inl (e, f, t) }

-- ---- the machine that a start leaves

module _ (s : Machine) (c : Calm s) (q : ℕ) (l : q < queues) (p : ℕ) (out : List ℕ)
    (over : awaiting s.ctl.state ≡ false) (quiet : tearing_of s.ctl.state q ≡ false) (none : queue_at c.qs q ≡ [])
    (j : Judged s.kinds (words_of s) (place_of (side_of q)) s.used p out) where
  abbrev w : ℕ → ℕ
  w = words_of s

  abbrev qs : List (List ℕ)
  qs = c.qs

  abbrev new : List (List ℕ)
  new = longer q j.ds qs

  abbrev d : Controller
  d = begun q p s.ctl

  abbrev lens : List ℕ
  lens = (handed s c q l p out j).1

  near : Near s.ctl d q
  near =
      rw (begun-phase (side_of q) q s.ctl)
      (near-state (near-phase (near-self q c.sized) l (begins (side_of q)) (sided-begins (side_of q) q refl)) (set_hdp q p s.ctl.state)
      (near-hdp l (near-table c.sized.ctl) p))

  phase-q : phase_of d q ≡ begins (side_of q)
  phase-q =
      phase-channels (set_begun q s.ctl) d refl q
      ∙ ap (λ (x : Controller). phase_of x q) (begun-phase (side_of q) q s.ctl)
      ∙ phase-here s.ctl q (omega (arith, c.sized.channels)) (begins (side_of q)) (sided-begins (side_of q) q refl)

  stage-q : stage_of d q ≡ stage_of s.ctl q
  stage-q = ap (λ (x : List ℕ). get_or x q 1) (begun-stages (side_of q) (channel_of q) s.ctl)

  tearing-q : tearing_of d.state q ≡ false
  tearing-q = tearing_of-set_hdp s.ctl.state q p q l ∙ quiet

  hdp-q : hdp_of d.state q ≡ p
  hdp-q = hdp_of-set_hdp-same s.ctl.state q p c.sized.ctl.size l

  -- the queue is the chain
  queue-q : queue_at new q ≡ j.ds
  queue-q = queue-here s c q l p out j ∙ ap (λ (x : List ℕ). x ++ j.ds) none

  queue-i : (i : ℕ) → i ≢ q → queue_at new i ≡ queue_at qs i
  queue-i i n = queue-set-other qs q (queue_at qs q ++ j.ds) i n

  same-words : (ds : List ℕ) → All (Same3 w w) ds
  same-words ds = all-every (Same3 w w) (λ x. (refl, refl, refl)) ds

  waits-d : awaiting d.state ≡ awaiting s.ctl.state
  waits-d = awaiting-set_hdp s.ctl.state q p l

  abbrev after : Machine
  after = with_ctl d s.mem (with_world (started q p (book_of s)) s)

  pub start-calm : Calm (with_ctl (begun q p s.ctl) s.mem (with_world (started q p (book_of s)) s))
  start-calm =
      let t = s.state in
      let u = s.ctl.state in
      let h = c.held in
      record {
        qs = new;
        sized = record {
          book = fits-table (length-set_hdp (set_head q p t) q p ∙ length-set_head t q p ∙ c.sized.book.size)
              (flags_fit-set_hdp (set_head q p t) q p l ∙ flags_fit-set_head t q p l ∙ table_fits c.sized.book);
          ctl = near.state.table;
          stages = near.stages;
          channels = near.channels;
        };
        defined = near.defined ∙ c.defined;
        held = record {
          fit = h.fit;
          kinds = h.kinds;
          many = taken-many s c q l p out j;
          heads = λ i b. head_of-set_hdp (set_head q p t) q p i b ∙ heads i b;
          linked = each (λ i. Linked w (queue_at new i)) q (rw queue-q j.linked) (λ i n. rw (queue-i i n) (h.linked i));
          sole = taken-sole s c q l p out j;
          recorded = taken-recorded s c q l p out j;
        };
        marks = marks_of-set_hdp (set_head q p t) q p l ∙ marks_of-set_head t q p l ∙ c.marks ∙ sym (marks_of-set_hdp u q p l);
        tearings =
            tearings_of-set_hdp (set_head q p t) q p l ∙ tearings_of-set_head t q p l ∙ c.tearings ∙ sym (tearings_of-set_hdp u q p l);
        resets = reset_of-set_hdp (set_head q p t) q p l ∙ reset_of-set_head t q p l ∙ c.resets ∙ sym (reset_of-set_hdp u q p l);
        bits = bit_of-set_hdp u q p l ∙ c.bits ∙ sym (reset_of-set_hdp u q p l);
        ready = λ e. waits-d ∙ over;
        duty = each (λ i. i < queues → Duty (common_of after) (post_of after i) (idle (phase_of d i))) q (λ b. duty-q)
            (λ i n b. duty-same (reset_of-set_hdp u q p l) waits-d (near.state.tearing i b n) (near.state.cp i b n) (near.stage i b n)
            (ap (bit i) near.state.marks) (near.state.hdp i b n) (ap idle (near.phase i b n)) (c.duty i b));
        engine = each (λ i. i < queues
            → Serves s.kinds lens w (queue_at new i) (post_of after i).hdp (post_of after i).stage (phase_of d i)) q
            (λ b. rw (queue-q, hdp-q, phase-q) served)
            (λ i n b. rw (queue-i i n, near.state.hdp i b n, near.stage i b n, near.phase i b n)
            (serves-new s.kinds s.lens lens w w (queue_at qs i) (same-words (queue_at qs i)) (taken-lengths s c q l p out j i)
            (post_of s i).hdp (post_of s i).stage (phase_of s.ctl i) (c.engine i b)));
        room = each (λ i. i < queues → RoomIn (side_of i) s.kinds lens w (queue_at new i)) q
            (λ b. rw queue-q (taken-room s c q l p out j))
            (λ i n b. rw (queue-i i n)
            (room-new s.kinds s.lens lens w w (queue_at qs i) (same-words (queue_at qs i)) (taken-lengths s c q l p out j i)
            (side_of i) (c.room i b)));
      }
    where
      heads : (i : ℕ) → i < queues → head_of (set_head q p s.state) i ≡ start (queue_at new i)
      heads = each (λ i. i < queues → head_of (set_head q p s.state) i ≡ start (queue_at new i)) q
          (λ b. head_of-set_head-same s.state q p c.sized.book.size l ∙ j.begins ∙ sym (ap start queue-q))
          (λ i n b. head_of-set_head-other s.state q p i n ∙ c.held.heads i b ∙ sym (ap start (queue-i i n)))

      duty-q : Duty (common_of after) (post_of after q) (idle (phase_of d q))
      duty-q = record {
        young = λ x. clash x tearing-q;
        stage = λ x. stage-q ∙ (c.duty q l).stage quiet;
        alone = λ x. tearing-q;
        ready = λ x. clash x tearing-q;
        asleep = λ x. clash x (waits-d ∙ over);
        zeroed = λ x y. clash y (ap idle phase-q ∙ begins-awake (side_of q));
      }

      served : Serves s.kinds lens w j.ds p (post_of after q).stage (begins (side_of q))
      served =
          ready-begins (side_of q) s.kinds lens w j.ds p (post_of after q).stage
          (ap good_ptr j.begins ∙ good_start w j.ds j.linked (λ z. j.some (j.begins ∙ z)))
          (stage-q ∙ (c.duty q l).stage quiet)
          (sym j.begins)
          (taken-todo s c q l p out j)

-- ---- what the controller makes of it

-- n is the class of an HDP
pub start-writes : (n v : ℕ) (c : Controller) (m : List ℕ) → n < hdp_class + queues → awaiting c.state ≡ false
    → head_number c.state (n - hdp_class) v ≡ 0
    → register_write n v c m ≡ answer 0 (begun (n - hdp_class) v c) m
unfolding register_write register_fault written
start-writes n v c m h over e =
    let fault : register_fault c.state n v ≡ 0 = by_class-head n _ _ _ _ _ _ _ _ h ∙ e in
    let table : written c.state n v ≡ set_hdp (n - hdp_class) v c.state = by_class-head n _ _ _ _ _ _ _ _ h
    ∙ head_written-set c.state (n - hdp_class) v over in
    rw (fault, lt-ltb n (hdp_class + queues) h, over, table) refl

-- ---- both

pub head-starts : (s : Machine) (c : Calm s) (q : ℕ) → q < queues → (v : ℕ) → awaiting s.ctl.state ≡ false
    → head_number s.ctl.state q v ≡ 0
    → head_of s.state q ≡ 0 → (judge_chain (side_of q) v (book_of s)).0 ≡ 0
    → Calm (with_ctl (begun q v s.ctl) s.mem (with_world (started q v (book_of s)) s))
head-starts s c q l v over e z k =
    start-calm s c q l v _ over
    (head_fault-none (awaiting s.ctl.state) (reset_of s.ctl.state) (tearing_of s.ctl.state q) v
    (hdp_of s.ctl.state q) over e).1
    (start-zero (queue_at c.qs q) (sym (c.held.heads q l) ∙ z))
    (judged-list s.kinds (words_of s) (place_of (side_of q)) s.used v k)
