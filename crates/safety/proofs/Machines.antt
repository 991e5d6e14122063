-- Frames, steps and fresh machines: the operations of the controller alone, and where a sequence begins. Assumes nothing.
--     Kept o s                operation o on machine s is safe, and leaves the invariant
--     inv-defined             where the invariant holds the controller is defined
--     phase-stands            the record with another phase of one queue
--     waits-is, taken         an engine that waits takes a frame, on any channel
--     frame-kept, step_kept   a frame; the step of any engine
--     fresh-inv               a fresh machine
use Prim.Native.Nat.{ℕ, ◌≤◌, ◌<◌}
use mathlib.Core.Path.{◌≡◌, refl, ap, ◌∙◌, sym}
use mathlib.Core.Bool.{Bool, true, false, not}
use mathlib.Core.List.{List, [], ◌∷◌}
use mathlib.Core.Logic.{◌⊎◌, inl, inr, ◌≢◌}
use native.Mathlib.Omega.{arith}
use lib.ListN.{length, replicate, length-replicate}
use lib.Dec.{eqb, leb, ltb}
use borrow.Author.Tests.{eq-eqb, leb-true, ltb-true}
use Rattle.layout.specs.Choice.{pick, both}
use Rattle.layout.specs.Layout.{length_max, desc_bytes, desc_words, channels, queues, side_of, queue_of}
use Rattle.layout.specs.declared.Side.TheVariants as Sides
use Rattle.layout.proofs.ChoiceLaws.{clash, by-pick, both_left, both_right}
use Rattle.words.specs.WordSet.{empty_set}
use Rattle.blocks.specs.Kinds.{fit_kinds}
use Rattle.registers.specs.Table.{state_words, hdp_at, cp_at, flags_fit, hdp_of, tearing_of, awaiting, reset_of, bit_of}
use Rattle.registers.proofs.TableLaws.{bit-none}
use Rattle.queue.proofs.Queue.{start, Linked, Recorded, kept}
use Rattle.queue.proofs.SoleLaws.{sole-empty}
use Rattle.queue.proofs.RecordLaws.{recorded-empty}
use Rattle.queue.proofs.FreshLaws.{fresh-live}
use Rattle.queue.proofs.NumberLaws.{get_or-same}
use Rattle.guard.specs.Answers.{number_of, answer_to}
use Rattle.phases.specs.declared.Receiving.{Receiving}
use Rattle.phases.specs.declared.Receiving.TheVariants as R
use Rattle.phases.specs.declared.Frame.{Frame}
use Rattle.phases.specs.declared.Engine.{Engine}
use Rattle.phases.specs.declared.Engine.TheVariants.{Reset, Transmit, Receive, TearTransmit, TearReceive}
use Rattle.phases.specs.Quiet.{waits}
use Rattle.controller.specs.Controller.{StepDone, idle_channel, rx_of, set_rx, unless_undefined, on_channel, step_of, held_back, Framed}
use Rattle.controller.specs.Controller.{frame_of}
use Rattle.controller.specs.Controller.{fresh_controller}
use Rattle.machine.specs.Machine.{Machine, Op, frame, step, apply, answer_of, with_ctl, apply_frame, apply_step, fresh_machine}
use Rattle.safety.specs.Statement.{Safe}
use Rattle.safety.proofs.Inv.{Fillable, Ready, Phase, sending, taking, phase_of, Post, post_of, Common, common_of, words_of, mode_of}
use Rattle.safety.proofs.Inv.{left_of, Table, Shared, TearingFits, Inv}
use Rattle.safety.proofs.Ends.{top_start}
use Rattle.safety.proofs.Marks.{side-queue, channel-queue, queue-lt, phase-queue}
use Rattle.safety.proofs.Touch.{Sided, set_phase, phase-here, fits-table, near-self, near-phase, Stands, shared_of, turn-of}
use Rattle.safety.proofs.Touch.{move-near, Fine}
use Rattle.safety.proofs.LastSteps.{left-linked}
use Rattle.safety.proofs.TransmitSteps.{transmit-fine}
use Rattle.safety.proofs.ReceiveSteps.{receive-fine}
use Rattle.safety.proofs.Teardown.{stays-fine, tear-fine, AtRest, all_rest, no_room, reset-fine}

pub record Kept (o : Op) (s : Machine) : Type 0 where
  pub safe : Safe o s
  pub inv : Inv (apply o s).machine

pub inv-defined : {s : Machine} → Inv s → s.ctl.undefined ≡ false
inv-defined i = i.defined

-- a number as an answer
answered : (n : ℕ) → n ≢ 22 → number_of (answer_of n) ≢ 22
unfolding answer_to
answered n h = by-pick (λ a. number_of a ≢ 22) (eqb n 0) _ _ (λ e. omega arith) (λ e. h)

-- ---- a frame

-- the record with another phase of queue q
phase-stands : (s : Machine) → Inv s → (q : ℕ) → q < queues → (ph : Phase) → Sided q ph
    → Stands s (set_phase q ph s.ctl) q (post_of s q) ph
phase-stands s i q l ph o = record {
  near = near-phase (near-self q i.sized) l ph o;
  post = at ph;
  phase = phase-here s.ctl q (omega (arith, i.sized.channels)) ph o;
}
  where
    at : (ph : Phase) → post_of (with_ctl (set_phase q ph s.ctl) s.mem s) q ≡ post_of s q
    at (sending ph) = refl
    at (taking ph) = refl

waits-is : (ph : Receiving) → waits ph ≡ true → ph ≡ R.Wait
waits-is R.Idle e = clash e refl
waits-is R.Wait e = refl
waits-is (R.Fetch f) e = clash e refl
waits-is (R.Moving s) e = clash e refl
waits-is (R.Ended x) e = clash e refl
waits-is (R.Last s) e = clash e refl
waits-is (R.First s) e = clash e refl
waits-is (R.Done l) e = clash e refl

-- a frame of n bytes that is taken on channel ch
module _ (s : Machine) (i : Inv s) (ch : ℕ) (there : ch < channels) (n : ℕ) (one : 1 ≤ n) (most : n ≤ length_max) where
  abbrev q : ℕ
  q = queue_of Sides.Receive ch

  abbrev here : Post
  here = post_of s q

  abbrev L : List ℕ
  L = left_of s i.qs q

  abbrev coming : Frame
  coming = record { first = here.hdp; stored = 0; left = n }

  taken : waits (rx_of s.ctl ch) ≡ true → here.tearing ≡ false → Inv (with_ctl (set_rx ch (R.Fetch coming) s.ctl) s.mem s)
  taken e calm = at ready.state
    where
      l : q < queues
      l = queue-lt Sides.Receive ch there

      phase : phase_of s.ctl q ≡ taking R.Wait
      phase = phase-queue Sides.Receive s.ctl ch ∙ ap (λ (x : Receiving). taking x) (waits-is (rx_of s.ctl ch) e)

      turn : TearingFits (common_of s) here false
      turn = rw phase at (i.turn q l)

      ready : Ready (Fillable s.lens (words_of s)) L here.hdp here.stage
      ready = rw phase at (i.engine q l)

      at : ((here.stage ≡ 1) × (start L ≡ here.hdp) × Fillable s.lens (words_of s) L) ⊎ ((here.stage ≡ 2) × (L ≡ []))
          → Inv (with_ctl (set_rx ch (R.Fetch coming) s.ctl) s.mem s)
      at (inr x) = absurd (omega (arith, turn.stage calm, x.0))
      at (inl x) =
          let w = words_of s in
          let k = top_start L (rw x.1 ready.good) in
          let lk : Linked w (k.f ∷ k.fs) = rw k.is at (left-linked s i q) in
          rw (channel-queue Sides.Receive ch) at
          (move-near s i q l (phase-stands s i q l (taking (R.Fetch coming)) (side-queue Sides.Receive ch)) turn
          (record {
            spot = record {
              cs = [];
              d = k.f;
              rs = k.fs;
              split = k.is;
              top = sym x.1;
              here = sym x.1 ∙ ap start k.is;
              small = lk.0;
              before = tt;
              live = fresh-live w Sides.Receive L x.2.fresh;
              stage = x.0;
            };
            todo = rw k.is at x.2;
            some = one;
            short = omega arith;
          }))

-- what is asked of a frame's result
record Arrived (s : Machine) (x : Framed) : Type 0 where
  pub inv : Inv (with_ctl x.ctl s.mem s)
  pub number : x.number ≢ 22

not-held : (a b : Bool) → not (pick a true b) ≡ true → b ≡ false
not-held true b e = clash refl (sym e)
not-held false true e = clash refl (sym e)
not-held false false e = refl

frame-arrives : (n : ℕ) (s : Machine) → Inv s → Arrived s (frame_of n s.ctl)
unfolding frame_of
frame-arrives n s i =
    let c = s.ctl in
    let k = queue_of Sides.Receive 0 in
    by-pick (Arrived s) c.undefined _ _ (λ e. clash e i.defined)
    (λ o. by-pick (Arrived s) (both (leb 1 n) (leb n length_max)) _ _
    (λ fits. by-pick (Arrived s) (both (not (eqb (hdp_of c.state k) 0)) (both (waits (rx_of c 0)) (not (held_back c k)))) _ _
    (λ e. let u = both_right (not (eqb (hdp_of c.state k) 0)) _ e in
    record {
      inv = taken s i 0 (omega arith) n (leb-true 1 n (both_left (leb 1 n) _ fits)) (leb-true n length_max (both_right (leb 1 n) _ fits))
          (both_left (waits (rx_of c 0)) _ u) (not-held (reset_of c.state) (tearing_of c.state k) (both_right (waits (rx_of c 0)) _ u));
      number = omega arith;
    })
    (λ e. record { inv = i; number = omega arith }))
    (λ e. record { inv = i; number = omega arith }))

pub frame-kept : (n : ℕ) (s : Machine) → Inv s → Kept (frame n) s
unfolding apply_frame
frame-kept n s i =
    let a = frame-arrives n s i in
    record { safe = record { defined = inv-defined a.inv; answered = answered _ a.number; in_place = tt; spares = tt }; inv = a.inv }

-- ---- a step

-- descriptor memory is fit, and the controller defined
unless-fit : (s : Machine) → Inv s → (x : StepDone) → Fine s x → Fine s (unless_undefined s.ctl s.mem x)
unless-fit s i x f =
    by-pick (Fine s) (eqb (length s.mem) desc_bytes) _ _
    (λ e. by-pick (Fine s) s.ctl.undefined _ _ (λ o. clash o i.defined) (λ o. f))
    (λ e. clash (eq-eqb (length s.mem) desc_bytes i.held.fit.size) e)

-- an engine of a channel that there is not cannot move
on-channel : (s : Machine) → Inv s → (ch : ℕ) (x : StepDone) → (ch < channels → Fine s x) → Fine s (on_channel ch s.ctl s.mem x)
on-channel s i ch x f = by-pick (Fine s) (ltb ch channels) _ _ (λ e. f (ltb-true ch channels e)) (λ e. stays-fine s i)

step-fine : (e : Engine) (s : Machine) → Inv s → Fine s (step_of e s.ctl s.mem)
unfolding step_of
step-fine Reset s i = unless-fit s i _ (reset-fine s i)
step-fine (Transmit ch) s i = unless-fit s i _ (on-channel s i ch _ (transmit-fine s i ch))
step-fine (Receive ch) s i = unless-fit s i _ (on-channel s i ch _ (receive-fine s i ch))
step-fine (TearTransmit ch) s i = unless-fit s i _ (on-channel s i ch _ (λ l. tear-fine s i _ (queue-lt Sides.Transmit ch l)))
step-fine (TearReceive ch) s i = unless-fit s i _ (on-channel s i ch _ (λ l. tear-fine s i _ (queue-lt Sides.Receive ch l)))

pub step_kept : (e : Engine) (s : Machine) → Inv s → Kept (step e) s
unfolding apply_step
step_kept e s i =
    let f = step-fine e s i in
    record {
      safe = record {
        defined = inv-defined f.inv;
        answered = answered (step_of e s.ctl s.mem).number (λ z. omega (arith, f.number, z));
        in_place = f.in_place;
        spares = f.spares;
      };
      inv = f.inv;
    }

-- ---- a fresh machine

fresh-post : Post
fresh-post = record { hdp = 0; cp = 0; stage = 1; mark = false; booked = false; tearing = false }

fresh-common : Common
fresh-common = record { bit = false; reset = false; marks = 0; waits = true; book_reset = false; book_marks = 0 }

fresh-turn : TearingFits fresh-common fresh-post true
unfolding fresh-common fresh-post
fresh-turn = record {
  settles = refl;
  young = λ e. clash e refl;
  stage = λ e. refl;
  lasts = λ b e. refl;
  alone = λ r. refl;
  ready = λ e. clash e refl;
  asleep = λ w. refl;
  zeroed = λ m i. refl;
}

fresh-lens : Recorded (replicate desc_words 0) []
unfolding empty_set
fresh-lens = recorded-empty

-- no flag is set in a table of zeros
zero-table : Table (replicate state_words 0)
unfolding flags_fit
zero-table = fits-table (length-replicate {A = ℕ} state_words 0) refl

module _ (kinds : List ℕ) where
  common-fresh : common_of (fresh_machine kinds) ≡ fresh-common
  unfolding fresh_machine fresh_controller fresh-common awaiting reset_of bit_of
  common-fresh = refl

  post-fresh : (q : ℕ) → post_of (fresh_machine kinds) q ≡ fresh-post
  unfolding fresh_machine fresh_controller fresh-post
  post-fresh q =
      let a = get_or-same {A = ℕ} state_words (hdp_at q) 0 in
      let b = get_or-same {A = ℕ} state_words (cp_at q) 0 in
      let c = get_or-same {A = ℕ} queues q 1 in
      let d = bit-none q in
      cc

  left-fresh : (q : ℕ) → left_of (fresh_machine kinds) (replicate queues []) q ≡ []
  left-fresh q = ap (kept (words_of (fresh_machine kinds)) (mode_of (fresh_machine kinds))) (get_or-same {A = List ℕ} queues q [])

  rest-fresh : (q : ℕ) → AtRest kinds (fresh_machine kinds).lens [] (phase_of (fresh_machine kinds).ctl q)
  unfolding fresh_machine fresh_controller
  rest-fresh = all_rest kinds _ fresh_controller refl

  shared-fresh : Shared (common_of (fresh_machine kinds))
  unfolding fresh-common
  shared-fresh = shared_of common-fresh (record { resets = refl; marks = refl; bits = refl; ready = λ e. clash e refl })

pub fresh-inv : (kinds : List ℕ) → fit_kinds kinds ≡ true → Inv (fresh_machine kinds)
unfolding fresh_machine fresh_controller
fresh-inv kinds f = record {
  qs = replicate queues [];
  sized = record {
    book = zero-table;
    ctl = zero-table;
    stages = length-replicate {A = ℕ} queues 1;
    channels = length-replicate channels idle_channel;
  };
  defined = refl;
  held = record {
    fit = record { size = length-replicate {A = ℕ} desc_bytes 0; bytes = λ k. rw (get_or-same {A = ℕ} desc_bytes k 0) (omega arith) };
    kinds = f;
    many = length-replicate {A = List ℕ} queues [];
    heads = λ q l. rw (get_or-same {A = ℕ} state_words q 0, get_or-same {A = List ℕ} queues q []) refl;
    linked = λ q. rw (get_or-same {A = List ℕ} queues q []) tt;
    sole = sole-empty;
    recorded = fresh-lens;
  };
  shared = shared-fresh kinds;
  turn = λ q l. turn-of (common-fresh kinds) (post-fresh kinds q) (rest-fresh kinds q).rests fresh-turn;
  engine = λ q l. rw (left-fresh kinds q) ((rest-fresh kinds q).serves _ _ _);
  room = λ q l. rw (left-fresh kinds q) (no_room (side_of q) _ _ _);
}
