-- The teardown steps of any queue and the reset step keep the invariant, are never undefined, move nothing over the bus and
-- mark a descriptor in use alone. Assumes nothing.
--     stays-fine                 a step that cannot move
--     quiet-phase                whether an engine is quiet is told by its phase
--     AtRest, Before, quiet-engine   a quiet engine is idle, or stands before its queue
--     staged, cleared, reported  the post after teardown steps 1, 2 and 3
--     turn-stage, turn-clear, turn-report   these steps, as the book sees them
--     staged-stands, cleared-stands, reported-stands   and the record after each
--     idle-marks, before-marks   step 1: with HDP 0 nothing is marked, else TD at the head
--     clears, reports            steps 2 and 3
--     tear-fine                  teardown of any queue
--     all_rest, no_room          where every channel is idle, every engine is at rest; nothing left has no blocks
--     common-reset, post-reset, left-reset   the reset: what it leaves of flags and queues
--     reset-fine                 the reset
use Prim.Native.Nat.{ℕ, ◌+◌, ◌<◌}
use mathlib.Core.Path.{◌≡◌, refl, ap, ◌∙◌, sym, subst}
use mathlib.Core.Bool.{Bool, true, false}
use mathlib.Core.List.{List, [], ◌∷◌}
use mathlib.Core.Logic.{◌⊎◌, inl, inr, ◌≢◌}
use native.Mathlib.Omega.{arith}
use lib.Dec.{eqb}
use lib.ListN.{length, get_or, replicate, length-replicate}
use lib.Seq.{get_or-set_same}
use borrow.Author.Tests.{eq-eqb, ne_eqb, eqb-true, eqb-false}
use Rattle.layout.specs.Choice.{pick, both}
use Rattle.layout.specs.Bits.{bit, clear_bit}
use Rattle.layout.specs.Layout.{good_ptr, addr, queues, channels, side_of, channel_of}
use Rattle.layout.specs.declared.Side.{Side}
use Rattle.layout.specs.declared.Side.TheVariants.{Transmit, Receive}
use Rattle.layout.proofs.ChoiceLaws.{clash, by-pick, both_left, both_right}
use Rattle.words.specs.Word.{word}
use Rattle.descriptor.specs.Fields.{td}
use Rattle.marks.specs.Marks.{td_mark, marked}
use Rattle.marks.proofs.FlagLaws.{td-td_mark, td_mark-lt}
use Rattle.registers.specs.Table.{marks_of, tearings_of, tearing_of, reset_of, bit_of, set_hdp, set_cp, clear_tearing, set_reset_bit}
use Rattle.registers.specs.Table.{unmarked}
use Rattle.registers.specs.Rules.{teardown_done}
use Rattle.registers.proofs.TableLaws.{bit-none, awaiting-bit, hdp_of-set_hdp-same, cp_of-set_hdp, marks_of-set_hdp, tearing_of-set_hdp}
use Rattle.registers.proofs.TableLaws.{length-set_cp, cp_of-set_cp-same, hdp_of-set_cp, marks_of-set_cp, hdp_of-set_tearings}
use Rattle.registers.proofs.TableLaws.{cp_of-set_tearings}
use Rattle.registers.proofs.TableLaws.{marks_of-set_tearings, tearing_of-clear_tearing-same, length-set_reset_bit, bit_of-set_reset_bit}
use Rattle.registers.proofs.TableLaws.{hdp_of-set_reset_bit, cp_of-set_reset_bit, marks_of-set_reset_bit, awaiting-set_reset_bit}
use Rattle.registers.proofs.TableLaws.{tearing_of-set_reset_bit, reset_of-set_reset_bit, length-unmarked, hdp_of-unmarked, cp_of-unmarked}
use Rattle.registers.proofs.TableLaws.{marks_of-unmarked, awaiting-unmarked, tearing_of-unmarked, reset_of-unmarked}
use Rattle.registers.proofs.TableLaws.{flags_fit-set_reset_bit}
use Rattle.registers.proofs.TableLaws.{flags_fit-unmarked}
use Rattle.book.specs.declared.Mode.TheVariants.{Head, All as Whole}
use Rattle.queue.proofs.Queue.{start, Linked, kept}
use Rattle.queue.proofs.KeptLaws.{kept-torn, kept_whole}
use Rattle.queue.proofs.StoreLaws.{marked-only}
use Rattle.queue.proofs.NumberLaws.{get_or-same, queue_at}
use Rattle.phases.specs.declared.Sending.TheVariants as S
use Rattle.phases.specs.declared.Receiving.TheVariants as R
use Rattle.phases.specs.Quiet.{quiet_tx, quiet_rx}
use Rattle.controller.specs.declared.Channel.{Channel}
use Rattle.controller.specs.declared.Controller.{Controller}
use Rattle.controller.specs.Controller.{StepDone, answer, idle_channel, stage_of, set_stage, set_state, set_channels, all_quiet, quiet_by}
use Rattle.controller.specs.Controller.{quiet_engine, idle_by, tear_mark, tear_clear, tear_report, tear_step, reset_step}
use Rattle.machine.specs.Machine.{Machine, with_ctl}
use Rattle.safety.proofs.Inv.{Ready, Phase, sending, taking, phase_by, phase_of, idle, Serves, RoomIn, Post, post_of, Common, common_of}
use Rattle.safety.proofs.Inv.{over, words_of, left_of, Sized, Shared, TearingFits, Inv}
use Rattle.safety.proofs.Ends.{top_start}
use Rattle.safety.proofs.Marks.{word_fits, marked-fits, marked-reads}
use Rattle.safety.proofs.Touch.{Sided, set_phase, phase-channels, phase-here, table_fits, fits-table, near-table, near-hdp, near-cp}
use Rattle.safety.proofs.Touch.{near-finished, near-self, near-state, near-stage, near-phase, Stands, shared_of, turn-of, move-near}
use Rattle.safety.proofs.Touch.{touch-near, touch-spares, Fine, fine-quiet}
use Rattle.safety.proofs.LastSteps.{pointer_word, left-linked}

pub stays-fine : (s : Machine) → Inv s → Fine s (answer 0 s.ctl s.mem)
stays-fine s i = fine-quiet i (λ k f. refl)

-- ---- a quiet engine

abbrev pub quiet_in : Phase → Bool
quiet_in (sending ph) = quiet_tx ph
quiet_in (taking ph) = quiet_rx ph

pub quiet-phase : (c : Controller) (q : ℕ) → quiet_engine c q ≡ quiet_in (phase_of c q)
quiet-phase c q = at (side_of q)
  where
    at : (side : Side) → quiet_by side c (channel_of q) ≡ quiet_in (phase_by side c (channel_of q))
    at Transmit = refl
    at Receive = refl

-- idle, with nothing left of its queue
pub record AtRest (K lens L : List ℕ) (ph : Phase) : Type 0 where
  pub rests : idle ph ≡ true
  pub none : L ≡ []
  pub serves : (w : ℕ → ℕ) (h n : ℕ) → Serves K lens w [] h n ph

-- before its queue; at teardown step 2 nothing is left of it
pub record Before (K lens L : List ℕ) (h n : ℕ) (ph : Phase) : Type 0 where
  pub good : good_ptr h ≡ true
  pub state : ((n ≡ 1) × (start L ≡ h)) ⊎ ((n ≡ 2) × (L ≡ []))
  pub serves : (w : ℕ → ℕ) → Serves K lens w [] h 2 ph

before : {F : List ℕ → Type 0} {L : List ℕ} {h n : ℕ} → Ready F L h n → ((n ≡ 1) × (start L ≡ h)) ⊎ ((n ≡ 2) × (L ≡ []))
before {F} {L} {h} {n} r = at r.state
  where
    at : ((n ≡ 1) × (start L ≡ h) × F L) ⊎ ((n ≡ 2) × (L ≡ [])) → ((n ≡ 1) × (start L ≡ h)) ⊎ ((n ≡ 2) × (L ≡ []))
    at (inl x) = inl (x.0, x.1)
    at (inr x) = inr x

pub quiet-engine : (K lens : List ℕ) (w : ℕ → ℕ) (L : List ℕ) (h n : ℕ) (ph : Phase) → quiet_in ph ≡ true → Serves K lens w L h n ph
    → AtRest K lens L ph ⊎ Before K lens L h n ph
quiet-engine K lens w L h n (sending S.Idle) e t = inl (record { rests = refl; none = t; serves = λ v x y. refl })
quiet-engine K lens w L h n (sending S.New) e t =
    inr (record { good = t.good; state = before t; serves = λ v. record { good = t.good; state = inr (refl, refl) } })
quiet-engine K lens w L h n (sending (S.Within p)) e t = clash e refl
quiet-engine K lens w L h n (sending (S.Moving p)) e t = clash e refl
quiet-engine K lens w L h n (sending (S.Ended p)) e t = clash e refl
quiet-engine K lens w L h n (sending (S.Marking p)) e t = clash e refl
quiet-engine K lens w L h n (sending (S.Owning p)) e t = clash e refl
quiet-engine K lens w L h n (sending (S.Done p)) e t = clash e refl
quiet-engine K lens w L h n (taking R.Idle) e t = inl (record { rests = refl; none = t; serves = λ v x y. refl })
quiet-engine K lens w L h n (taking R.Wait) e t =
    inr (record { good = t.good; state = before t; serves = λ v. record { good = t.good; state = inr (refl, refl) } })
quiet-engine K lens w L h n (taking (R.Fetch p)) e t = clash e refl
quiet-engine K lens w L h n (taking (R.Moving p)) e t = clash e refl
quiet-engine K lens w L h n (taking (R.Ended p)) e t = clash e refl
quiet-engine K lens w L h n (taking (R.Last p)) e t = clash e refl
quiet-engine K lens w L h n (taking (R.First p)) e t = clash e refl
quiet-engine K lens w L h n (taking (R.Done p)) e t = clash e refl

-- ---- the post after each step

abbrev staged : ℕ → Post → Post
staged n p = record { hdp = p.hdp; cp = p.cp; stage = n; mark = p.mark; booked = p.booked; tearing = p.tearing }

abbrev cleared : Post → Post
cleared p = record { hdp = 0; cp = p.cp; stage = 3; mark = p.mark; booked = p.booked; tearing = p.tearing }

abbrev reported : Post → Post
reported p = record { hdp = p.hdp; cp = teardown_done; stage = 1; mark = p.mark; booked = p.booked; tearing = false }

module _ {c : Common} {p : Post} {rests : Bool} (t : TearingFits c p rests) (pending : p.tearing ≡ true) where
  turn-stage : (n : ℕ) → TearingFits c (staged n p) rests
  turn-stage n = record {
    settles = t.settles;
    young = t.young;
    stage = λ e. clash pending e;
    lasts = t.lasts;
    alone = t.alone;
    ready = t.ready;
    asleep = t.asleep;
    zeroed = t.zeroed;
  }

  turn-clear : TearingFits c (cleared p) true
  turn-clear = record {
    settles = t.settles;
    young = t.young;
    stage = λ e. clash pending e;
    lasts = λ b e. refl;
    alone = t.alone;
    ready = t.ready;
    asleep = λ w. refl;
    zeroed = λ m i. refl;
  }

  turn-report : rests ≡ true → TearingFits c (reported p) rests
  turn-report i = record {
    settles = refl;
    young = λ e. clash e refl;
    stage = λ e. refl;
    lasts = λ b e. i;
    alone = λ r. refl;
    ready = λ e. clash e refl;
    asleep = t.asleep;
    zeroed = t.zeroed;
  }

-- ---- the record after each step

module _ (s : Machine) (z : Sized s) (q : ℕ) (l : q < queues) where
  stage-set : (d : Controller) (k : ℕ) → length d.stages ≡ queues → stage_of (set_stage q k d) q ≡ k
  stage-set d k e = get_or-set_same d.stages q k 1 (omega arith)

  staged-stands : (k : ℕ) → Stands s (set_stage q k s.ctl) q (staged k (post_of s q)) (phase_of s.ctl q)
  staged-stands k = record {
    near = near-stage (near-self q z) k;
    post = let e = stage-set s.ctl k z.stages in cc;
    phase = phase-channels s.ctl _ refl q;
  }

  -- HDP 0, and the engine in another phase
  cleared-stands : (ph : Phase) → Sided q ph
      → Stands s (set_stage q 3 (set_state (set_hdp q 0 s.ctl.state) (set_phase q ph s.ctl))) q (cleared (post_of s q)) ph
  cleared-stands ph o =
      let t = s.ctl.state in
      let n = near-phase (near-self q z) l ph o in
      record {
        near = near-stage (near-state n (set_hdp q 0 t) (near-hdp l (near-table z.ctl) 0)) 3;
        post =
            let a = hdp_of-set_hdp-same t q 0 z.ctl.size l in
            let b = cp_of-set_hdp t q 0 q l in
            let c = stage-set (set_phase q ph s.ctl) 3 n.stages in
            let d = ap (bit q) (marks_of-set_hdp t q 0 l) in
            let e = tearing_of-set_hdp t q 0 q l in
            cc;
        phase = phase-channels (set_phase q ph s.ctl) _ refl q ∙ phase-here s.ctl q (omega (arith, z.channels)) ph o;
      }

  reported-stands : Stands s (tear_report q s.ctl) q (reported (post_of s q)) (phase_of s.ctl q)
  reported-stands =
      let t = s.ctl.state in
      let u = set_cp q teardown_done t in
      let lu = length-set_cp t q teardown_done ∙ z.ctl.size in
      record {
        near = near-stage (near-state (near-self q z) (clear_tearing q u) (near-finished l (near-cp l (near-table z.ctl) teardown_done)))
            1;
        post =
            let a = hdp_of-set_tearings u (clear_bit q (tearings_of u)) q l ∙ hdp_of-set_cp t q teardown_done q l in
            let b = cp_of-set_tearings u (clear_bit q (tearings_of u)) q l ∙ cp_of-set_cp-same t q teardown_done z.ctl.size l in
            let c = stage-set s.ctl 1 z.stages in
            let d = ap (bit q) (marks_of-set_tearings u (clear_bit q (tearings_of u)) ∙ marks_of-set_cp t q teardown_done l) in
            let e = tearing_of-clear_tearing-same u q lu in
            cc;
        phase = phase-channels s.ctl _ refl q;
      }

-- ---- which step comes next

pub three : (P : StepDone → Type 0) (n : ℕ) (a b c : StepDone) → (n ≡ 1 → P a) → (n ≡ 2 → P b) → (n ≢ 1 → n ≢ 2 → P c)
    → P (pick (eqb n 1) a (pick (eqb n 2) b c))
three P n a b c f g h =
    by-pick P (eqb n 1) a _ (λ e. f (eqb-true n 1 e))
    (λ e. by-pick P (eqb n 2) b c (λ d. g (eqb-true n 2 d)) (λ d. h (eqb-false n 1 e) (eqb-false n 2 d)))

-- ---- teardown of queue q, once it is pending and the engine quiet

module _ (s : Machine) (i : Inv s) (q : ℕ) (l : q < queues) (pending : (post_of s q).tearing ≡ true) where
  abbrev here : Post
  here = post_of s q

  abbrev phase : Phase
  phase = phase_of s.ctl q

  abbrev L : List ℕ
  L = left_of s i.qs q

  -- its registers are zeroed: an idle engine has HDP 0
  pub idle-zero : idle phase ≡ true → here.hdp ≡ 0
  idle-zero e = let t = i.turn q l in t.zeroed (awaiting-bit s.ctl.state q (t.ready pending) (omega arith)) e

  idle-marks : AtRest s.kinds s.lens L phase → Fine s (tear_mark q s.ctl s.mem)
  unfolding tear_mark
  idle-marks r =
      rw (eq-eqb here.hdp 0 (idle-zero r.rests))
      (fine-quiet (move-near s i q l (staged-stands s i.sized q l 2) (turn-stage (i.turn q l) pending 2)
      (rw r.none (r.serves (words_of s) here.hdp 2)))
      (λ k f. refl))

  before-marks : Before s.kinds s.lens L here.hdp here.stage phase → start L ≡ here.hdp → Fine s (tear_mark q s.ctl s.mem)
  unfolding tear_mark
  before-marks r e =
      let h = here.hdp in
      let w = words_of s in
      let m = s.mem in
      let fit = i.held.fit in
      let top = top_start L (rw e r.good) in
      let f = top.f in
      let lk : Linked w (f ∷ top.fs) = rw top.is at (left-linked s i q) in
      let at : h ≡ addr f = sym e ∙ ap start top.is in
      let small = td_mark-lt (w (f + 3)) (word_fits m (f + 3) fit) in
      let v = word (marked td_mark f m) in
      let only = marked-only td_mark f m in
      let there : v (f + 3) ≡ td_mark (w (f + 3)) = marked-reads td_mark f m small fit lk.0 in
      rw (ne_eqb h 0 (λ z. omega (arith, z, at)), r.good, pointer_word at)
      (fine-quiet
      (touch-near s i q (marked td_mark f m) [] f top.fs only top.is l (staged-stands s i.sized q l 2)
      (marked-fits td_mark f m small fit) (turn-stage (i.turn q l) pending 2)
      (λ k. rw (kept-torn v f top.fs (ap td there ∙ td-td_mark (w (f + 3)))) (r.serves v)))
      (touch-spares s i q (marked td_mark f m) [] f top.fs only top.is))

  -- the engine idle
  clears : L ≡ [] → Fine s (answer 0 (tear_clear q s.ctl) s.mem)
  clears e = at (side_of q) refl
    where
      by : (ph : Phase) (o : Sided q ph) → idle ph ≡ true → Serves s.kinds s.lens (words_of s) L 0 3 ph
          → Fine s (answer 0 (set_stage q 3 (set_state (set_hdp q 0 s.ctl.state) (set_phase q ph s.ctl))) s.mem)
      by ph o d t = fine-quiet (move-near s i q l (cleared-stands s i.sized q l ph o) (rw d (turn-clear (i.turn q l) pending)) t)
          (λ k f. refl)

      at : (side : Side) → side_of q ≡ side
          → Fine s (answer 0 (set_stage q 3 (set_state (set_hdp q 0 s.ctl.state) (idle_by side (channel_of q) s.ctl))) s.mem)
      at Transmit o = by (sending S.Idle) o refl e
      at Receive o = by (taking R.Idle) o refl e

  reports : AtRest s.kinds s.lens L phase → Fine s (answer 0 (tear_report q s.ctl) s.mem)
  reports r =
      fine-quiet (move-near s i q l (reported-stands s i.sized q l) (turn-report (i.turn q l) pending r.rests)
      (rw r.none (r.serves (words_of s) here.hdp 1)))
      (λ k f. refl)

  abbrev pub next : StepDone
  next =
      pick (eqb here.stage 1) (tear_mark q s.ctl s.mem)
      (pick (eqb here.stage 2) (answer 0 (tear_clear q s.ctl) s.mem) (answer 0 (tear_report q s.ctl) s.mem))

  next-fine : AtRest s.kinds s.lens L phase ⊎ Before s.kinds s.lens L here.hdp here.stage phase → Fine s next
  next-fine (inl r) = three (Fine s) here.stage _ _ _ (λ e. idle-marks r) (λ e. clears r.none) (λ a b. reports r)
  next-fine (inr r) = at r.state
    where
      at : ((here.stage ≡ 1) × (start L ≡ here.hdp)) ⊎ ((here.stage ≡ 2) × (L ≡ [])) → Fine s next
      at (inl x) = three (Fine s) here.stage _ _ _ (λ e. before-marks r x.1) (λ e. absurd (omega (arith, e, x.0)))
          (λ a b. absurd (a x.0))
      at (inr x) = three (Fine s) here.stage _ _ _ (λ e. absurd (omega (arith, e, x.0))) (λ e. clears x.1) (λ a b. absurd (b x.0))

pub tear-fine : (s : Machine) → Inv s → (q : ℕ) → q < queues → Fine s (tear_step q s.ctl s.mem)
unfolding tear_step
tear-fine s i q l =
    by-pick (Fine s) (both (tearing_of s.ctl.state q) (quiet_engine s.ctl q)) _ _
    (λ e. next-fine s i q l (both_left (tearing_of s.ctl.state q) _ e)
    (quiet-engine s.kinds s.lens (words_of s) (left_of s i.qs q) _ _ (phase_of s.ctl q)
    (sym (quiet-phase s.ctl q) ∙ both_right (tearing_of s.ctl.state q) _ e) (i.engine q l)))
    (λ e. stays-fine s i)

-- ---- all engines idle

pub all_rest : (K lens : List ℕ) (c : Controller) → c.channels ≡ replicate channels idle_channel → (q : ℕ) → AtRest K lens [] (phase_of c q)
all_rest K lens c e q = at (side_of q)
  where
    channel : get_or c.channels (channel_of q) idle_channel ≡ idle_channel
    channel = ap (λ (x : List Channel). get_or x (channel_of q) idle_channel) e ∙ get_or-same channels (channel_of q) idle_channel

    at : (side : Side) → AtRest K lens [] (phase_by side c (channel_of q))
    at Transmit = subst (λ (x : Channel). AtRest K lens [] (sending x.tx)) (sym channel)
        (record { rests = refl; none = refl; serves = λ w h n. refl })
    at Receive = subst (λ (x : Channel). AtRest K lens [] (taking x.rx)) (sym channel)
        (record { rests = refl; none = refl; serves = λ w h n. refl })

-- nothing is left, so there is nothing in a block
pub no_room : (side : Side) (K lens : List ℕ) (w : ℕ → ℕ) → RoomIn side K lens w []
no_room Transmit K lens w = tt
no_room Receive K lens w = tt

-- ---- the reset: every queue is the book's to drop, at its next release

abbrev unmarking : Common → Common
unmarking c = record { bit = false; reset = false; marks = 0; waits = true; book_reset = c.book_reset; book_marks = c.book_marks }

reset-booked : (c : Common) → Shared c → c.reset ≡ true → c.book_reset ≡ true
reset-booked c s r = at (over c) (s.resets ∙ r)
  where
    at : (b : Bool) → pick b false c.book_reset ≡ true → c.book_reset ≡ true
    at true e = clash e refl
    at false e = e

abbrev unmarked-post : Post → Post
unmarked-post p = record { hdp = p.hdp; cp = p.cp; stage = p.stage; mark = false; booked = p.booked; tearing = p.tearing }

turn-reset : {c : Common} {p : Post} {rests : Bool} → TearingFits c p rests → c.reset ≡ true
    → TearingFits (unmarking c) (unmarked-post p) true
turn-reset t r = record {
  settles = t.settles;
  young = t.young;
  stage = t.stage;
  lasts = λ b e. refl;
  alone = λ e. t.alone r;
  ready = λ e. clash e (t.alone r);
  asleep = λ w. refl;
  zeroed = λ m i. clash m refl;
}

module _ (s : Machine) (i : Inv s) (r : (common_of s).reset ≡ true) where
  abbrev t : List ℕ
  t = s.ctl.state

  abbrev after : Machine
  after = with_ctl (set_state (set_reset_bit 0 (unmarked t)) (set_channels (replicate channels idle_channel) s.ctl)) s.mem s

  common-reset : common_of after ≡ unmarking (common_of s)
  common-reset =
      let l = i.sized.ctl.size in
      let u = unmarked t in
      let lu = length-unmarked t ∙ l in
      let a : bit_of (set_reset_bit 0 u) ≡ false = bit_of-set_reset_bit u 0 lu in
      let b = reset_of-set_reset_bit u 0 ∙ reset_of-unmarked t l in
      let c = marks_of-set_reset_bit u 0 ∙ marks_of-unmarked t l in
      let d = awaiting-set_reset_bit u 0 ∙ awaiting-unmarked t l in
      cc

  post-reset : (q : ℕ) → q < queues → post_of after q ≡ unmarked-post (post_of s q)
  post-reset q l =
      let u = unmarked t in
      let a = hdp_of-set_reset_bit u 0 q l ∙ hdp_of-unmarked t q l in
      let b = cp_of-set_reset_bit u 0 q l ∙ cp_of-unmarked t q l in
      let c : bit q (marks_of (set_reset_bit 0 u)) ≡ false = ap (bit q) (marks_of-set_reset_bit u 0 ∙ marks_of-unmarked t i.sized.ctl.size)
      ∙ bit-none q in
      let d = tearing_of-set_reset_bit u 0 q ∙ tearing_of-unmarked t q in
      cc

  booked : (common_of s).book_reset ≡ true
  booked = reset-booked (common_of s) i.shared r

  left-reset : (q : ℕ) → left_of after i.qs q ≡ []
  left-reset q =
      ap (λ (c : Common). kept (words_of s) (pick (over c) Whole Head) (queue_at i.qs q)) common-reset
      ∙ rw booked (kept_whole (words_of s) (queue_at i.qs q))

  rest : (q : ℕ) → AtRest s.kinds s.lens [] (phase_of after.ctl q)
  rest = all_rest s.kinds s.lens after.ctl refl

  reset-inv : Inv after
  reset-inv =
      let h = i.held in
      record {
        qs = i.qs;
        sized = record {
          book = i.sized.book;
          ctl = fits-table (length-set_reset_bit (unmarked t) 0 ∙ length-unmarked t ∙ i.sized.ctl.size)
              (flags_fit-set_reset_bit (unmarked t) 0 ∙ flags_fit-unmarked t (table_fits i.sized.ctl));
          stages = i.sized.stages;
          channels = length-replicate channels idle_channel;
        };
        defined = i.defined;
        held = record {
          fit = h.fit;
          kinds = h.kinds;
          many = h.many;
          heads = h.heads;
          linked = h.linked;
          sole = h.sole;
          recorded = h.recorded;
        };
        shared = shared_of common-reset
            (record { resets = rw booked refl; marks = rw booked refl; bits = refl; ready = λ e. clash e refl });
        turn = λ q l. turn-of common-reset (post-reset q l) (rest q).rests (turn-reset (i.turn q l) r);
        engine = λ q l. rw (left-reset q) ((rest q).serves (words_of s) _ _);
        room = λ q l. rw (left-reset q) (no_room (side_of q) s.kinds s.lens (words_of s));
      }

pub reset-fine : (s : Machine) → Inv s → Fine s (reset_step s.ctl s.mem)
unfolding reset_step
reset-fine s i =
    by-pick (Fine s) (both (reset_of s.ctl.state) (all_quiet s.ctl.channels)) _ _
    (λ e. fine-quiet (reset-inv s i (both_left (reset_of s.ctl.state) _ e)) (λ k f. refl))
    (λ e. stays-fine s i)
