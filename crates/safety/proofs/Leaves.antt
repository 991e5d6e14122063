-- A step of queue q leaves every word of every other queue:
-- an engine, or its teardown, marks at most one descriptor of its own queue. Assumes nothing.
--     Own s i q m             m is the machine's memory, but for words 2 and 3 of at most one descriptor of what is left of queue q
--     own-leaves              so every word of every other queue is as it was
--     named                   a mark at a pointer that names such a descriptor
--     send-own, take_own      the phases of either side
--     transmit-own, receive-own, tear-own   the steps
--     Other e j               queue j is not the one of engine e
--     step-leaves             the step of any engine
use Rattle.std.proofs.Common.{Option, Some, None}
use Prim.Native.Nat.{ℕ, ◌<◌}
use mathlib.Core.Path.{◌≡◌, refl, ap, ◌∙◌, sym}
use mathlib.Core.Bool.{Bool, true}
use mathlib.Core.List.{List, [], ◌∷◌, ◌++◌}
use mathlib.Core.Logic.{◌⊎◌, inl, inr, ◌≢◌}
use native.Mathlib.Omega.{arith}
use lib.ListN.{length}
use lib.Dec.{eqb, ltb}
use borrow.Author.Tests.{eq-eqb, ltb-true}
use Rattle.layout.specs.Choice.{both}
use Rattle.layout.specs.Layout.{desc_bytes, length_max, good_ptr, word_of, addr, channels, queues, queue_of}
use Rattle.layout.specs.declared.Side.TheVariants as Sides
use Rattle.layout.proofs.ChoiceLaws.{by-pick, both_left, both_right}
use Rattle.words.specs.Word.{word}
use Rattle.marks.specs.Marks.{eoq_mark, owner_mark, td_mark, first_mark}
use Rattle.registers.specs.Table.{hdp_of, cp_of, tearing_of, reset_of}
use Rattle.queue.proofs.Queue.{start, All}
use Rattle.queue.proofs.LinkLaws.{all-every}
use Rattle.queue.proofs.StoreLaws.{Same, Only, marked-only, last-marked-only}
use Rattle.queue.proofs.NumberLaws.{queue_at}
use Rattle.phases.specs.declared.Engine.{Engine}
use Rattle.phases.specs.declared.Engine.TheVariants.{Reset, Transmit, Receive, TearTransmit, TearReceive}
use Rattle.phases.specs.declared.Sending.{Sending}
use Rattle.phases.specs.declared.Sending.TheVariants as S
use Rattle.phases.specs.declared.Receiving.{Receiving}
use Rattle.phases.specs.declared.Receiving.TheVariants as R
use Rattle.phases.specs.declared.Step.{Step}
use Rattle.phases.specs.Transmit.{send_step, mark_eoq, clear_own}
use Rattle.phases.specs.Receive.{take_step, mark_last, mark_first}
use Rattle.controller.specs.Controller.{StepDone, answer, tx_of, rx_of, send_moved, take_moved, held_back, quiet_engine, transmit_step}
use Rattle.controller.specs.Controller.{receive_step, tear_mark, tear_step, all_quiet, reset_step, unless_undefined, on_channel, step_of}
use Rattle.machine.specs.Machine.{Machine}
use Rattle.safety.proofs.Inv.{Spot, TxInv, RxInv, phase_of, Post, post_of, words_of, left_of, Inv}
use Rattle.safety.proofs.Ends.{top_start, spot-top, spot-is-top}
use Rattle.safety.proofs.Marks.{queue-lt, phase-queue}
use Rattle.safety.proofs.Touch.{touch-leaves}
use Rattle.safety.proofs.LastSteps.{pointer_word, left-linked}
use Rattle.safety.proofs.Teardown.{quiet-phase, AtRest, Before, quiet-engine, three, idle-zero, next}

pub data Own (s : Machine) (i : Inv s) (q : ℕ) : List ℕ → Type 0 where
  same : Own s i q s.mem
  one : {m : List ℕ} (cs : List ℕ) (d : ℕ) (rs : List ℕ) → left_of s i.qs q ≡ cs ++ d ∷ rs → Only d (words_of s) (word m) → Own s i q m

untouched : (w : ℕ → ℕ) (ds : List ℕ) → All (Same w w) ds
untouched w ds = all-every (Same w w) (λ d. (refl, refl, refl, refl)) ds

pub own-leaves : {s : Machine} {i : Inv s} {q : ℕ} {m : List ℕ} → Own s i q m → (j : ℕ) → j ≢ q
    → All (Same (words_of s) (word m)) (queue_at i.qs j)
own-leaves {s} {i} same j n = untouched (words_of s) (queue_at i.qs j)
own-leaves {s} {i} {q} {m} (one cs d rs e o) j n = touch-leaves s i q m cs d rs o e j n

-- ---- the phases

module _ (s : Machine) (i : Inv s) (q : ℕ) where
  abbrev L : List ℕ
  L = left_of s i.qs q

  named : (p : ℕ) (cs : List ℕ) (d : ℕ) (rs : List ℕ) → L ≡ cs ++ d ∷ rs → p ≡ addr d → {m : List ℕ}
      → Only (word_of p) (words_of s) (word m)
      → Own s i q m
  named p cs d rs e a o = one cs (word_of p) rs (rw (pointer_word a) e) o

  -- where an engine stands, and the first descriptor of its packet
  at-spot : {first h n : ℕ} → Spot (words_of s) L first h n → {m : List ℕ} → Only (word_of h) (words_of s) (word m) → Own s i q m
  at-spot {first} {h} z o = named h z.cs z.d z.rs z.split z.here o

  at_first : {first h n : ℕ} → Spot (words_of s) L first h n → {m : List ℕ} → Only (word_of first) (words_of s) (word m) → Own s i q m
  at_first {first} z o =
      let t = spot-is-top (words_of s) L z in
      named first [] t.f t.fs t.is (spot-top (words_of s) L z t (left-linked s i q)).0 o

  abbrev Sent : Option (Step Sending) × List ℕ → Type 0
  Sent x = Own s i q x.1

  send-own : (K : List ℕ) (h n cp : ℕ) (wait : Bool) (ph : Sending) → TxInv K (words_of s) L h n ph → Sent (send_step wait s.mem ph h cp)
  unfolding send_step mark_eoq clear_own
  send-own K h n cp wait S.Idle t = same
  send-own K h n cp wait S.New t = same
  send-own K h n cp wait (S.Within p) t = same
  send-own K h n cp wait (S.Moving r) t = same
  send-own K h n cp wait (S.Ended e) t = same
  send-own K h n cp wait (S.Marking c) t =
      by-pick Sent (eqb c.next 0) _ _
      (λ e. by-pick Sent (good_ptr h) _ _ (λ g. at-spot t.spot (marked-only eoq_mark (word_of h) s.mem)) (λ g. same))
      (λ e. same)
  send-own K h n cp wait (S.Owning c) t =
      by-pick Sent (good_ptr c.sop) _ _ (λ g. at_first t.spot (marked-only owner_mark (word_of c.sop) s.mem)) (λ g. same)
  send-own K h n cp wait (S.Done l) t = same

  abbrev Took : Option (Step Receiving) × List ℕ → Type 0
  Took x = Own s i q x.1

  take_own : (lens : List ℕ) (h n cp : ℕ) (ph : Receiving) → RxInv lens (words_of s) L h n ph → Took (take_step s.mem ph h cp)
  unfolding take_step mark_last mark_first
  take_own lens h n cp R.Idle t = same
  take_own lens h n cp R.Wait t = same
  take_own lens h n cp (R.Fetch f) t = same
  take_own lens h n cp (R.Moving r) t = same
  take_own lens h n cp (R.Ended e) t = same
  take_own lens h n cp (R.Last c) t =
      by-pick Took (ltb length_max c.here) _ _ (λ e. same)
      (λ e. by-pick Took (good_ptr h) _ _ (λ g. at-spot t.taken.spot (last-marked-only c.here c.next (word_of h) s.mem))
      (λ g. same))
  take_own lens h n cp (R.First c) t =
      by-pick Took (ltb length_max c.stored) _ _ (λ e. same)
      (λ e. by-pick Took (good_ptr c.first) _ _
      (λ g. at_first t.owned.spot (marked-only (first_mark c.stored c.overrun) (word_of c.first) s.mem))
      (λ g. same))
  take_own lens h n cp (R.Done l) t = same

  -- a phase that is unfit leaves the memory
  sent-own : (ch : ℕ) (x : Option (Step Sending) × List ℕ) → Sent x → Own s i q (send_moved ch x s.ctl s.mem).mem
  sent-own ch (None, m) o = same
  sent-own ch (Some r, m) o = o

  took-own : (ch : ℕ) (x : Option (Step Receiving) × List ℕ) → Took x → Own s i q (take_moved ch x s.ctl s.mem).mem
  took-own ch (None, m) o = same
  took-own ch (Some r, m) o = o

-- ---- the steps of an engine

module _ (s : Machine) (i : Inv s) (ch : ℕ) (l : ch < channels) where
  pub transmit-own : Own s i (queue_of Sides.Transmit ch) (transmit_step ch s.ctl s.mem).mem
  unfolding transmit_step
  transmit-own =
      let q = queue_of Sides.Transmit ch in
      let c = s.ctl in
      sent-own s i q ch (send_step (held_back c q) s.mem (tx_of c ch) (hdp_of c.state q) (cp_of c.state q))
      (send-own s i q s.kinds _ _ (cp_of c.state q) (held_back c q) (tx_of c ch)
      (rw (phase-queue Sides.Transmit c ch) at (i.engine q (queue-lt Sides.Transmit ch l))))

  pub receive-own : Own s i (queue_of Sides.Receive ch) (receive_step ch s.ctl s.mem).mem
  unfolding receive_step
  receive-own =
      let q = queue_of Sides.Receive ch in
      let c = s.ctl in
      took-own s i q ch (take_step s.mem (rx_of c ch) (hdp_of c.state q) (cp_of c.state q))
      (take_own s i q s.lens _ _ (cp_of c.state q) (rx_of c ch)
      (rw (phase-queue Sides.Receive c ch) at (i.engine q (queue-lt Sides.Receive ch l))))

-- ---- the steps of a teardown

module _ (s : Machine) (i : Inv s) (q : ℕ) (l : q < queues) where
  abbrev here : Post
  here = post_of s q

  abbrev Mine : StepDone → Type 0
  Mine x = Own s i q x.mem

  none-own : here.hdp ≡ 0 → Mine (tear_mark q s.ctl s.mem)
  unfolding tear_mark
  none-own e = rw (eq-eqb here.hdp 0 e) same

  mark-own : start (left_of s i.qs q) ≡ here.hdp → good_ptr here.hdp ≡ true → Mine (tear_mark q s.ctl s.mem)
  unfolding tear_mark
  mark-own e g =
      let h = here.hdp in
      let t = top_start (left_of s i.qs q) (rw e g) in
      by-pick Mine (eqb h 0) _ _ (λ z. same)
      (λ z. by-pick Mine (good_ptr h) _ _
      (λ y. named s i q h [] t.f t.fs t.is (sym e ∙ ap start t.is) (marked-only td_mark (word_of h) s.mem))
      (λ y. same))

  next-own : (pending : here.tearing ≡ true) → AtRest s.kinds s.lens (left_of s i.qs q) (phase_of s.ctl q)
      ⊎ Before s.kinds s.lens (left_of s i.qs q) here.hdp here.stage (phase_of s.ctl q) → Mine (next s i q l pending)
  next-own pending (inl r) = three Mine here.stage _ _ _ (λ e. none-own (idle-zero s i q l pending r.rests)) (λ e. same) (λ a b. same)
  next-own pending (inr r) = three Mine here.stage _ _ _ (λ e. at e r.state) (λ e. same) (λ a b. same)
    where
      at : here.stage ≡ 1
          → ((here.stage ≡ 1) × (start (left_of s i.qs q) ≡ here.hdp)) ⊎ ((here.stage ≡ 2) × (left_of s i.qs q ≡ []))
          → Mine (tear_mark q s.ctl s.mem)
      at e (inl x) = mark-own x.1 r.good
      at e (inr x) = absurd (omega (arith, e, x.0))

  pub tear-own : Mine (tear_step q s.ctl s.mem)
  unfolding tear_step
  tear-own =
      by-pick Mine (both (tearing_of s.ctl.state q) (quiet_engine s.ctl q)) _ _
      (λ e. next-own (both_left (tearing_of s.ctl.state q) _ e)
      (quiet-engine s.kinds s.lens (words_of s) (left_of s i.qs q) _ _ (phase_of s.ctl q)
      (sym (quiet-phase s.ctl q) ∙ both_right (tearing_of s.ctl.state q) _ e) (i.engine q l)))
      (λ e. same)

-- ---- any engine

abbrev pub Other : Engine → ℕ → Type 0
Other Reset j = Unit
Other (Transmit ch) j = j ≢ queue_of Sides.Transmit ch
Other (Receive ch) j = j ≢ queue_of Sides.Receive ch
Other (TearTransmit ch) j = j ≢ queue_of Sides.Transmit ch
Other (TearReceive ch) j = j ≢ queue_of Sides.Receive ch

module _ (s : Machine) (i : Inv s) (j : ℕ) where
  abbrev Left : StepDone → Type 0
  Left x = All (Same (words_of s) (word x.mem)) (queue_at i.qs j)

  unmoved : Left (answer 0 s.ctl s.mem)
  unmoved = untouched (words_of s) (queue_at i.qs j)

  unless-left : (x : StepDone) → Left x → Left (unless_undefined s.ctl s.mem x)
  unless-left x h =
      by-pick Left (eqb (length s.mem) desc_bytes) _ _ (λ e. by-pick Left s.ctl.undefined _ _ (λ u. unmoved) (λ u. h)) (λ e. unmoved)

  -- there is such a channel, or the engine cannot move
  channel-left : (ch : ℕ) (x : StepDone) → (ch < channels → Left x)
      → Left (unless_undefined s.ctl s.mem (on_channel ch s.ctl s.mem x))
  channel-left ch x f = unless-left _ (by-pick Left (ltb ch channels) _ _ (λ e. f (ltb-true ch channels e)) (λ e. unmoved))

  pub step-leaves : (e : Engine) → Other e j → Left (step_of e s.ctl s.mem)
  unfolding step_of reset_step
  step-leaves Reset o =
      unless-left _ (by-pick Left (both (reset_of s.ctl.state) (all_quiet s.ctl.channels)) _ _ (λ e. unmoved) (λ e. unmoved))
  step-leaves (Transmit ch) o = channel-left ch _ (λ l. own-leaves (transmit-own s i ch l) j o)
  step-leaves (Receive ch) o = channel-left ch _ (λ l. own-leaves (receive-own s i ch l) j o)
  step-leaves (TearTransmit ch) o = channel-left ch _ (λ l. own-leaves (tear-own s i _ (queue-lt Sides.Transmit ch l)) j o)
  step-leaves (TearReceive ch) o = channel-left ch _ (λ l. own-leaves (tear-own s i _ (queue-lt Sides.Receive ch l)) j o)
