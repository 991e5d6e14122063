-- What follows from the invariant, for every machine that has it and so after every legal sequence from a fresh start.
-- The consequences are `Follows` in specs/Follows.antt. Assumes nothing.
--     inv-follows          the invariant gives them
--     follows-always       every sequence from a fresh start does
--     entries-agree        what two functions give that promise the same outcome is the same: the inner and the full entry do
use Prim.Native.Nat.{ℕ, ◌<◌}
use mathlib.Core.Path.{◌≡◌, refl, ap, ◌∙◌, sym}
use mathlib.Core.Bool.{true}
use mathlib.Core.List.{List}
use mathlib.Core.Logic.{◌≢◌}
use native.Mathlib.Omega.{arith}
use borrow.Author.Tests.{ne_eqb}
use Rattle.layout.specs.Layout.{good_ptr, addr, channels, queue_of}
use Rattle.layout.specs.declared.Side.TheVariants.{Transmit, Receive}
use Rattle.layout.proofs.PointerLaws.{good_ptr-bounds}
use Rattle.blocks.specs.Kinds.{fit_kinds}
use Rattle.registers.specs.Table.{head_of, hdp_of}
use Rattle.book.specs.World.{release}
use Rattle.queue.proofs.Queue.{start}
use Rattle.guard.specs.declared.Answer.{Answer}
use Rattle.guard.specs.Answers.{Outcome, number_of, Gives}
use Rattle.guard.specs.Judges.{judge}
use Rattle.guard.specs.Guard.{guest_write}
use Rattle.kinds.specs.Kinds.{judge_kind, kind_change}
use Rattle.phases.specs.declared.Sending.{Sending}
use Rattle.phases.specs.declared.Sending.TheVariants as S
use Rattle.phases.specs.declared.Receiving.{Receiving}
use Rattle.phases.specs.declared.Receiving.TheVariants as R
use Rattle.controller.specs.Controller.{tx_of, rx_of}
use Rattle.machine.specs.Machine.{Machine, Op, write, kind, apply, run_ops, world_of, carried_out, apply_write, apply_kind, fresh_machine}
use Rattle.safety.specs.Statement.{AllLegal}
use Rattle.safety.specs.Follows.{Untouched, Alone, Follows}
use Rattle.safety.proofs.Inv.{TxInv, RxInv, Inv}
use Rattle.safety.proofs.Marks.{queue-lt, phase-queue}
use Rattle.safety.proofs.Machines.{fresh-inv}
use Rattle.safety.proofs.Calm.{release-calm}
use Rattle.safety.proofs.Twice.{release-twice, never-unsound}
use Rattle.safety.proofs.Refusals.{number-not, refused-write, refused-kind}
use Rattle.safety.proofs.Numbers.{admitted-acts, answer-is, guest-number, change-number, write-number, kind-number}
use Rattle.safety.proofs.KindChanges.{ownership-kept}
use Rattle.safety.proofs.Always.{apply-inv, run-inv}
use Rattle.safety.proofs.Handed.{handed-write, handed-kind}

-- ---- refusals, of the machine

refused-machine : (a x : ℕ) (o : Outcome) (s : Machine) → number_of o.answer ≢ 0 → Untouched (world_of s) o
    → Alone s (carried_out a x o s).machine
refused-machine a x o s n u = rw (ne_eqb (number_of o.answer) 0 n) (record {
  ctl = refl;
  mem = u.mem;
  kinds = u.kinds;
  state = u.state;
  used = u.used;
  lens = u.lens;
})

-- ---- an HDP of 0

good-not-zero : (h : ℕ) → good_ptr h ≡ true → h ≢ 0
good-not-zero h e z = let b = (good_ptr-bounds h e).0 in omega (arith, b, z)

addr-not-zero : (h d : ℕ) → h ≡ addr d → h ≢ 0
addr-not-zero h d e z = omega (arith, e, z)

tx-zero : (K : List ℕ) (w : ℕ → ℕ) (L : List ℕ) (h n : ℕ) (ph : Sending) → TxInv K w L h n ph → h ≡ 0 → ph ≡ S.Idle
tx-zero K w L h n S.Idle t z = refl
tx-zero K w L h n S.New t z = absurd (good-not-zero h t.good z)
tx-zero K w L h n (S.Within p) t z = absurd (addr-not-zero h _ t.spot.here z)
tx-zero K w L h n (S.Moving r) t z = absurd (addr-not-zero h _ t.fetched.spot.here z)
tx-zero K w L h n (S.Ended e) t z = absurd (addr-not-zero h _ t.spot.here z)
tx-zero K w L h n (S.Marking c) t z = absurd (addr-not-zero h _ t.spot.here z)
tx-zero K w L h n (S.Owning c) t z = absurd (addr-not-zero h _ t.spot.here z)
tx-zero K w L h n (S.Done l) t z = absurd (good-not-zero h t.good z)

rx-zero : (lens : List ℕ) (w : ℕ → ℕ) (L : List ℕ) (h n : ℕ) (ph : Receiving) → RxInv lens w L h n ph → h ≡ 0 → ph ≡ R.Idle
rx-zero lens w L h n R.Idle t z = refl
rx-zero lens w L h n R.Wait t z = absurd (good-not-zero h t.good z)
rx-zero lens w L h n (R.Fetch f) t z = absurd (addr-not-zero h _ t.spot.here z)
rx-zero lens w L h n (R.Moving s) t z = absurd (addr-not-zero h _ t.taken.spot.here z)
rx-zero lens w L h n (R.Ended e) t z = absurd (addr-not-zero h _ t.taken.spot.here z)
rx-zero lens w L h n (R.Last s) t z = absurd (addr-not-zero h _ t.taken.spot.here z)
rx-zero lens w L h n (R.First s) t z = absurd (addr-not-zero h _ t.owned.spot.here z)
rx-zero lens w L h n (R.Done l) t z = absurd (good-not-zero h t.good z)

-- ---- all of them

module _ (s : Machine) (i : Inv s) where
  refused-write-alone : (a x : ℕ) → number_of (apply (write a x) s).answer ≢ 0 → Alone s (apply (write a x) s).machine
  unfolding apply_write
  refused-write-alone a x e =
      let m = guest-number a x s i in
      let d : number_of (guest_write a x (world_of s)).answer ≢ 0 = λ z. e (ap number_of (answer-is a x s i) ∙ z) in
      refused-machine a x (guest_write a x (world_of s)) s d
      (refused-write a x (world_of s) d (number-not _ 1 m refl) (number-not _ 2 m refl))

  refused-kind-alone : (b k : ℕ) → number_of (apply (kind b k) s).answer ≢ 0 → Alone s (apply (kind b k) s).machine
  unfolding apply_kind
  refused-kind-alone b k d =
      let m = change-number b k s i in
      let u = refused-kind b k (world_of s) d (number-not _ 1 m refl) (number-not _ 2 m refl) in
      record { ctl = refl; mem = u.mem; kinds = u.kinds; state = u.state; used = u.used; lens = u.lens }

  -- the clause of each engine
  transmits : (c : ℕ) → c < channels → hdp_of s.ctl.state (queue_of Transmit c) ≡ 0 → tx_of s.ctl c ≡ S.Idle
  transmits c h z =
      let q = queue_of Transmit c in
      tx-zero _ _ _ (hdp_of s.ctl.state q) _ (tx_of s.ctl c)
      (rw (phase-queue Transmit s.ctl c) at (i.engine q (queue-lt Transmit c h))) z

  receives : (c : ℕ) → c < channels → hdp_of s.ctl.state (queue_of Receive c) ≡ 0 → rx_of s.ctl c ≡ R.Idle
  receives c h z =
      let q = queue_of Receive c in
      rx-zero _ _ _ (hdp_of s.ctl.state q) _ (rx_of s.ctl c)
      (rw (phase-queue Receive s.ctl c) at (i.engine q (queue-lt Receive c h))) z

  -- the queue of an idle engine is empty
  rests-transmit : (c : ℕ) → c < channels → tx_of s.ctl c ≡ S.Idle → head_of (release (world_of s)).state (queue_of Transmit c) ≡ 0
  rests-transmit c h e =
      let q = queue_of Transmit c in
      let l = queue-lt Transmit c h in
      let k = release-calm s i in
      k.held.heads q l ∙ ap start (rw (phase-queue Transmit s.ctl c, e) at (k.engine q l))

  rests-receive : (c : ℕ) → c < channels → rx_of s.ctl c ≡ R.Idle → head_of (release (world_of s)).state (queue_of Receive c) ≡ 0
  rests-receive c h e =
      let q = queue_of Receive c in
      let l = queue-lt Receive c h in
      let k = release-calm s i in
      k.held.heads q l ∙ ap start (rw (phase-queue Receive s.ctl c, e) at (k.engine q l))

pub inv-follows : (s : Machine) → Inv s → Follows s
unfolding guest_write kind_change
inv-follows s i = record {
  writes = λ a x. write-number a x s i;
  changes = λ b k. kind-number b k s i;
  inner_write = λ a x. sym (admitted-acts s i (λ t. judge a x t));
  inner_kind = λ b k. sym (admitted-acts s i (λ t. judge_kind b k t));
  refused_write = refused-write-alone s i;
  refused_kind = refused-kind-alone s i;
  handed_write = λ a x l. handed-write a x l.1 s i;
  handed_kind = λ b k. handed-kind b k s i;
  ownership = λ o j. ownership-kept o s j;
  zero_transmit = transmits s i;
  zero_receive = receives s i;
  idle_transmit = rests-transmit s i;
  idle_receive = rests-receive s i;
  once = release-twice (world_of s) (never-unsound s i);
  sound = never-unsound s i;
  stays = λ o l. never-unsound (apply o s).machine (apply-inv o l s i);
}

pub follows-always : (kinds : List ℕ) → fit_kinds kinds ≡ true → (os : List Op) → AllLegal os → Follows (run_ops os (fresh_machine kinds))
follows-always kinds f os l = inv-follows (run_ops os (fresh_machine kinds)) (run-inv os l (fresh_machine kinds) (fresh-inv kinds f))

-- ---- promises

-- "Any two outcomes allowed by one promise are proved the same": `guest_write` and `guest_write_sound` promise `Gives` of the same
-- outcome, and so do `kind_change` and `kind_change_sound`
pub entries-agree : (o : Outcome) (d e : Answer) (m k t u l m' k' t' u' l' : List ℕ) → Gives o d m k t u l → Gives o e m' k' t' u' l'
    → (d ≡ e) × (m ≡ m') × (k ≡ k') × (t ≡ t') × (u ≡ u') × (l ≡ l')
entries-agree o d e m k t u l m' k' t' u' l' g h = (
  g.answer ∙ sym h.answer,
  g.mem ∙ sym h.mem,
  g.kinds ∙ sym h.kinds,
  g.state ∙ sym h.state,
  g.used ∙ sym h.used,
  g.lens ∙ sym h.lens,
)
