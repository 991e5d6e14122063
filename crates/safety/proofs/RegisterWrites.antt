-- A guest's write to a register that the guard accepts, over a machine whose book has just been released. Assumes nothing.
--     write_moves              what the controller makes of a register write without fault that starts no engine
--     no_start                 which write starts none
--     reaches                  the write reaches the controller's register
--     quiet-passes             such a write
--     start-passes             a start
--     class-passes             any register
use Prim.Native.Nat.{ℕ, ◌+◌, ◌-◌, ◌%◌, ◌≤◌, ◌<◌}
use mathlib.Core.Path.{◌≡◌, refl, ◌∙◌, sym}
use mathlib.Core.Bool.{Bool, true, false}
use mathlib.Core.List.{List}
use mathlib.Core.Logic.{◌⊎◌, inl, inr}
use native.Mathlib.Omega.{arith}
use lib.Dec.{eqb, ltb}
use borrow.Author.Tests.{le-ltb, ltb-true, ltb-false, eqb-true}
use Rattle.layout.specs.Layout.{in_descriptors, queues, side_of, channel_of}
use Rattle.layout.specs.Choice.{both}
use Rattle.layout.specs.Class.{class_at, hdp_class}
use Rattle.registers.specs.Table.{head_of, awaiting}
use Rattle.registers.specs.Rules.{head_number, register_fault, written}
use Rattle.book.specs.World.{set_state as setWorldState}
use Rattle.guard.specs.declared.Effect.TheVariants.{Plain, Started}
use Rattle.guard.specs.Answers.{accept}
use Rattle.guard.specs.Judges.{judge_chain, started, judge_start, judge_head, judge_register, judge_class}
use Rattle.controller.specs.declared.Controller.{Controller}
use Rattle.controller.specs.Controller.{answer, set_state, starts_engine, register_write, unguarded_write}
use Rattle.machine.specs.Machine.{Machine}
use Rattle.safety.proofs.Calm.{Calm, Loaded, book_of, calm-inv}
use Rattle.safety.proofs.Allowed.{awaiting-alike, fault-alike, head-alike, write-register, head-fault, head-written}
use Rattle.safety.proofs.Starts.{start-writes, head-starts}
use Rattle.safety.proofs.Registers.{calm-alike, register-calm}
use Rattle.safety.proofs.Writes.{Passes, passes-refuse, passes-pick, passes-fault, passes-accept}

-- ---- what the controller makes of it

write_moves : (n v : ℕ) (c : Controller) (m : List ℕ) → register_fault c.state n v ≡ 0 → starts_engine c n ≡ false
    → register_write n v c m ≡ answer 0 (set_state (written c.state n v) c) m
unfolding register_write
write_moves n v c m z s = rw (z, s) refl

-- any register but HDP, and HDP while initialisation is awaited
no_start : (n : ℕ) (c : Controller) → (hdp_class + queues ≤ n) ⊎ (awaiting c.state ≡ true) → starts_engine c n ≡ false
no_start n c (inl h) = simp (le-ltb n (hdp_class + queues) h)
no_start n c (inr w) = rw w (none (ltb n (hdp_class + queues)))
  where
    none : (a : Bool) → both a false ≡ false
    none true = refl
    none false = refl

-- ---- along the judges

module _ (a v : ℕ) (s : Machine) (c : Calm s) (l : Loaded s) (whole : eqb (a % 4) 0 ≡ true) (away : in_descriptors a ≡ false) where
  abbrev n : ℕ
  n = class_at a

  -- the queue, where the class is that of an HDP
  abbrev q : ℕ
  q = n - hdp_class

  reaches : unguarded_write a v s.ctl s.mem ≡ register_write n v s.ctl s.mem
  reaches = write-register a v s.ctl s.mem c.held.fit.size c.defined whole away

  quiet-passes : (hdp_class + queues ≤ n) ⊎ (awaiting s.ctl.state ≡ true) → register_fault s.state n v ≡ 0
      → Passes a v s (accept Plain (setWorldState (written s.state n v) (book_of s)))
  quiet-passes o z =
      let none = no_start n s.ctl o in
      let f : register_fault s.ctl.state n v ≡ 0 = sym (fault-alike (calm-alike s c l) n v) ∙ z in
      passes-accept a v s Plain (setWorldState (written s.state n v) (book_of s)) _
      (reaches ∙ write_moves n v s.ctl s.mem f none) refl (calm-inv _ (register-calm s c l n v none f))

  register-passes : hdp_class + queues ≤ n → Passes a v s (judge_register n v (book_of s))
  unfolding judge_register
  register-passes h = passes-fault a v s (register_fault s.state n v) _ (book_of s) (quiet-passes (inl h))

  -- "a start sets HDP and the book's head, words and lengths"
  start-passes : n < hdp_class + queues → awaiting s.ctl.state ≡ false → head_number s.state q v ≡ 0 → head_of s.state q ≡ 0
      → Passes a v s (judge_start q v (book_of s))
  start-passes h w z e =
      let f : head_number s.ctl.state q v ≡ 0 = sym (head-alike (calm-alike s c l) q v (omega arith)) ∙ z in
      passes-fault a v s (judge_chain (side_of q) v (book_of s)).0 _ (book_of s)
      (λ k. passes-accept a v s (Started (side_of q) (channel_of q)) (started q v (book_of s)) _
      (reaches ∙ start-writes n v s.ctl s.mem h w f) refl (calm-inv _ (head-starts s c q (omega arith) v w f e k)))

  -- "Awaiting initialisation ..: 0 is accepted, stored and marks it", "Otherwise 7; 8 ..; 9 ..; 10 ..; then the chain"
  head-passes : n < hdp_class + queues → Passes a v s (judge_head q v (book_of s))
  unfolding judge_head
  head-passes h =
      passes-fault a v s (head_number s.state q v) _ (book_of s)
      (λ z. passes-pick a v s (awaiting s.state) _ _
      (λ w. rw (head-written s.state n v h) at
      (quiet-passes (inr (sym (awaiting-alike (calm-alike s c l)) ∙ w)) (head-fault s.state n v h ∙ z)))
      (λ w. passes-pick a v s (eqb (head_of s.state q) 0) _ _
      (λ e. start-passes h (sym (awaiting-alike (calm-alike s c l)) ∙ w) z (eqb-true (head_of s.state q) 0 e))
      (λ e. passes-refuse a v s 10 (book_of s) (omega arith))))

  pub class-passes : Passes a v s (judge_class n v (book_of s))
  unfolding judge_class
  class-passes =
      passes-pick a v s (ltb n (hdp_class + queues)) _ _ (λ e. head-passes (ltb-true n (hdp_class + queues) e))
      (λ e. register-passes (ltb-false n (hdp_class + queues) e))
