-- What the guard accepts, the controller's own rules allow: whatever the world, as long as what the rules read of its small state is
-- the controller's. So an accepted write never makes the controller undefined, and guard and controller move together.
-- `Alike`, `Agrees` and `Carried` are in specs/Follows.antt. Assumes nothing.
--     marks-alike, .., fault-alike, written-alike   alike tables have the same faults, and are alike after a write
--     write-memory, write-register    where a write that no guard has judged goes
--     fault-holds           a choice by a fault's number
--     head-fault, head-written   the rules of an HDP, by its class
--     register_write-carried a register write without fault is carried out
--     allowed               what `judge` accepts, is carried out
--     judge-kinds           no guest write touches the kinds
use Prim.Native.Nat.{ℕ, ◌+◌, ◌-◌, ◌/◌, ◌%◌, ◌≤◌, ◌<◌}
use mathlib.Core.Path.{◌≡◌, refl, ap, ◌∙◌, sym}
use mathlib.Core.Bool.{Bool, true, false, not}
use mathlib.Core.List.{List}
use mathlib.Core.Logic.{◌≢◌}
use native.Mathlib.Omega.{arith}
use lib.ListN.{length, get_or, set, length-set}
use lib.Seq.{get_or-set_same, get_or-set_other}
use lib.Dec.{eqb, ltb}
use borrow.Author.Tests.{eq-eqb, eqb-true, eqb-false, ltb-true}
use Rattle.std.specs.Prelude.{Option, Some, None}
use Rattle.layout.specs.Choice.{pick, both}
use Rattle.layout.specs.Bits.{set_bit}
use Rattle.layout.specs.Layout.{desc_first, desc_bytes, in_descriptors, queues, side_of}
use Rattle.layout.specs.Class.{class_at, hdp_class}
use Rattle.layout.proofs.ChoiceLaws.{pick-holds}
use Rattle.words.specs.Word.{word, put}
use Rattle.words.specs.WordSet.{has}
use Rattle.words.proofs.WordLaws.{length-put, put-put-same}
use Rattle.registers.specs.Table.{state_words, hdp_at, cp_at, marks_at, tearing_at, reset_at, bit_at, all_marks, head_of, hdp_of, cp_of}
use Rattle.registers.specs.Table.{marks_of}
use Rattle.registers.specs.Table.{tearings_of, awaiting, any_tearing, reset_of, heads_of, set_head, set_mark, set_tearing}
use Rattle.registers.specs.Rules.{tear_queue, head_number, teardown_number, reset_number, register_fault, head_written, ack_written}
use Rattle.registers.specs.Rules.{written}
use Rattle.registers.proofs.RegisterLaws.{by_class-head, tear_queue-lt, head_written-set}
use Rattle.book.specs.World.{World, set_state}
use Rattle.queue.proofs.NumberLaws.{each}
use Rattle.queue.proofs.CallLaws.{by_class-both}
use Rattle.guard.specs.declared.Effect.TheVariants.{Plain}
use Rattle.guard.specs.Answers.{number_of, Outcome, accept, refuse}
use Rattle.guard.specs.Judges.{judge_chain, judge_start, judge_head, judge_register, tail_in, judge_append, at_tail, judge_last, judge_word}
use Rattle.guard.specs.Judges.{judge_class, judge}
use Rattle.controller.specs.declared.Controller.{Controller}
use Rattle.controller.specs.Controller.{answer, unguarded_write, register_write}
use Rattle.safety.specs.Follows.{Alike, Agrees, Carried}

-- ---- tables that say the same

alike_refl : (t : List ℕ) → Alike t t
alike_refl t = record { same = λ k h g. refl }

alike-trans : {t u c : List ℕ} → Alike t u → Alike u c → Alike t c
alike-trans a b = record { same = λ k h g. a.same k h g ∙ b.same k h g }

module _ {t c : List ℕ} (a : Alike t c) where
  hdp-alike : (q : ℕ) → q < queues → hdp_of t q ≡ hdp_of c q
  hdp-alike q h = a.same (hdp_at q) (omega arith) (omega arith)

  cp-alike : (q : ℕ) → q < queues → cp_of t q ≡ cp_of c q
  cp-alike q h = a.same (cp_at q) (omega arith) (omega arith)

  pub marks-alike : marks_of t ≡ marks_of c
  marks-alike = a.same marks_at (omega arith) (omega arith)

  pub tearings-alike : tearings_of t ≡ tearings_of c
  tearings-alike = a.same tearing_at (omega arith) (omega arith)

  pub reset-alike : reset_of t ≡ reset_of c
  unfolding reset_of
  reset-alike = ap (λ (n : ℕ). eqb n 1) (a.same reset_at (omega arith) (omega arith))

  pub awaiting-alike : awaiting t ≡ awaiting c
  unfolding awaiting
  awaiting-alike = ap (λ (m : ℕ). not (eqb m all_marks)) marks-alike

  any-alike : any_tearing t ≡ any_tearing c
  unfolding any_tearing
  any-alike = ap (λ (m : ℕ). not (eqb m 0)) tearings-alike

  pub head-alike : (q v : ℕ) → q < queues → head_number t q v ≡ head_number c q v
  head-alike q v h = rw (awaiting-alike, reset-alike, tearings-alike, hdp-alike q h) refl

  teardown-alike : (q v : ℕ) → q < queues → teardown_number t q v ≡ teardown_number c q v
  teardown-alike q v h = rw (awaiting-alike, reset-alike, tearings-alike, cp-alike q h) refl

  resets-alike : (v : ℕ) → reset_number t v ≡ reset_number c v
  resets-alike v = rw (awaiting-alike, reset-alike, any-alike) refl

  -- a head that is set is read by no rule
  heads-alike : (q p : ℕ) → q < queues → Alike (set_head q p t) c
  heads-alike q p h = record { same = λ k g l. get_or-set_other t q k p 0 (λ e. omega arith) ∙ a.same k g l }

-- ---- by class

module _ {t c : List ℕ} (a : Alike t c) (n v : ℕ) where
  pub fault-alike : register_fault t n v ≡ register_fault c n v
  unfolding register_fault
  fault-alike =
      by_class-both ◌≡◌ n _ _ _ _ _ _ _ _ _ _ _ _ _ _ _ _ (λ h. head-alike a (n - hdp_class) v (omega arith))
      (λ q h. rw (awaiting-alike a) refl)
      (λ x h. teardown-alike a (tear_queue x v) v (tear_queue-lt x v h)) (resets-alike a v) refl refl refl refl

module _ {t c : List ℕ} (a : Alike t c) (lt : length t ≡ state_words) (lc : length c ≡ state_words) where
  set-alike : (k v : ℕ) → Alike (set t k v) (set c k v)
  set-alike k v = record {
    same = each (λ j. queues ≤ j → j ≤ bit_at → get_or (set t k v) j 0 ≡ get_or (set c k v) j 0) k
        (λ h g. get_or-set_same t k v 0 (omega arith) ∙ sym (get_or-set_same c k v 0 (omega arith)))
        (λ j n h g. get_or-set_other t k j v 0 n ∙ a.same j h g ∙ sym (get_or-set_other c k j v 0 n));
  }

  mark-alike : (k : ℕ) → Alike (set_mark k t) (set_mark k c)
  mark-alike k = rw (marks-alike a) (set-alike marks_at (set_bit k (marks_of c)))

  tears-alike : (q : ℕ) → Alike (set_tearing q t) (set_tearing q c)
  tears-alike q = rw (tearings-alike a) (set-alike tearing_at (set_bit q (tearings_of c)))

pick-alike : (x y : Bool) (t₁ t₂ c₁ c₂ : List ℕ) → x ≡ y → Alike t₁ c₁ → Alike t₂ c₂ → Alike (pick x t₁ t₂) (pick y c₁ c₂)
pick-alike x y t₁ t₂ c₁ c₂ e p q = rw e (at y)
  where
    at : (z : Bool) → Alike (pick z t₁ t₂) (pick z c₁ c₂)
    at true = p
    at false = q

module _ {t c : List ℕ} (a : Alike t c) (lt : length t ≡ state_words) (lc : length c ≡ state_words) (v : ℕ) where
  head_written-alike : (q : ℕ) → Alike (head_written t q v) (head_written c q v)
  unfolding head_written
  head_written-alike q =
      let b = set-alike a lt lc (hdp_at q) v in
      pick-alike (awaiting t) (awaiting c) _ _ _ _ (awaiting-alike a)
      (mark-alike b (length-set t (hdp_at q) v ∙ lt) (length-set c (hdp_at q) v ∙ lc) q) b

  ack_written-alike : (q : ℕ) → q < queues → Alike (ack_written t q v) (ack_written c q v)
  unfolding ack_written
  ack_written-alike q h =
      pick-alike (awaiting t) (awaiting c) _ _ _ _ (awaiting-alike a)
      (mark-alike (set-alike a lt lc (cp_at q) v) (length-set t (cp_at q) v ∙ lt) (length-set c (cp_at q) v ∙ lc) (queues + q))
      (pick-alike (eqb v (cp_of t q)) (eqb v (cp_of c q)) _ _ _ _ (ap (eqb v) (cp-alike a q h)) (set-alike a lt lc (cp_at q) 0) a)

  pub written-alike : (n : ℕ) → Alike (written t n v) (written c n v)
  unfolding written
  written-alike n =
      by_class-both Alike n _ _ _ _ _ _ _ _ _ _ _ _ _ _ _ _ (λ h. head_written-alike (n - hdp_class)) ack_written-alike
      (λ x h. tears-alike a lt lc (tear_queue x v))
      (set-alike (set-alike a lt lc reset_at 1) (length-set t reset_at 1 ∙ lt) (length-set c reset_at 1 ∙ lc) bit_at 1) a a a a

-- ---- where a write goes

module _ (a v : ℕ) (c : Controller) (m : List ℕ) (size : length m ≡ desc_bytes) (defined : c.undefined ≡ false)
    (whole : eqb (a % 4) 0 ≡ true) where
  pub write-memory : in_descriptors a ≡ true → unguarded_write a v c m ≡ answer 0 c (put m ((a - desc_first) / 4) v)
  unfolding unguarded_write
  write-memory e = simp (eq-eqb (length m) desc_bytes size, defined, whole, e)

  pub write-register : in_descriptors a ≡ false → unguarded_write a v c m ≡ register_write (class_at a) v c m
  unfolding unguarded_write
  write-register e = simp (eq-eqb (length m) desc_bytes size, defined, whole, e)

-- ---- what an accepted write left in the world

-- a fault that is 0, or is not
pub fault-holds : (P : Outcome → Type 0) (n : ℕ) (x y : Outcome) → (n ≡ 0 → P x) → (n ≢ 0 → P y) → P (pick (eqb n 0) x y)
fault-holds P n x y f g = at (eqb n 0) refl
  where
    at : (t : Bool) → eqb n 0 ≡ t → P (pick t x y)
    at true e = f (eqb-true n 0 e)
    at false e = g (eqb-false n 0 e)

-- a word of descriptor memory was stored, and the small state is as it was
record Stored (k v : ℕ) (s : World) (o : Outcome) : Type 0 where
  mem : number_of o.answer ≡ 0 → o.world.mem ≡ put s.mem k v
  state : number_of o.answer ≡ 0 → o.world.state ≡ s.state
  kinds : o.world.kinds ≡ s.kinds

refuse-stored : (k v : ℕ) (s : World) (n : ℕ) → n ≢ 0 → Stored k v s (refuse n s)
refuse-stored k v s n h = record { mem = λ e. absurd (h e); state = λ e. absurd (h e); kinds = refl }

append-stored : (q k v : ℕ) (s : World) → Stored k v s (judge_append q k v s)
unfolding judge_append
append-stored q k v s =
    fault-holds (Stored k v s) (judge_chain (side_of q) v s).0 _ _ (λ z. record { mem = λ e. refl; state = λ e. refl; kinds = refl })
    (λ h. refuse-stored k v s _ h)

last_stored : (k v : ℕ) (s : World) → Stored k v s (judge_last k v s)
unfolding judge_last
last_stored k v s = at (tail_in (word s.mem) k 0 (heads_of s.state))
  where
    at : (t : Option ℕ) → Stored k v s (at_tail t (λ q. judge_append q k v s) (refuse 11 s))
    at None = refuse-stored k v s 11 (omega arith)
    at (Some q) = append-stored q k v s

word-stored : (k v : ℕ) (s : World) → Stored k v s (judge_word k v s)
unfolding judge_word
word-stored k v s =
    pick-holds (Stored k v s) (has s.used k) _ _
    (pick-holds (Stored k v s) (both (eqb (word s.mem k) 0) (not (eqb v 0))) _ _ (last_stored k v s)
    (refuse-stored k v s 11 (omega arith)))
    (record { mem = λ e. refl; state = λ e. refl; kinds = refl })

-- a register was written: its rules over the small state gave no fault (k), and but for a head the table is as those rules say (x)
record Ruled (k : ℕ) (x : List ℕ) (s : World) (o : Outcome) : Type 0 where
  fault : number_of o.answer ≡ 0 → k ≡ 0
  mem : number_of o.answer ≡ 0 → o.world.mem ≡ s.mem
  state : number_of o.answer ≡ 0 → length s.state ≡ state_words → Alike o.world.state x
  kinds : o.world.kinds ≡ s.kinds

refuse-ruled : (k : ℕ) (x : List ℕ) (s : World) (n : ℕ) → n ≢ 0 → Ruled k x s (refuse n s)
refuse-ruled k x s n h = record { fault = λ e. absurd (h e); mem = λ e. absurd (h e); state = λ e l. absurd (h e); kinds = refl }

register-ruled : (n v : ℕ) (s : World) → Ruled (register_fault s.state n v) (written s.state n v) s (judge_register n v s)
unfolding judge_register
register-ruled n v s =
    fault-holds (Ruled _ _ s) _ _ _ (λ z. record { fault = λ e. z; mem = λ e. refl; state = λ e l. alike_refl _; kinds = refl })
    (λ h. refuse-ruled _ _ s _ h)

pub head-fault : (t : List ℕ) (n v : ℕ) → n < hdp_class + queues → register_fault t n v ≡ head_number t (n - hdp_class) v
unfolding register_fault
head-fault t n v h = by_class-head n _ _ _ _ _ _ _ _ h

pub head-written : (t : List ℕ) (n v : ℕ) → n < hdp_class + queues → written t n v ≡ head_written t (n - hdp_class) v
unfolding written
head-written t n v h = by_class-head n _ _ _ _ _ _ _ _ h

-- a start writes HDP as an accepted HDP write does once initialisation is over; the head beside it is read by no rule
start-ruled : (q v : ℕ) (s : World) → q < queues → awaiting s.state ≡ false → head_number s.state q v ≡ 0
    → Ruled (head_number s.state q v) (head_written s.state q v) s (judge_start q v s)
start-ruled q v s h a z =
    fault-holds (Ruled _ _ s) (judge_chain (side_of q) v s).0 _ _
    (λ y. record {
      fault = λ e. z;
      mem = λ e. refl;
      state = λ e l. rw (head_written-set s.state q v a)
          (set-alike (heads-alike (alike_refl s.state) q v h) (length-set s.state q v ∙ l) l (hdp_at q) v);
      kinds = refl;
    })
    (λ n. refuse-ruled _ _ s _ n)

head-ruled : (q v : ℕ) (s : World) → q < queues → Ruled (head_number s.state q v) (head_written s.state q v) s (judge_head q v s)
unfolding judge_head
head-ruled q v s h = fault-holds (Ruled _ _ s) _ _ _ (λ z. at (awaiting s.state) refl z) (λ n. refuse-ruled _ _ s _ n)
  where
    at : (t : Bool) → awaiting s.state ≡ t → head_number s.state q v ≡ 0
        → Ruled (head_number s.state q v) (head_written s.state q v) s
        (pick t (accept Plain (set_state (head_written s.state q v) s))
        (pick (eqb (head_of s.state q) 0) (judge_start q v s) (refuse 10 s)))
    at true a z = record { fault = λ e. z; mem = λ e. refl; state = λ e l. alike_refl _; kinds = refl }
    at false a z = pick-holds (Ruled _ _ s) (eqb (head_of s.state q) 0) _ _ (start-ruled q v s h a z)
        (refuse-ruled _ _ s 10 (omega arith))

class-ruled : (n v : ℕ) (s : World) → Ruled (register_fault s.state n v) (written s.state n v) s (judge_class n v s)
unfolding judge_class
class-ruled n v s = at (ltb n (hdp_class + queues)) refl
  where
    at : (t : Bool) → ltb n (hdp_class + queues) ≡ t
        → Ruled (register_fault s.state n v) (written s.state n v) s (pick t (judge_head (n - hdp_class) v s) (judge_register n v s))
    at true e =
        let h = ltb-true n (hdp_class + queues) e in
        rw (head-fault s.state n v h, head-written s.state n v h) (head-ruled (n - hdp_class) v s (omega arith))
    at false e = register-ruled n v s

-- ---- the controller carries it out

-- an engine that begins changes no table
begun-state : (n v : ℕ) (c : Controller) (m : List ℕ) → register_fault c.state n v ≡ 0
    → ((register_write n v c m).number ≡ 0) × ((register_write n v c m).mem ≡ m)
    × ((register_write n v c m).ctl.state ≡ written c.state n v)
unfolding register_write
begun-state n v c m z = rw z (refl, refl, refl)

-- its rules are the guard's where the tables are alike
register_write-carried : (n v : ℕ) (c : Controller) (m : List ℕ) (t : World) → register_fault c.state n v ≡ 0 → m ≡ t.mem
    → Alike t.state (written c.state n v) → Carried (register_write n v c m) t
register_write-carried n v c m t z e a =
    let b = begun-state n v c m z in
    record { number = b.0; mem = b.1 ∙ e; alike = rw b.2 a }

-- "all else takes effect": what the judge accepts is answered 0, and book and controller move together
pub allowed : (a v : ℕ) (s : World) (c : Controller) → Agrees s c → length s.mem ≡ desc_bytes → number_of (judge a v s).answer ≡ 0
    → Carried (unguarded_write a v c (judge a v s).world.mem) (judge a v s).world
unfolding judge
allowed a v s c g size z = at (eqb (a % 4) 0) refl z
  where
    k : ℕ
    k = (a - desc_first) / 4

    inside : (o : Outcome) → Stored k v s o → eqb (a % 4) 0 ≡ true → in_descriptors a ≡ true → number_of o.answer ≡ 0
        → Carried (unguarded_write a v c o.world.mem) o.world
    inside o w whole there e =
        let long : length o.world.mem ≡ desc_bytes = ap length (w.mem e) ∙ length-put s.mem k v ∙ size in
        rw (write-memory a v c o.world.mem long g.defined whole there)
        (record {
          number = refl;
          mem = ap (λ (m : List ℕ). put m k v) (w.mem e) ∙ put-put-same s.mem k v v
              ∙ sym (w.mem e);
          alike = rw (w.state e) g.alike;
        })

    outside : (o : Outcome) → Ruled (register_fault s.state (class_at a) v) (written s.state (class_at a) v) s o
        → eqb (a % 4) 0 ≡ true → in_descriptors a ≡ false → number_of o.answer ≡ 0
        → Carried (unguarded_write a v c o.world.mem) o.world
    outside o w whole there e =
        let long : length o.world.mem ≡ desc_bytes = ap length (w.mem e) ∙ size in
        rw (write-register a v c o.world.mem long g.defined whole there)
        (register_write-carried (class_at a) v c o.world.mem o.world (sym (fault-alike g.alike (class_at a) v) ∙ w.fault e) refl
        (alike-trans (w.state e g.here) (written-alike g.alike g.here g.there v (class_at a))))

    held : (t : Bool) → in_descriptors a ≡ t → eqb (a % 4) 0 ≡ true
        → number_of (pick t (judge_word k v s) (judge_class (class_at a) v s)).answer ≡ 0
        → Carried (unguarded_write a v c (pick t (judge_word k v s) (judge_class (class_at a) v s)).world.mem)
        (pick t (judge_word k v s) (judge_class (class_at a) v s)).world
    held true there whole e = inside (judge_word k v s) (word-stored k v s) whole there e
    held false there whole e = outside (judge_class (class_at a) v s) (class-ruled (class_at a) v s) whole there e

    at : (t : Bool) → eqb (a % 4) 0 ≡ t
        → number_of (pick t (pick (in_descriptors a) (judge_word k v s) (judge_class (class_at a) v s)) (refuse 3 s)).answer ≡ 0
        → Carried (unguarded_write a v c
        (pick t (pick (in_descriptors a) (judge_word k v s) (judge_class (class_at a) v s)) (refuse 3 s)).world.mem)
        (pick t (pick (in_descriptors a) (judge_word k v s) (judge_class (class_at a) v s)) (refuse 3 s)).world
    at true whole e = held (in_descriptors a) refl whole e
    at false whole e = absurd (omega arith)

pub judge-kinds : (a v : ℕ) (s : World) → (judge a v s).world.kinds ≡ s.kinds
unfolding judge
judge-kinds a v s =
    pick-holds (λ (o : Outcome). o.world.kinds ≡ s.kinds) (eqb (a % 4) 0) _ _
    (pick-holds (λ (o : Outcome). o.world.kinds ≡ s.kinds) (in_descriptors a) _ _ (word-stored ((a - desc_first) / 4) v s).kinds
    (class-ruled (class_at a) v s).kinds)
    refl
