-- What a register's class and the numbers of its queue decide. Assumes nothing.
--     by_class-head .. -unguarded    the choice by class number at each range of numbers; -low and -mid are the gaps between ranges
--     by_class-rest                  past the reset nothing but what the four last choices share
--     fault-hdp .. fault-offset     the number of a write at each class number that is judged
--     written-teardown .. written-rest   the table after such a write
--     head_written-zero, head_written-set, ack_written-zero, -same, -other   the cases of a write to HDP and to CP
--     tear_queue-named, tear_queue-lt the queue that a teardown names
--     head_fault-zero, ack_fault-zero, head_fault-none, teardown_fault-none, reset_fault-none, zero_fault-none   what no fault tells
use Prim.Native.Nat.{ℕ, ◌+◌, ◌*◌, ◌-◌, ◌≤◌, ◌<◌}
use mathlib.Core.Path.{◌≡◌, refl, ap, ◌∙◌}
use mathlib.Core.Logic.{◌≢◌}
use mathlib.Core.Bool.{Bool, true, false}
use mathlib.Core.List.{List}
use native.Mathlib.Nat.{add-sub_cancel_left}
use native.Mathlib.Omega.{arith}
use lib.Dec.{eqb, ltb, leb}
use borrow.Author.Tests.{eq-eqb, ne_eqb, lt-ltb, le-ltb, le-leb, lt-leb, eqb-true, eqb-false, ltb-true}
use Rattle.layout.specs.Choice.{pick, both}
use Rattle.layout.specs.Layout.{channels, queues}
use Rattle.layout.specs.Class.{hdp_class, cp_class, teardown_class, reset_class, control_class, offset_class, passed_class, unoffered_class}
use Rattle.layout.specs.Class.{unguarded_class}
use Rattle.layout.proofs.ChoiceLaws.{pick_same, want, shun}
use Rattle.registers.specs.Table.{cp_of, awaiting, set_mark, set_hdp, set_cp, set_tearing}
use Rattle.registers.specs.Rules.{teardown_done, by_class, zeroing_fault, head_fault, ack_fault, teardown_fault, reset_fault, zero_fault}
use Rattle.registers.specs.Rules.{tear_queue, head_number, teardown_number, reset_number, register_fault, head_written, ack_written}
use Rattle.registers.specs.Rules.{reset_written, written}

-- ---- by class number

module _ {A : Type 0} (n : ℕ) (head ack teardown : ℕ → A) (reset zero passed unoffered unguarded : A) where
  pub by_class-head : n < hdp_class + queues → by_class n head ack teardown reset zero passed unoffered unguarded ≡ head (n - hdp_class)
  unfolding by_class
  by_class-head h = simp (lt-ltb n (hdp_class + queues) h)

  pub by_class-low : hdp_class + queues ≤ n → n < cp_class → by_class n head ack teardown reset zero passed unoffered unguarded ≡ unguarded
  unfolding by_class
  by_class-low h g =
      simp (
        le-ltb n (hdp_class + queues) h,
        lt-leb cp_class n g,
        lt-leb teardown_class n (omega arith),
        ne_eqb n reset_class (λ e. omega arith),
        le-ltb reset_class n (omega arith),
        lt-leb passed_class n (omega arith),
        lt-leb unoffered_class n (omega arith),
      )

  pub by_class-ack : cp_class ≤ n → n < cp_class + queues
      → by_class n head ack teardown reset zero passed unoffered unguarded ≡ ack (n - cp_class)
  unfolding by_class
  by_class-ack h g = simp (le-ltb n (hdp_class + queues) (omega arith), le-leb cp_class n h, lt-ltb n (cp_class + queues) g)

  pub by_class-mid : cp_class + queues ≤ n → n < teardown_class
      → by_class n head ack teardown reset zero passed unoffered unguarded ≡ unguarded
  unfolding by_class
  by_class-mid h g =
      simp (
        le-ltb n (hdp_class + queues) (omega arith),
        le-leb cp_class n (omega arith),
        le-ltb n (cp_class + queues) h,
        lt-leb teardown_class n g,
        ne_eqb n reset_class (λ e. omega arith),
        le-ltb reset_class n (omega arith),
        lt-leb passed_class n (omega arith),
        lt-leb unoffered_class n (omega arith),
      )

  pub by_class-teardown : teardown_class ≤ n → n < reset_class
      → by_class n head ack teardown reset zero passed unoffered unguarded ≡ teardown (n - teardown_class)
  unfolding by_class
  by_class-teardown h g =
      simp (
        le-ltb n (hdp_class + queues) (omega arith),
        le-leb cp_class n (omega arith),
        le-ltb n (cp_class + queues) (omega arith),
        le-leb teardown_class n h,
        lt-ltb n reset_class g,
      )

  -- past the teardowns
  by_class-past : reset_class ≤ n → by_class n head ack teardown reset zero passed unoffered unguarded
      ≡ pick (eqb n reset_class) reset
      (pick (both (ltb reset_class n) (ltb n passed_class)) zero
      (pick (both (leb passed_class n) (ltb n unoffered_class)) passed
      (pick (both (leb unoffered_class n) (ltb n unguarded_class)) unoffered unguarded)))
  unfolding by_class
  by_class-past h =
      simp (
        le-ltb n (hdp_class + queues) (omega arith),
        le-leb cp_class n (omega arith),
        le-ltb n (cp_class + queues) (omega arith),
        le-leb teardown_class n (omega arith),
        le-ltb n reset_class h,
      )

  pub by_class-reset : n ≡ reset_class → by_class n head ack teardown reset zero passed unoffered unguarded ≡ reset
  by_class-reset h = by_class-past (omega arith) ∙ simp (eq-eqb n reset_class h)

  pub by_class-zero : reset_class < n → n < passed_class → by_class n head ack teardown reset zero passed unoffered unguarded ≡ zero
  by_class-zero h g =
      by_class-past (omega arith) ∙ simp (ne_eqb n reset_class (λ e. omega arith), lt-ltb reset_class n h, lt-ltb n passed_class g)

  pub by_class-passed : passed_class ≤ n → n < unoffered_class
      → by_class n head ack teardown reset zero passed unoffered unguarded ≡ passed
  by_class-passed h g =
      by_class-past (omega arith)
      ∙ simp (
        ne_eqb n reset_class (λ e. omega arith),
        lt-ltb reset_class n (omega arith),
        le-ltb n passed_class h,
        le-leb passed_class n h,
        lt-ltb n unoffered_class g,
      )

  pub by_class-unoffered : unoffered_class ≤ n → n < unguarded_class
      → by_class n head ack teardown reset zero passed unoffered unguarded ≡ unoffered
  by_class-unoffered h g =
      by_class-past (omega arith)
      ∙ simp (
        ne_eqb n reset_class (λ e. omega arith),
        lt-ltb reset_class n (omega arith),
        le-ltb n passed_class (omega arith),
        le-leb passed_class n (omega arith),
        le-ltb n unoffered_class h,
        le-leb unoffered_class n h,
        lt-ltb n unguarded_class g,
      )

  pub by_class-unguarded : unguarded_class ≤ n → by_class n head ack teardown reset zero passed unoffered unguarded ≡ unguarded
  by_class-unguarded h =
      by_class-past (omega arith)
      ∙ simp (
        ne_eqb n reset_class (λ e. omega arith),
        lt-ltb reset_class n (omega arith),
        le-ltb n passed_class (omega arith),
        le-leb passed_class n (omega arith),
        le-ltb n unoffered_class (omega arith),
        le-leb unoffered_class n (omega arith),
        le-ltb n unguarded_class h,
      )

pub by_class-rest : {A : Type 0} (n : ℕ) (head ack teardown : ℕ → A) (reset rest : A) → reset_class < n
    → by_class n head ack teardown reset rest rest rest rest ≡ rest
by_class-rest n head ack teardown reset rest h =
    by_class-past n head ack teardown reset rest rest rest rest (omega arith)
    ∙ simp (ne_eqb n reset_class (λ e. omega arith), pick_same)

-- ---- at each class number

module _ (t : List ℕ) (v : ℕ) where
  pub fault-hdp : (q : ℕ) → q < queues → register_fault t (hdp_class + q) v ≡ head_number t q v
  unfolding register_fault
  fault-hdp q h =
      by_class-head (hdp_class + q) _ _ _ _ _ _ _ _ (omega arith) ∙ ap (λ (k : ℕ). head_number t k v) (add-sub_cancel_left hdp_class q)

  pub fault-cp : (q : ℕ) → q < queues → register_fault t (cp_class + q) v ≡ ack_fault (awaiting t) v
  unfolding register_fault
  fault-cp q h = by_class-ack (cp_class + q) _ _ _ _ _ _ _ _ (omega arith) (omega arith)

  pub fault-teardown : (side : ℕ) → side < 2 → register_fault t (teardown_class + side) v ≡ teardown_number t (tear_queue side v) v
  unfolding register_fault
  fault-teardown side h =
      by_class-teardown (teardown_class + side) _ _ _ _ _ _ _ _ (omega arith) (omega arith)
      ∙ ap (λ (k : ℕ). teardown_number t (tear_queue k v) v) (add-sub_cancel_left teardown_class side)

  pub fault-reset : register_fault t reset_class v ≡ reset_number t v
  unfolding register_fault
  fault-reset = by_class-reset reset_class _ _ _ _ _ _ _ _ refl

  pub fault-control : register_fault t control_class v ≡ zero_fault v
  unfolding register_fault
  fault-control = by_class-zero control_class _ _ _ _ _ _ _ _ (omega arith) (omega arith)

  pub fault-offset : register_fault t offset_class v ≡ zero_fault v
  unfolding register_fault
  fault-offset = by_class-zero offset_class _ _ _ _ _ _ _ _ (omega arith) (omega arith)

  pub written-teardown : (side : ℕ) → side < 2 → written t (teardown_class + side) v ≡ set_tearing (tear_queue side v) t
  unfolding written
  written-teardown side h =
      by_class-teardown (teardown_class + side) _ _ _ _ _ _ _ _ (omega arith) (omega arith)
      ∙ ap (λ (k : ℕ). set_tearing (tear_queue k v) t) (add-sub_cancel_left teardown_class side)

  pub written-reset : written t reset_class v ≡ reset_written t
  unfolding written
  written-reset = by_class-reset reset_class _ _ _ _ _ _ _ _ refl

  pub written-rest : (n : ℕ) → reset_class < n → written t n v ≡ t
  unfolding written
  written-rest n h = by_class-rest n _ _ _ _ _ h

-- ---- a write to HDP and to CP

module _ (t : List ℕ) (q v : ℕ) where
  pub head_written-zero : awaiting t ≡ true → head_written t q v ≡ set_mark q (set_hdp q v t)
  unfolding head_written
  head_written-zero a = simp a

  pub head_written-set : awaiting t ≡ false → head_written t q v ≡ set_hdp q v t
  unfolding head_written
  head_written-set a = simp a

  pub ack_written-zero : awaiting t ≡ true → ack_written t q v ≡ set_mark (queues + q) (set_cp q v t)
  unfolding ack_written
  ack_written-zero a = simp a

  pub ack_written-same : awaiting t ≡ false → v ≡ cp_of t q → ack_written t q v ≡ set_cp q 0 t
  unfolding ack_written
  ack_written-same a e = simp (a, eq-eqb v (cp_of t q) e)

  pub ack_written-other : awaiting t ≡ false → v ≢ cp_of t q → ack_written t q v ≡ t
  unfolding ack_written
  ack_written-other a n = simp (a, ne_eqb v (cp_of t q) n)

-- ---- the queue that a teardown names

pub tear_queue-named : (side v : ℕ) → v < channels → tear_queue side v ≡ 2 * v + side
unfolding tear_queue
tear_queue-named side v h = simp (lt-ltb v channels h)

pub tear_queue-none : (side v : ℕ) → channels ≤ v → tear_queue side v ≡ side
unfolding tear_queue
tear_queue-none side v h = simp (le-ltb v channels h)

pub tear_queue-lt : (side v : ℕ) → side < 2 → tear_queue side v < queues
unfolding tear_queue
tear_queue-lt side v h = at (ltb v channels) refl
  where
    at : (b : Bool) → ltb v channels ≡ b → pick b (2 * v + side) side < queues
    at true e = omega (arith, ltb-true v channels e)
    at false e = omega arith

-- ---- what no fault tells

pub zeroing_fault-none : (v : ℕ) → zeroing_fault v ≡ 0 → v ≡ 0
zeroing_fault-none v e = eqb-true v 0 (want 5 (eqb v 0) 0 e).0

pub zero_fault-none : (v : ℕ) → zero_fault v ≡ 0 → v ≡ 0
unfolding zero_fault
zero_fault-none v e = eqb-true v 0 (want 8 (eqb v 0) 0 e).0

pub ack_fault-zero : (await : Bool) (v : ℕ) → await ≡ true → ack_fault await v ≡ 0 → v ≡ 0
unfolding ack_fault
ack_fault-zero await v a e = zeroing_fault-none v (simp a at e)

module _ (await reset tearing : Bool) (v : ℕ) where
  pub head_fault-zero : (hdp : ℕ) → await ≡ true → head_fault await reset tearing hdp v ≡ 0 → v ≡ 0
  unfolding head_fault
  head_fault-zero hdp a e = zeroing_fault-none v (simp a at e)

  pub head_fault-none : (hdp : ℕ) → await ≡ false → head_fault await reset tearing hdp v ≡ 0
      → (reset ≡ false) × (tearing ≡ false) × (v ≢ 0) × (hdp ≡ 0)
  unfolding head_fault
  head_fault-none hdp a e =
      let b = shun 6 reset _ (simp a at e) in
      let c = shun 7 tearing _ b.1 in
      let d = shun 8 (eqb v 0) _ c.1 in
      (b.0, c.0, eqb-false v 0 d.0, eqb-true hdp 0 (want 9 (eqb hdp 0) 0 d.1).0)

  pub teardown_fault-none : (cp : ℕ) → teardown_fault await reset tearing cp v ≡ 0
      → (await ≡ false) × (reset ≡ false) × (tearing ≡ false) × (v < channels) × (cp ≢ teardown_done)
  unfolding teardown_fault
  teardown_fault-none cp e =
      let a = shun 5 await _ e in
      let b = shun 6 reset _ a.1 in
      let c = shun 7 tearing _ b.1 in
      let d = want 8 (ltb v channels) _ c.1 in
      (a.0, b.0, c.0, ltb-true v channels d.0, eqb-false cp teardown_done (shun 9 (eqb cp teardown_done) 0 d.1).0)

  pub reset_fault-none : reset_fault await reset tearing v ≡ 0 → (await ≡ false) × (reset ≡ false) × (tearing ≡ false) × (v ≡ 1)
  unfolding reset_fault
  reset_fault-none e =
      let a = shun 5 await _ e in
      let b = shun 6 reset _ a.1 in
      let c = shun 7 tearing _ b.1 in
      (a.0, b.0, c.0, eqb-true v 1 (want 8 (eqb v 1) 0 c.1).0)
