-- What each named change of a table leaves of each part, and what the loading of the registers does. Assumes nothing.
--     length-set_hdp ..               no change makes a table longer or shorter
--     READER-CHANGE                  a part after a change of another part: hdp_of-set_marks, awaiting-set_cp, heads_of-set_hdp ..
--     -same, -other                  the part that was changed, at that queue and at another
-- (set_mark is a set_marks, set_tearing and clear_tearing are a set_tearings: the laws of those hold of these as they stand.)
--     awaiting-all, all-awaiting     nothing is awaited exactly when every mark is set
--     awaiting-bit, bits-awaiting    the same, mark by mark
--     any_tearing-zero, any_tearing-none   no teardown is pending: then none is for a queue
--     clear_bit-none                  no bit of 0 is cleared
--     flags_fit-bounds, bounds-flags_fit   a table that holds flags, in numbers
--     flags_fit-CHANGE                each change keeps that
--     is_device-head, -register       a head is not the device's, an HDP or a CP is
--     get_or-loaded                    word by word: the device's registers are of one table, all else of the other
--     READER-loaded                  so each part is
use Prim.Native.Nat.{ℕ, zero, suc, ◌+◌, ◌-◌, ◌/◌, ◌%◌, ◌^◌, ◌≤◌, ◌<◌, min}
use mathlib.Core.Path.{◌≡◌, refl, ap, ◌∙◌, sym}
use mathlib.Core.Logic.{◌≢◌}
use mathlib.Core.Bool.{Bool, true, false, not}
use mathlib.Core.List.{List, [], ◌∷◌}
use native.Mathlib.Nat.{zero-div, zero-add, add-zero}
use native.Mathlib.Omega.{arith}
use lib.Dec.{eqb, ltb}
use lib.ListN.{length, get_or, set, take, drop, length-set, length-take, get_or-eq_default}
use lib.Seq.{get_or-set_same, get_or-set_other, take-set-le, take-set-lt, drop-set-add, get_or-take, get_or-drop, ext_get_or}
use borrow.Author.Tests.{eq-eqb, ne_eqb, lt-ltb, le-leb, lt-leb, eqb-true, ltb-true, ltb-false, leb-true, not-false}
use Rattle.layout.specs.Choice.{pick}
use Rattle.layout.specs.Bits.{bit, clear_bit}
use Rattle.layout.specs.Layout.{queues, marks}
use Rattle.layout.proofs.ChoiceLaws.{both_left, both_right, clash}
use Rattle.layout.proofs.BitLaws.{bit-zero, bit-suc, bit-set_bit-same, bit-set_bit-other, bit-clear_bit-same, bit-clear_bit-other}
use Rattle.layout.proofs.BitLaws.{clear-case}
use Rattle.layout.proofs.BitLaws.{set_bit-lt, clear_bit-lt, bits-same}
use Rattle.registers.specs.Table.{state_words, hdp_at, cp_at, marks_at, tearing_at, reset_at, bit_at, head_of, hdp_of, cp_of, marks_of}
use Rattle.registers.specs.Table.{tearings_of, tearing_of, all_marks, awaiting, any_tearing, reset_of, bit_of, set_head, set_hdp, set_cp}
use Rattle.registers.specs.Table.{set_marks, set_mark, set_tearings, set_tearing, clear_tearing, set_reset, set_reset_bit, unmarked}
use Rattle.registers.specs.Table.{heads_of}
use Rattle.registers.specs.Table.{cps_of, flags_fit, is_device, loaded_from, loaded}

-- ---- a store

other : (t : List ℕ) (k v j : ℕ) → j ≢ k → get_or (set t k v) j 0 ≡ get_or t j 0
other t k v j h = get_or-set_other t k j v 0 h

same : (t : List ℕ) (k v : ℕ) → k < length t → get_or (set t k v) k 0 ≡ v
same t k v h = get_or-set_same t k v 0 h

-- what holds of the word before and of the word stored holds of the word afterwards
stored : (P : ℕ → Type 0) (t : List ℕ) (k v : ℕ) → P (get_or t k 0) → P v → P (get_or (set t k v) k 0)
stored P [] k v p q = p
stored P (x ∷ t) zero v p q = q
stored P (x ∷ t) (suc k) v p q = stored P t k v p q

awaiting-set : (t : List ℕ) (k v : ℕ) → marks_at ≢ k → awaiting (set t k v) ≡ awaiting t
unfolding awaiting
awaiting-set t k v h = ap (λ (m : ℕ). not (eqb m all_marks)) (other t k v marks_at h)

tearing_of-set : (t : List ℕ) (k v j : ℕ) → tearing_at ≢ k → tearing_of (set t k v) j ≡ tearing_of t j
tearing_of-set t k v j h = ap (bit j) (other t k v tearing_at h)

reset_of-set : (t : List ℕ) (k v : ℕ) → reset_at ≢ k → reset_of (set t k v) ≡ reset_of t
unfolding reset_of
reset_of-set t k v h = ap (λ (m : ℕ). eqb m 1) (other t k v reset_at h)

bit_of-set : (t : List ℕ) (k v : ℕ) → bit_at ≢ k → bit_of (set t k v) ≡ bit_of t
unfolding bit_of
bit_of-set t k v h = ap (bit 0) (other t k v bit_at h)

-- the CPs after a store past them
cps_of-past : (t : List ℕ) (n v : ℕ) → queues ≤ n → cps_of (set t (cp_at 0 + n) v) ≡ cps_of t
cps_of-past t n v h = ap (take queues) (drop-set-add (cp_at 0) t n v) ∙ take-set-le queues (drop (cp_at 0) t) n v h

-- ---- by queue number

pub get_or-heads_of : (t : List ℕ) (q : ℕ) → q < queues → get_or (heads_of t) q 0 ≡ head_of t q
get_or-heads_of t q h = get_or-take queues t q 0 h

pub get_or-cps_of : (t : List ℕ) (q : ℕ) → q < queues → get_or (cps_of t) q 0 ≡ cp_of t q
get_or-cps_of t q h = get_or-take queues (drop (cp_at 0) t) q 0 h ∙ get_or-drop (cp_at 0) t q 0

-- ---- the head of queue q is set

module _ (t : List ℕ) (q p : ℕ) where
  pub length-set_head : length (set_head q p t) ≡ length t
  length-set_head = length-set t q p

  pub head_of-set_head-same : length t ≡ state_words → q < queues → head_of (set_head q p t) q ≡ p
  head_of-set_head-same l h = same t q p (omega arith)

  pub head_of-set_head-other : (j : ℕ) → j ≢ q → head_of (set_head q p t) j ≡ head_of t j
  head_of-set_head-other j n = other t q p j n

  pub heads_of-set_head : q < queues → heads_of (set_head q p t) ≡ set (heads_of t) q p
  heads_of-set_head h = take-set-lt queues t q p h

  pub hdp_of-set_head : (j : ℕ) → q < queues → hdp_of (set_head q p t) j ≡ hdp_of t j
  hdp_of-set_head j h = other t q p (hdp_at j) (λ e. omega arith)

  pub marks_of-set_head : q < queues → marks_of (set_head q p t) ≡ marks_of t
  marks_of-set_head h = other t q p marks_at (λ e. omega arith)

  pub tearings_of-set_head : q < queues → tearings_of (set_head q p t) ≡ tearings_of t
  tearings_of-set_head h = other t q p tearing_at (λ e. omega arith)

  pub reset_of-set_head : q < queues → reset_of (set_head q p t) ≡ reset_of t
  reset_of-set_head h = reset_of-set t q p (λ e. omega arith)

-- ---- HDP of queue q is set

module _ (t : List ℕ) (q v : ℕ) where
  pub length-set_hdp : length (set_hdp q v t) ≡ length t
  length-set_hdp = length-set t (hdp_at q) v

  pub hdp_of-set_hdp-same : length t ≡ state_words → q < queues → hdp_of (set_hdp q v t) q ≡ v
  hdp_of-set_hdp-same l h = same t (hdp_at q) v (omega arith)

  pub hdp_of-set_hdp-other : (j : ℕ) → j ≢ q → hdp_of (set_hdp q v t) j ≡ hdp_of t j
  hdp_of-set_hdp-other j n = other t (hdp_at q) v (hdp_at j) (λ e. n (omega arith))

  pub head_of-set_hdp : (j : ℕ) → j < queues → head_of (set_hdp q v t) j ≡ head_of t j
  head_of-set_hdp j h = other t (hdp_at q) v j (λ e. omega arith)

  pub heads_of-set_hdp : heads_of (set_hdp q v t) ≡ heads_of t
  heads_of-set_hdp = take-set-le queues t (hdp_at q) v (omega arith)

  pub cp_of-set_hdp : (j : ℕ) → q < queues → cp_of (set_hdp q v t) j ≡ cp_of t j
  cp_of-set_hdp j h = other t (hdp_at q) v (cp_at j) (λ e. omega arith)

  pub marks_of-set_hdp : q < queues → marks_of (set_hdp q v t) ≡ marks_of t
  marks_of-set_hdp h = other t (hdp_at q) v marks_at (λ e. omega arith)

  pub awaiting-set_hdp : q < queues → awaiting (set_hdp q v t) ≡ awaiting t
  awaiting-set_hdp h = awaiting-set t (hdp_at q) v (λ e. omega arith)

  pub tearings_of-set_hdp : q < queues → tearings_of (set_hdp q v t) ≡ tearings_of t
  tearings_of-set_hdp h = other t (hdp_at q) v tearing_at (λ e. omega arith)

  pub tearing_of-set_hdp : (j : ℕ) → q < queues → tearing_of (set_hdp q v t) j ≡ tearing_of t j
  tearing_of-set_hdp j h = tearing_of-set t (hdp_at q) v j (λ e. omega arith)

  pub reset_of-set_hdp : q < queues → reset_of (set_hdp q v t) ≡ reset_of t
  reset_of-set_hdp h = reset_of-set t (hdp_at q) v (λ e. omega arith)

  pub bit_of-set_hdp : q < queues → bit_of (set_hdp q v t) ≡ bit_of t
  bit_of-set_hdp h = bit_of-set t (hdp_at q) v (λ e. omega arith)

-- ---- CP of queue q is set

module _ (t : List ℕ) (q v : ℕ) where
  pub length-set_cp : length (set_cp q v t) ≡ length t
  length-set_cp = length-set t (cp_at q) v

  pub cp_of-set_cp-same : length t ≡ state_words → q < queues → cp_of (set_cp q v t) q ≡ v
  cp_of-set_cp-same l h = same t (cp_at q) v (omega arith)

  pub cp_of-set_cp-other : (j : ℕ) → j ≢ q → cp_of (set_cp q v t) j ≡ cp_of t j
  cp_of-set_cp-other j n = other t (cp_at q) v (cp_at j) (λ e. n (omega arith))

  pub head_of-set_cp : (j : ℕ) → j < queues → head_of (set_cp q v t) j ≡ head_of t j
  head_of-set_cp j h = other t (cp_at q) v j (λ e. omega arith)

  pub heads_of-set_cp : heads_of (set_cp q v t) ≡ heads_of t
  heads_of-set_cp = take-set-le queues t (cp_at q) v (omega arith)

  pub hdp_of-set_cp : (j : ℕ) → j < queues → hdp_of (set_cp q v t) j ≡ hdp_of t j
  hdp_of-set_cp j h = other t (cp_at q) v (hdp_at j) (λ e. omega arith)

  pub marks_of-set_cp : q < queues → marks_of (set_cp q v t) ≡ marks_of t
  marks_of-set_cp h = other t (cp_at q) v marks_at (λ e. omega arith)

  pub awaiting-set_cp : q < queues → awaiting (set_cp q v t) ≡ awaiting t
  awaiting-set_cp h = awaiting-set t (cp_at q) v (λ e. omega arith)

  pub tearings_of-set_cp : q < queues → tearings_of (set_cp q v t) ≡ tearings_of t
  tearings_of-set_cp h = other t (cp_at q) v tearing_at (λ e. omega arith)

  pub tearing_of-set_cp : (j : ℕ) → q < queues → tearing_of (set_cp q v t) j ≡ tearing_of t j
  tearing_of-set_cp j h = tearing_of-set t (cp_at q) v j (λ e. omega arith)

  pub reset_of-set_cp : q < queues → reset_of (set_cp q v t) ≡ reset_of t
  reset_of-set_cp h = reset_of-set t (cp_at q) v (λ e. omega arith)

  pub bit_of-set_cp : q < queues → bit_of (set_cp q v t) ≡ bit_of t
  bit_of-set_cp h = bit_of-set t (cp_at q) v (λ e. omega arith)

-- ---- the marks are others

module _ (t : List ℕ) (m : ℕ) where
  pub length-set_marks : length (set_marks m t) ≡ length t
  length-set_marks = length-set t marks_at m

  pub marks_of-set_marks : length t ≡ state_words → marks_of (set_marks m t) ≡ m
  marks_of-set_marks l = same t marks_at m (omega arith)

  pub head_of-set_marks : (j : ℕ) → j < queues → head_of (set_marks m t) j ≡ head_of t j
  head_of-set_marks j h = other t marks_at m j (λ e. omega arith)

  pub heads_of-set_marks : heads_of (set_marks m t) ≡ heads_of t
  heads_of-set_marks = take-set-le queues t marks_at m (omega arith)

  pub hdp_of-set_marks : (j : ℕ) → j < queues → hdp_of (set_marks m t) j ≡ hdp_of t j
  hdp_of-set_marks j h = other t marks_at m (hdp_at j) (λ e. omega arith)

  pub cp_of-set_marks : (j : ℕ) → j < queues → cp_of (set_marks m t) j ≡ cp_of t j
  cp_of-set_marks j h = other t marks_at m (cp_at j) (λ e. omega arith)

  pub cps_of-set_marks : cps_of (set_marks m t) ≡ cps_of t
  cps_of-set_marks = cps_of-past t queues m (omega arith)

  pub tearings_of-set_marks : tearings_of (set_marks m t) ≡ tearings_of t
  tearings_of-set_marks = other t marks_at m tearing_at (λ e. omega arith)

  pub tearing_of-set_marks : (j : ℕ) → tearing_of (set_marks m t) j ≡ tearing_of t j
  tearing_of-set_marks j = tearing_of-set t marks_at m j (λ e. omega arith)

  pub reset_of-set_marks : reset_of (set_marks m t) ≡ reset_of t
  reset_of-set_marks = reset_of-set t marks_at m (λ e. omega arith)

  pub bit_of-set_marks : bit_of (set_marks m t) ≡ bit_of t
  bit_of-set_marks = bit_of-set t marks_at m (λ e. omega arith)

-- ---- the pending teardowns are others

module _ (t : List ℕ) (m : ℕ) where
  pub length-set_tearings : length (set_tearings m t) ≡ length t
  length-set_tearings = length-set t tearing_at m

  pub tearings_of-set_tearings : length t ≡ state_words → tearings_of (set_tearings m t) ≡ m
  tearings_of-set_tearings l = same t tearing_at m (omega arith)

  pub head_of-set_tearings : (j : ℕ) → j < queues → head_of (set_tearings m t) j ≡ head_of t j
  head_of-set_tearings j h = other t tearing_at m j (λ e. omega arith)

  pub heads_of-set_tearings : heads_of (set_tearings m t) ≡ heads_of t
  heads_of-set_tearings = take-set-le queues t tearing_at m (omega arith)

  pub hdp_of-set_tearings : (j : ℕ) → j < queues → hdp_of (set_tearings m t) j ≡ hdp_of t j
  hdp_of-set_tearings j h = other t tearing_at m (hdp_at j) (λ e. omega arith)

  pub cp_of-set_tearings : (j : ℕ) → j < queues → cp_of (set_tearings m t) j ≡ cp_of t j
  cp_of-set_tearings j h = other t tearing_at m (cp_at j) (λ e. omega arith)

  pub cps_of-set_tearings : cps_of (set_tearings m t) ≡ cps_of t
  cps_of-set_tearings = cps_of-past t (queues + 1) m (omega arith)

  pub marks_of-set_tearings : marks_of (set_tearings m t) ≡ marks_of t
  marks_of-set_tearings = other t tearing_at m marks_at (λ e. omega arith)

  pub awaiting-set_tearings : awaiting (set_tearings m t) ≡ awaiting t
  awaiting-set_tearings = awaiting-set t tearing_at m (λ e. omega arith)

  pub reset_of-set_tearings : reset_of (set_tearings m t) ≡ reset_of t
  reset_of-set_tearings = reset_of-set t tearing_at m (λ e. omega arith)

  pub bit_of-set_tearings : bit_of (set_tearings m t) ≡ bit_of t
  bit_of-set_tearings = bit_of-set t tearing_at m (λ e. omega arith)

-- ---- teardown becomes pending for queue q, or is over

module _ (t : List ℕ) (q : ℕ) (l : length t ≡ state_words) where
  pub tearing_of-set_tearing-same : tearing_of (set_tearing q t) q ≡ true
  tearing_of-set_tearing-same = ap (bit q) (tearings_of-set_tearings t _ l) ∙ bit-set_bit-same q (tearings_of t)

  pub tearing_of-set_tearing-other : (j : ℕ) → j ≢ q → tearing_of (set_tearing q t) j ≡ tearing_of t j
  tearing_of-set_tearing-other j n = ap (bit j) (tearings_of-set_tearings t _ l) ∙ bit-set_bit-other j q (tearings_of t) n

  pub tearing_of-clear_tearing-same : tearing_of (clear_tearing q t) q ≡ false
  tearing_of-clear_tearing-same = ap (bit q) (tearings_of-set_tearings t _ l) ∙ bit-clear_bit-same q (tearings_of t)

  pub tearing_of-clear_tearing-other : (j : ℕ) → j ≢ q → tearing_of (clear_tearing q t) j ≡ tearing_of t j
  tearing_of-clear_tearing-other j n = ap (bit j) (tearings_of-set_tearings t _ l) ∙ bit-clear_bit-other j q (tearings_of t) n

-- ---- reset is pending, or not

module _ (t : List ℕ) (n : ℕ) where
  pub length-set_reset : length (set_reset n t) ≡ length t
  length-set_reset = length-set t reset_at n

  pub reset_of-set_reset : length t ≡ state_words → reset_of (set_reset n t) ≡ eqb n 1
  unfolding reset_of
  reset_of-set_reset l = ap (λ (m : ℕ). eqb m 1) (same t reset_at n (omega arith))

  pub head_of-set_reset : (j : ℕ) → j < queues → head_of (set_reset n t) j ≡ head_of t j
  head_of-set_reset j h = other t reset_at n j (λ e. omega arith)

  pub heads_of-set_reset : heads_of (set_reset n t) ≡ heads_of t
  heads_of-set_reset = take-set-le queues t reset_at n (omega arith)

  pub hdp_of-set_reset : (j : ℕ) → j < queues → hdp_of (set_reset n t) j ≡ hdp_of t j
  hdp_of-set_reset j h = other t reset_at n (hdp_at j) (λ e. omega arith)

  pub cp_of-set_reset : (j : ℕ) → j < queues → cp_of (set_reset n t) j ≡ cp_of t j
  cp_of-set_reset j h = other t reset_at n (cp_at j) (λ e. omega arith)

  pub cps_of-set_reset : cps_of (set_reset n t) ≡ cps_of t
  cps_of-set_reset = cps_of-past t (queues + 2) n (omega arith)

  pub marks_of-set_reset : marks_of (set_reset n t) ≡ marks_of t
  marks_of-set_reset = other t reset_at n marks_at (λ e. omega arith)

  pub awaiting-set_reset : awaiting (set_reset n t) ≡ awaiting t
  awaiting-set_reset = awaiting-set t reset_at n (λ e. omega arith)

  pub tearings_of-set_reset : tearings_of (set_reset n t) ≡ tearings_of t
  tearings_of-set_reset = other t reset_at n tearing_at (λ e. omega arith)

  pub tearing_of-set_reset : (j : ℕ) → tearing_of (set_reset n t) j ≡ tearing_of t j
  tearing_of-set_reset j = tearing_of-set t reset_at n j (λ e. omega arith)

  pub bit_of-set_reset : bit_of (set_reset n t) ≡ bit_of t
  bit_of-set_reset = bit_of-set t reset_at n (λ e. omega arith)

-- ---- the reset bit is set, or not

module _ (t : List ℕ) (n : ℕ) where
  pub length-set_reset_bit : length (set_reset_bit n t) ≡ length t
  length-set_reset_bit = length-set t bit_at n

  pub bit_of-set_reset_bit : length t ≡ state_words → bit_of (set_reset_bit n t) ≡ bit 0 n
  unfolding bit_of
  bit_of-set_reset_bit l = ap (bit 0) (same t bit_at n (omega arith))

  pub head_of-set_reset_bit : (j : ℕ) → j < queues → head_of (set_reset_bit n t) j ≡ head_of t j
  head_of-set_reset_bit j h = other t bit_at n j (λ e. omega arith)

  pub heads_of-set_reset_bit : heads_of (set_reset_bit n t) ≡ heads_of t
  heads_of-set_reset_bit = take-set-le queues t bit_at n (omega arith)

  pub hdp_of-set_reset_bit : (j : ℕ) → j < queues → hdp_of (set_reset_bit n t) j ≡ hdp_of t j
  hdp_of-set_reset_bit j h = other t bit_at n (hdp_at j) (λ e. omega arith)

  pub cp_of-set_reset_bit : (j : ℕ) → j < queues → cp_of (set_reset_bit n t) j ≡ cp_of t j
  cp_of-set_reset_bit j h = other t bit_at n (cp_at j) (λ e. omega arith)

  pub marks_of-set_reset_bit : marks_of (set_reset_bit n t) ≡ marks_of t
  marks_of-set_reset_bit = other t bit_at n marks_at (λ e. omega arith)

  pub awaiting-set_reset_bit : awaiting (set_reset_bit n t) ≡ awaiting t
  awaiting-set_reset_bit = awaiting-set t bit_at n (λ e. omega arith)

  pub tearing_of-set_reset_bit : (j : ℕ) → tearing_of (set_reset_bit n t) j ≡ tearing_of t j
  tearing_of-set_reset_bit j = tearing_of-set t bit_at n j (λ e. omega arith)

  pub reset_of-set_reset_bit : reset_of (set_reset_bit n t) ≡ reset_of t
  reset_of-set_reset_bit = reset_of-set t bit_at n (λ e. omega arith)

-- ---- all registers await zero again

module _ (t : List ℕ) where
  pub length-unmarked : length (unmarked t) ≡ length t
  length-unmarked = length-set_reset (set_marks 0 t) 0 ∙ length-set_marks t 0

  pub marks_of-unmarked : length t ≡ state_words → marks_of (unmarked t) ≡ 0
  marks_of-unmarked l = marks_of-set_reset (set_marks 0 t) 0 ∙ marks_of-set_marks t 0 l

  pub awaiting-unmarked : length t ≡ state_words → awaiting (unmarked t) ≡ true
  unfolding awaiting
  awaiting-unmarked l = ap (λ (m : ℕ). not (eqb m all_marks)) (marks_of-unmarked l)

  pub reset_of-unmarked : length t ≡ state_words → reset_of (unmarked t) ≡ false
  reset_of-unmarked l = reset_of-set_reset (set_marks 0 t) 0 (length-set_marks t 0 ∙ l)

  pub heads_of-unmarked : heads_of (unmarked t) ≡ heads_of t
  heads_of-unmarked = heads_of-set_reset (set_marks 0 t) 0 ∙ heads_of-set_marks t 0

  pub hdp_of-unmarked : (j : ℕ) → j < queues → hdp_of (unmarked t) j ≡ hdp_of t j
  hdp_of-unmarked j h = hdp_of-set_reset (set_marks 0 t) 0 j h ∙ hdp_of-set_marks t 0 j h

  pub cp_of-unmarked : (j : ℕ) → j < queues → cp_of (unmarked t) j ≡ cp_of t j
  cp_of-unmarked j h = cp_of-set_reset (set_marks 0 t) 0 j h ∙ cp_of-set_marks t 0 j h

  pub cps_of-unmarked : cps_of (unmarked t) ≡ cps_of t
  cps_of-unmarked = cps_of-set_reset (set_marks 0 t) 0 ∙ cps_of-set_marks t 0

  pub tearings_of-unmarked : tearings_of (unmarked t) ≡ tearings_of t
  tearings_of-unmarked = tearings_of-set_reset (set_marks 0 t) 0 ∙ tearings_of-set_marks t 0

  pub tearing_of-unmarked : (j : ℕ) → tearing_of (unmarked t) j ≡ tearing_of t j
  tearing_of-unmarked j = tearing_of-set_reset (set_marks 0 t) 0 j ∙ tearing_of-set_marks t 0 j

-- ---- what is awaited, and what is pending

pub awaiting-all : (t : List ℕ) → awaiting t ≡ false → marks_of t ≡ all_marks
unfolding awaiting
awaiting-all t e = eqb-true (marks_of t) all_marks (not-false _ e)

pub all-awaiting : (t : List ℕ) → marks_of t ≡ all_marks → awaiting t ≡ false
unfolding awaiting
all-awaiting t e = simp (eq-eqb (marks_of t) all_marks e)

pow_pos : (n : ℕ) → 0 < 2 ^ n
pow_pos zero = omega arith
pow_pos (suc n) = let i : 0 < 2 ^ n = pow_pos n in omega arith

-- every bit of 2 ^ n - 1 below n
bit-ones : (n k : ℕ) → k < n → bit k (2 ^ n - 1) ≡ true
bit-ones zero k h = absurd (omega arith)
bit-ones (suc n) zero h = let p : 0 < 2 ^ n = pow_pos n in bit-zero (2 ^ suc n - 1) ∙ eq-eqb ((2 ^ suc n - 1) % 2) 1 (omega arith)
bit-ones (suc n) (suc k) h =
    let e : (2 ^ suc n - 1) / 2 ≡ 2 ^ n - 1 = omega arith in
    bit-suc k (2 ^ suc n - 1) ∙ ap (bit k) e ∙ bit-ones n k (omega arith)

pub awaiting-bit : (t : List ℕ) (k : ℕ) → awaiting t ≡ false → k < marks → bit k (marks_of t) ≡ true
awaiting-bit t k e h = ap (bit k) (awaiting-all t e) ∙ bit-ones marks k h

pub bits-awaiting : (t : List ℕ) → marks_of t < 2 ^ marks → ((k : ℕ) → k < marks → bit k (marks_of t) ≡ true) → awaiting t ≡ false
bits-awaiting t b f =
    all-awaiting t (bits-same marks (marks_of t) all_marks b (omega arith) (λ k h. f k h ∙ sym (bit-ones marks k h)))

pub bit-none : (k : ℕ) → bit k 0 ≡ false
bit-none k = ap (λ (n : ℕ). eqb (n % 2) 1) (zero-div (2 ^ k))

pub clear_bit-none : (k : ℕ) → clear_bit k 0 ≡ 0
clear_bit-none k = clear-case (λ x. x ≡ 0) k 0 (λ e. clash e (bit-none k)) (λ e. refl)

pub any_tearing-zero : (t : List ℕ) → any_tearing t ≡ false → tearings_of t ≡ 0
unfolding any_tearing
any_tearing-zero t e = eqb-true (tearings_of t) 0 (not-false _ e)

pub any_tearing-none : (t : List ℕ) (q : ℕ) → any_tearing t ≡ false → tearing_of t q ≡ false
any_tearing-none t q e = ap (bit q) (any_tearing-zero t e) ∙ bit-none q

-- ---- a table that holds flags

pub flags_fit-bounds : (t : List ℕ) → flags_fit t ≡ true
    → (marks_of t < 2 ^ marks) × (tearings_of t < 2 ^ queues) × (get_or t reset_at 0 ≤ 1)
unfolding flags_fit
flags_fit-bounds t e =
    let rest = both_right (ltb (marks_of t) (2 ^ marks)) _ e in (
      ltb-true _ _ (both_left (ltb (marks_of t) (2 ^ marks)) _ e),
      ltb-true _ _ (both_left (ltb (tearings_of t) (2 ^ queues)) _ rest),
      leb-true _ _ (both_right (ltb (tearings_of t) (2 ^ queues)) _ rest),
    )

pub bounds-flags_fit : (t : List ℕ) → marks_of t < 2 ^ marks → tearings_of t < 2 ^ queues → get_or t reset_at 0 ≤ 1 → flags_fit t ≡ true
unfolding flags_fit
bounds-flags_fit t a b c = simp (lt-ltb _ _ a, lt-ltb _ _ b, le-leb _ _ c)

flags_fit-set : (t : List ℕ) (k v : ℕ) → marks_at ≢ k → tearing_at ≢ k → reset_at ≢ k → flags_fit (set t k v) ≡ flags_fit t
unfolding flags_fit
flags_fit-set t k v a b c = simp (other t k v marks_at a, other t k v tearing_at b, other t k v reset_at c)

module _ (t : List ℕ) (q v : ℕ) (h : q < queues) where
  pub flags_fit-set_head : flags_fit (set_head q v t) ≡ flags_fit t
  flags_fit-set_head = flags_fit-set t q v (λ e. omega arith) (λ e. omega arith) (λ e. omega arith)

  pub flags_fit-set_hdp : flags_fit (set_hdp q v t) ≡ flags_fit t
  flags_fit-set_hdp = flags_fit-set t (hdp_at q) v (λ e. omega arith) (λ e. omega arith) (λ e. omega arith)

  pub flags_fit-set_cp : flags_fit (set_cp q v t) ≡ flags_fit t
  flags_fit-set_cp = flags_fit-set t (cp_at q) v (λ e. omega arith) (λ e. omega arith) (λ e. omega arith)

pub flags_fit-set_reset_bit : (t : List ℕ) (n : ℕ) → flags_fit (set_reset_bit n t) ≡ flags_fit t
flags_fit-set_reset_bit t n = flags_fit-set t bit_at n (λ e. omega arith) (λ e. omega arith) (λ e. omega arith)

module _ (t : List ℕ) (fit : flags_fit t ≡ true) where
  pub flags_fit-set_marks : (m : ℕ) → m < 2 ^ marks → flags_fit (set_marks m t) ≡ true
  flags_fit-set_marks m h =
      let b = flags_fit-bounds t fit in
      bounds-flags_fit (set_marks m t)
      (stored (λ x. x < 2 ^ marks) t marks_at m b.0 h)
      (rw (tearings_of-set_marks t m) b.1)
      (rw (other t marks_at m reset_at (λ e. omega arith)) b.2)

  pub flags_fit-set_tearings : (m : ℕ) → m < 2 ^ queues → flags_fit (set_tearings m t) ≡ true
  flags_fit-set_tearings m h =
      let b = flags_fit-bounds t fit in
      bounds-flags_fit (set_tearings m t)
      (rw (marks_of-set_tearings t m) b.0)
      (stored (λ x. x < 2 ^ queues) t tearing_at m b.1 h)
      (rw (other t tearing_at m reset_at (λ e. omega arith)) b.2)

  pub flags_fit-set_reset : (n : ℕ) → n ≤ 1 → flags_fit (set_reset n t) ≡ true
  flags_fit-set_reset n h =
      let b = flags_fit-bounds t fit in
      bounds-flags_fit (set_reset n t)
      (rw (marks_of-set_reset t n) b.0)
      (rw (tearings_of-set_reset t n) b.1)
      (stored (λ x. x ≤ 1) t reset_at n b.2 h)

  pub flags_fit-set_mark : (k : ℕ) → k < marks → flags_fit (set_mark k t) ≡ true
  flags_fit-set_mark k h = flags_fit-set_marks _ (set_bit-lt marks k (marks_of t) h (flags_fit-bounds t fit).0)

  pub flags_fit-set_tearing : (q : ℕ) → q < queues → flags_fit (set_tearing q t) ≡ true
  flags_fit-set_tearing q h = flags_fit-set_tearings _ (set_bit-lt queues q (tearings_of t) h (flags_fit-bounds t fit).1)

  pub flags_fit-clear_tearing : (q : ℕ) → flags_fit (clear_tearing q t) ≡ true
  flags_fit-clear_tearing q = flags_fit-set_tearings _ (clear_bit-lt queues q (tearings_of t) (flags_fit-bounds t fit).1)

pub flags_fit-unmarked : (t : List ℕ) → flags_fit t ≡ true → flags_fit (unmarked t) ≡ true
flags_fit-unmarked t fit = flags_fit-set_reset (set_marks 0 t) (flags_fit-set_marks t fit 0 (omega arith)) 0 (omega arith)

-- ---- the registers are loaded

length_from : (k : ℕ) (c b : List ℕ) → length (loaded_from k c b) ≡ length b
length_from k c [] = refl
length_from k c (x ∷ b) = ap suc (length_from (k + 1) c b)

pub length-loaded : (c b : List ℕ) → length (loaded c b) ≡ length b
unfolding loaded
length-loaded c b = length_from 0 c b

get_or-from : (k : ℕ) (c b : List ℕ) (j : ℕ) → j < length b
    → get_or (loaded_from k c b) j 0 ≡ pick (is_device (k + j)) (get_or c (k + j) 0) (get_or b j 0)
get_or-from k c [] j h = absurd (omega arith)
get_or-from k c (x ∷ b) zero h = ap (λ (n : ℕ). pick (is_device n) (get_or c n 0) x) (sym (add-zero k))
get_or-from k c (x ∷ b) (suc j) h =
    let e : k + 1 + j ≡ k + suc j = omega arith in
    get_or-from (k + 1) c b j (omega arith) ∙ ap (λ (n : ℕ). pick (is_device n) (get_or c n 0) (get_or b j 0)) e

pub get_or-loaded : (c b : List ℕ) (k : ℕ) → k < length b → get_or (loaded c b) k 0 ≡ pick (is_device k) (get_or c k 0) (get_or b k 0)
unfolding loaded
get_or-loaded c b k h = get_or-from 0 c b k h ∙ ap (λ (n : ℕ). pick (is_device n) (get_or c n 0) (get_or b k 0)) (zero-add k)

-- which words are the device's
pub is_device-register : (k : ℕ) → hdp_at 0 ≤ k → k < marks_at → is_device k ≡ true
is_device-register k h g = simp (le-leb (hdp_at 0) k h, lt-ltb k marks_at g)

pub is_device-head : (k : ℕ) → k < queues → is_device k ≡ false
is_device-head k h = simp (lt-leb (hdp_at 0) k h, ne_eqb k bit_at (λ e. omega arith))

-- the parts of a table with the registers of c and all else of b
module _ (c b : List ℕ) where
  of-device : (k : ℕ) → is_device k ≡ true → k < length b → get_or (loaded c b) k 0 ≡ get_or c k 0
  of-device k d h = get_or-loaded c b k h ∙ ap (λ (t : Bool). pick t (get_or c k 0) (get_or b k 0)) d

  of-book : (k : ℕ) → is_device k ≡ false → get_or (loaded c b) k 0 ≡ get_or b k 0
  of-book k d = at (ltb k (length b)) refl
    where
      at : (t : Bool) → ltb k (length b) ≡ t → get_or (loaded c b) k 0 ≡ get_or b k 0
      at true e = get_or-loaded c b k (ltb-true k (length b) e) ∙ ap (λ (t : Bool). pick t (get_or c k 0) (get_or b k 0)) d
      at false e =
          let g : length b ≤ k = ltb-false k (length b) e in
          get_or-eq_default (loaded c b) 0 {n = k} (omega (arith, length-loaded c b)) ∙ sym (get_or-eq_default b 0 {n = k} g)

  pub head_of-loaded : (q : ℕ) → q < queues → head_of (loaded c b) q ≡ head_of b q
  head_of-loaded q h = of-book q (is_device-head q h)

  pub heads_of-loaded : heads_of (loaded c b) ≡ heads_of b
  heads_of-loaded =
      ext_get_or 0 (heads_of (loaded c b)) (heads_of b)
      (length-take queues (loaded c b) ∙ ap (min queues) (length-loaded c b) ∙ sym (length-take queues b))
      (λ k h. let g : k < queues = omega (arith, length-take queues (loaded c b)) in
      get_or-heads_of (loaded c b) k g ∙ head_of-loaded k g ∙ sym (get_or-heads_of b k g))

  pub marks_of-loaded : marks_of (loaded c b) ≡ marks_of b
  marks_of-loaded = of-book marks_at refl

  pub tearings_of-loaded : tearings_of (loaded c b) ≡ tearings_of b
  tearings_of-loaded = of-book tearing_at refl

  pub tearing_of-loaded : (q : ℕ) → tearing_of (loaded c b) q ≡ tearing_of b q
  tearing_of-loaded q = ap (bit q) tearings_of-loaded

  pub reset_of-loaded : reset_of (loaded c b) ≡ reset_of b
  unfolding reset_of
  reset_of-loaded = ap (λ (m : ℕ). eqb m 1) (of-book reset_at refl)

  pub flags_fit-loaded : flags_fit (loaded c b) ≡ flags_fit b
  unfolding flags_fit
  flags_fit-loaded = simp (marks_of-loaded, tearings_of-loaded, of-book reset_at refl)

  pub hdp_of-loaded : (q : ℕ) → length b ≡ state_words → q < queues → hdp_of (loaded c b) q ≡ hdp_of c q
  hdp_of-loaded q l h = of-device (hdp_at q) (is_device-register (hdp_at q) (omega arith) (omega arith)) (omega arith)

  pub cp_of-loaded : (q : ℕ) → length b ≡ state_words → q < queues → cp_of (loaded c b) q ≡ cp_of c q
  cp_of-loaded q l h = of-device (cp_at q) (is_device-register (cp_at q) (omega arith) (omega arith)) (omega arith)

  pub bit_of-loaded : length b ≡ state_words → bit_of (loaded c b) ≡ bit_of c
  unfolding bit_of
  bit_of-loaded l = ap (bit 0) (of-device bit_at refl (omega arith))
