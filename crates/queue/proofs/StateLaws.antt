-- What the release makes of the small state: heads, marks, pending teardowns and reset. Assumes nothing.
--     settled-bit, settled-lt  a teardown whose CP reads as finished is over, every other is as it was
--     length-with_heads, heads_of-with_heads, head_of-with_heads, with_heads-other, fit-with_heads   a table with other heads
--     flags-other              the first two rules leave every word but marks, teardowns and reset
--     length-flags, flags-fit, marks-flags, reset-flags, tearing-flags, heads-flags, cps-flags   each part after them
--     over-flags, tearings-flags, flags-twice   once is enough
--     Settled hs t r, settles  r is t with the heads hs, after the first two rules
--     release-parts            a release, from what it leaves of the queues
use Prim.Native.Nat.{ℕ, zero, suc, ◌+◌, ◌≤◌, ◌<◌, ◌^◌}
use mathlib.Core.Path.{◌≡◌, refl, ap, ◌∙◌, sym}
use mathlib.Core.Bool.{Bool, true, false}
use mathlib.Core.List.{List, [], ◌∷◌, ◌++◌}
use mathlib.Core.Logic.{◌≢◌}
use native.Mathlib.Nat.{add-zero}
use native.Mathlib.Omega.{arith}
use lib.ListN.{length, get_or, set, take, drop}
use lib.Seq.{length_front, set-get_or, get_or-set_other}
use lib.Dec.{eqb, leb, ltb}
use borrow.Author.Tests.{eqb-true, leb-true}
use Rattle.layout.specs.Choice.{pick, both}
use Rattle.layout.specs.Bits.{bit, clear_bit}
use Rattle.layout.specs.Layout.{queues}
use Rattle.layout.proofs.ChoiceLaws.{clash}
use Rattle.layout.proofs.BitLaws.{bit-clear_bit-same, bit-clear_bit-other, clear_bit-lt, bits-same}
use Rattle.words.specs.Word.{word}
use Rattle.registers.specs.Table.{state_words, cp_at, marks_at, tearing_at, reset_at, bit_at, head_of, cp_of, marks_of, tearings_of}
use Rattle.registers.specs.Table.{tearing_of}
use Rattle.registers.specs.Table.{reset_of, bit_of, heads_of, cps_of, set_marks, set_tearings, set_reset, unmarked, flags_fit, is_device}
use Rattle.registers.specs.Rules.{teardown_done}
use Rattle.registers.proofs.TableLaws.{get_or-heads_of, get_or-cps_of, length-set_tearings, tearings_of-set_tearings, marks_of-set_tearings}
use Rattle.registers.proofs.TableLaws.{reset_of-set_tearings, bit_of-set_tearings, heads_of-set_tearings, cps_of-set_tearings}
use Rattle.registers.proofs.TableLaws.{length-unmarked}
use Rattle.registers.proofs.TableLaws.{marks_of-unmarked, reset_of-unmarked, tearings_of-unmarked, heads_of-unmarked, cps_of-unmarked}
use Rattle.registers.proofs.TableLaws.{flags_fit-bounds, flags_fit-set_tearings, flags_fit-unmarked}
use Rattle.book.specs.HandOver.{Uses}
use Rattle.book.specs.Release.{released_all, reset_over, settled, released_flags, release_mode, with_heads, released_heads, released_book}
use Rattle.book.specs.World.{World, set_state, set_uses, release}

-- ---- teardowns that are over

-- the mask after the CP of queue q
one-settled : (mask q c j : ℕ) → j ≢ q → bit j (pick (eqb c teardown_done) (clear_bit q mask) mask) ≡ bit j mask
one-settled mask q c j n = at (eqb c teardown_done)
  where
    at : (t : Bool) → bit j (pick t (clear_bit q mask) mask) ≡ bit j mask
    at true = bit-clear_bit-other j q mask n
    at false = refl

settled-below : (mask q : ℕ) (cs : List ℕ) (j : ℕ) → j < q → bit j (settled mask q cs) ≡ bit j mask
settled-below mask q [] j h = refl
settled-below mask q (c ∷ cs) j h =
    settled-below (pick (eqb c teardown_done) (clear_bit q mask) mask) (q + 1) cs j (omega arith)
    ∙ one-settled mask q c j (λ e. omega arith)

settled-from : (mask q : ℕ) (cs : List ℕ) (i : ℕ)
    → bit (q + i) (settled mask q cs) ≡ pick (eqb (get_or cs i 0) teardown_done) false (bit (q + i) mask)
settled-from mask q [] i = refl
settled-from mask q (c ∷ cs) zero =
    settled-below (pick (eqb c teardown_done) (clear_bit q mask) mask) (q + 1) cs (q + 0) (omega arith)
    ∙ rw (add-zero q) (at (eqb c teardown_done))
  where
    at : (t : Bool) → bit q (pick t (clear_bit q mask) mask) ≡ pick t false (bit q mask)
    at true = bit-clear_bit-same q mask
    at false = refl
settled-from mask q (c ∷ cs) (suc i) =
    let e : q + suc i ≡ q + 1 + i = omega arith in
    rw e
    (settled-from (pick (eqb c teardown_done) (clear_bit q mask) mask) (q + 1) cs i
    ∙ ap (λ (b : Bool). pick (eqb (get_or cs i 0) teardown_done) false b) (one-settled mask q c (q + 1 + i) (λ z. omega arith)))

pub settled-bit : (mask : ℕ) (cs : List ℕ) (j : ℕ) → bit j (settled mask 0 cs) ≡ pick (eqb (get_or cs j 0) teardown_done) false (bit j mask)
settled-bit mask cs j = let e : 0 + j ≡ j = omega arith in rw e at (settled-from mask 0 cs j)

pub settled-lt : (n mask q : ℕ) (cs : List ℕ) → mask < 2 ^ n → settled mask q cs < 2 ^ n
settled-lt n mask q [] h = h
settled-lt n mask q (c ∷ cs) h = settled-lt n (pick (eqb c teardown_done) (clear_bit q mask) mask) (q + 1) cs (at (eqb c teardown_done))
  where
    at : (t : Bool) → pick t (clear_bit q mask) mask < 2 ^ n
    at true = clear_bit-lt n q mask h
    at false = h

-- ---- other heads, as many as there were, in a table of any length

take-front : (n : ℕ) (hs t : List ℕ) → length hs ≡ length (take n t) → take n (hs ++ drop n t) ≡ hs
take-front zero [] t e = refl
take-front zero (h ∷ hs) t e = absurd (omega arith)
take-front (suc n) [] [] e = refl
take-front (suc n) (h ∷ hs) [] e = absurd (omega arith)
take-front (suc n) [] (x ∷ t) e = absurd (omega arith)
take-front (suc n) (h ∷ hs) (x ∷ t) e = ap (λ (l : List ℕ). h ∷ l) (take-front n hs t (omega arith))

get_d_front : (n : ℕ) (hs t : List ℕ) (k : ℕ) → length hs ≡ length (take n t) → n ≤ k → get_or (hs ++ drop n t) k 0 ≡ get_or t k 0
get_d_front zero [] t k e h = refl
get_d_front zero (x ∷ hs) t k e h = absurd (omega arith)
get_d_front (suc n) [] [] k e h = refl
get_d_front (suc n) (x ∷ hs) [] k e h = absurd (omega arith)
get_d_front (suc n) [] (y ∷ t) k e h = absurd (omega arith)
get_d_front (suc n) (x ∷ hs) (y ∷ t) zero e h = absurd (omega arith)
get_d_front (suc n) (x ∷ hs) (y ∷ t) (suc k) e h = get_d_front n hs t k (omega arith) (omega arith)

module _ (hs t : List ℕ) (many : length hs ≡ length (heads_of t)) where
  pub length-with_heads : length (with_heads hs t) ≡ length t
  length-with_heads = length_front t hs queues many

  pub heads_of-with_heads : heads_of (with_heads hs t) ≡ hs
  heads_of-with_heads = take-front queues hs t many

  pub head_of-with_heads : (q : ℕ) → q < queues → head_of (with_heads hs t) q ≡ get_or hs q 0
  head_of-with_heads q h = sym (get_or-heads_of (with_heads hs t) q h) ∙ ap (λ (l : List ℕ). get_or l q 0) heads_of-with_heads

  pub with_heads-other : (k : ℕ) → queues ≤ k → get_or (with_heads hs t) k 0 ≡ get_or t k 0
  with_heads-other k h = get_d_front queues hs t k many h

  pub fit-with_heads : flags_fit (with_heads hs t) ≡ flags_fit t
  unfolding flags_fit
  fit-with_heads = rw (
    with_heads-other marks_at (omega arith),
    with_heads-other tearing_at (omega arith),
    with_heads-other reset_at (omega arith),
  ) refl

-- words that agree
over-same : (t u : List ℕ) → get_or t reset_at 0 ≡ get_or u reset_at 0 → get_or t bit_at 0 ≡ get_or u bit_at 0 → reset_over t ≡ reset_over u
unfolding reset_of bit_of
over-same t u a b = rw (a, b) refl

reset-zero : (t : List ℕ) → get_or t reset_at 0 ≡ 0 → reset_of t ≡ false
unfolding reset_of
reset-zero t e = rw e refl

reset-same : (t u : List ℕ) → get_or t reset_at 0 ≡ get_or u reset_at 0 → reset_of t ≡ reset_of u
unfolding reset_of
reset-same t u e = ap (λ (n : ℕ). eqb n 1) e

-- ---- the first two rules

module _ (t : List ℕ) where
  -- with the teardowns that are over
  abbrev ended : List ℕ
  ended = set_tearings (settled (tearings_of t) 0 (cps_of t)) t

  flags-case : (P : List ℕ → Type 0) → (reset_over t ≡ true → P (unmarked ended)) → (reset_over t ≡ false → P ended) → P (released_flags t)
  unfolding released_flags
  flags-case P f g = at (reset_over t) refl
    where
      at : (b : Bool) → reset_over t ≡ b → P (pick b (unmarked ended) ended)
      at true e = f e
      at false e = g e

  pub flags-other : (k : ℕ) → k ≢ marks_at → k ≢ tearing_at → k ≢ reset_at → get_or (released_flags t) k 0 ≡ get_or t k 0
  flags-other k a b c =
      flags-case (λ r. get_or r k 0 ≡ get_or t k 0)
      (λ e. get_or-set_other (set_marks 0 ended) reset_at k 0 0 c ∙ get_or-set_other ended marks_at k 0 0 a ∙ still)
      (λ e. still)
    where
      still : get_or ended k 0 ≡ get_or t k 0
      still = get_or-set_other t tearing_at k _ 0 b

  pub length-flags : length (released_flags t) ≡ length t
  length-flags =
      flags-case (λ r. length r ≡ length t) (λ e. length-unmarked ended ∙ length-set_tearings t _) (λ e. length-set_tearings t _)

  pub flags-fit : flags_fit t ≡ true → flags_fit (released_flags t) ≡ true
  flags-fit h =
      let m : flags_fit ended ≡ true = flags_fit-set_tearings t h _
      (settled-lt queues (tearings_of t) 0 (cps_of t) (flags_fit-bounds t h).1) in
      flags-case (λ r. flags_fit r ≡ true) (λ e. flags_fit-unmarked ended m) (λ e. m)

  module _ (l : length t ≡ state_words) where
    pub marks-flags : marks_of (released_flags t) ≡ pick (reset_over t) 0 (marks_of t)
    marks-flags =
        flags-case (λ r. marks_of r ≡ pick (reset_over t) 0 (marks_of t))
        (λ e. marks_of-unmarked ended (length-set_tearings t _ ∙ l) ∙ rw e refl)
        (λ e. marks_of-set_tearings t _ ∙ rw e refl)

    pub reset-flags : reset_of (released_flags t) ≡ pick (reset_over t) false (reset_of t)
    reset-flags =
        flags-case (λ r. reset_of r ≡ pick (reset_over t) false (reset_of t))
        (λ e. reset_of-unmarked ended (length-set_tearings t _ ∙ l) ∙ rw e refl)
        (λ e. reset_of-set_tearings t _ ∙ rw e refl)

    pub tearing-flags : (q : ℕ) → q < queues → tearing_of (released_flags t) q ≡ pick (eqb (cp_of t q) teardown_done) false (tearing_of t q)
    tearing-flags q h = ap (bit q) all ∙ settled-bit (tearings_of t) (cps_of t) q ∙ rw (get_or-cps_of t q h) refl
      where
        all : tearings_of (released_flags t) ≡ settled (tearings_of t) 0 (cps_of t)
        all =
            flags-case (λ r. tearings_of r ≡ settled (tearings_of t) 0 (cps_of t))
            (λ e. tearings_of-unmarked ended ∙ tearings_of-set_tearings t _ l)
            (λ e. tearings_of-set_tearings t _ l)

-- ---- once is enough

set-either : (P : ℕ → Type 0) (t : List ℕ) (k v : ℕ) → P v → P 0 → P (get_or (set t k v) k 0)
set-either P [] k v a b = b
set-either P (x ∷ t) zero v a b = a
set-either P (x ∷ t) (suc k) v a b = set-either P t k v a b

settled-twice : (mask : ℕ) (cs : List ℕ) → mask < 2 ^ queues → settled (settled mask 0 cs) 0 cs ≡ settled mask 0 cs
settled-twice mask cs h =
    let l = settled-lt queues mask 0 cs h in
    bits-same queues (settled (settled mask 0 cs) 0 cs) (settled mask 0 cs) (settled-lt queues (settled mask 0 cs) 0 cs l) l
    (λ q g. settled-bit (settled mask 0 cs) cs q
    ∙ ap (λ (b : Bool). pick (eqb (get_or cs q 0) teardown_done) false b) (settled-bit mask cs q)
    ∙ at (eqb (get_or cs q 0) teardown_done) (bit q mask)
    ∙ sym (settled-bit mask cs q))
  where
    at : (t b : Bool) → pick t false (pick t false b) ≡ pick t false b
    at true b = refl
    at false b = refl

settled-none : (cs : List ℕ) → settled 0 0 cs ≡ 0
settled-none cs = let h : settled 0 0 cs < 2 ^ 0 = settled-lt 0 0 0 cs (omega arith) in omega arith

-- a reset that is over is no longer pending
pub over-flags : (t : List ℕ) → reset_over (released_flags t) ≡ false
over-flags t =
    flags-case t (λ r. reset_over r ≡ false) (λ e. rw (gone (set_marks 0 (ended t))) refl)
    (λ e. rw (
      reset_of-set_tearings t (settled (tearings_of t) 0 (cps_of t)),
      bit_of-set_tearings t
          (settled (tearings_of t) 0 (cps_of t)),
    ) e)
  where
    gone : (x : List ℕ) → reset_of (set_reset 0 x) ≡ false
    gone x = reset-zero (set_reset 0 x) (set-either (λ n. n ≡ 0) x reset_at 0 refl refl)

pub heads-flags : (t : List ℕ) → heads_of (released_flags t) ≡ heads_of t
heads-flags t =
    flags-case t (λ r. heads_of r ≡ heads_of t) (λ e. heads_of-unmarked (ended t) ∙ heads_of-set_tearings t _)
    (λ e. heads_of-set_tearings t _)

pub cps-flags : (t : List ℕ) → cps_of (released_flags t) ≡ cps_of t
cps-flags t =
    flags-case t (λ r. cps_of r ≡ cps_of t) (λ e. cps_of-unmarked (ended t) ∙ cps_of-set_tearings t _) (λ e. cps_of-set_tearings t _)

-- the teardowns that are left are not over
pub tearings-flags : (t : List ℕ) → tearings_of t < 2 ^ queues
    → settled (tearings_of (released_flags t)) 0 (cps_of t) ≡ tearings_of (released_flags t)
tearings-flags t h =
    flags-case t (λ r. settled (tearings_of r) 0 (cps_of t) ≡ tearings_of r) (λ e. rw (tearings_of-unmarked (ended t)) left) (λ e. left)
  where
    left : settled (tearings_of (ended t)) 0 (cps_of t) ≡ tearings_of (ended t)
    left = set-either (λ m. settled m 0 (cps_of t) ≡ m) t tearing_at _ (settled-twice (tearings_of t) (cps_of t) h)
        (settled-none (cps_of t))

pub flags-twice : (t : List ℕ) → flags_fit t ≡ true → released_flags (released_flags t) ≡ released_flags t
flags-twice t fit =
    flags-case (released_flags t) (λ r. r ≡ released_flags t) (λ e. clash e (over-flags t))
    (λ e. rw (cps-flags t, tearings-flags t (flags_fit-bounds t fit).1) (set-get_or (released_flags t) tearing_at 0))

-- ---- both

-- r is t with the heads hs, after the first two rules
pub record Settled (hs t r : List ℕ) : Type 0 where
  pub size : length r ≡ state_words
  pub fit : flags_fit r ≡ true
  pub heads : (q : ℕ) → q < queues → head_of r q ≡ get_or hs q 0
  pub device : (k : ℕ) → is_device k ≡ true → get_or r k 0 ≡ get_or t k 0
  pub marks : marks_of r ≡ pick (reset_over t) 0 (marks_of t)
  pub reset : reset_of r ≡ pick (reset_over t) false (reset_of t)
  pub tearing : (q : ℕ) → q < queues → tearing_of r q ≡ pick (eqb (cp_of t q) teardown_done) false (tearing_of t q)

pub settles : (hs t : List ℕ) → length hs ≡ length (heads_of t) → length t ≡ state_words → flags_fit t ≡ true
    → Settled hs t (released_flags (with_heads hs t))
settles hs t many l fit =
    let x = with_heads hs t in
    let lx = length-with_heads hs t many ∙ l in
    let rest = with_heads-other hs t many in
    let o : reset_over x ≡ reset_over t = over-same x t (rest reset_at (omega arith)) (rest bit_at (omega arith)) in
    record {
      size = length-flags x ∙ lx;
      fit = flags-fit x (fit-with_heads hs t many ∙ fit);
      heads = λ q h. flags-other x q (λ e. omega arith) (λ e. omega arith) (λ e. omega arith) ∙ head_of-with_heads hs t many q h;
      device = λ k d. flags-other x k (λ e. clash d (ap is_device e)) (λ e. clash d (ap is_device e)) (λ e. clash d (ap is_device e))
          ∙ rest k (past k d);
      marks = marks-flags x lx ∙ rw (o, rest marks_at (omega arith)) refl;
      reset = reset-flags x lx ∙ rw (o, reset-same x t (rest reset_at (omega arith))) refl;
      tearing = λ q h. tearing-flags x lx q h ∙ rw (rest (cp_at q) (omega arith), rest tearing_at (omega arith)) refl;
    }
  where
    -- the device's words stand behind the heads
    past : (k : ℕ) → is_device k ≡ true → queues ≤ k
    past k d = at (leb queues k) refl d
      where
        at : (b : Bool) → leb queues k ≡ b → pick (both b (ltb k marks_at)) true (eqb k bit_at) ≡ true → queues ≤ k
        at true e h = leb-true queues k e
        at false e h = let z = eqb-true k bit_at h in omega arith

-- ---- a whole release

pub release-parts : (s : World) (hs : List ℕ) (u : Uses)
    → released_all (word s.mem) (release_mode s.state) (heads_of s.state) (s.used, s.lens) ≡ (hs, u)
    → release s ≡ set_state (released_flags (with_heads hs s.state)) (set_uses u s)
unfolding release released_book released_heads
release-parts s hs u e = ap (λ (x : List ℕ × Uses). set_state (released_flags (with_heads x.0 s.state)) (set_uses x.1 s)) e
