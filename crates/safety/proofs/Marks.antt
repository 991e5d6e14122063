-- What a step leaves as it was: queues by their sides, descriptor memory under a mark, teardown of a queue whose engine goes on.
-- Assumes nothing.
--     side-queue, channel-queue, queue-lt   the queue of a side and a channel: its side, its channel, and that there is one
--     phase-queue                           the phase of its engine
--     put-fits, word_fits                   descriptor memory stays fit under a store of a word
--     marked-fits, marked-reads             and under a mark in word 3
--     last-marked-fits                      and under receive step 4
--     spared                                a mark in a queue changes no word that is not in use
--     with_regs h cp p                       the post with other registers
--     turn-move, turn-done                  an engine that was not idle goes on; and reports in CP the descriptor at HDP
use Prim.Native.Nat.{ℕ, ◌+◌, ◌≤◌, ◌<◌, ◌^◌}
use mathlib.Core.Path.{◌≡◌, refl, ap, ◌∙◌, sym}
use mathlib.Core.Bool.{Bool, true, false}
use mathlib.Core.List.{List, ◌∷◌, ◌++◌}
use mathlib.Core.Logic.{◌≢◌}
use native.Mathlib.Omega.{arith}
use lib.Dec.{eqb}
use borrow.Author.Tests.{ne_eqb}
use Rattle.layout.specs.Choice.{pick}
use Rattle.layout.specs.Layout.{good_ptr, channels, queues, side_of, channel_of, queue_of}
use Rattle.layout.specs.declared.Side.{Side}
use Rattle.layout.specs.declared.Side.TheVariants.{Transmit, Receive}
use Rattle.layout.proofs.ChoiceLaws.{clash}
use Rattle.layout.proofs.PointerLaws.{good_ptr-bounds}
use Rattle.words.specs.Word.{word, put}
use Rattle.words.specs.WordSet.{has}
use Rattle.words.proofs.WordLaws.{length-put, word_lt, put-keeps-bytes}
use Rattle.marks.specs.Marks.{marked, last_marked}
use Rattle.marks.proofs.MarkLaws.{word-marked-same, length_marked, marked-keeps-bytes, length-last_marked, last_marked-keeps-bytes}
use Rattle.registers.specs.Rules.{teardown_done}
use Rattle.book.specs.declared.Mode.{Mode}
use Rattle.queue.proofs.Queue.{Sole, kept, gone, count, flat}
use Rattle.queue.proofs.SoleLaws.{count-append, sole-perm, sole-has}
use Rattle.queue.proofs.KeptLaws.{gone-kept}
use Rattle.queue.proofs.StoreLaws.{Only}
use Rattle.queue.proofs.NumberLaws.{side-even, side-odd, queue_at, without, sole-at}
use Rattle.controller.specs.declared.Controller.{Controller}
use Rattle.safety.proofs.Inv.{Fit, phase_by, phase_of, Post, Common, TearingFits}

-- ---- the queue of a side and a channel

pub side-queue : (side : Side) (ch : ℕ) → side_of (queue_of side ch) ≡ side
side-queue Transmit ch = side-even ch
side-queue Receive ch = side-odd ch

pub channel-queue : (side : Side) (ch : ℕ) → channel_of (queue_of side ch) ≡ ch
channel-queue Transmit ch = omega arith
channel-queue Receive ch = omega arith

pub queue-lt : (side : Side) (ch : ℕ) → ch < channels → queue_of side ch < queues
queue-lt Transmit ch l = omega arith
queue-lt Receive ch l = omega arith

pub phase-queue : (side : Side) (c : Controller) (ch : ℕ) → phase_of c (queue_of side ch) ≡ phase_by side c ch
phase-queue side c ch = rw (side-queue side ch, channel-queue side ch) refl

-- ---- descriptor memory

pub put-fits : (m : List ℕ) (k x : ℕ) → x < 2 ^ 32 → Fit m → Fit (put m k x)
put-fits m k x b f = record { size = length-put m k x ∙ f.size; bytes = put-keeps-bytes m k x b f.bytes }

pub word_fits : (m : List ℕ) (k : ℕ) → Fit m → word m k < 2 ^ 32
word_fits m k f = word_lt m k f.bytes

pub marked-fits : (f : ℕ → ℕ) (d : ℕ) (m : List ℕ) → f (word m (d + 3)) < 2 ^ 32 → Fit m → Fit (marked f d m)
marked-fits f d m b h = record { size = length_marked f d m ∙ h.size; bytes = marked-keeps-bytes f d m b h.bytes }

pub marked-reads : (f : ℕ → ℕ) (d : ℕ) (m : List ℕ) → f (word m (d + 3)) < 2 ^ 32 → Fit m → d ≤ 2044
    → word (marked f d m) (d + 3) ≡ f (word m (d + 3))
marked-reads f d m b h l = word-marked-same f d m h.size l b

-- receive step 4 writes words 2 and 3
pub last-marked-fits : (here latched d : ℕ) (m : List ℕ) → here < 2048 → Fit m → Fit (last_marked here latched d m)
last-marked-fits here latched d m h f =
    record { size = length-last_marked here latched d m ∙ f.size; bytes = last_marked-keeps-bytes here latched d m h f.bytes }

-- ---- a mark in queue q of qs, at d in what the release leaves of it

module _ (w v : ℕ → ℕ) (n : Mode) (qs : List (List ℕ)) (q : ℕ) {u : List ℕ} (cs : List ℕ) (d : ℕ) (rs : List ℕ) where
  -- the descriptor's words are in use
  in_use : kept w n (queue_at qs q) ≡ cs ++ d ∷ rs → Sole u (flat qs) → (k : ℕ) → d ≤ k → k < d + 4 → has u k ≡ true
  in_use e s k a b = sole-has d (gone w n (queue_at qs q) ++ (cs ++ (rs ++ os))) k (sole-perm (λ j. ordered j) (sole-at q qs s)) a b
    where
      os : List ℕ
      os = flat (without q qs)

      whole : gone w n (queue_at qs q) ++ (cs ++ d ∷ rs) ≡ queue_at qs q
      whole = rw (← e) (gone-kept w n (queue_at qs q))

      regroup : (g os : List ℕ) (j : ℕ) → count ((g ++ (cs ++ d ∷ rs)) ++ os) j ≡ count (d ∷ (g ++ (cs ++ (rs ++ os)))) j
      regroup g os j = simp count-append (omega arith)

      ordered : (j : ℕ) → count (queue_at qs q ++ os) j ≡ count (d ∷ (gone w n (queue_at qs q) ++ (cs ++ (rs ++ os)))) j
      ordered j = ap (λ (l : List ℕ). count (l ++ os) j) (sym whole) ∙ regroup (gone w n (queue_at qs q)) os j

  pub spared : kept w n (queue_at qs q) ≡ cs ++ d ∷ rs → Sole u (flat qs) → Only d w v → (k : ℕ) → has u k ≡ false → v k ≡ w k
  spared e s o k f = o k (λ z. clash (in_use e s k (omega arith) (omega arith)) f) (λ z. clash (in_use e s k (omega arith) (omega arith)) f)

-- ---- teardown of a queue whose engine goes on

abbrev pub with_regs : ℕ → ℕ → Post → Post
with_regs h cp p = record { hdp = h; cp = cp; stage = p.stage; mark = p.mark; booked = p.booked; tearing = p.tearing }

module _ {c : Common} {p : Post} (t : TearingFits c p false) where
  -- its engine is not idle, so the book has nothing left to see
  turn-agrees : p.booked ≡ p.tearing
  turn-agrees = at p.booked p.tearing (eqb p.cp teardown_done) refl refl t.settles
    where
      at : (b n e : Bool) → p.booked ≡ b → p.tearing ≡ n → pick e false b ≡ n → b ≡ n
      at true true e x y s = refl
      at true false e x y s = clash (t.lasts x y) refl
      at false n true x y s = s
      at false n false x y s = s

  pub turn-move : (h : ℕ) → TearingFits c (with_regs h p.cp p) false
  turn-move h = record {
    settles = t.settles;
    young = t.young;
    stage = t.stage;
    lasts = t.lasts;
    alone = t.alone;
    ready = t.ready;
    asleep = t.asleep;
    zeroed = λ m e. clash e refl;
  }

  pub turn-done : good_ptr p.hdp ≡ true → (h : ℕ) (rests : Bool) → (rests ≡ true → h ≡ 0) → TearingFits c (with_regs h p.hdp p) rests
  turn-done g h rests z = record {
    settles = rw (ne_eqb p.hdp teardown_done fair) turn-agrees;
    young = λ e. fair;
    stage = t.stage;
    lasts = λ b n. clash (t.lasts b n) refl;
    alone = t.alone;
    ready = t.ready;
    asleep = λ w. clash (t.asleep w) refl;
    zeroed = λ m e. z e;
  }
    where
      fair : p.hdp ≢ teardown_done
      fair e = let b = good_ptr-bounds p.hdp g in omega (arith, e, b)
