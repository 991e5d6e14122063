-- What a mark leaves of descriptor memory, word by word. Assumes nothing.
--     word-marked-same, -other          the word that is marked; any other word
--     length_marked, marked-keeps-bytes the memory's length, and that it is made of bytes
--     word-last_marked-length, -flags, length-last_marked, last_marked-keeps-bytes   the same where two words are marked
use Prim.Native.Nat.{ℕ, ◌+◌, ◌≤◌, ◌<◌, ◌^◌}
use mathlib.Core.Path.{◌≡◌, ap, ◌∙◌}
use mathlib.Core.Logic.{◌≢◌}
use mathlib.Core.List.{List}
use native.Mathlib.Omega.{arith}
use lib.ListN.{length}
use Rattle.words.specs.Word.{word, put}
use Rattle.words.proofs.WordLaws.{word-put-same, word-put-other, length-put, Bytes, word_lt, put-keeps-bytes}
use Rattle.marks.specs.Marks.{put_length, last_mark, marked, last_marked}
use Rattle.marks.proofs.LengthLaws.{put_length-lt}
use Rattle.marks.proofs.FlagLaws.{last_mark-lt}

pub word-marked-same : (f : ℕ → ℕ) (d : ℕ) (m : List ℕ) → length m ≡ 8192 → d ≤ 2044 → f (word m (d + 3)) < 2 ^ 32
    → word (marked f d m) (d + 3) ≡ f (word m (d + 3))
unfolding marked
word-marked-same f d m l h b = word-put-same m (d + 3) (f (word m (d + 3))) l (omega arith) b

pub word-marked-other : (f : ℕ → ℕ) (d : ℕ) (m : List ℕ) (k : ℕ) → k ≢ d + 3 → word (marked f d m) k ≡ word m k
unfolding marked
word-marked-other f d m k n = word-put-other m (d + 3) (f (word m (d + 3))) k n

pub length_marked : (f : ℕ → ℕ) (d : ℕ) (m : List ℕ) → length (marked f d m) ≡ length m
unfolding marked
length_marked f d m = length-put m (d + 3) (f (word m (d + 3)))

pub marked-keeps-bytes : (f : ℕ → ℕ) (d : ℕ) (m : List ℕ) → f (word m (d + 3)) < 2 ^ 32 → Bytes m → Bytes (marked f d m)
unfolding marked
marked-keeps-bytes f d m b h = put-keeps-bytes m (d + 3) (f (word m (d + 3))) b h

module _ (here latched d : ℕ) (m : List ℕ) where
  -- the memory between the two stores
  between : List ℕ
  between = put m (d + 2) (put_length here (word m (d + 2)))

  flags-between : word between (d + 3) ≡ word m (d + 3)
  unfolding between
  flags-between = word-put-other m (d + 2) (put_length here (word m (d + 2))) (d + 3) (λ e. omega (arith, e))

  pub length-last_marked : length (last_marked here latched d m) ≡ length m
  unfolding last_marked
  length-last_marked = length_marked (last_mark latched) d _ ∙ length-put m (d + 2) (put_length here (word m (d + 2)))

  pub word-last_marked-length : length m ≡ 8192 → d ≤ 2044 → here < 2048 → Bytes m
      → word (last_marked here latched d m) (d + 2) ≡ put_length here (word m (d + 2))
  unfolding last_marked
  word-last_marked-length l h g b =
      word-marked-other (last_mark latched) d _ (d + 2) (λ e. omega (arith, e))
      ∙ word-put-same m (d + 2) (put_length here (word m (d + 2))) l (omega arith)
      (put_length-lt here (word m (d + 2)) g (word_lt m (d + 2) b))

  pub word-last_marked-flags : length m ≡ 8192 → d ≤ 2044 → Bytes m
      → word (last_marked here latched d m) (d + 3) ≡ last_mark latched (word m (d + 3))
  unfolding last_marked between
  word-last_marked-flags l h b =
      let small : last_mark latched (word between (d + 3)) < 2 ^ 32 =
      rw flags-between (last_mark-lt latched (word m (d + 3)) (word_lt m (d + 3) b)) in
      word-marked-same (last_mark latched) d between (length-put m (d + 2) (put_length here (word m (d + 2))) ∙ l) h small
      ∙ ap (last_mark latched) flags-between

  pub last_marked-keeps-bytes : here < 2048 → Bytes m → Bytes (last_marked here latched d m)
  unfolding last_marked between
  last_marked-keeps-bytes g b =
      let kept : Bytes between =
      put-keeps-bytes m (d + 2) (put_length here (word m (d + 2))) (put_length-lt here (word m (d + 2)) g (word_lt m (d + 2) b)) b in
      marked-keeps-bytes (last_mark latched) d between (last_mark-lt latched (word between (d + 3)) (word_lt between (d + 3) kept)) kept
