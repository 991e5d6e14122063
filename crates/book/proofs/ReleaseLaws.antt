-- What the release is, by cases, and that it ends. Assumes nothing.
--     release_step-falls          each step leaves fewer words in use
--     released-eq                the recursion equation: one step, and then the release from where it goes
--     released-bad, -free        a pointer that names no descriptor in use ends the queue
--     released-keep, -drop       the plan for the descriptor at p: it stays with all behind it, or it goes and the release goes on
--     released-on, -over, -falls   one step told: the release goes on, with fewer words in use, or it is over
--     released_flags-over, -else  the flags, where a reset is over, and where none is
--     released_book-is            the queues in the mode that the flags give, and then the flags
--     release-parts              a world of what the release of its book leaves is the released world
use Prim.Native.Nat.{ℕ, ◌+◌, ◌<◌}
use mathlib.Core.Path.{◌≡◌, refl, ap, ◌∙◌, sym}
use mathlib.Core.Bool.{Bool, true, false}
use mathlib.Core.List.{List}
use native.Mathlib.Omega.{arith}
use Rattle.std.specs.Prelude.{None, Some}
use Rattle.layout.specs.Choice.{pick}
use Rattle.layout.specs.Run.{Next, go, stop, after}
use Rattle.layout.specs.Layout.{good_ptr, word_of}
use Rattle.layout.proofs.RunLaws.{run-eq}
use Rattle.words.specs.Word.{word}
use Rattle.words.specs.WordSet.{has, words_in_use}
use Rattle.words.proofs.SetLaws.{has-true, words_in_use-falls}
use Rattle.registers.specs.Table.{tearings_of, cps_of, set_tearings, unmarked}
use Rattle.book.specs.declared.Mode.{Mode}
use Rattle.book.specs.HandOver.{Uses, drop_one}
use Rattle.book.specs.Release.{Plan, RSt, ROut, plan, planned, release_step, released_from, reset_over, settled, released_flags}
use Rattle.book.specs.Release.{release_mode, released_heads, released_book}
use Rattle.book.specs.World.{World, release}

-- ---- the measure

drop_one-falls : (u : Uses) (d : ℕ) → has u.0 d ≡ true → words_in_use (drop_one u d).0 < words_in_use u.0
unfolding drop_one
drop_one-falls u d h = words_in_use-falls u.0 d (has-true u.0 d h)

falls-plan : (x : Plan) (u : Uses) (p next : ℕ) (t : RSt) → has u.0 (word_of p) ≡ true → planned x u p next ≡ go t
    → words_in_use t.0.0 < words_in_use u.0
falls-plan None u p next t h e = let z : ◌≡◌ {A = ℕ} 0 1 = cc in absurd (omega arith)
falls-plan (Some mode) u p next t h e =
    let k : (drop_one u (word_of p), next, mode) ≡ t = cc in
    rw (← k) (drop_one-falls u (word_of p) h)

falls_at : (a b : Bool) (x : Plan) (u : Uses) (p next : ℕ) (y z : ROut) (t : RSt) → has u.0 (word_of p) ≡ b
    → pick a (pick b (planned x u p next) (stop y)) (stop z) ≡ go t → words_in_use t.0.0 < words_in_use u.0
falls_at true true x u p next y z t h e = falls-plan x u p next t h e
falls_at true false x u p next y z t h e = let n : ◌≡◌ {A = ℕ} 0 1 = cc in absurd (omega arith)
falls_at false b x u p next y z t h e = let n : ◌≡◌ {A = ℕ} 0 1 = cc in absurd (omega arith)

pub release_step-falls : (w : ℕ → ℕ) (s t : RSt) → release_step w s ≡ go t → words_in_use t.0.0 < words_in_use s.0.0
unfolding release_step
release_step-falls w s t e =
    falls_at
    (good_ptr s.1)
    (has s.0.0 (word_of s.1))
    (plan s.2 (w (word_of s.1 + 3)))
    s.0
    s.1
    (w (word_of s.1))
    _
    _
    t
    refl
    e

-- ---- one queue, by cases

module _ (w : ℕ → ℕ) (u : Uses) (p : ℕ) (mode : Mode) where
  pub released-eq : released_from w u p mode ≡ after (release_step w (u, p, mode)) (λ t. released_from w t.0 t.1 t.2)
  unfolding released_from
  released-eq = run-eq (release_step w) _ _ (release_step-falls w) (u, p, mode)

  pub released-bad : good_ptr p ≡ false → released_from w u p mode ≡ (p, u)
  unfolding release_step
  released-bad g = released-eq ∙ simp g

  pub released-free : good_ptr p ≡ true → has u.0 (word_of p) ≡ false → released_from w u p mode ≡ (p, u)
  unfolding release_step
  released-free g h = released-eq ∙ simp (g, h)

  module _ (g : good_ptr p ≡ true) (h : has u.0 (word_of p) ≡ true) where
    pub released-keep : plan mode (w (word_of p + 3)) ≡ None → released_from w u p mode ≡ (p, u)
    unfolding release_step
    released-keep e = released-eq ∙ simp (g, h, e)

    pub released-drop : (rest : Mode) → plan mode (w (word_of p + 3)) ≡ Some rest
        → released_from w u p mode ≡ released_from w (drop_one u (word_of p)) (w (word_of p)) rest
    unfolding release_step
    released-drop rest e = released-eq ∙ simp (g, h, e)

  -- one step told: the release goes on, or it is over
  pub released-on : {v : Uses} {next : ℕ} {rest : Mode} → go (v, next, rest) ≡ release_step w (u, p, mode)
      → released_from w v next rest ≡ released_from w u p mode
  released-on e = sym (released-eq ∙ ap (λ (n : Next RSt ROut). after n (λ s. released_from w s.0 s.1 s.2)) (sym e))

  pub released-over : {o : ROut} → stop o ≡ release_step w (u, p, mode) → o ≡ released_from w u p mode
  released-over e = sym (released-eq ∙ ap (λ (n : Next RSt ROut). after n (λ s. released_from w s.0 s.1 s.2)) (sym e))

  pub released-falls : {v : Uses} {next : ℕ} {rest : Mode} → go (v, next, rest) ≡ release_step w (u, p, mode)
      → words_in_use v.0 < words_in_use u.0
  released-falls e = release_step-falls w (u, p, mode) _ (sym e)

-- ---- the flags

module _ (t : List ℕ) {over : Bool} {m : ℕ} (o : over ≡ reset_over t) (e : m ≡ settled (tearings_of t) 0 (cps_of t)) where
  pub released_flags-over : over ≡ true → unmarked (set_tearings m t) ≡ released_flags t
  unfolding released_flags
  released_flags-over y = simp (← o, y, e)

  pub released_flags-else : over ≡ false → set_tearings m t ≡ released_flags t
  unfolding released_flags
  released_flags-else n = simp (← o, n, e)

-- ---- the book, and the world

pub released_book-is : (w : ℕ → ℕ) (t : List ℕ) (u : Uses) {mode : Mode} {x y : List ℕ} {v : Uses} → mode ≡ release_mode t
    → (x, v) ≡ released_heads w mode t u → y ≡ released_flags x → (y, v) ≡ released_book w t u
unfolding released_book
released_book-is w t u {mode} {x} {y} {v} m e f =
    let h : (x, v) ≡ released_heads w (release_mode t) t u = e ∙ ap (λ (n : Mode). released_heads w n t u) m in
    rw (← h, f) refl

pub release-parts : (s : World) {t u l : List ℕ} → (t, (u, l)) ≡ released_book (word s.mem) s.state (s.used, s.lens)
    → ◌≡◌ {A = World} (record { mem = s.mem; kinds = s.kinds; state = t; used = u; lens = l }) (release s)
unfolding release
release-parts s e = rw (← e) refl
