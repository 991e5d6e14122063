-- A quiet state is its own release: of any length, and whatever is in use. Assumes nothing.
--     quiet_is             what a quiet state is
--     held-released        a queue that is held stays as it is
--     release-quiet        a quiet world is its own release
use Prim.Native.Nat.{ℕ, ◌+◌}
use mathlib.Core.Path.{◌≡◌, refl, ap, ◌∙◌, sym}
use mathlib.Core.Bool.{Bool, true, false, not}
use mathlib.Core.List.{List, [], ◌∷◌}
use lib.Dec.{eqb}
use lib.ListN.{take-append-drop}
use lib.Seq.{set-get_or}
use borrow.Author.Tests.{not-true, eqb-true}
use Rattle.std.specs.Prelude.{None}
use Rattle.layout.specs.Choice.{pick}
use Rattle.layout.specs.Layout.{good_ptr, word_of, queues}
use Rattle.layout.proofs.ChoiceLaws.{clash, both_left, both_right, pick_same}
use Rattle.layout.proofs.PointerLaws.{good_ptr-zero}
use Rattle.words.specs.Word.{word}
use Rattle.words.specs.WordSet.{has}
use Rattle.descriptor.specs.Fields.{owner, td}
use Rattle.registers.specs.Table.{tearing_at, tearings_of, heads_of, cps_of, reset_of, any_tearing}
use Rattle.registers.specs.Rules.{teardown_done}
use Rattle.registers.proofs.TableLaws.{clear_bit-none, any_tearing-zero}
use Rattle.book.specs.declared.Mode.TheVariants.{Head}
use Rattle.book.specs.HandOver.{Uses}
use Rattle.book.specs.Release.{plan, released_from, released_all, settled, released_flags, with_heads, released_heads}
use Rattle.book.specs.World.{World, release}
use Rattle.book.specs.Quiet.{held, held_all, quiet}
use Rattle.book.proofs.ReleaseLaws.{released-bad, released-free, released-keep, released_flags-else, released_book-is, release-parts}

pub record Quiet (w : ℕ → ℕ) (t : List ℕ) : Type 0 where
  pub reset : reset_of t ≡ false
  pub tearing : any_tearing t ≡ false
  pub heads : held_all w (heads_of t) ≡ true

pub quiet_is : (w : ℕ → ℕ) (t : List ℕ) → quiet w t ≡ true → Quiet w t
unfolding quiet
quiet_is w t e =
    let r = both_right (not (reset_of t)) _ e in
    record {
      reset = not-true (reset_of t) (both_left (not (reset_of t)) _ e);
      tearing = not-true (any_tearing t) (both_left (not (any_tearing t)) _ r);
      heads = both_right (not (any_tearing t)) _ r;
    }

-- ---- one queue

held-keep : (x3 : ℕ) → td x3 ≡ false → owner x3 ≡ true → plan Head x3 ≡ None
unfolding plan
held-keep x3 n y = simp (n, y)

held_at : (w : ℕ → ℕ) (u : Uses) (p : ℕ) (z g n y h : Bool) → eqb p 0 ≡ z → good_ptr p ≡ g → td (w (word_of p + 3)) ≡ n
    → owner (w (word_of p + 3)) ≡ y → has u.0 (word_of p) ≡ h → pick z true (pick g (pick n false y) false) ≡ true
    → released_from w u p Head ≡ (p, u)
held_at w u p true g n y h a b c d i e = released-bad w u p Head (ap good_ptr (eqb-true p 0 a) ∙ good_ptr-zero)
held_at w u p false false n y h a b c d i e = clash e refl
held_at w u p false true true y h a b c d i e = clash e refl
held_at w u p false true false y false a b c d i e = released-free w u p Head b i
held_at w u p false true false y true a b c d i e = released-keep w u p Head b i (held-keep (w (word_of p + 3)) c (d ∙ e))

pub held-released : (w : ℕ → ℕ) (u : Uses) (p : ℕ) → held w p ≡ true → released_from w u p Head ≡ (p, u)
unfolding held
held-released w u p e = held_at w u p _ _ _ _ _ refl refl refl refl refl e

-- ---- all queues

all_held : (w : ℕ → ℕ) (hs : List ℕ) (u : Uses) → held_all w hs ≡ true → released_all w Head hs u ≡ (hs, u)
unfolding released_all
all_held w [] u e = refl
all_held w (h ∷ hs) u e =
    let a = held-released w u h (both_left (held w h) (held_all w hs) e) in
    let b = all_held w hs u (both_right (held w h) (held_all w hs) e) in
    rw (a, b) refl

heads-held : (w : ℕ → ℕ) (t : List ℕ) (u : Uses) → held_all w (heads_of t) ≡ true → (t, u) ≡ released_heads w Head t u
unfolding released_heads
heads-held w t u e =
    ap (λ (l : List ℕ). (l, u)) (sym (take-append-drop queues t))
    ∙ sym (ap (λ (r : List ℕ × Uses). (with_heads r.0 t, r.1)) (all_held w (heads_of t) u e))

-- ---- the flags

settled-none : (q : ℕ) (cs : List ℕ) → settled 0 q cs ≡ 0
settled-none q [] = refl
settled-none q (c ∷ cs) =
    ap (λ (m : ℕ). settled m (q + 1) cs)
    (ap (λ (x : ℕ). pick (eqb c teardown_done) x 0) (clear_bit-none q) ∙ pick_same (eqb c teardown_done) 0)
    ∙ settled-none (q + 1) cs

flags-kept : (t : List ℕ) → reset_of t ≡ false → any_tearing t ≡ false → t ≡ released_flags t
flags-kept t r a =
    let z : tearings_of t ≡ 0 = any_tearing-zero t a in
    let e : tearings_of t ≡ settled (tearings_of t) 0 (cps_of t) =
    z ∙ sym (ap (λ (m : ℕ). settled m 0 (cps_of t)) z ∙ settled-none 0 (cps_of t)) in
    sym (set-get_or t tearing_at 0) ∙ released_flags-else t (sym (simp r)) e refl

-- ---- the whole world

pub release-quiet : (s : World) → quiet (word s.mem) s.state ≡ true → release s ≡ s
release-quiet s e =
    let q = quiet_is (word s.mem) s.state e in
    sym (release-parts s
    (released_book-is (word s.mem) s.state (s.used, s.lens)
    (simp q.reset)
    (heads-held (word s.mem) s.state (s.used, s.lens) q.heads)
    (flags-kept s.state q.reset q.tearing)))
