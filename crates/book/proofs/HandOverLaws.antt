-- What the hand-over of a chain is, by cases, and that it ends. Assumes nothing.
--     hand_over_step-falls     each step leaves fewer free words
--     taken-eq                 the recursion equation: one step, and then the hand-over from where it goes
--     taken-go                 a descriptor that is free is taken
--     taken-on, -over, -falls  one step told: the hand-over goes on, with fewer free words, or it is over
use Prim.Native.Nat.{ℕ, ◌+◌, ◌<◌}
use mathlib.Core.Path.{◌≡◌, refl, ap, ◌∙◌, sym}
use mathlib.Core.Bool.{Bool, true, false}
use native.Mathlib.Omega.{arith}
use Rattle.layout.specs.Choice.{pick}
use Rattle.layout.specs.Run.{Next, go, stop, after}
use Rattle.layout.specs.Layout.{good_ptr, word_of}
use Rattle.layout.specs.declared.Side.{Side}
use Rattle.layout.proofs.RunLaws.{run-eq}
use Rattle.words.specs.WordSet.{free_at, free_count}
use Rattle.words.proofs.SetLaws.{free_count-falls}
use Rattle.book.specs.HandOver.{Uses, take_one, hand_over_step, taken_from}

-- ---- the measure

take_one-falls : (side : Side) (x2 : ℕ) (u : Uses) (d : ℕ) → free_at u.0 d ≡ true → free_count (take_one side x2 u d).0 < free_count u.0
unfolding take_one
take_one-falls side x2 u d h = free_count-falls u.0 d h

falls_at : (a b : Bool) (side : Side) (x2 : ℕ) (u : Uses) (d next : ℕ) (y z : Uses) (t : Uses × ℕ) → free_at u.0 d ≡ b
    → pick a (pick b (go (take_one side x2 u d, next)) (stop y)) (stop z) ≡ go t → free_count t.0.0 < free_count u.0
falls_at true true side x2 u d next y z t h e =
    let k : (take_one side x2 u d, next) ≡ t = cc in
    rw (← k) (take_one-falls side x2 u d h)
falls_at true false side x2 u d next y z t h e = let n : ◌≡◌ {A = ℕ} 0 1 = cc in absurd (omega arith)
falls_at false b side x2 u d next y z t h e = let n : ◌≡◌ {A = ℕ} 0 1 = cc in absurd (omega arith)

pub hand_over_step-falls : (w : ℕ → ℕ) (side : Side) (s t : Uses × ℕ) → hand_over_step w side s ≡ go t
    → free_count t.0.0 < free_count s.0.0
unfolding hand_over_step
hand_over_step-falls w side s t e =
    falls_at
    (good_ptr s.1)
    (free_at s.0.0 (word_of s.1))
    side
    (w (word_of s.1 + 2))
    s.0
    (word_of s.1)
    (w (word_of s.1))
    _
    _
    t
    refl
    e

module _ (w : ℕ → ℕ) (side : Side) (u : Uses) (p : ℕ) where
  -- ---- the chain, by cases

  pub taken-eq : taken_from w side u p ≡ after (hand_over_step w side (u, p)) (λ t. taken_from w side t.0 t.1)
  unfolding taken_from
  taken-eq = run-eq (hand_over_step w side) _ _ (hand_over_step-falls w side) (u, p)

  module _ (g : good_ptr p ≡ true) where
    pub taken-go : free_at u.0 (word_of p) ≡ true
        → taken_from w side u p ≡ taken_from w side (take_one side (w (word_of p + 2)) u (word_of p)) (w (word_of p))
    unfolding hand_over_step
    taken-go h = taken-eq ∙ simp (g, h)

  -- one step told: the hand-over goes on, or it is over
  pub taken-on : {v : Uses} {next : ℕ} → go (v, next) ≡ hand_over_step w side (u, p) → taken_from w side v next ≡ taken_from w side u p
  taken-on e = sym (taken-eq ∙ ap (λ (n : Next (Uses × ℕ) Uses). after n (λ s. taken_from w side s.0 s.1)) (sym e))

  pub taken-over : {o : Uses} → stop o ≡ hand_over_step w side (u, p) → o ≡ taken_from w side u p
  taken-over e = sym (taken-eq ∙ ap (λ (n : Next (Uses × ℕ) Uses). after n (λ s. taken_from w side s.0 s.1)) (sym e))

  pub taken-falls : {v : Uses} {next : ℕ} → go (v, next) ≡ hand_over_step w side (u, p) → free_count v.0 < free_count u.0
  taken-falls e = hand_over_step-falls w side (u, p) _ (sym e)
