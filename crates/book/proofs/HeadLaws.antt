-- One queue after the other: the folds over the heads and over the CPs of a table, as a loop finds them. Assumes nothing.
--     Walking, walking-next, -last       the chain walks, from place q of the heads on
--     Noting, noting-next, -last         the first words of the receive queues, from channel c on
--     Releasing, releasing-next, -last   the release, from place q of the heads on
--     Settling, settling-next, -last     the teardowns that are over, from queue q on
use Prim.Native.Nat.{ℕ, zero, suc, ◌+◌, ◌*◌, ◌<◌, ◌≤◌}
use mathlib.Core.Path.{◌≡◌, refl, ap, ◌∙◌, sym}
use mathlib.Core.Bool.{Bool, true, ◌&&◌}
use mathlib.Core.List.{List, [], ◌∷◌, ◌++◌, append-nil}
use native.Mathlib.Omega.{arith}
use native.Mathlib.Numerals.{add-one}
use lib.ListN.{length, get_or, set, take, drop, length-take, drop_of_length-le}
use lib.Seq.{take_all}
use lib.Dec.{eqb}
use Rattle.layout.specs.Choice.{pick, both}
use Rattle.layout.specs.Bits.{clear_bit}
use Rattle.layout.specs.Layout.{channels, queues}
use Rattle.layout.proofs.ChoiceLaws.{both_true}
use Rattle.layout.proofs.PointerLaws.{good_ptr-zero}
use Rattle.registers.specs.Table.{cp_at, cp_of, tearings_of, heads_of, cps_of}
use Rattle.registers.specs.Rules.{teardown_done}
use Rattle.registers.proofs.TableLaws.{get_or-heads_of, get_or-cps_of}
use Rattle.book.specs.declared.Mode.{Mode}
use Rattle.book.specs.HandOver.{Uses}
use Rattle.book.specs.Release.{ROut, released_from, released_all, settled, with_heads, released_heads}
use Rattle.book.specs.Sound.{WOut, walk_from, walk_all, firsts_from, firsts_all}
use Rattle.book.proofs.ReleaseLaws.{released-bad}
use Rattle.book.proofs.SoundLaws.{and-both, walk_end, firsts-bad}

-- past the last queue there is none
none_left : (q : ℕ) (t : List ℕ) → queues ≤ q → drop q (take queues t) ≡ []
none_left q t h = drop_of_length-le (take queues t) {i = q} (omega (arith, length-take queues t))

-- ---- the chain walks

-- whether all was good so far, and the rest
abbrev pub so_far : Bool → WOut → WOut
so_far b r = (both b r.0, r.1)

walk-nil : (w : ℕ → ℕ) (met : List ℕ) → walk_all w [] met ≡ (true, met)
unfolding walk_all
walk-nil w met = refl

walk-cons : (w : ℕ → ℕ) (h : ℕ) (hs met : List ℕ) {b : Bool} {v : List ℕ} → (b, v) ≡ walk_from w met h
    → walk_all w (h ∷ hs) met ≡ so_far b (walk_all w hs v)
unfolding walk_all
walk-cons w h hs met e = rw (← e) refl

-- from 0 nothing is walked
walk_none : (w : ℕ → ℕ) (met : List ℕ) {b : Bool} {v : List ℕ} → (b, v) ≡ walk_from w met 0 → walk_all w [] met ≡ so_far b (walk_all w [] v)
walk_none w met e =
    let z = e ∙ walk_end w met 0 refl in
    walk-nil w met ∙ sym (ap (λ (x : WOut). so_far x.0 (walk_all w [] x.1)) z ∙ walk-nil w met)

walk-suc : (w : ℕ → ℕ) (hs met : List ℕ) (q : ℕ) {b : Bool} {v : List ℕ} → (b, v) ≡ walk_from w met (get_or hs q 0)
    → walk_all w (drop q hs) met ≡ so_far b (walk_all w (drop (suc q) hs) v)
walk-suc w [] met zero e = walk_none w met e
walk-suc w [] met (suc q) e = walk_none w met e
walk-suc w (h ∷ hs) met zero e = walk-cons w h hs met e
walk-suc w (h ∷ hs) met (suc q) e = walk-suc w hs met q e

pub record Walking (w : ℕ → ℕ) (hs met₀ : List ℕ) (q : ℕ) (good : Bool) (met : List ℕ) : Type 0 where
  pub rest : so_far good (walk_all w (drop q hs) met) ≡ walk_all w hs met₀

pub walking-next : {w : ℕ → ℕ} {hs met₀ : List ℕ} {q : ℕ} {good b : Bool} {met v : List ℕ} → (b, v) ≡ walk_from w met (get_or hs q 0)
    → Walking w hs met₀ q good met → Walking w hs met₀ (q + 1) (good && b) v
walking-next {w} {hs} {met₀} {q} {good} {b} {met} {v} e k =
    let r = walk_all w (drop (suc q) hs) v in
    record {
      rest =
          rw (add-one q)
          (ap (λ (a : Bool). (a, r.1)) (and-both good b r.0)
          ∙ sym (ap (λ (x : WOut). so_far good x) (walk-suc w hs met q e))
          ∙ k.rest);
    }

pub walking-last : {w : ℕ → ℕ} {hs met₀ : List ℕ} {q : ℕ} {good : Bool} {met : List ℕ} → length hs ≤ q → Walking w hs met₀ q good met
    → (good, met) ≡ walk_all w hs met₀
walking-last {w} {hs} {met₀} {q} {good} {met} h k =
    ap (λ (b : Bool). (b, met)) (sym (both_true good))
    ∙ sym (ap (λ (x : WOut). so_far good x) (ap (λ (l : List ℕ). walk_all w l met) (drop_of_length-le hs {i = q} h) ∙ walk-nil w met))
    ∙ k.rest

-- ---- the first words of the receive queues

firsts-two : (w : ℕ → ℕ) (hs firsts : List ℕ) (n : ℕ)
    → firsts_all w (drop (suc (suc n)) hs) (firsts_from w firsts (get_or hs (suc n) 0)) ≡ firsts_all w (drop n hs) firsts
firsts-two w [] firsts zero = firsts-bad w firsts 0 good_ptr-zero
firsts-two w [] firsts (suc n) = firsts-bad w firsts 0 good_ptr-zero
firsts-two w (t ∷ []) firsts zero = firsts-bad w firsts 0 good_ptr-zero
firsts-two w (t ∷ []) firsts (suc n) = firsts-two w [] firsts n
firsts-two w (t ∷ r ∷ hs) firsts zero = refl
firsts-two w (t ∷ r ∷ hs) firsts (suc n) = firsts-two w (r ∷ hs) firsts n

pub record Noting (w : ℕ → ℕ) (t firsts₀ : List ℕ) (c : ℕ) (firsts : List ℕ) : Type 0 where
  pub rest : firsts_all w (drop (2 * c) (heads_of t)) firsts ≡ firsts_all w (heads_of t) firsts₀

pub noting-next : {w : ℕ → ℕ} {t firsts₀ : List ℕ} {c : ℕ} {firsts v : List ℕ} → c < channels
    → v ≡ firsts_from w firsts (get_or t (2 * c + 1) 0) → Noting w t firsts₀ c firsts → Noting w t firsts₀ (c + 1) v
noting-next {w} {t} {firsts₀} {c} {firsts} {v} h e k =
    let a : 2 * (c + 1) ≡ suc (suc (2 * c)) = omega arith in
    let b : 2 * c + 1 ≡ suc (2 * c) = omega arith in
    let g : suc (2 * c) < queues = omega arith in
    record { rest = rw (a, e, b, ← get_or-heads_of t (suc (2 * c)) g) (firsts-two w (heads_of t) firsts (2 * c) ∙ k.rest) }

pub noting-last : {w : ℕ → ℕ} {t firsts₀ : List ℕ} {c : ℕ} {firsts : List ℕ} → channels ≤ c → Noting w t firsts₀ c firsts
    → firsts ≡ firsts_all w (heads_of t) firsts₀
noting-last {w} {t} {firsts₀} {c} {firsts} h k =
    sym (ap (λ (l : List ℕ). firsts_all w l firsts) (none_left (2 * c) t (omega arith))) ∙ k.rest

-- ---- the release

-- heads that are done, and the rest
abbrev pub behind : List ℕ → List ℕ × Uses → List ℕ × Uses
behind xs r = (xs ++ r.0, r.1)

released-nil : (w : ℕ → ℕ) (mode : Mode) (u : Uses) → released_all w mode [] u ≡ ([], u)
unfolding released_all
released-nil w mode u = refl

released-cons : (w : ℕ → ℕ) (mode : Mode) (h : ℕ) (hs : List ℕ) (u : Uses) {x : ℕ} {v : Uses} → (x, v) ≡ released_from w u h mode
    → released_all w mode (h ∷ hs) u ≡ behind (x ∷ []) (released_all w mode hs v)
unfolding released_all
released-cons w mode h hs u e = rw (← e) refl

-- from 0 nothing is released
released-none : (w : ℕ → ℕ) (mode : Mode) (u : Uses) {x : ℕ} {v : Uses} → (x, v) ≡ released_from w u 0 mode
    → released_all w mode [] v ≡ released_all w mode [] u
released-none w mode u e = ap (λ (r : ROut). released_all w mode [] r.1) (e ∙ released-bad w u 0 mode good_ptr-zero)

released-suc : (w : ℕ → ℕ) (mode : Mode) (hs : List ℕ) (u : Uses) (q : ℕ) {x : ℕ} {v : Uses}
    → (x, v) ≡ released_from w u (get_or hs q 0) mode
    → behind (take (suc q) (set hs q x)) (released_all w mode (drop (suc q) (set hs q x)) v)
    ≡ behind (take q hs) (released_all w mode (drop q hs) u)
released-suc w mode [] u zero e = released-none w mode u e
released-suc w mode [] u (suc q) e = released-none w mode u e
released-suc w mode (h ∷ hs) u zero e = sym (released-cons w mode h hs u e)
released-suc w mode (h ∷ hs) u (suc q) e = ap (λ (r : List ℕ × Uses). behind (h ∷ []) r) (released-suc w mode hs u q e)

-- the heads before place q are released where they lie
pub record Releasing (w : ℕ → ℕ) (mode : Mode) (hs₀ : List ℕ) (u₀ : Uses) (q : ℕ) (hs : List ℕ) (u : Uses) : Type 0 where
  pub heads : behind (take q hs) (released_all w mode (drop q hs) u) ≡ released_all w mode hs₀ u₀

pub releasing-next : {w : ℕ → ℕ} {mode : Mode} {hs₀ : List ℕ} {u₀ : Uses} {q : ℕ} {hs : List ℕ} {u : Uses} {x : ℕ} {v : Uses}
    → (x, v) ≡ released_from w u (get_or hs q 0) mode → Releasing w mode hs₀ u₀ q hs u → Releasing w mode hs₀ u₀ (q + 1) (set hs q x) v
releasing-next {w} {mode} {hs₀} {u₀} {q} {hs} {u} {x} {v} e k = record { heads = rw (add-one q) (released-suc w mode hs u q e ∙ k.heads) }

releasing-done : {w : ℕ → ℕ} {mode : Mode} {hs₀ : List ℕ} {u₀ : Uses} {q : ℕ} {hs : List ℕ} {u : Uses} → length hs ≤ q
    → Releasing w mode hs₀ u₀ q hs u → (hs, u) ≡ released_all w mode hs₀ u₀
releasing-done {w} {mode} {hs₀} {u₀} {q} {hs} {u} h k =
    ap (λ (l : List ℕ). (l, u)) (sym (append-nil hs))
    ∙ sym (ap (λ (r : List ℕ × Uses). behind hs r)
    (ap (λ (l : List ℕ). released_all w mode l u) (drop_of_length-le hs {i = q} h) ∙ released-nil w mode u))
    ∙ sym (ap (λ (l : List ℕ). behind l (released_all w mode (drop q hs) u)) (take_all q hs h))
    ∙ k.heads

pub releasing-last : (t : List ℕ) {w : ℕ → ℕ} {mode : Mode} {u₀ : Uses} {q : ℕ} {hs : List ℕ} {u : Uses} → length hs ≤ q
    → Releasing w mode (heads_of t) u₀ q hs u → (with_heads hs t, u) ≡ released_heads w mode t u₀
unfolding released_heads
releasing-last t h k = ap (λ (r : List ℕ × Uses). (with_heads r.0 t, r.1)) (releasing-done h k)

-- ---- the teardowns that are over

settled-suc : (mask n : ℕ) (cs : List ℕ) (q : ℕ)
    → settled mask n (drop q cs) ≡ settled (pick (eqb (get_or cs q 0) teardown_done) (clear_bit n mask) mask) (n + 1) (drop (suc q) cs)
settled-suc mask n [] zero = refl
settled-suc mask n [] (suc q) = refl
settled-suc mask n (c ∷ cs) zero = refl
settled-suc mask n (c ∷ cs) (suc q) = settled-suc mask n cs q

pub record Settling (t : List ℕ) (q mask : ℕ) : Type 0 where
  pub rest : settled mask q (drop q (cps_of t)) ≡ settled (tearings_of t) 0 (cps_of t)

pub settling-next : {t : List ℕ} {q mask m : ℕ} → q < queues → m ≡ pick (eqb (cp_of t q) teardown_done) (clear_bit q mask) mask
    → Settling t q mask
    → Settling t (q + 1) m
settling-next {t} {q} {mask} {m} h e k = record {
  rest =
      ap (λ (l : List ℕ). settled m (q + 1) l) (ap (λ (n : ℕ). drop n (cps_of t)) (add-one q))
      ∙ ap (λ (n : ℕ). settled n (q + 1) (drop (suc q) (cps_of t)))
      (e ∙ ap (λ (x : ℕ). pick (eqb x teardown_done) (clear_bit q mask) mask) (sym (get_or-cps_of t q h)))
      ∙ sym (settled-suc mask q (cps_of t) q)
      ∙ k.rest;
}

pub settling-last : {t : List ℕ} {q mask : ℕ} → queues ≤ q → Settling t q mask → mask ≡ settled (tearings_of t) 0 (cps_of t)
settling-last {t} {q} {mask} h k = sym (ap (λ (l : List ℕ). settled mask q l) (none_left q (drop (cp_at 0) t) h)) ∙ k.rest
