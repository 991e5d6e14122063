-- One bit set or cleared: what it leaves of every other bit. Assumes nothing.
--     bit-zero, bit-suc, bit_le          a bit by halving; a word with bit k is at least 2 ^ k
--     set-case, clear-case               a mark goes by what was there
--     bit-set_bit-same, -other            the bit that was set; any other bit
--     bit-clear_bit-same, -other          the bit that was cleared; any other bit
--     set_bit-lt, clear_bit-lt             the word stays below a power of 2
--     bits-same                          words with the same bits are the same
-- A bit is reached by halving: bit k + 1 of w is bit k of w / 2, and setting it there is setting it here.
use Rattle.std.proofs.Common.{◌≡◌, ℕ, zero, suc, ◌+◌, ◌-◌, ◌*◌, ◌/◌, ◌%◌, ◌^◌, ◌<◌, ◌≤◌, Bool, true, false, eqb, ◌≢◌, sym, refl, ap, ◌∙◌}
use Rattle.std.proofs.Common.{div-one, arith, eq-eqb, ne_eqb, eqb-true}
use native.Mathlib.Nat.{pow-succ', div-div-eq-div-mul}
use borrow.Author.Tests.{eqb-false}
use Rattle.layout.specs.Choice.{pick}
use Rattle.layout.specs.Bits.{bit, set_bit, clear_bit}

-- ---- by halves

pub bit-zero : (w : ℕ) → bit 0 w ≡ eqb (w % 2) 1
bit-zero w = rw div-one

pub bit-suc : (k w : ℕ) → bit (suc k) w ≡ bit k (w / 2)
bit-suc k w = ap (λ (n : ℕ). eqb (n % 2) 1) (ap (λ (p : ℕ). w / p) (pow-succ' 2 k) ∙ sym (div-div-eq-div-mul w 2 (2 ^ k)))

pub bit_le : (k w : ℕ) → bit k w ≡ true → 2 ^ k ≤ w
bit_le zero w e = let odd : w % 2 ≡ 1 = eqb-true _ _ (sym (bit-zero w) ∙ e) in omega arith
bit_le (suc k) w e = let h : 2 ^ k ≤ w / 2 = bit_le k (w / 2) (sym (bit-suc k w) ∙ e) in omega arith

-- a mark goes by what was there; what holds of both outcomes holds of it
pub set-case : (P : ℕ → Type 0) (k w : ℕ) → (bit k w ≡ true → P w) → (bit k w ≡ false → P (w + 2 ^ k)) → P (set_bit k w)
unfolding set_bit
set-case P k w f g = at (bit k w) refl
  where
    at : (b : Bool) → bit k w ≡ b → P (pick b w (w + 2 ^ k))
    at true e = f e
    at false e = g e

pub clear-case : (P : ℕ → Type 0) (k w : ℕ) → (bit k w ≡ true → P (w - 2 ^ k)) → (bit k w ≡ false → P w) → P (clear_bit k w)
unfolding clear_bit
clear-case P k w f g = at (bit k w) refl
  where
    at : (b : Bool) → bit k w ≡ b → P (pick b (w - 2 ^ k) w)
    at true e = f e
    at false e = g e

set_bit-suc : (k w : ℕ) → set_bit (suc k) w ≡ w % 2 + 2 * set_bit k (w / 2)
unfolding set_bit
set_bit-suc k w = at (bit k (w / 2)) refl
  where
    at : (b : Bool) → bit k (w / 2) ≡ b → set_bit (suc k) w ≡ w % 2 + 2 * set_bit k (w / 2)
    at true e = simp (bit-suc k w ∙ e, e) (omega arith)
    at false e = simp (bit-suc k w ∙ e, e) (omega arith)

clear_bit-suc : (k w : ℕ) → clear_bit (suc k) w ≡ w % 2 + 2 * clear_bit k (w / 2)
unfolding clear_bit
clear_bit-suc k w = at (bit k (w / 2)) refl
  where
    at : (b : Bool) → bit k (w / 2) ≡ b → clear_bit (suc k) w ≡ w % 2 + 2 * clear_bit k (w / 2)
    at true e = let h : 2 ^ k ≤ w / 2 = bit_le k (w / 2) e in simp (bit-suc k w ∙ e, e) (omega arith)
    at false e = simp (bit-suc k w ∙ e, e) (omega arith)

-- a word put together of its lowest bit and the rest
rest_of : (b w : ℕ) → b < 2 → (b + 2 * w) / 2 ≡ w
rest_of b w h = omega arith

low_of : (b w : ℕ) → b < 2 → (b + 2 * w) % 2 ≡ b
low_of b w h = omega arith

bit-rest : (k b w : ℕ) → b < 2 → bit (suc k) (b + 2 * w) ≡ bit k w
bit-rest k b w h = bit-suc k (b + 2 * w) ∙ ap (bit k) (rest_of b w h)

bit-low : (b w v : ℕ) → b < 2 → v % 2 ≡ b → bit 0 (b + 2 * w) ≡ bit 0 v
bit-low b w v h e = bit-zero (b + 2 * w) ∙ ap (λ (n : ℕ). eqb n 1) (low_of b w h ∙ sym e) ∙ sym (bit-zero v)

-- ---- the bit itself

pub bit-set_bit-same : (k w : ℕ) → bit k (set_bit k w) ≡ true
bit-set_bit-same zero w =
    set-case (λ x. bit 0 x ≡ true) 0 w (λ e. e)
    (λ e. let h : w % 2 ≢ 1 = eqb-false _ _ (sym (bit-zero w) ∙ e) in bit-zero (w + 1) ∙ eq-eqb ((w + 1) % 2) 1 (omega (arith, h)))
bit-set_bit-same (suc k) w = ap (bit (suc k)) (set_bit-suc k w) ∙ bit-rest k (w % 2) (set_bit k (w / 2)) (omega arith)
    ∙ bit-set_bit-same k (w / 2)

pub bit-clear_bit-same : (k w : ℕ) → bit k (clear_bit k w) ≡ false
bit-clear_bit-same zero w =
    clear-case (λ x. bit 0 x ≡ false) 0 w
    (λ e. let h : w % 2 ≡ 1 = eqb-true _ _ (sym (bit-zero w) ∙ e) in bit-zero (w - 1) ∙ ne_eqb ((w - 1) % 2) 1 (λ g. omega (arith, h, g)))
    (λ e. e)
bit-clear_bit-same (suc k) w =
    ap (bit (suc k)) (clear_bit-suc k w) ∙ bit-rest k (w % 2) (clear_bit k (w / 2)) (omega arith) ∙ bit-clear_bit-same k (w / 2)

-- ---- any other bit

-- the lowest bit, set or clear, leaves the half
half-set : (w : ℕ) → set_bit 0 w / 2 ≡ w / 2
half-set w =
    set-case (λ x. x / 2 ≡ w / 2) 0 w (λ e. refl)
    (λ e. let h : w % 2 ≢ 1 = eqb-false _ _ (sym (bit-zero w) ∙ e) in omega (arith, h))

half-clear : (w : ℕ) → clear_bit 0 w / 2 ≡ w / 2
half-clear w =
    clear-case (λ x. x / 2 ≡ w / 2) 0 w
    (λ e. let h : w % 2 ≡ 1 = eqb-true _ _ (sym (bit-zero w) ∙ e) in omega arith)
    (λ e. refl)

pub bit-set_bit-other : (j k w : ℕ) → j ≢ k → bit j (set_bit k w) ≡ bit j w
bit-set_bit-other zero zero w n = absurd (n refl)
bit-set_bit-other zero (suc k) w n = ap (bit 0) (set_bit-suc k w) ∙ bit-low (w % 2) (set_bit k (w / 2)) w (omega arith) refl
bit-set_bit-other (suc j) zero w n = bit-suc j (set_bit 0 w) ∙ ap (bit j) (half-set w) ∙ sym (bit-suc j w)
bit-set_bit-other (suc j) (suc k) w n =
    ap (bit (suc j)) (set_bit-suc k w)
    ∙ bit-rest j (w % 2) (set_bit k (w / 2)) (omega arith)
    ∙ bit-set_bit-other j k (w / 2) (λ e. n (ap suc e))
    ∙ sym (bit-suc j w)

pub bit-clear_bit-other : (j k w : ℕ) → j ≢ k → bit j (clear_bit k w) ≡ bit j w
bit-clear_bit-other zero zero w n = absurd (n refl)
bit-clear_bit-other zero (suc k) w n = ap (bit 0) (clear_bit-suc k w) ∙ bit-low (w % 2) (clear_bit k (w / 2)) w (omega arith) refl
bit-clear_bit-other (suc j) zero w n = bit-suc j (clear_bit 0 w) ∙ ap (bit j) (half-clear w) ∙ sym (bit-suc j w)
bit-clear_bit-other (suc j) (suc k) w n =
    ap (bit (suc j)) (clear_bit-suc k w)
    ∙ bit-rest j (w % 2) (clear_bit k (w / 2)) (omega arith)
    ∙ bit-clear_bit-other j k (w / 2) (λ e. n (ap suc e))
    ∙ sym (bit-suc j w)

-- ---- bounds

pub set_bit-lt : (m k w : ℕ) → k < m → w < 2 ^ m → set_bit k w < 2 ^ m
set_bit-lt zero k w h g = absurd (omega arith)
set_bit-lt (suc m) zero w h g =
    set-case (λ x. x < 2 ^ suc m) 0 w (λ e. g)
    (λ e. let o : w % 2 ≢ 1 = eqb-false _ _ (sym (bit-zero w) ∙ e) in omega (arith, o))
set_bit-lt (suc m) (suc k) w h g =
    let i : set_bit k (w / 2) < 2 ^ m = set_bit-lt m k (w / 2) (omega arith) (omega arith) in
    rw (set_bit-suc k w) (omega arith)

pub clear_bit-lt : (m k w : ℕ) → w < 2 ^ m → clear_bit k w < 2 ^ m
clear_bit-lt m k w g = clear-case (λ x. x < 2 ^ m) k w (λ e. omega arith) (λ e. g)

-- ---- equal bit by bit

-- the lowest bit is the remainder
low_same : (x y : ℕ) → bit 0 x ≡ bit 0 y → x % 2 ≡ y % 2
low_same x y e = at (bit 0 x) refl
  where
    at : (b : Bool) → bit 0 x ≡ b → x % 2 ≡ y % 2
    at true h =
        let a : x % 2 ≡ 1 = eqb-true _ _ (sym (bit-zero x) ∙ h) in
        let c : y % 2 ≡ 1 = eqb-true _ _ (sym (bit-zero y) ∙ sym e ∙ h) in
        omega arith
    at false h =
        let a : x % 2 ≢ 1 = eqb-false _ _ (sym (bit-zero x) ∙ h) in
        let c : y % 2 ≢ 1 = eqb-false _ _ (sym (bit-zero y) ∙ sym e ∙ h) in
        omega (arith, a, c)

pub bits-same : (n x y : ℕ) → x < 2 ^ n → y < 2 ^ n → ((k : ℕ) → k < n → bit k x ≡ bit k y) → x ≡ y
bits-same zero x y a b f = omega arith
bits-same (suc n) x y a b f =
    let h : x / 2 ≡ y / 2 =
    bits-same n (x / 2) (y / 2) (omega arith) (omega arith) (λ k l. sym (bit-suc k x) ∙ f (suc k) (omega arith) ∙ bit-suc k y) in
    let o : x % 2 ≡ y % 2 = low_same x y (f 0 (omega arith)) in
    omega arith
