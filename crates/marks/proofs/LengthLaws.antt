-- The lowest eleven bits of a word, and a length put in there. Assumes nothing.
--     set_bit-mod, clear_bit-mod           the lowest eleven bits stay
--     put_length-mod, -div, -bit, -lt     the length put in, and all above it
use Prim.Native.Nat.{ℕ, ◌+◌, ◌*◌, ◌/◌, ◌%◌, ◌≤◌, ◌<◌, ◌^◌}
use mathlib.Core.Path.{◌≡◌, refl, ap, ◌∙◌, sym}
use native.Mathlib.Nat.{div-div-eq-div-mul, add-mul-mod_self_right}
use native.Mathlib.Omega.{arith}
use lib.Dec.{eqb}
use Rattle.layout.specs.Bits.{bit, set_bit, clear_bit}
use Rattle.layout.proofs.BitLaws.{bit_le, set-case, clear-case}
use Rattle.marks.specs.Marks.{put_length}

-- ---- the lowest eleven bits

pub set_bit-mod : (k q w : ℕ) → 2 ^ k ≡ q * 2048 → set_bit k w % 2048 ≡ w % 2048
set_bit-mod k q w e =
    set-case (λ x. x % 2048 ≡ w % 2048) k w (λ h. refl)
    (λ h. ap (λ (p : ℕ). (w + p) % 2048) e ∙ add-mul-mod_self_right w q 2048)

pub clear_bit-mod : (k q w : ℕ) → 2 ^ k ≡ q * 2048 → clear_bit k w % 2048 ≡ w % 2048
clear_bit-mod k q w e =
    clear-case (λ x. x % 2048 ≡ w % 2048) k w
    (λ h. let l : 2 ^ k ≤ w = bit_le k w h in omega (arith, e, l))
    (λ h. refl)

-- ---- a length put in

pub put_length-mod : (n w : ℕ) → n < 2048 → put_length n w % 2048 ≡ n
unfolding put_length
put_length-mod n w h = omega arith

pub put_length-div : (n w : ℕ) → n < 2048 → put_length n w / 2048 ≡ w / 2048
unfolding put_length
put_length-div n w h = omega arith

pub put_length-lt : (n w : ℕ) → n < 2048 → w < 2 ^ 32 → put_length n w < 2 ^ 32
unfolding put_length
put_length-lt n w h g = omega arith

bit-above : (k j w : ℕ) → 2 ^ k ≡ 2048 * 2 ^ j → bit k w ≡ bit j (w / 2048)
bit-above k j w e = ap (λ (n : ℕ). eqb (n % 2) 1) (ap (λ (p : ℕ). w / p) e ∙ sym (div-div-eq-div-mul w 2048 (2 ^ j)))

pub put_length-bit : (k j n w : ℕ) → 2 ^ k ≡ 2048 * 2 ^ j → n < 2048 → bit k (put_length n w) ≡ bit k w
put_length-bit k j n w e h = bit-above k j (put_length n w) e ∙ ap (bit j) (put_length-div n w h) ∙ sym (bit-above k j w e)
