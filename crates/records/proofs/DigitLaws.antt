-- How the decimal digits of a number come one at a time. Assumes nothing.
--     decimal_digit, decimal-more      a number below 10 is one digit; any other is its tenth with its last digit behind
--     length-decimal-more              one digit more than a tenth of it has
use Prim.Native.Nat.{ℕ, zero, suc, ◌+◌, ◌*◌, ◌/◌, ◌%◌, ◌≤◌, ◌<◌, ◌^◌}
use mathlib.Core.Path.{◌≡◌, ap, ◌∙◌, sym}
use mathlib.Core.List.{List, [], ◌∷◌, ◌++◌}
use native.Mathlib.Omega.{arith}
use lib.ListN.{length, length-append}
use lib.Dec.{ltb}
use borrow.Author.Tests.{lt-ltb, le-ltb}
use Rattle.layout.specs.Choice.{pick}
use Rattle.records.specs.Lines.{digits_for, decimal}

digits-one : (k n : ℕ) → n < 10 → digits_for (suc k) n ≡ (48 + n) ∷ []
digits-one k n h = rw (lt-ltb n 10 h)

digits_more : (k n : ℕ) → 10 ≤ n → digits_for (suc k) n ≡ digits_for k (n / 10) ++ ((48 + n % 10) ∷ [])
digits_more k n h = rw (le-ltb n 10 h)

abbrev tens : ℕ → ℕ
tens zero = 1
tens (suc k) = 10 * tens k

-- digits that a number has not are not asked for
digits_same : (k n : ℕ) → n < tens (suc k) → digits_for (suc (suc k)) n ≡ digits_for (suc k) n
digits_same zero n h = let l : n < 10 = omega arith in digits-one 1 n l ∙ sym (digits-one 0 n l)
digits_same (suc k) n h =
    ap (λ (d : List ℕ). pick (ltb n 10) ((48 + n) ∷ []) (d ++ ((48 + n % 10) ∷ []))) (digits_same k (n / 10) (omega arith))

pub decimal_digit : (n : ℕ) → n < 10 → decimal n ≡ (48 + n) ∷ []
unfolding decimal
decimal_digit n h = digits-one 19 n h

pub decimal-more : (n : ℕ) → 10 ≤ n → n < 2 ^ 64 → decimal n ≡ decimal (n / 10) ++ ((48 + n % 10) ∷ [])
unfolding decimal
decimal-more n h b =
    digits_more 19 n h
    ∙ ap (λ (d : List ℕ). d ++ ((48 + n % 10) ∷ [])) (sym (digits_same 18 (n / 10) (omega arith)))

pub length-decimal-more : (n : ℕ) → 10 ≤ n → n < 2 ^ 64 → length (decimal n) ≡ length (decimal (n / 10)) + 1
length-decimal-more n h b = ap length (decimal-more n h b) ∙ length-append (decimal (n / 10)) ((48 + n % 10) ∷ [])
