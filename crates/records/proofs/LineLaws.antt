-- The digits of a number, and how long a line can be. Assumes nothing.
--     decimal-same                     the digits are those that std's `{}` writes
--     hex_for-more, hex-before         in hex, one digit more; the last digit stored, and the others in front of it
--     length-hex_for, length-hex8       in hex the length is known
--     length-decimal                   in decimal it is 1 to 20
--     length-line_of, length-sent_line, length-bad_line   a line has at most line_max bytes
use Prim.Native.Nat.{ℕ, zero, suc, ◌+◌, ◌-◌, ◌/◌, ◌%◌, ◌≤◌, ◌<◌, ◌^◌}
use mathlib.Core.Path.{◌≡◌, refl, ap, ◌∙◌, sym}
use mathlib.Core.Bool.{Bool, true, false}
use mathlib.Core.List.{List, [], ◌∷◌, ◌++◌}
use native.Mathlib.Numerals.{add-one}
use native.Mathlib.Omega.{arith}
use lib.ListN.{length, drop, set, length-append}
use lib.Dec.{ltb}
use borrow.Author.Tests.{lt-ltb, le-ltb}
use Rattle.std.specs.Fmt.{decimal as std_decimal}
use Rattle.std.proofs.Common.{append_assoc}
use Rattle.std.proofs.lemmas.List.{drop-set}
use Rattle.std.proofs.lemmas.Fmt.{AppendsLastDigit, decimal_from_appends, length-decimal-le}
use Rattle.layout.specs.Choice.{pick}
use Rattle.phases.specs.declared.Burst.TheVariants.{Quiet, Read, Store}
use Rattle.records.specs.declared.Event.{Event}
use Rattle.records.specs.declared.Event.TheVariants.{Wrote, Changed, Framed, Moved}
use Rattle.records.specs.Lines.{digits_for, decimal, hex_digit, hex_for, hex8, line_with, line_of, sent_line, bad_line, line_max}

-- ---- decimal

pick-short : (t : Bool) (x d k : ℕ) (l : List ℕ) → length l ≤ k → length (pick t (x ∷ []) (l ++ (d ∷ []))) ≤ suc k
pick-short true x d k l h = omega arith
pick-short false x d k l h = simp length-append (omega arith)

pick_some : (t : Bool) (x d : ℕ) (l : List ℕ) → 1 ≤ length (pick t (x ∷ []) (l ++ (d ∷ [])))
pick_some true x d l = omega arith
pick_some false x d l = simp length-append (omega arith)

digits-short : (k n : ℕ) → length (digits_for k n) ≤ k
digits-short zero n = omega arith
digits-short (suc k) n = pick-short (ltb n 10) (48 + n) (48 + n % 10) k (digits_for k (n / 10)) (digits-short k (n / 10))

appends : AppendsLastDigit digits_for
appends = record { one = λ k n h. rw (lt-ltb n 10 h); more = λ k n h. rw (le-ltb n 10 h) }

pub length-decimal : (n : ℕ) → (1 ≤ length (decimal n)) × (length (decimal n) ≤ 20)
unfolding decimal
length-decimal n = (pick_some (ltb n 10) (48 + n) (48 + n % 10) (digits_for 19 (n / 10)), digits-short 20 n)

-- what std says of a number's text
pub decimal-same : (n : ℕ) → n < 2 ^ 64 → std_decimal n ≡ decimal n
unfolding decimal
decimal-same n h = sym (decimal_from_appends digits_for appends 20 n h (length-decimal-le 20 n (omega arith) (omega arith) h))

-- ---- hex

pub length-hex_for : (k a : ℕ) → length (hex_for k a) ≡ k
length-hex_for zero a = refl
length-hex_for (suc k) a =
    length-append (hex_for k (a / 16)) (hex_digit (a % 16) ∷ [])
    ∙ ap (λ (n : ℕ). n + 1) (length-hex_for k (a / 16))
    ∙ add-one k

pub length-hex8 : (a : ℕ) → length (hex8 a) ≡ 8
unfolding hex8
length-hex8 a = length-hex_for 8 a

pub hex_for-more : (k a : ℕ) → 0 < k → hex_for k a ≡ hex_for (k - 1) (a / 16) ++ (hex_digit (a % 16) ∷ [])
hex_for-more zero a h = absurd (omega arith)
hex_for-more (suc k) a h =
    let e : suc k - 1 ≡ k = omega arith in ap (λ (j : ℕ). hex_for j (a / 16) ++ (hex_digit (a % 16) ∷ [])) (sym e)

-- the last digit stored, and the others in front of it
pub hex-before : (ds : List ℕ) (k m d : ℕ) → 0 < k → k ≤ length ds → d ≡ hex_digit (m % 16)
    → hex_for (k - 1) (m / 16) ++ drop (k - 1) (set ds (k - 1) d) ≡ hex_for k m ++ drop k ds
hex-before ds k m d h g e =
    let front = hex_for (k - 1) (m / 16) in
    let n : k - 1 + 1 ≡ k = omega arith in
    ap (λ (t : List ℕ). front ++ t) (drop-set ds (k - 1) d (omega arith) ∙ ap (λ (j : ℕ). d ∷ drop j ds) n)
    ∙ ap (λ (x : ℕ). front ++ (x ∷ drop k ds)) e
    ∙ sym (append_assoc front (hex_digit (m % 16) ∷ []) (drop k ds))
    ∙ ap (λ (w : List ℕ). w ++ drop k ds) (sym (hex_for-more k m h))

-- ---- a line

line_with-short : (c n : ℕ) (part : List ℕ) → length part ≤ 20 → length (line_with c part n) ≤ line_max
line_with-short c n part h = simp length-append (omega (arith, length-decimal n))

pub length-line_of : (e : Event) → length (line_of e) ≤ line_max
unfolding line_of
length-line_of (Wrote a n) = line_with-short 87 n (hex8 a) (omega (arith, length-hex8 a))
length-line_of (Changed b n) = line_with-short 75 n (decimal b) (length-decimal b).1
length-line_of (Framed l n) = line_with-short 70 n (decimal l) (length-decimal l).1
length-line_of (Moved Quiet) = omega arith
length-line_of (Moved (Read a n)) = line_with-short 82 n (hex8 a) (omega (arith, length-hex8 a))
length-line_of (Moved (Store a n)) = line_with-short 83 n (hex8 a) (omega (arith, length-hex8 a))

pub length-sent_line : (a b : ℕ) → length (sent_line a b) ≤ line_max
unfolding sent_line
length-sent_line a b = simp length-append (omega (arith, length-decimal a, length-decimal b))

pub length-bad_line : (o : ℕ) → length (bad_line o) ≤ line_max
unfolding bad_line
length-bad_line o = simp length-append (omega (arith, length-decimal o))
