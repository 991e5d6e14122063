-- What each mark does to each flag and field of a descriptor. Assumes nothing.
--     FLAG-MARK          the flag FLAG of word 3 with the mark MARK: set, clear, or as it was
--     packet_length-MARK  the packet length of such a word
--     MARK-lt            such a word is still a word
--     length_of-put_length, offset_of-put_length   word 2 with another length
use Prim.Native.Nat.{ℕ, ◌*◌, ◌/◌, ◌%◌, ◌<◌, ◌^◌}
use mathlib.Core.Path.{◌≡◌, refl, ap, ◌∙◌, sym}
use mathlib.Core.Bool.{Bool, true, false}
use mathlib.Core.Logic.{◌≢◌}
use native.Mathlib.Nat.{div-div-eq-div-mul}
use lib.Dec.{eqb, lit<}
use borrow.Author.Tests.{eqb-false}
use Rattle.layout.specs.Choice.{pick}
use Rattle.layout.specs.declared.Side.TheVariants.{Receive}
use Rattle.layout.specs.Bits.{bit, set_bit, clear_bit}
use Rattle.layout.proofs.BitLaws.{bit-set_bit-same, bit-set_bit-other, bit-clear_bit-same, bit-clear_bit-other, set_bit-lt, clear_bit-lt}
use Rattle.descriptor.specs.Fields.{sop, eop, owner, eoq, td, packet_length, length_of, offset_of}
use Rattle.marks.specs.Marks.{put_length, eoq_mark, owner_mark, td_mark, last_mark, first_mark}
use Rattle.marks.proofs.LengthLaws.{set_bit-mod, clear_bit-mod, put_length-mod, put_length-div, put_length-bit, put_length-lt}

-- ---- eoq_mark

pub eop-eoq_mark : (x : ℕ) → eop (eoq_mark x) ≡ eop x
unfolding eop
eop-eoq_mark x = bit-set_bit-other 30 28 x (eqb-false 30 28 refl)

pub owner-eoq_mark : (x : ℕ) → owner (eoq_mark x) ≡ owner x
unfolding owner
owner-eoq_mark x = bit-set_bit-other 29 28 x (eqb-false 29 28 refl)

pub eoq-eoq_mark : (x : ℕ) → eoq (eoq_mark x) ≡ true
unfolding eoq
eoq-eoq_mark x = bit-set_bit-same 28 x

pub td-eoq_mark : (x : ℕ) → td (eoq_mark x) ≡ td x
unfolding td
td-eoq_mark x = bit-set_bit-other 27 28 x (eqb-false 27 28 refl)

pub eoq_mark-lt : (x : ℕ) → x < 2 ^ 32 → eoq_mark x < 2 ^ 32
eoq_mark-lt x h = set_bit-lt 32 28 x (lit< tt) h

-- ---- owner_mark

pub eop-owner_mark : (x : ℕ) → eop (owner_mark x) ≡ eop x
unfolding eop
eop-owner_mark x = bit-clear_bit-other 30 29 x (eqb-false 30 29 refl)

pub owner-owner_mark : (x : ℕ) → owner (owner_mark x) ≡ false
unfolding owner
owner-owner_mark x = bit-clear_bit-same 29 x

pub eoq-owner_mark : (x : ℕ) → eoq (owner_mark x) ≡ eoq x
unfolding eoq
eoq-owner_mark x = bit-clear_bit-other 28 29 x (eqb-false 28 29 refl)

pub td-owner_mark : (x : ℕ) → td (owner_mark x) ≡ td x
unfolding td
td-owner_mark x = bit-clear_bit-other 27 29 x (eqb-false 27 29 refl)

pub owner_mark-lt : (x : ℕ) → x < 2 ^ 32 → owner_mark x < 2 ^ 32
owner_mark-lt x h = clear_bit-lt 32 29 x h

-- ---- td_mark

pub td-td_mark : (x : ℕ) → td (td_mark x) ≡ true
unfolding td
td-td_mark x = bit-set_bit-same 27 x

pub td_mark-lt : (x : ℕ) → x < 2 ^ 32 → td_mark x < 2 ^ 32
td_mark-lt x h = set_bit-lt 32 27 x (lit< tt) h

-- ---- last_mark: EOP, and EOQ where the latched word is 0

-- the second bit is set or not; what holds of both outcomes holds of it
last-case : (P : ℕ → Type 0) (latched x : ℕ) → P (set_bit 28 (set_bit 30 x)) → P (set_bit 30 x) → P (last_mark latched x)
last-case P latched x f g = at (eqb latched 0)
  where
    at : (b : Bool) → P (pick b (set_bit 28 (set_bit 30 x)) (set_bit 30 x))
    at true = f
    at false = g

last-other : (j latched x : ℕ) → j ≢ 28 → j ≢ 30 → bit j (last_mark latched x) ≡ bit j x
last-other j latched x p q =
    let one = bit-set_bit-other j 30 x q in
    last-case (λ y. bit j y ≡ bit j x) latched x (bit-set_bit-other j 28 (set_bit 30 x) p ∙ one) one

pub owner-last_mark : (latched x : ℕ) → owner (last_mark latched x) ≡ owner x
unfolding owner
owner-last_mark latched x = last-other 29 latched x (eqb-false 29 28 refl) (eqb-false 29 30 refl)

pub td-last_mark : (latched x : ℕ) → td (last_mark latched x) ≡ td x
unfolding td
td-last_mark latched x = last-other 27 latched x (eqb-false 27 28 refl) (eqb-false 27 30 refl)

pub eop-last_mark : (latched x : ℕ) → eop (last_mark latched x) ≡ true
unfolding eop
eop-last_mark latched x =
    let one = bit-set_bit-same 30 x in
    last-case (λ y. bit 30 y ≡ true) latched x (bit-set_bit-other 30 28 (set_bit 30 x) (eqb-false 30 28 refl) ∙ one) one

pub eoq-last_mark : (latched x : ℕ) → eoq (last_mark latched x) ≡ pick (eqb latched 0) true (eoq x)
unfolding eoq
eoq-last_mark latched x = at (eqb latched 0)
  where
    at : (b : Bool) → eoq (pick b (set_bit 28 (set_bit 30 x)) (set_bit 30 x)) ≡ pick b true (eoq x)
    at true = bit-set_bit-same 28 (set_bit 30 x)
    at false = bit-set_bit-other 28 30 x (eqb-false 28 30 refl)

pub packet_length-last_mark : (latched x : ℕ) → packet_length (last_mark latched x) ≡ packet_length x
unfolding packet_length
packet_length-last_mark latched x =
    let one = set_bit-mod 30 524288 x refl in
    last-case (λ y. y % 2048 ≡ x % 2048) latched x (set_bit-mod 28 131072 (set_bit 30 x) refl ∙ one) one

pub last_mark-lt : (latched x : ℕ) → x < 2 ^ 32 → last_mark latched x < 2 ^ 32
last_mark-lt latched x h =
    let one = set_bit-lt 32 30 x (lit< tt) h in
    last-case (λ y. y < 2 ^ 32) latched x (set_bit-lt 32 28 (set_bit 30 x) (lit< tt) one) one

-- ---- first_mark: the length, SOP, bit 22 and OWNER

begun : ℕ → ℕ → ℕ
begun stored x = set_bit 31 (put_length stored x)

first-case : (P : ℕ → Type 0) (stored : ℕ) (overrun : Bool) (x : ℕ)
    → P (clear_bit 29 (set_bit 22 (begun stored x))) → P (clear_bit 29 (clear_bit 22 (begun stored x))) → P (first_mark stored overrun x)
unfolding begun
first-case P stored true x f g = f
first-case P stored false x f g = g

-- a bit that only setting SOP and putting the length in may have changed
first-begun : (j stored : ℕ) (overrun : Bool) (x : ℕ) → j ≢ 29 → j ≢ 22 → bit j (first_mark stored overrun x) ≡ bit j (begun stored x)
first-begun j stored overrun x p q =
    let b = begun stored x in
    first-case (λ y. bit j y ≡ bit j b) stored overrun x
    (bit-clear_bit-other j 29 (set_bit 22 b) p ∙ bit-set_bit-other j 22 b q)
    (bit-clear_bit-other j 29 (clear_bit 22 b) p ∙ bit-clear_bit-other j 22 b q)

first-other : (j i stored : ℕ) (overrun : Bool) (x : ℕ) → 2 ^ j ≡ 2048 * 2 ^ i → stored < 2048 → j ≢ 29 → j ≢ 22 → j ≢ 31
    → bit j (first_mark stored overrun x) ≡ bit j x
unfolding begun
first-other j i stored overrun x e h p q r =
    first-begun j stored overrun x p q ∙ bit-set_bit-other j 31 (put_length stored x) r ∙ put_length-bit j i stored x e h

pub eop-first_mark : (stored : ℕ) (overrun : Bool) (x : ℕ) → stored < 2048 → eop (first_mark stored overrun x) ≡ eop x
unfolding eop
eop-first_mark stored overrun x h =
    first-other 30 19 stored overrun x refl h (eqb-false 30 29 refl) (eqb-false 30 22 refl) (eqb-false 30 31 refl)

pub eoq-first_mark : (stored : ℕ) (overrun : Bool) (x : ℕ) → stored < 2048 → eoq (first_mark stored overrun x) ≡ eoq x
unfolding eoq
eoq-first_mark stored overrun x h =
    first-other 28 17 stored overrun x refl h (eqb-false 28 29 refl) (eqb-false 28 22 refl) (eqb-false 28 31 refl)

pub td-first_mark : (stored : ℕ) (overrun : Bool) (x : ℕ) → stored < 2048 → td (first_mark stored overrun x) ≡ td x
unfolding td
td-first_mark stored overrun x h =
    first-other 27 16 stored overrun x refl h (eqb-false 27 29 refl) (eqb-false 27 22 refl) (eqb-false 27 31 refl)

pub sop-first_mark : (stored : ℕ) (overrun : Bool) (x : ℕ) → sop (first_mark stored overrun x) ≡ true
unfolding sop begun
sop-first_mark stored overrun x =
    first-begun 31 stored overrun x (eqb-false 31 29 refl) (eqb-false 31 22 refl) ∙ bit-set_bit-same 31 (put_length stored x)

pub owner-first_mark : (stored : ℕ) (overrun : Bool) (x : ℕ) → owner (first_mark stored overrun x) ≡ false
unfolding owner
owner-first_mark stored overrun x =
    first-case (λ y. bit 29 y ≡ false) stored overrun x
    (bit-clear_bit-same 29 (set_bit 22 (begun stored x))) (bit-clear_bit-same 29 (clear_bit 22 (begun stored x)))

-- "bit 22 to the overrun"
pub overrun-first_mark : (stored : ℕ) (overrun : Bool) (x : ℕ) → bit 22 (first_mark stored overrun x) ≡ overrun
unfolding begun
overrun-first_mark stored true x =
    bit-clear_bit-other 22 29 (set_bit 22 (begun stored x)) (eqb-false 22 29 refl) ∙ bit-set_bit-same 22 (begun stored x)
overrun-first_mark stored false x =
    bit-clear_bit-other 22 29 (clear_bit 22 (begun stored x)) (eqb-false 22 29 refl) ∙ bit-clear_bit-same 22 (begun stored x)

pub packet_length-first_mark : (stored : ℕ) (overrun : Bool) (x : ℕ) → stored < 2048 → packet_length (first_mark stored overrun x) ≡ stored
unfolding packet_length begun
packet_length-first_mark stored overrun x h =
    let b = begun stored x in
    let from : b % 2048 ≡ stored = set_bit-mod 31 1048576 (put_length stored x) refl ∙ put_length-mod stored x h in
    first-case (λ y. y % 2048 ≡ stored) stored overrun x
    (clear_bit-mod 29 262144 (set_bit 22 b) refl ∙ set_bit-mod 22 2048 b refl ∙ from)
    (clear_bit-mod 29 262144 (clear_bit 22 b) refl ∙ clear_bit-mod 22 2048 b refl ∙ from)

pub first_mark-lt : (stored : ℕ) (overrun : Bool) (x : ℕ) → stored < 2048 → x < 2 ^ 32 → first_mark stored overrun x < 2 ^ 32
unfolding begun
first_mark-lt stored overrun x h g =
    let b = begun stored x in
    let from : b < 2 ^ 32 = set_bit-lt 32 31 (put_length stored x) (lit< tt) (put_length-lt stored x h g) in
    first-case (λ y. y < 2 ^ 32) stored overrun x
    (clear_bit-lt 32 29 (set_bit 22 b) (set_bit-lt 32 22 b (lit< tt) from))
    (clear_bit-lt 32 29 (clear_bit 22 b) (clear_bit-lt 32 22 b from))

-- ---- word 2 with another length

pub length_of-put_length : (n w : ℕ) → n < 2048 → length_of Receive (put_length n w) ≡ n
unfolding length_of
length_of-put_length n w h = put_length-mod n w h

pub offset_of-put_length : (n w : ℕ) → n < 2048 → offset_of Receive (put_length n w) ≡ offset_of Receive w
unfolding offset_of
offset_of-put_length n w h =
    ap (λ (q : ℕ). q % 2048)
    (sym (div-div-eq-div-mul (put_length n w) 2048 32) ∙ ap (λ (q : ℕ). q / 32) (put_length-div n w h) ∙ div-div-eq-div-mul w 2048 32)
