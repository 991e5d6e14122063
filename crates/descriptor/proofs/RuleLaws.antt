-- What it means that a descriptor has no fault. Assumes nothing.
--     flags_fault-start, -middle, -buffer          no 14 says which flags are set and which are clear
--     flags_fault-start-pass, -middle-, -buffer-   and such flags give no 14
--     length_fault-length, -end, -offset           no 15 says that there is a byte, that the last is an address, and that a
--                                                 receive buffer has no offset
--     length_fault-pass                            and these three give no 15
--     own_fault-parts, own_fault-pass               no fault of its own is none of 14, 15 and 17
--     fetch_fault-parts, fetch_fault-pass           nothing that the fetch refuses is neither that nor a chain that ends in a packet
--     sum_fault-end, sum_fault-inside               17 is asked at EOP alone, of the packet's SOP word and sum
--     end_fault-sum, end_fault-pass                 and is not given exactly when the two agree
--     behind-end, behind-inside, side_at-behind    what stands behind a descriptor of a packet; a chain keeps its side
--     next_fault-more, -start, -middle             where a chain may end
--     length_of-lt                                 a bound of the field
use Prim.Native.Nat.{ℕ, ◌+◌, ◌≤◌, ◌<◌}
use mathlib.Core.Path.{◌≡◌, refl}
use mathlib.Core.Logic.{◌≢◌}
use mathlib.Core.Bool.{Bool, true, false}
use native.Mathlib.Omega.{arith}
use lib.Dec.{eqb, ltb}
use borrow.Author.Tests.{eq-eqb, ne_eqb, eqb-true, eqb-false, le-ltb, ltb-false, not-false}
use Rattle.layout.specs.Choice.{pick}
use Rattle.layout.specs.Layout.{address_end}
use Rattle.layout.specs.declared.Side.{Side}
use Rattle.layout.specs.declared.Side.TheVariants.{Transmit, Receive}
use Rattle.layout.proofs.ChoiceLaws.{want, shun, or_else-zero, or_else-pass, pick_same}
use Rattle.descriptor.specs.declared.Place.{Place}
use Rattle.descriptor.specs.declared.Place.TheVariants.{Start, Middle, Buffer}
use Rattle.descriptor.specs.Fields.{sop, eop, owner, eoq, td, packet_length, length_of, offset_of, first_byte}
use Rattle.descriptor.specs.Rules.{side_at, end_flags_fault, flags_fault, offset_bad, length_fault, sop_at, sum_at, end_fault, sum_fault}
use Rattle.descriptor.specs.Rules.{behind, next_fault, own_fault, fetch_fault}

-- ---- 14

end-flags : (x3 : ℕ) → end_flags_fault x3 ≡ 0 → (eoq x3 ≡ false) × (td x3 ≡ false)
end-flags x3 e =
    let a = shun 13 (eoq x3) _ e in
    (a.0, (shun 13 (td x3) _ a.1).0)

pub flags_fault-start : (x3 : ℕ) → flags_fault Start x3 ≡ 0 → (sop x3 ≡ true) × (owner x3 ≡ true) × (eoq x3 ≡ false) × (td x3 ≡ false)
unfolding flags_fault
flags_fault-start x3 e =
    let a = want 13 (sop x3) _ e in
    let b = want 13 (owner x3) _ a.1 in
    let c = end-flags x3 b.1 in
    (a.0, b.0, c.0, c.1)

pub flags_fault-start-pass : (x3 : ℕ) → sop x3 ≡ true → owner x3 ≡ true → eoq x3 ≡ false → td x3 ≡ false → flags_fault Start x3 ≡ 0
unfolding flags_fault
flags_fault-start-pass x3 a b p q = simp (a, b, p, q)

pub flags_fault-middle : (s n x3 : ℕ) → flags_fault (Middle s n) x3 ≡ 0 → (sop x3 ≡ false) × (eoq x3 ≡ false) × (td x3 ≡ false)
unfolding flags_fault
flags_fault-middle s n x3 e =
    let a = shun 13 (sop x3) _ e in
    let c = end-flags x3 a.1 in
    (a.0, c.0, c.1)

pub flags_fault-middle-pass : (s n x3 : ℕ) → sop x3 ≡ false → eoq x3 ≡ false → td x3 ≡ false → flags_fault (Middle s n) x3 ≡ 0
unfolding flags_fault
flags_fault-middle-pass s n x3 a p q = simp (a, p, q)

pub flags_fault-buffer : (x3 : ℕ) → flags_fault Buffer x3 ≡ 0
    → (owner x3 ≡ true) × (sop x3 ≡ false) × (eop x3 ≡ false) × (eoq x3 ≡ false) × (td x3 ≡ false)
unfolding flags_fault
flags_fault-buffer x3 e =
    let a = want 13 (owner x3) _ e in
    let b = shun 13 (sop x3) _ a.1 in
    let c = shun 13 (eop x3) _ b.1 in
    let d = end-flags x3 c.1 in
    (a.0, b.0, c.0, d.0, d.1)

pub flags_fault-buffer-pass : (x3 : ℕ) → owner x3 ≡ true → sop x3 ≡ false → eop x3 ≡ false → eoq x3 ≡ false → td x3 ≡ false
    → flags_fault Buffer x3 ≡ 0
unfolding flags_fault
flags_fault-buffer-pass x3 a b c p q = simp (a, b, c, p, q)

-- ---- 15

pub length_of-lt : (side : Side) (x2 : ℕ) → length_of side x2 < 65536
unfolding length_of
length_of-lt Transmit x2 = omega arith
length_of-lt Receive x2 = omega arith

-- the three tests of 15, in a row
length-tests : (side : Side) (x1 x2 x3 : ℕ) → length_fault side x1 x2 x3 ≡ 0
    → (eqb (length_of side x2) 0 ≡ false) × (offset_bad side x2 ≡ false)
    × (ltb address_end (first_byte side x1 x2 x3 + length_of side x2) ≡ false)
unfolding length_fault
length-tests side x1 x2 x3 e =
    let a = shun 14 (eqb (length_of side x2) 0) _ e in
    let b = shun 14 (offset_bad side x2) _ a.1 in
    (a.0, b.0, (shun 14 (ltb address_end (first_byte side x1 x2 x3 + length_of side x2)) _ b.1).0)

pub length_fault-length : (side : Side) (x1 x2 x3 : ℕ) → length_fault side x1 x2 x3 ≡ 0 → 1 ≤ length_of side x2
length_fault-length side x1 x2 x3 e = omega (arith, eqb-false (length_of side x2) 0 (length-tests side x1 x2 x3 e).0)

pub length_fault-end : (side : Side) (x1 x2 x3 : ℕ) → length_fault side x1 x2 x3 ≡ 0
    → first_byte side x1 x2 x3 + length_of side x2 ≤ address_end
length_fault-end side x1 x2 x3 e = ltb-false _ _ (length-tests side x1 x2 x3 e).2

pub length_fault-offset : (x1 x2 x3 : ℕ) → length_fault Receive x1 x2 x3 ≡ 0 → offset_of Receive x2 ≡ 0
length_fault-offset x1 x2 x3 e = eqb-true _ _ (not-false (eqb (offset_of Receive x2) 0) (length-tests Receive x1 x2 x3 e).1)

pub length_fault-pass : (side : Side) (x1 x2 x3 : ℕ) → 1 ≤ length_of side x2 → offset_bad side x2 ≡ false
    → first_byte side x1 x2 x3 + length_of side x2 ≤ address_end → length_fault side x1 x2 x3 ≡ 0
unfolding length_fault
length_fault-pass side x1 x2 x3 h o g =
    simp (
      ne_eqb (length_of side x2) 0 (λ e. omega (arith, e)),
      o,
      le-ltb address_end (first_byte side x1 x2 x3 + length_of side x2) g,
    )

-- ---- 17

pub sum_fault-inside : (pl : Place) (x2 x3 : ℕ) → eop x3 ≡ false → sum_fault pl x2 x3 ≡ 0
unfolding sum_fault
sum_fault-inside Start x2 x3 e = simp e
sum_fault-inside (Middle s n) x2 x3 e = simp e
sum_fault-inside Buffer x2 x3 e = refl

-- on a receive buffer word and sum are both 0, and agree
pub sum_fault-end : (pl : Place) (x2 x3 : ℕ) → eop x3 ≡ true → sum_fault pl x2 x3 ≡ end_fault (sop_at pl x3) (sum_at pl x2)
unfolding sum_fault end_fault packet_length
sum_fault-end Start x2 x3 e = simp e
sum_fault-end (Middle s n) x2 x3 e = simp e
sum_fault-end Buffer x2 x3 e = refl

pub end_fault-sum : (s n : ℕ) → end_fault s n ≡ 0 → n ≡ packet_length s
unfolding end_fault
end_fault-sum s n e = eqb-true _ _ (want 16 (eqb n (packet_length s)) 0 e).0

pub end_fault-pass : (s n : ℕ) → n ≡ packet_length s → end_fault s n ≡ 0
unfolding end_fault
end_fault-pass s n e = simp (eq-eqb n (packet_length s) e)

pub behind-end : (pl : Place) (x2 x3 : ℕ) → side_at pl ≡ Transmit → eop x3 ≡ true → behind pl x2 x3 ≡ Start
unfolding behind
behind-end Start x2 x3 s e = simp e
behind-end (Middle p n) x2 x3 s e = simp e
behind-end Buffer x2 x3 s e = let z : ◌≡◌ {A = ℕ} 0 1 = cc in absurd (omega arith)

pub behind-inside : (pl : Place) (x2 x3 : ℕ) → side_at pl ≡ Transmit → eop x3 ≡ false
    → behind pl x2 x3 ≡ Middle (sop_at pl x3) (sum_at pl x2)
unfolding behind
behind-inside Start x2 x3 s e = simp e
behind-inside (Middle p n) x2 x3 s e = simp e
behind-inside Buffer x2 x3 s e = let z : ◌≡◌ {A = ℕ} 0 1 = cc in absurd (omega arith)

pub side_at-behind : (pl : Place) (x2 x3 : ℕ) → side_at (behind pl x2 x3) ≡ side_at pl
unfolding behind
side_at-behind Start x2 x3 = at (eop x3)
  where
    at : (b : Bool) → side_at (pick b Start (Middle x3 (sum_at Start x2))) ≡ Transmit
    at true = refl
    at false = refl
side_at-behind (Middle p n) x2 x3 = at (eop x3)
  where
    at : (b : Bool) → side_at (pick b Start (Middle p (sum_at (Middle p n) x2))) ≡ Transmit
    at true = refl
    at false = refl
side_at-behind Buffer x2 x3 = refl

pub next_fault-more : (pl : Place) (x0 : ℕ) → x0 ≢ 0 → next_fault pl x0 ≡ 0
unfolding next_fault
next_fault-more pl x0 n = simp (ne_eqb x0 0 n)

pub next_fault-start : (x0 : ℕ) → next_fault Start x0 ≡ 0
unfolding next_fault
next_fault-start x0 = pick_same (eqb x0 0) 0

pub next_fault-middle : (s n x0 : ℕ) → next_fault (Middle s n) x0 ≡ 0 → x0 ≢ 0
unfolding next_fault
next_fault-middle s n x0 e = eqb-false x0 0 (shun 16 (eqb x0 0) 0 e).0

-- ---- all of them

pub own_fault-parts : (pl : Place) (x1 x2 x3 : ℕ) → own_fault pl x1 x2 x3 ≡ 0
    → (flags_fault pl x3 ≡ 0) × (length_fault (side_at pl) x1 x2 x3 ≡ 0) × (sum_fault pl x2 x3 ≡ 0)
unfolding own_fault
own_fault-parts pl x1 x2 x3 e =
    let a = or_else-zero (flags_fault pl x3) _ e in
    let b = or_else-zero (length_fault (side_at pl) x1 x2 x3) _ a.1 in
    (a.0, b.0, b.1)

pub own_fault-pass : (pl : Place) (x1 x2 x3 : ℕ) → flags_fault pl x3 ≡ 0 → length_fault (side_at pl) x1 x2 x3 ≡ 0 → sum_fault pl x2 x3 ≡ 0
    → own_fault pl x1 x2 x3 ≡ 0
unfolding own_fault
own_fault-pass pl x1 x2 x3 a b c = or_else-pass _ _ a (or_else-pass _ _ b c)

pub fetch_fault-parts : (pl : Place) (x0 x1 x2 x3 : ℕ) → fetch_fault pl x0 x1 x2 x3 ≡ 0
    → (own_fault pl x1 x2 x3 ≡ 0) × (next_fault (behind pl x2 x3) x0 ≡ 0)
unfolding fetch_fault
fetch_fault-parts pl x0 x1 x2 x3 e = or_else-zero (own_fault pl x1 x2 x3) (next_fault (behind pl x2 x3) x0) e

pub fetch_fault-pass : (pl : Place) (x0 x1 x2 x3 : ℕ) → own_fault pl x1 x2 x3 ≡ 0 → next_fault (behind pl x2 x3) x0 ≡ 0
    → fetch_fault pl x0 x1 x2 x3 ≡ 0
unfolding fetch_fault
fetch_fault-pass pl x0 x1 x2 x3 a b = or_else-pass _ _ a b
