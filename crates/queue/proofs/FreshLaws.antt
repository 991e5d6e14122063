-- What is still to be fetched: the rules of a descriptor read back, and what keeps them. Assumes nothing.
--     own-ends                 EOQ and TD are clear wherever it stands
--     LengthFits, length-fits  there is a byte, and the last is an address
--     behind-buffer            a receive chain stays one
--     side-place, ends-place   a chain may end only where one may begin
--     fetch-good               the fetch of a fresh queue's first descriptor is not undefined
--     fresh-same3              words that agree keep it fresh
--     fresh-join               fresh descriptors behind a fresh queue
--     fresh-live               the head of a fresh queue is live
--     fresh-fits               the lengths that are recorded for it fit
use Prim.Native.Nat.{ℕ, ◌+◌, ◌≤◌}
use mathlib.Core.Path.{◌≡◌, refl}
use mathlib.Core.Bool.{false}
use mathlib.Core.List.{List, [], ◌∷◌, ◌++◌}
use native.Mathlib.Omega.{arith}
use Rattle.layout.specs.Layout.{address_end, length_max, addr}
use Rattle.layout.specs.declared.Side.{Side}
use Rattle.layout.specs.declared.Side.TheVariants.{Transmit, Receive}
use Rattle.descriptor.specs.Fields.{eoq, td, length_of, first_byte}
use Rattle.descriptor.specs.Rules.{side_at, length_fault, behind, ends_at, next_fault, own_fault, fetch_fault}
use Rattle.descriptor.specs.declared.Place.{Place}
use Rattle.descriptor.specs.declared.Place.TheVariants.{Start, Middle, Buffer}
use Rattle.chain.specs.Chain.{place_of}
use Rattle.descriptor.proofs.RuleLaws.{flags_fault-start, flags_fault-middle, flags_fault-buffer, length_fault-length, length_fault-end}
use Rattle.descriptor.proofs.RuleLaws.{side_at-behind, next_fault-more, own_fault-parts, fetch_fault-pass}
use Rattle.queue.proofs.Queue.{start, All, behind_at, Fresh}
use Rattle.queue.proofs.KeptLaws.{Live}
use Rattle.queue.proofs.StoreLaws.{Same3}
use Rattle.queue.proofs.RecordLaws.{RecordFits}

-- ---- the rules read back

-- EOQ and TD are clear wherever it stands
pub own-ends : (pl : Place) (x1 x2 x3 : ℕ) → own_fault pl x1 x2 x3 ≡ 0 → (eoq x3 ≡ false) × (td x3 ≡ false)
own-ends Start x1 x2 x3 e = let f = flags_fault-start x3 (own_fault-parts Start x1 x2 x3 e).0 in (f.2, f.3)
own-ends (Middle s n) x1 x2 x3 e = let f = flags_fault-middle s n x3 (own_fault-parts (Middle s n) x1 x2 x3 e).0 in (f.1, f.2)
own-ends Buffer x1 x2 x3 e = let f = flags_fault-buffer x3 (own_fault-parts Buffer x1 x2 x3 e).0 in (f.3, f.4)

pub record LengthFits (side : Side) (x1 x2 x3 : ℕ) : Type 0 where
  pub some : 1 ≤ length_of side x2
  pub last : first_byte side x1 x2 x3 + length_of side x2 ≤ address_end

pub length-fits : (side : Side) (x1 x2 x3 : ℕ) → length_fault side x1 x2 x3 ≡ 0 → LengthFits side x1 x2 x3
length-fits side x1 x2 x3 e = record { some = length_fault-length side x1 x2 x3 e; last = length_fault-end side x1 x2 x3 e }

-- ---- places

pub behind-buffer : (x2 x3 : ℕ) → behind Buffer x2 x3 ≡ Buffer
unfolding behind
behind-buffer x2 x3 = refl

pub side-place : (side : Side) → side_at (place_of side) ≡ side
side-place Transmit = refl
side-place Receive = refl

pub ends-place : (pl : Place) → ends_at pl ≡ 0 → pl ≡ place_of (side_at pl)
ends-place Start e = refl
ends-place (Middle s n) e = absurd (omega arith)
ends-place Buffer e = refl

-- ---- the fetch

pub fetch-good : (w : ℕ → ℕ) (pl : Place) (d : ℕ) (ds : List ℕ) → Fresh w pl (d ∷ ds) → w d ≡ start ds
    → fetch_fault pl (w d) (w (d + 1)) (w (d + 2)) (w (d + 3)) ≡ 0
unfolding next_fault
fetch-good w pl d ds f n = fetch_fault-pass pl (w d) (w (d + 1)) (w (d + 2)) (w (d + 3)) f.0 (rw n (at ds f.1))
  where
    at : (es : List ℕ) → Fresh w (behind_at w pl d) es → next_fault (behind_at w pl d) (start es) ≡ 0
    at [] g = g
    at (e ∷ es) g = next_fault-more (behind_at w pl d) (addr e) (λ z. omega (arith, z))

-- ---- what keeps it

pub fresh-same3 : (w v : ℕ → ℕ) (pl : Place) (ds : List ℕ) → All (Same3 w v) ds → Fresh w pl ds → Fresh v pl ds
fresh-same3 w v pl [] a f = f
fresh-same3 w v pl (d ∷ ds) a f = rw (a.0.0, a.0.1, a.0.2) (f.0, fresh-same3 w v (behind_at w pl d) ds a.1 f.1)

pub fresh-join : (w : ℕ → ℕ) (pl : Place) (ds es : List ℕ) → Fresh w pl ds → Fresh w (place_of (side_at pl)) es → Fresh w pl (ds ++ es)
fresh-join w pl [] es f g = rw (ends-place pl f) g
fresh-join w pl (d ∷ ds) es f g =
    (f.0, fresh-join w (behind_at w pl d) ds es f.1 (rw (side_at-behind pl (w (d + 2)) (w (d + 3))) g))

-- ---- the release stops at it

pub fresh-live : (w : ℕ → ℕ) (side : Side) (ds : List ℕ) → Fresh w (place_of side) ds → Live w ds
fresh-live w side [] f = tt
fresh-live w Transmit (d ∷ ds) f =
    let r = flags_fault-start (w (d + 3)) (own_fault-parts Start _ _ _ f.0).0 in
    (r.1, r.3)
fresh-live w Receive (d ∷ ds) f =
    let r = flags_fault-buffer (w (d + 3)) (own_fault-parts Buffer _ _ _ f.0).0 in
    (r.0, r.4)

-- ---- lengths that are recorded

receive-max : (x2 : ℕ) → length_of Receive x2 ≤ length_max
unfolding length_of
receive-max x2 = omega arith

record-fits : (side : Side) (x1 x2 x3 : ℕ) → length_fault side x1 x2 x3 ≡ 0 → RecordFits side x2
record-fits Transmit x1 x2 x3 e = tt
record-fits Receive x1 x2 x3 e = (length_fault-length Receive x1 x2 x3 e, receive-max x2)

pub fresh-fits : (w : ℕ → ℕ) (pl : Place) (ds : List ℕ) → Fresh w pl ds → All (λ d. RecordFits (side_at pl) (w (d + 2))) ds
fresh-fits w pl [] f = tt
fresh-fits w pl (d ∷ ds) f = (
  record-fits (side_at pl) (w (d + 1)) (w (d + 2)) (w (d + 3)) (own_fault-parts pl _ _ _ f.0).1,
  rw (side_at-behind pl (w (d + 2)) (w (d + 3))) at (fresh-fits w (behind_at w pl d) ds f.1),
)
