-- Room for buffers: words that agree keep it, and so do the kind changes that are accepted. Assumes nothing.
--     RoomNow kinds lens w d   the receive buffer of d, at its recorded length, lies in Linux data
--     roomy-same3, room-now-same   words that agree keep it
--     room-now-lengths         so do lengths that are recorded as before
--     room-recorded            receive buffers that were judged to have room have it at their recorded lengths
--     fresh-some               fresh descriptors have a length
--     unreceived               a block that is not in reception is touched by no buffer, at its recorded length
--     roomy-kind               a transmit buffer keeps its room: the new kind is not 0
--     room-now-kind            a receive buffer keeps its room: the new kind is 1, or the block is not in reception
use Prim.Native.Nat.{ℕ, zero, suc, ◌+◌, ◌≤◌}
use mathlib.Core.Path.{◌≡◌, refl}
use mathlib.Core.Bool.{Bool, true, false, not}
use mathlib.Core.List.{List, [], ◌∷◌}
use native.Mathlib.Omega.{arith}
use lib.ListN.{get_or, set}
use lib.Dec.{eqb}
use Rattle.layout.specs.Choice.{pick, both}
use Rattle.layout.specs.declared.Side.{Side}
use Rattle.layout.specs.declared.Side.TheVariants.{Receive}
use Rattle.layout.proofs.ChoiceLaws.{clash}
use Rattle.blocks.specs.Room.{room_of, permits, touches}
use Rattle.blocks.specs.declared.Room.TheVariants.{Free}
use Rattle.blocks.proofs.RoomLaws.{room-set-other, room-set-permits}
use Rattle.descriptor.specs.Fields.{length_of, first_byte}
use Rattle.descriptor.specs.Rules.{side_at}
use Rattle.descriptor.specs.declared.Place.{Place}
use Rattle.kinds.specs.Kinds.{received, in_reception}
use Rattle.queue.proofs.Queue.{All, Fresh, Roomy, behind_at}
use Rattle.queue.proofs.StoreLaws.{Same3}
use Rattle.queue.proofs.RecordLaws.{Fits}
use Rattle.descriptor.proofs.RuleLaws.{length_fault-length, side_at-behind, own_fault-parts}

abbrev pub RoomNow : List ℕ → List ℕ → (ℕ → ℕ) → ℕ → Type 0
RoomNow kinds lens w d = room_of Receive kinds (w (d + 1)) (get_or lens d 0) ≡ Free

-- ---- words and lengths

pub roomy-same3 : (kinds : List ℕ) (side : Side) (w v : ℕ → ℕ) (ds : List ℕ) → All (Same3 w v) ds → Roomy kinds side w ds
    → Roomy kinds side v ds
roomy-same3 kinds side w v [] a r = tt
roomy-same3 kinds side w v (d ∷ ds) a r = (rw (a.0.0, a.0.1, a.0.2) r.0, roomy-same3 kinds side w v ds a.1 r.1)

pub room-now-same : (kinds lens : List ℕ) (w v : ℕ → ℕ) (ds : List ℕ) → All (λ d. v (d + 1) ≡ w (d + 1)) ds → All (RoomNow kinds lens w) ds
    → All (RoomNow kinds lens v) ds
room-now-same kinds lens w v [] a r = tt
room-now-same kinds lens w v (d ∷ ds) a r = (rw a.0 r.0, room-now-same kinds lens w v ds a.1 r.1)

pub room-now-lengths : (kinds lens new : List ℕ) (w : ℕ → ℕ) (ds : List ℕ) → All (λ d. get_or new d 0 ≡ get_or lens d 0) ds
    → All (RoomNow kinds lens w) ds
    → All (RoomNow kinds new w) ds
room-now-lengths kinds lens new w [] a r = tt
room-now-lengths kinds lens new w (d ∷ ds) a r = (rw a.0 r.0, room-now-lengths kinds lens new w ds a.1 r.1)

first-receive : (x1 x2 x3 : ℕ) → first_byte Receive x1 x2 x3 ≡ x1
unfolding first_byte
first-receive x1 x2 x3 = refl

pub room-recorded : (kinds lens : List ℕ) (w : ℕ → ℕ) (ds : List ℕ) → Roomy kinds Receive w ds
    → All (λ d. get_or lens d 0 ≡ length_of Receive (w (d + 2))) ds
    → All (RoomNow kinds lens w) ds
room-recorded kinds lens w [] a l = tt
room-recorded kinds lens w (d ∷ ds) a l =
    (rw l.0 (rw (first-receive (w (d + 1)) (w (d + 2)) (w (d + 3))) at a.0), room-recorded kinds lens w ds a.1 l.1)

-- ---- a kind that changes

pub fresh-some : (w : ℕ → ℕ) (pl : Place) (ds : List ℕ) → Fresh w pl ds → All (λ d. 1 ≤ length_of (side_at pl) (w (d + 2))) ds
fresh-some w pl [] f = tt
fresh-some w pl (d ∷ ds) f = (
  length_fault-length (side_at pl) (w (d + 1)) (w (d + 2)) (w (d + 3)) (own_fault-parts pl _ _ _ f.0).1,
  rw (side_at-behind pl (w (d + 2)) (w (d + 3))) at (fresh-some w (behind_at w pl d) ds f.1),
)

pub roomy-kind : (kinds : List ℕ) (side : Side) (w : ℕ → ℕ) (b k : ℕ) (ds : List ℕ) → permits side k ≡ true
    → All (λ d. 1 ≤ length_of side (w (d + 2))) ds
    → Roomy kinds side w ds → Roomy (set kinds b k) side w ds
roomy-kind kinds side w b k [] p o r = tt
roomy-kind kinds side w b k (d ∷ ds) p o r =
    (room-set-permits side kinds _ _ b k r.0 o.0 p, roomy-kind kinds side w b k ds p o.1 r.1)

-- no byte, no block
touches-nothing : (b lo : ℕ) → touches b lo 0 ≡ false
unfolding touches
touches-nothing b lo = refl

-- where no entry from word i on is received
none-received : (w : ℕ → ℕ) (b i : ℕ) (lens : List ℕ) → received w i lens b ≡ false → (k : ℕ)
    → touches b (w (i + k + 1)) (get_or lens k 0) ≡ false
none-received w b i [] e k = touches-nothing b _
none-received w b i (l ∷ ls) e zero = at (touches b (w (i + 1)) l) refl e
  where
    at : (t : Bool) → touches b (w (i + 1)) l ≡ t → pick t true (received w (i + 1) ls b) ≡ false → touches b (w (i + 0 + 1)) l ≡ false
    at true q h = clash refl h
    at false q h = let z : i + 0 + 1 ≡ i + 1 = omega arith in rw z q
none-received w b i (l ∷ ls) e (suc k) =
    let z : i + suc k + 1 ≡ i + 1 + k + 1 = omega arith in
    rw z (none-received w b (i + 1) ls (at (touches b (w (i + 1)) l) e) k)
  where
    at : (t : Bool) → pick t true (received w (i + 1) ls b) ≡ false → received w (i + 1) ls b ≡ false
    at true h = clash refl h
    at false h = h

pub unreceived : (w : ℕ → ℕ) (lens : List ℕ) (b : ℕ) → in_reception w lens b ≡ false → (d : ℕ)
    → touches b (w (d + 1)) (get_or lens d 0) ≡ false
unfolding in_reception
unreceived w lens b e d = let z : 0 + d + 1 ≡ d + 1 = omega arith in rw z at (none-received w b 0 lens e d)

-- 21 did not refuse: the new kind is 1, or the block is not in reception
pub room-now-kind : (kinds lens : List ℕ) (w : ℕ → ℕ) (b k : ℕ) (ds : List ℕ) → both (not (eqb k 1)) (in_reception w lens b) ≡ false
    → All (λ d. Fits (get_or lens d 0)) ds → All (RoomNow kinds lens w) ds → All (RoomNow (set kinds b k) lens w) ds
room-now-kind kinds lens w b k ds e f r = at (eqb k 1) refl e
  where
    each : ((d : ℕ) → Fits (get_or lens d 0) → RoomNow kinds lens w d → RoomNow (set kinds b k) lens w d)
        → (es : List ℕ) → All (λ d. Fits (get_or lens d 0)) es → All (RoomNow kinds lens w) es → All (RoomNow (set kinds b k) lens w) es
    each h [] x y = tt
    each h (d ∷ es) x y = (h d x.0 y.0, each h es x.1 y.1)

    at : (t : Bool) → eqb k 1 ≡ t → both (not t) (in_reception w lens b) ≡ false → All (RoomNow (set kinds b k) lens w) ds
    at true q h = each (λ d x y. room-set-permits Receive kinds (w (d + 1)) (get_or lens d 0) b k y x.0 q) ds f r
    at false q h = each (λ d x y. room-set-other Receive kinds (w (d + 1)) (get_or lens d 0) b k y x.0 (unreceived w lens b h d)) ds f r
