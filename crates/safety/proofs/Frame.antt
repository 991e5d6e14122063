-- What an engine's clause looks at: words 1 to 3 of its own queue. Assumes nothing.
--     kept-part                       what the release leaves is a part of the queue
--     sendable-same                   the same words: still to be fetched, in the same blocks
--     no_eop-same, live_same, spot-same   and the same place in a packet
--     ready-map, through-map          and before and between packets
--     tx-same                         the clause of every phase
--     SameLength, fillable-new, rx-new   and where recorded lengths are others that agree
use Prim.Native.Nat.{ℕ}
use mathlib.Core.Path.{◌≡◌, refl, ap, ◌∙◌}
use mathlib.Core.Bool.{Bool}
use mathlib.Core.List.{List, [], ◌∷◌}
use mathlib.Core.Logic.{◌⊎◌, inl, inr}
use lib.ListN.{get_or}
use Rattle.layout.specs.declared.Side.TheVariants.{Transmit}
use Rattle.descriptor.specs.Fields.{eop, eoq, owner, td}
use Rattle.descriptor.specs.declared.Place.{Place}
use Rattle.descriptor.specs.declared.Place.TheVariants.{Start, Middle, Buffer}
use Rattle.book.specs.declared.Mode.{Mode}
use Rattle.queue.proofs.Queue.{start, All, kept, gone}
use Rattle.queue.proofs.LinkLaws.{all_left, all_right, all-every}
use Rattle.queue.proofs.KeptLaws.{NoEop, Live, gone-kept}
use Rattle.queue.proofs.StoreLaws.{Same3}
use Rattle.queue.proofs.RoomyLaws.{roomy-same3}
use Rattle.queue.proofs.FreshLaws.{fresh-same3}
use Rattle.phases.specs.declared.Sending.{Sending}
use Rattle.phases.specs.declared.Sending.TheVariants as S
use Rattle.phases.specs.declared.Receiving.{Receiving}
use Rattle.phases.specs.declared.Receiving.TheVariants as R
use Rattle.safety.proofs.Inv.{Sendable, Long, Fillable, Ready, Spot, Latch, Owned, Through, place_after, Fetched, TxInv, Taken, RxInv}

pub kept-part : (P : ℕ → Type 0) (w : ℕ → ℕ) (n : Mode) (q : List ℕ) → All P q → All P (kept w n q)
kept-part P w n q a = all_right P (gone w n q) (kept w n q) (rw (gone-kept w n q) a)

-- ---- descriptors

pub sendable-same : (K : List ℕ) (w v : ℕ → ℕ) (pl : Place) (ds : List ℕ) → All (Same3 w v) ds → Sendable K w pl ds → Sendable K v pl ds
sendable-same K w v pl ds a s = record { fresh = fresh-same3 w v pl ds a s.fresh; room = roomy-same3 K Transmit w v ds a s.room }

-- recorded lengths that agree
abbrev pub SameLength : List ℕ → List ℕ → ℕ → Type 0
SameLength lens new d = get_or new d 0 ≡ get_or lens d 0

long_same : (lens new : List ℕ) (w v : ℕ → ℕ) (ds : List ℕ) → All (SameLength lens new) ds → All (Same3 w v) ds → Long lens w ds
    → Long new v ds
long_same lens new w v [] b a r = tt
long_same lens new w v (d ∷ ds) b a r = (rw (a.0.1, b.0) r.0, long_same lens new w v ds b.1 a.1 r.1)

-- the words or the recorded lengths change, or both
pub fillable-new : (lens new : List ℕ) (w v : ℕ → ℕ) (ds : List ℕ) → All (SameLength lens new) ds → All (Same3 w v) ds → Fillable lens w ds
    → Fillable new v ds
fillable-new lens new w v ds b a s =
    record { fresh = fresh-same3 w v Buffer ds a s.fresh; long = long_same lens new w v ds b a s.long }

pub lengths-same : (lens ds : List ℕ) → All (SameLength lens lens) ds
lengths-same lens ds = all-every (SameLength lens lens) (λ d. refl) ds

pub no_eop-same : (w v : ℕ → ℕ) (ds : List ℕ) → All (Same3 w v) ds → All (NoEop w) ds → All (NoEop v) ds
no_eop-same w v [] a b = tt
no_eop-same w v (d ∷ ds) a b = (ap eop a.0.2 ∙ b.0, no_eop-same w v ds a.1 b.1)

pub live_same : (w v : ℕ → ℕ) (ds : List ℕ) → All (Same3 w v) ds → Live w ds → Live v ds
live_same w v [] a l = tt
live_same w v (d ∷ ds) a l = (ap owner a.0.2 ∙ l.0, ap td a.0.2 ∙ l.1)

-- ---- places

pub ready-map : (F G : List ℕ → Type 0) (L : List ℕ) (h n : ℕ) → (F L → G L) → Ready F L h n → Ready G L h n
ready-map F G L h n f r = record { good = r.good; state = at r.state }
  where
    at : ((n ≡ 1) × (start L ≡ h) × F L) ⊎ ((n ≡ 2) × (L ≡ [])) → ((n ≡ 1) × (start L ≡ h) × G L) ⊎ ((n ≡ 2) × (L ≡ []))
    at (inl x) = inl (x.0, x.1, f x.2)
    at (inr x) = inr x

pub through-map : (F G : List ℕ → Type 0) (L : List ℕ) (h n l : ℕ) → (F L → G L) → Through F L h n l → Through G L h n l
through-map F G L h n l f r = record { good = r.good; stage = r.stage; next = r.next; todo = f r.todo }

module _ (w v : ℕ → ℕ) (L : List ℕ) (a : All (Same3 w v) L) where
  abbrev pub spot-same : {p h n : ℕ} → Spot w L p h n → Spot v L p h n
  spot-same z = record {
    cs = z.cs;
    d = z.d;
    rs = z.rs;
    split = z.split;
    top = z.top;
    here = z.here;
    small = z.small;
    before = no_eop-same w v z.cs (all_left (Same3 w v) z.cs (z.d ∷ z.rs) (rw z.split at a)) z.before;
    live = live_same w v L a z.live;
    stage = z.stage;
  }

  -- the descriptor of that place, and those behind it
  pub spot-words : {p h n : ℕ} (z : Spot w L p h n) → Same3 w v z.d × All (Same3 w v) z.rs
  spot-words z = all_right (Same3 w v) z.cs (z.d ∷ z.rs) (rw z.split at a)

  latch-same : (d : ℕ) (rs : List ℕ) (l : ℕ) → Same3 w v d → Latch w d rs l → Latch v d rs l
  latch-same d rs l b (inl h) = inl (h.0, ap eoq b.2 ∙ h.1)
  latch-same d rs l b (inr h) = inr (h.0, ap eoq b.2 ∙ h.1, h.2)

  owned-new : (F G : List ℕ → Type 0) {p h n l : ℕ} (o : Owned F w L p h n l) → (All (Same3 w v) o.spot.rs → G o.spot.rs)
      → Owned G v L p h n l
  owned-new F G {p} {h} {n} {l} o f =
      let b = spot-words o.spot in
      record {
        spot = spot-same o.spot;
        todo = f b.1;
        last = ap eop b.0.2
            ∙ o.last;
        latch = latch-same o.spot.d o.spot.rs l b.0 o.latch;
      }

  fetched-same : (K : List ℕ) {h n p w3 sum l : ℕ} {e : Bool} → Fetched K w L h n p w3 sum l e → Fetched K v L h n p w3 sum l e
  fetched-same K {h} {n} {p} {w3} {sum} {l} {e} f =
      let b = spot-words f.spot in
      record {
        spot = spot-same f.spot;
        todo = sendable-same K w v (place_after e w3 sum) f.spot.rs b.1 f.todo;
        next = f.next;
        last = ap eop b.0.2 ∙ f.last;
        clean = ap eoq b.0.2 ∙ f.clean;
      }

  pub tx-same : (K : List ℕ) (h n : ℕ) (ph : Sending) → TxInv K w L h n ph → TxInv K v L h n ph
  tx-same K h n S.Idle t = t
  tx-same K h n S.New t = ready-map (Sendable K w Start) (Sendable K v Start) L h n (sendable-same K w v Start L a) t
  tx-same K h n (S.Within p) t =
      record {
        spot = spot-same t.spot;
        todo = sendable-same K w v (Middle p.word3 p.sum) (t.spot.d ∷ t.spot.rs)
            (spot-words t.spot) t.todo;
      }
  tx-same K h n (S.Moving r) t = record { fetched = fetched-same K t.fetched; some = t.some; below = t.below; room = t.room }
  tx-same K h n (S.Ended e) t = fetched-same K t
  tx-same K h n (S.Marking c) t =
      let b = spot-words t.spot in
      record {
        spot = spot-same t.spot;
        todo = sendable-same K w v Start t.spot.rs b.1 t.todo;
        last = ap eop b.0.2
            ∙ t.last;
        clean = ap eoq b.0.2 ∙ t.clean;
        latch = t.latch;
      }
  tx-same K h n (S.Owning c) t =
      owned-new (Sendable K w Start) (Sendable K v Start) t (λ k. sendable-same K w v Start t.spot.rs k t.todo)
  tx-same K h n (S.Done l) t = through-map (Sendable K w Start) (Sendable K v Start) L h n l.next (sendable-same K w v Start L a) t

  module _ (lens new : List ℕ) (b : All (SameLength lens new) L) where
    -- the recorded lengths of the descriptor of a place, and of those behind it
    spot-lengths : {p h n : ℕ} (z : Spot w L p h n) → SameLength lens new z.d × All (SameLength lens new) z.rs
    spot-lengths z = all_right (SameLength lens new) z.cs (z.d ∷ z.rs) (rw z.split at b)

    abbrev taken-same : {h n p : ℕ} → Taken lens w L h n p → Taken new v L h n p
    taken-same t =
        let k = spot-words t.spot in
        record {
          spot = spot-same t.spot;
          todo = fillable-new lens new w v t.spot.rs (spot-lengths t.spot).1 k.1 t.todo;
          no_eop = ap eop k.0.2 ∙ t.no_eop;
          clean = ap eoq k.0.2 ∙ t.clean;
        }

    pub rx-new : (h n : ℕ) (ph : Receiving) → RxInv lens w L h n ph → RxInv new v L h n ph
    rx-new h n R.Idle t = t
    rx-new h n R.Wait t = ready-map (Fillable lens w) (Fillable new v) L h n (fillable-new lens new w v L b a) t
    rx-new h n (R.Fetch f) t =
        record {
          spot = spot-same t.spot;
          todo = fillable-new lens new w v (t.spot.d ∷ t.spot.rs) (spot-lengths t.spot)
              (spot-words t.spot) t.todo;
          some = t.some;
          short = t.short;
        }
    rx-new h n (R.Moving s) t =
        let k = (spot-words t.taken.spot).0.0 in
        let l = (spot-lengths t.taken.spot).0 in
        record {
          taken = taken-same t.taken;
          more = t.more;
          some = t.some;
          short = t.short;
          from = rw k t.from;
          until = rw (k, l) t.until;
          below = t.below;
          few = t.few;
        }
    rx-new h n (R.Ended e) t = record { taken = taken-same t.taken; short = t.short; few = t.few }
    rx-new h n (R.Last s) t = record { taken = taken-same t.taken; short = t.short; few = t.few; latch = t.latch }
    rx-new h n (R.First s) t =
        let l = (spot-lengths t.owned.spot).1 in
        record {
          owned = owned-new (Fillable lens w) (Fillable new v) t.owned
              (λ k. fillable-new lens new w v t.owned.spot.rs l k t.owned.todo);
          short = t.short;
        }
    rx-new h n (R.Done l) t = through-map (Fillable lens w) (Fillable new v) L h n l.next (fillable-new lens new w v L b a) t
