-- More fresh packets, or buffers, behind a queue that is not empty: an engine that serves it serves the longer one. Assumes nothing.
--     sendable-more, fillable-more   what is still to be fetched grows
--     latched-more, latch-more       a next that was latched stays: 0 too, then the rest goes with EOQ
--     spot-more                      and so does a place in a packet
--     tx-more, rx-more               the clause of every phase
use Prim.Native.Nat.{ℕ}
use mathlib.Core.Path.{◌≡◌, refl, ap, ◌∙◌, sym}
use mathlib.Core.Bool.{Bool, true, false}
use mathlib.Core.List.{List, [], ◌∷◌, ◌++◌, append_assoc}
use mathlib.Core.Logic.{◌⊎◌, inl, inr, ◌≢◌}
use native.Mathlib.Omega.{arith}
use Rattle.layout.specs.declared.Side.TheVariants.{Transmit}
use Rattle.descriptor.specs.Rules.{side_at}
use Rattle.descriptor.specs.declared.Place.{Place}
use Rattle.descriptor.specs.declared.Place.TheVariants.{Start, Middle, Buffer}
use Rattle.queue.proofs.Queue.{start, Fresh}
use Rattle.queue.proofs.Queue as queue
use Rattle.queue.proofs.LinkLaws.{all_join, start-append}
use Rattle.queue.proofs.KeptLaws.{Live}
use Rattle.queue.proofs.FreshLaws.{fresh-join}
use Rattle.phases.specs.declared.Sending.{Sending}
use Rattle.phases.specs.declared.Sending.TheVariants as S
use Rattle.phases.specs.declared.Receiving.{Receiving}
use Rattle.phases.specs.declared.Receiving.TheVariants as R
use Rattle.safety.proofs.Inv.{Sendable, Fillable, Ready, Spot, Latched, Latch, Owned, Through, place_after, Fetched, TxInv, Taken}
use Rattle.safety.proofs.Inv.{RxInv}

-- ---- descriptors

pub sendable-more : (K : List ℕ) (w : ℕ → ℕ) (pl : Place) (ds es : List ℕ) → side_at pl ≡ Transmit → Sendable K w Start es
    → Sendable K w pl ds → Sendable K w pl (ds ++ es)
sendable-more K w pl ds es s e t =
    record {
      fresh = fresh-join w pl ds es t.fresh (rw s e.fresh);
      room = all_join (queue.RoomAt K Transmit w) ds es t.room e.room;
    }

pub fillable-more : (lens : List ℕ) (w : ℕ → ℕ) (ds es : List ℕ) → Fillable lens w es → Fillable lens w ds → Fillable lens w (ds ++ es)
fillable-more lens w ds es e t =
    record { fresh = fresh-join w Buffer ds es t.fresh e.fresh; long = all_join _ ds es t.long e.long }

pub start-more : (ds es : List ℕ) → ds ≢ [] → start (ds ++ es) ≡ start ds
start-more [] es n = absurd (n refl)
start-more (d ∷ ds) es n = refl

latched-more : (rs es : List ℕ) (l : ℕ) → Latched rs l → Latched (rs ++ es) l
latched-more rs es l (inl h) = inl h
latched-more rs es l (inr h) = inr (h.0 ∙ sym (start-append rs es (λ z. h.1 (h.0 ∙ z))), h.1)

latch-more : (w : ℕ → ℕ) (d : ℕ) (rs es : List ℕ) (l : ℕ) → Latch w d rs l → Latch w d (rs ++ es) l
latch-more w d rs es l (inl h) = inl h
latch-more w d rs es l (inr h) = inr (h.0 ∙ sym (start-append rs es (λ z. h.2 (h.0 ∙ z))), h.1, h.2)

pub live_more : (w : ℕ → ℕ) (ds es : List ℕ) → ds ≢ [] → Live w ds → Live w (ds ++ es)
live_more w [] es n l = absurd (n refl)
live_more w (d ∷ ds) es n l = l

-- ---- places

module _ (w : ℕ → ℕ) (L es : List ℕ) (n : L ≢ []) where
  abbrev pub spot-more : {p h m : ℕ} → Spot w L p h m → Spot w (L ++ es) p h m
  spot-more z = record {
    cs = z.cs;
    d = z.d;
    rs = z.rs ++ es;
    split = ap (λ (l : List ℕ). l ++ es) z.split ∙ append_assoc z.cs (z.d ∷ z.rs) es;
    top = z.top ∙ sym (start-more L es n);
    here = z.here;
    small = z.small;
    before = z.before;
    live = live_more w L es n z.live;
    stage = z.stage;
  }

  ready-more : (F : List ℕ → Type 0) (h m : ℕ) → (F L → F (L ++ es)) → Ready F L h m → Ready F (L ++ es) h m
  ready-more F h m f r = record { good = r.good; state = at r.state }
    where
      at : ((m ≡ 1) × (start L ≡ h) × F L) ⊎ ((m ≡ 2) × (L ≡ []))
          → ((m ≡ 1) × (start (L ++ es) ≡ h) × F (L ++ es)) ⊎ ((m ≡ 2) × (L ++ es ≡ []))
      at (inl x) = inl (x.0, start-more L es n ∙ x.1, f x.2)
      at (inr x) = absurd (n x.1)

  through-more : (F : List ℕ → Type 0) (h m l : ℕ) → (F L → F (L ++ es)) → Through F L h m l → Through F (L ++ es) h m l
  through-more F h m l f r = record { good = r.good; stage = r.stage; next = start-more L es n ∙ r.next; todo = f r.todo }

  owned-more : (F : List ℕ → Type 0) (p h m l : ℕ) → ((rs : List ℕ) → F rs → F (rs ++ es)) → Owned F w L p h m l
      → Owned F w (L ++ es) p h m l
  owned-more F p h m l f o =
      record {
        spot = spot-more o.spot;
        todo = f o.spot.rs o.todo;
        last = o.last;
        latch = latch-more w o.spot.d o.spot.rs es l o.latch;
      }

-- ---- the transmit engine

side_after : (e : Bool) (w3 sum : ℕ) → side_at (place_after e w3 sum) ≡ Transmit
side_after true w3 sum = refl
side_after false w3 sum = refl

module _ (K : List ℕ) (w : ℕ → ℕ) (L es : List ℕ) (n : L ≢ []) (e : Sendable K w Start es) where
  fetched-more : (h m p w3 sum l : ℕ) (b : Bool) → Fetched K w L h m p w3 sum l b → Fetched K w (L ++ es) h m p w3 sum l b
  fetched-more h m p w3 sum l b f = record {
    spot = spot-more w L es n f.spot;
    todo = sendable-more K w (place_after b w3 sum) f.spot.rs es (side_after b w3 sum) e f.todo;
    next = λ q. f.next q ∙ sym (start-more f.spot.rs es (λ z. not_end b q f.spot.rs z f.todo.fresh));
    last = f.last;
    clean = f.clean;
  }
    where
      not_end : (b : Bool) → b ≡ false → (rs : List ℕ) → rs ≡ [] → Fresh w (place_after b w3 sum) rs → ⊥
      not_end b q rs z g = let x : Fresh w (Middle w3 sum) [] = rw (q, z) at g in omega arith

  pub tx-more : (h m : ℕ) (ph : Sending) → TxInv K w L h m ph → TxInv K w (L ++ es) h m ph
  tx-more h m S.Idle t = absurd (n t)
  tx-more h m S.New t = ready-more w L es n (Sendable K w Start) h m (sendable-more K w Start L es refl e) t
  tx-more h m (S.Within p) t =
      record {
        spot = spot-more w L es n t.spot;
        todo = sendable-more K w (Middle p.word3 p.sum) (t.spot.d ∷ t.spot.rs) es refl e t.todo;
      }
  tx-more h m (S.Moving r) t =
      record {
        fetched = fetched-more h m r.sop r.word3 r.sum r.next r.eop t.fetched;
        some = t.some;
        below = t.below;
        room = t.room;
      }
  tx-more h m (S.Ended x) t = fetched-more h m x.sop x.word3 x.sum x.next x.eop t
  tx-more h m (S.Marking c) t =
      record {
        spot = spot-more w L es n t.spot;
        todo = sendable-more K w Start t.spot.rs es refl e t.todo;
        last = t.last;
        clean = t.clean;
        latch = latched-more t.spot.rs es c.next t.latch;
      }
  tx-more h m (S.Owning c) t =
      owned-more w L es n (Sendable K w Start) c.sop h m c.next (λ rs. sendable-more K w Start rs es refl e) t
  tx-more h m (S.Done l) t = through-more w L es n (Sendable K w Start) h m l.next (sendable-more K w Start L es refl e) t

-- ---- the receive engine

module _ (lens : List ℕ) (w : ℕ → ℕ) (L es : List ℕ) (n : L ≢ []) (e : Fillable lens w es) where
  abbrev taken_more : {h m p : ℕ} → Taken lens w L h m p → Taken lens w (L ++ es) h m p
  taken_more t = record
      { spot = spot-more w L es n t.spot; todo = fillable-more lens w t.spot.rs es e t.todo; no_eop = t.no_eop; clean = t.clean }

  pub rx-more : (h m : ℕ) (ph : Receiving) → RxInv lens w L h m ph → RxInv lens w (L ++ es) h m ph
  rx-more h m R.Idle t = absurd (n t)
  rx-more h m R.Wait t = ready-more w L es n (Fillable lens w) h m (fillable-more lens w L es e) t
  rx-more h m (R.Fetch f) t =
      record {
        spot = spot-more w L es n t.spot;
        todo = fillable-more lens w (t.spot.d ∷ t.spot.rs) es e t.todo;
        some = t.some;
        short = t.short;
      }
  rx-more h m (R.Moving s) t =
      record {
        taken = taken_more t.taken;
        more = t.more;
        some = t.some;
        short = t.short;
        from = t.from;
        until = t.until;
        below = t.below;
        few = t.few;
      }
  rx-more h m (R.Ended x) t = record { taken = taken_more t.taken; short = t.short; few = t.few }
  rx-more h m (R.Last s) t =
      record {
        taken = taken_more t.taken;
        short = t.short;
        few = t.few;
        latch = latched-more t.taken.spot.rs es s.next t.latch;
      }
  rx-more h m (R.First s) t =
      record {
        owned = owned-more w L es n (Fillable lens w) s.first h m s.next (λ rs. fillable-more lens w rs es e) t.owned;
        short = t.short;
      }
  rx-more h m (R.Done l) t = through-more w L es n (Fillable lens w) h m l.next (fillable-more lens w L es e) t
