-- How a packet ends, on either side, and where a queue begins. Assumes nothing.
--     Top, top_of, top_start    a queue that is not empty, by its first descriptor
--     spot-linked, spot-top     where an engine stands: its descriptor is linked to what is behind it; the packet's first
--     good_start                a queue that is not empty begins at a good pointer
--     latched                   the next that is latched at a descriptor
--     spot-next                 the place one descriptor on
--     live-marked, spot-marked  the place as it is after a mark there that leaves OWNER and TD
--     Kin, same-kin, no_eop-kin  the flags that tell where a packet ends stay
--     owned-done                OWNER is cleared in the first descriptor: the packet goes, and the rest with it where EOQ is set
use Prim.Native.Nat.{ℕ, ◌+◌, ◌≤◌}
use mathlib.Core.Path.{◌≡◌, refl, ap, ap₂, ◌∙◌, sym}
use mathlib.Core.Bool.{Bool, true, false}
use mathlib.Core.List.{List, [], ◌∷◌, ◌++◌, append_assoc}
use mathlib.Core.Logic.{inl, inr, ◌≢◌}
use native.Mathlib.Omega.{arith}
use Rattle.layout.specs.Choice.{pick}
use Rattle.layout.specs.Layout.{good_ptr, addr}
use Rattle.layout.proofs.ChoiceLaws.{clash}
use Rattle.layout.proofs.PointerLaws.{good_ptr-addr, good_ptr-zero}
use Rattle.descriptor.specs.Fields.{eop, eoq, owner, td}
use Rattle.book.specs.declared.Mode.TheVariants.{Head}
use Rattle.queue.proofs.Queue.{start, All, Linked, kept}
use Rattle.queue.proofs.LinkLaws.{all_left, all_right, all_join, all_map, linked-right}
use Rattle.queue.proofs.KeptLaws.{NoEop, Live, kept-live, kept-done}
use Rattle.queue.proofs.StoreLaws.{Same}
use Rattle.safety.proofs.Inv.{Spot, Latched, Latch, Owned}

-- ---- where a queue begins

pub record Top (L : List ℕ) : Type 0 where
  pub f : ℕ
  pub fs : List ℕ
  pub is : L ≡ f ∷ fs

pub top_of : (cs : List ℕ) (d : ℕ) (rs : List ℕ) → Top (cs ++ d ∷ rs)
top_of [] d rs = record { f = d; fs = rs; is = refl }
top_of (c ∷ cs) d rs = record { f = c; fs = cs ++ d ∷ rs; is = refl }

pub top_start : (L : List ℕ) → good_ptr (start L) ≡ true → Top L
top_start [] g = clash g good_ptr-zero
top_start (d ∷ ds) g = record { f = d; fs = ds; is = refl }

pub good_start : (w : ℕ → ℕ) (L : List ℕ) → Linked w L → start L ≢ 0 → good_ptr (start L) ≡ true
good_start w [] l n = absurd (n refl)
good_start w (d ∷ ds) l n = good_ptr-addr d l.0

pub latched : (rs : List ℕ) (l : ℕ) → l ≡ start rs → Latched rs l
latched [] l e = inl e
latched (r ∷ rs) l e = inr (e, (λ z. omega arith))

-- ---- the flags that tell where a packet ends

abbrev pub Kin : (ℕ → ℕ) → (ℕ → ℕ) → ℕ → Type 0
Kin w v x = (eop (v (x + 3)) ≡ eop (w (x + 3))) × (eoq (v (x + 3)) ≡ eoq (w (x + 3)))

pub same-kin : (w v : ℕ → ℕ) (ds : List ℕ) → All (Same w v) ds → All (Kin w v) ds
same-kin w v ds a = all_map (Same w v) (Kin w v) (λ x s. (ap eop s.3, ap eoq s.3)) ds a

pub no_eop-kin : (w v : ℕ → ℕ) (cs : List ℕ) → All (Kin w v) cs → All (NoEop w) cs → All (NoEop v) cs
no_eop-kin w v [] a b = tt
no_eop-kin w v (c ∷ cs) a b = (a.0.0 ∙ b.0, no_eop-kin w v cs a.1 b.1)

-- ---- where an engine stands

module _ (w : ℕ → ℕ) (L : List ℕ) {p h n : ℕ} (z : Spot w L p h n) where
  pub spot-linked : Linked w L → Linked w (z.d ∷ z.rs)
  spot-linked l = linked-right w z.cs (z.d ∷ z.rs) (rw z.split at l)

  -- the packet's first descriptor, and its flags
  pub spot-top : (t : Top L) → Linked w L → (p ≡ addr t.f) × (t.f ≤ 2044) × (owner (w (t.f + 3)) ≡ true) × (td (w (t.f + 3)) ≡ false)
  spot-top t l =
      let lt : Linked w (t.f ∷ t.fs) = rw t.is at l in
      let lv : Live w (t.f ∷ t.fs) = rw t.is at z.live in
      (z.top ∙ ap start t.is, lt.0, lv.0, lv.1)

  pub spot-is-top : Top L
  spot-is-top = let t = top_of z.cs z.d z.rs in record { f = t.f; fs = t.fs; is = z.split ∙ t.is }

pub snoc : (cs : List ℕ) (d : ℕ) (rs : List ℕ) (r : ℕ) (rs' : List ℕ) → rs ≡ r ∷ rs' → cs ++ d ∷ rs ≡ (cs ++ (d ∷ [])) ++ r ∷ rs'
snoc cs d rs r rs' e = rw e (simp append_assoc)

-- one descriptor on: the one left behind has no EOP
abbrev pub spot-next : (w : ℕ → ℕ) (L : List ℕ) (p h n : ℕ) (z : Spot w L p h n) (r : ℕ) (rs : List ℕ) → z.rs ≡ r ∷ rs → r ≤ 2044
    → NoEop w z.d → (h' : ℕ) → h' ≡ addr r → Spot w L p h' n
spot-next w L p h n z r rs e b x h' a = record {
  cs = z.cs ++ (z.d ∷ []);
  d = r;
  rs = rs;
  split = z.split ∙ snoc z.cs z.d z.rs r rs e;
  top = z.top;
  here = a;
  small = b;
  before = all_join (NoEop w) z.cs (z.d ∷ []) z.before (x, tt);
  live = z.live;
  stage = z.stage;
}

-- a mark at the engine's descriptor that leaves OWNER and TD: the head of the queue is live as before
pub live-marked : (w v : ℕ → ℕ) (cs : List ℕ) (d : ℕ) (rs : List ℕ) → All (Same w v) cs → owner (v (d + 3)) ≡ owner (w (d + 3))
    → td (v (d + 3)) ≡ td (w (d + 3)) → Live w (cs ++ d ∷ rs) → Live v (cs ++ d ∷ rs)
live-marked w v [] d rs a o t l = (o ∙ l.0, t ∙ l.1)
live-marked w v (c ∷ cs) d rs a o t l = (ap owner a.0.3 ∙ l.0, ap td a.0.3 ∙ l.1)

abbrev pub spot-marked : (w v : ℕ → ℕ) (L : List ℕ) (p h n : ℕ) (z : Spot w L p h n) → All (Same w v) z.cs
    → owner (v (z.d + 3)) ≡ owner (w (z.d + 3)) → td (v (z.d + 3)) ≡ td (w (z.d + 3)) → Spot v (z.cs ++ z.d ∷ z.rs) p h n
spot-marked w v L p h n z a o t = record {
  cs = z.cs;
  d = z.d;
  rs = z.rs;
  split = refl;
  top = z.top ∙ ap start z.split;
  here = z.here;
  small = z.small;
  before = no_eop-kin w v z.cs (same-kin w v z.cs a) z.before;
  live = live-marked w v z.cs z.d z.rs a o t (rw z.split at z.live);
  stage = z.stage;
}

-- ---- the end of a packet

behind-part : (P : ℕ → Type 0) (cs : List ℕ) (d : ℕ) (rs : List ℕ) (f : ℕ) (fs : List ℕ) → cs ++ d ∷ rs ≡ f ∷ fs → All P fs → All P rs
behind-part P [] d rs f fs e a = let h : fs ≡ rs = cc in rw h at a
behind-part P (c ∷ cs) d rs f fs e a = let h : fs ≡ cs ++ d ∷ rs = cc in (all_right P cs (d ∷ rs) (rw h at a)).1

-- F and G: what the side asks of a queue still to be used, before and after
module _ (F G : List ℕ → Type 0) (w v : ℕ → ℕ) (L : List ℕ) (p h n l : ℕ) (o : Owned F w L p h n l) where
  pub owned-done : (f : ℕ) (fs : List ℕ) → L ≡ f ∷ fs → All (Same w v) fs → Kin w v f → td (v (f + 3)) ≡ false → owner (v (f + 3)) ≡ false
      → ((rs : List ℕ) → All (Same w v) rs → F rs → G rs) → ((rs : List ℕ) → G rs → Live v rs) → G []
      → (start (kept v Head (f ∷ fs)) ≡ l) × G (kept v Head (f ∷ fs))
  owned-done f fs e sf kf t c keep live none =
      let z = o.spot in
      let q : z.cs ++ z.d ∷ z.rs ≡ f ∷ fs = sym z.split ∙ e in
      let kc : All (Kin w v) (z.cs ++ z.d ∷ z.rs) = rw q (kf, same-kin w v fs sf) in
      let kd = (all_right (Kin w v) z.cs (z.d ∷ z.rs) kc).0 in
      let rest = keep z.rs (behind-part (Same w v) z.cs z.d z.rs f fs q sf) o.todo in
      let goes = kept-done v z.cs z.d z.rs (no_eop-kin w v z.cs (all_left (Kin w v) z.cs (z.d ∷ z.rs) kc) z.before)
      (kd.0 ∙ o.last) f fs q t c in
      let k : kept v Head (f ∷ fs) ≡ pick (eoq (w (z.d + 3))) [] z.rs =
      ap (λ (y : List ℕ). kept v Head y) (sym q) ∙ goes
      ∙ ap₂ (λ (b : Bool) (y : List ℕ). pick b [] y) kd.1 (kept-live v z.rs (live z.rs rest)) in
      rw k (out z.d z.rs o.latch rest)
    where
      out : (d : ℕ) (rs : List ℕ) → Latch w d rs l → G rs → (start (pick (eoq (w (d + 3))) [] rs) ≡ l) × G (pick (eoq (w (d + 3))) [] rs)
      out d rs (inl x) r = rw x.1 (sym x.0, none)
      out d rs (inr x) r = rw x.1 (sym x.0, r)
