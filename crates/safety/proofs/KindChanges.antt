-- A kind change keeps the invariant: "18, 19, 20, then 21 if the new kind is not 1 and a receive buffer in the book, at its handed-over
-- length, touches the block". Ownership never changes, so that what was judged for transmission stays so. Assumes nothing.
--     sendable-kind, serves-kind   a block that stays Linux's changes its kind: what is to be sent, and an engine's clause
--     Changed b k s            what an accepted kind change has asked
--     KindOutcome, judge_kind-changed   and it has; the world that it leaves
--     kind-calm                a released machine stays one
--     ownership-kept           no operation changes whose a block is
use Prim.Native.Nat.{ℕ, ◌≤◌, ◌<◌}
use mathlib.Core.Path.{◌≡◌, refl, ap, ◌∙◌, sym}
use mathlib.Core.Bool.{Bool, true, false, not}
use mathlib.Core.List.{List, ◌∷◌}
use mathlib.Core.Logic.{inl, inr, ◌≢◌}
use native.Mathlib.Omega.{arith}
use lib.ListN.{length, get_or, set}
use lib.Seq.{get_or-set_same, get_or-set_other}
use lib.Dec.{eqb, ltb, leb}
use borrow.Author.Tests.{ne_eqb, eqb-true, eqb-false, ltb-true, leb-true}
use Rattle.layout.specs.Choice.{pick, both}
use Rattle.layout.specs.Layout.{side_of}
use Rattle.layout.specs.declared.Side.{Side}
use Rattle.layout.specs.declared.Side.TheVariants.{Transmit, Receive}
use Rattle.layout.proofs.ChoiceLaws.{pick-holds, both_left, both_right}
use Rattle.words.specs.Word.{word}
use Rattle.blocks.specs.Room.{permits}
use Rattle.blocks.proofs.KindLaws.{set-keeps-fit_kinds}
use Rattle.blocks.proofs.RoomLaws.{room-set-permits}
use Rattle.descriptor.specs.declared.Place.{Place}
use Rattle.descriptor.specs.declared.Place.TheVariants.{Start, Middle}
use Rattle.descriptor.specs.Rules.{side_at}
use Rattle.book.specs.World.{World, set_kinds, unfit, sound_world, release}
use Rattle.queue.proofs.Queue.{All}
use Rattle.queue.proofs.RecordLaws.{Fits}
use Rattle.queue.proofs.RoomyLaws.{fresh-some, roomy-kind, room-now-kind}
use Rattle.queue.proofs.NumberLaws.{queue_at}
use Rattle.queue.proofs.SetLaws.{part-receiving}
use Rattle.guard.specs.declared.Effect.TheVariants.{Plain}
use Rattle.guard.specs.Answers.{number_of, Outcome, accept, refuse}
use Rattle.guard.specs.Judges.{judge}
use Rattle.guard.specs.Guard.{admitted, guest_write}
use Rattle.kinds.specs.Kinds.{in_reception, kind_number, judge_kind, kind_change}
use Rattle.phases.specs.declared.Sending.{Sending}
use Rattle.phases.specs.declared.Sending.TheVariants as S
use Rattle.controller.specs.Controller.{unguarded_write}
use Rattle.machine.specs.Machine.{Machine, Happened, world_of, with_world, carried_out, Op, write, kind, frame, step, apply, apply_write}
use Rattle.machine.specs.Machine.{apply_kind, apply_frame, apply_step}
use Rattle.safety.specs.Follows.{is_owned}
use Rattle.safety.proofs.Inv.{Sendable, place_after, Fetched, TxInv, Phase, sending, taking, phase_of, Serves, RoomIn, post_of, words_of}
use Rattle.safety.proofs.Frame.{ready-map, through-map}
use Rattle.safety.proofs.Calm.{Calm, book_of}
use Rattle.safety.proofs.Refusals.{release-kinds, Verdict, kind-verdict}
use Rattle.safety.proofs.Allowed.{judge-kinds}

-- ---- kinds: "Kinds 1 to 4 are owned by Linux"

module _ (K : List ℕ) (b k : ℕ) (own : permits Transmit k ≡ true) (w : ℕ → ℕ) where
  pub sendable-kind : (pl : Place) (ds : List ℕ) → side_at pl ≡ Transmit → Sendable K w pl ds → Sendable (set K b k) w pl ds
  sendable-kind pl ds e s = record {
    fresh = s.fresh;
    room = roomy-kind K Transmit w b k ds own (rw e at (fresh-some w pl ds s.fresh)) s.room;
  }

  place-side : (end : Bool) (x n : ℕ) → side_at (place_after end x n) ≡ Transmit
  place-side true x n = refl
  place-side false x n = refl

  fetched-kind : (L : List ℕ) {h n p w3 sum l : ℕ} {e : Bool} → Fetched K w L h n p w3 sum l e → Fetched (set K b k) w L h n p w3 sum l e
  fetched-kind L {h} {n} {p} {w3} {sum} {l} {e} f = record {
    spot = f.spot;
    todo = sendable-kind (place_after e w3 sum) f.spot.rs (place-side e w3 sum) f.todo;
    next = f.next;
    last = f.last;
    clean = f.clean;
  }

  tx-kind : (L : List ℕ) (h n : ℕ) (ph : Sending) → TxInv K w L h n ph → TxInv (set K b k) w L h n ph
  tx-kind L h n S.Idle t = t
  tx-kind L h n S.New t = ready-map (Sendable K w Start) (Sendable (set K b k) w Start) L h n (sendable-kind Start L refl) t
  tx-kind L h n (S.Within p) t =
      record { spot = t.spot; todo = sendable-kind (Middle p.word3 p.sum) (t.spot.d ∷ t.spot.rs) refl t.todo }
  tx-kind L h n (S.Moving r) t = record {
    fetched = fetched-kind L t.fetched;
    some = t.some;
    below = t.below;
    room = room-set-permits Transmit K r.at r.left b k t.room t.some own;
  }
  tx-kind L h n (S.Ended e) t = fetched-kind L t
  tx-kind L h n (S.Marking c) t = record {
    spot = t.spot;
    todo = sendable-kind Start t.spot.rs refl t.todo;
    last = t.last;
    clean = t.clean;
    latch = t.latch;
  }
  tx-kind L h n (S.Owning c) t = record {
    spot = t.spot;
    todo = sendable-kind Start t.spot.rs refl t.todo;
    last = t.last;
    latch = t.latch;
  }
  tx-kind L h n (S.Done l) t =
      through-map (Sendable K w Start) (Sendable (set K b k) w Start) L h n l.next (sendable-kind Start L refl) t

  serves-kind : (lens L : List ℕ) (h n : ℕ) (ph : Phase) → Serves K lens w L h n ph → Serves (set K b k) lens w L h n ph
  serves-kind lens L h n (sending ph) t = tx-kind L h n ph t
  serves-kind lens L h n (taking ph) t = t

-- ---- what an accepted kind change has asked

pub record Changed (b k : ℕ) (s : World) : Type 0 where
  pub there : b < length s.kinds
  pub low : 1 ≤ k
  pub high : k ≤ 4
  pub owned : get_or s.kinds b 0 ≢ 0
  pub clear : both (not (eqb k 1)) (in_reception (word s.mem) s.lens b) ≡ false

-- the outcome is a refusal, or the change of that block
pub record KindOutcome (b k : ℕ) (s : World) (o : Outcome) : Type 0 where
  pub changed : number_of o.answer ≡ 0 → Changed b k s
  pub world : number_of o.answer ≡ 0 → o.world ≡ set_kinds (set s.kinds b k) s

refuse-kind : (b k : ℕ) (s : World) (n : ℕ) → n ≢ 0 → KindOutcome b k s (refuse n s)
refuse-kind b k s n h = record { changed = λ e. absurd (h e); world = λ e. absurd (h e) }

pub judge_kind-changed : (b k : ℕ) (s : World) → KindOutcome b k s (judge_kind b k s)
unfolding judge_kind kind_number
judge_kind-changed b k s = at _ _ _ _ refl refl refl refl
  where
    made : Outcome
    made = accept Plain (set_kinds (set s.kinds b k) s)

    at : (t1 t2 t3 t4 : Bool) → ltb b (length s.kinds) ≡ t1 → both (leb 1 k) (leb k 4) ≡ t2 → eqb (get_or s.kinds b 0) 0 ≡ t3
        → both (not (eqb k 1)) (in_reception (word s.mem) s.lens b) ≡ t4
        → KindOutcome b k s (let n = pick t1 (pick t2 (pick t3 20 (pick t4 21 0)) 19) 18 in pick (eqb n 0) made (refuse n s))
    at false t2 t3 t4 p q r u = refuse-kind b k s 18 (omega arith)
    at true false t3 t4 p q r u = refuse-kind b k s 19 (omega arith)
    at true true true t4 p q r u = refuse-kind b k s 20 (omega arith)
    at true true false true p q r u = refuse-kind b k s 21 (omega arith)
    at true true false false p q r u = record {
      changed = λ e. record {
        there = ltb-true b (length s.kinds) p;
        low = leb-true 1 k (both_left _ _ q);
        high = leb-true k 4 (both_right (leb 1 k) (leb k 4) q);
        owned = eqb-false (get_or s.kinds b 0) 0 r;
        clear = u;
      };
      world = λ e. refl;
    }

-- ---- a released machine stays one

-- "19 new kind not 1..4": every new kind is Linux's
kind-owned : (k : ℕ) → 1 ≤ k → permits Transmit k ≡ true
kind-owned k h = simp (ne_eqb k 0 (λ e. omega arith))

-- the blocks of a queue that receives
room-kind : (side : Side) (K lens : List ℕ) (w : ℕ → ℕ) (b k : ℕ) (ds : List ℕ) → both (not (eqb k 1)) (in_reception w lens b) ≡ false
    → (side ≡ Receive → All (λ d. Fits (get_or lens d 0)) ds) → RoomIn side K lens w ds → RoomIn side (set K b k) lens w ds
room-kind Transmit K lens w b k ds clear f r = tt
room-kind Receive K lens w b k ds clear f r = room-now-kind K lens w b k ds clear (f refl) r

pub kind-calm : (s : Machine) → Calm s → (b k : ℕ) → 1 ≤ k → k ≤ 4 → both (not (eqb k 1)) (in_reception (words_of s) s.lens b) ≡ false
    → Calm (with_world (set_kinds (set s.kinds b k) (book_of s)) s)
kind-calm s c b k low high clear = record {
  qs = c.qs;
  sized = record { book = c.sized.book; ctl = c.sized.ctl; stages = c.sized.stages; channels = c.sized.channels };
  defined = c.defined;
  held = record {
    fit = c.held.fit;
    kinds = set-keeps-fit_kinds s.kinds b k high c.held.kinds;
    many = c.held.many;
    heads = c.held.heads;
    linked = c.held.linked;
    sole = c.held.sole;
    recorded = c.held.recorded;
  };
  marks = c.marks;
  tearings = c.tearings;
  resets = c.resets;
  bits = c.bits;
  ready = c.ready;
  duty = c.duty;
  engine = λ q l. serves-kind s.kinds b k (kind-owned k low) (words_of s) s.lens (queue_at c.qs q) (post_of s q).hdp
      (post_of s q).stage (phase_of s.ctl q) (c.engine q l);
  room = λ q l. room-kind (side_of q) s.kinds s.lens (words_of s) b k (queue_at c.qs q) clear
      (λ e. part-receiving (λ d. Fits (get_or s.lens d 0)) q c.qs e c.held.recorded.there) (c.room q l);
}

-- ---- whose a block is: "Kinds 1 to 4 are owned by Linux"

set-owned : (K : List ℕ) (b k i : ℕ) → b < length K → get_or K b 0 ≢ 0 → 1 ≤ k → is_owned (set K b k) i ≡ is_owned K i
set-owned K b k i l o h = at (eqb i b) refl
  where
    at : (t : Bool) → eqb i b ≡ t → is_owned (set K b k) i ≡ is_owned K i
    at true e = let z = eqb-true i b e in rw (z, get_or-set_same K b k 0 l) (kind-owned k h ∙ sym (ap not (ne_eqb (get_or K b 0) 0 o)))
    at false e = rw (get_or-set_other K b i k 0 (eqb-false i b e)) refl

-- the kinds after a guard call are as they were but for one block, which was Linux's and is
admitted-owned : (s : World) (act : World → Outcome) (i : ℕ) → ((t : World) → is_owned (act t).world.kinds i ≡ is_owned t.kinds i)
    → is_owned (admitted s act).world.kinds i ≡ is_owned s.kinds i
unfolding admitted
admitted-owned s act i f =
    pick-holds (λ (o : Outcome). is_owned o.world.kinds i ≡ is_owned s.kinds i) (unfit s) _ _ refl
    (pick-holds (λ (o : Outcome). is_owned o.world.kinds i ≡ is_owned s.kinds i) (sound_world s) _ _ (f (release s) ∙ released) refl)
  where
    released : is_owned (release s).kinds i ≡ is_owned s.kinds i
    released = ap (λ (K : List ℕ). is_owned K i) (release-kinds s)

judge_kind-owned : (b k : ℕ) (s : World) (i : ℕ) → is_owned (judge_kind b k s).world.kinds i ≡ is_owned s.kinds i
judge_kind-owned b k s i = at (judge_kind b k s) (kind-verdict b k s) (judge_kind-changed b k s)
  where
    at : (o : Outcome) → Verdict s o → KindOutcome b k s o → is_owned o.world.kinds i ≡ is_owned s.kinds i
    at o (inl r) x = ap (λ (y : Outcome). is_owned y.world.kinds i) r.is
    at o (inr a) x =
        let z : number_of o.answer ≡ 0 = ap number_of a.is in
        let c = x.changed z in
        ap (λ (y : World). is_owned y.kinds i) (x.world z) ∙ set-owned s.kinds b k i c.there c.owned c.low

carried-kinds : (a x : ℕ) (o : Outcome) (s : Machine) → (carried_out a x o s).machine.kinds ≡ o.world.kinds
carried-kinds a x o s =
    pick-holds kept (eqb (number_of o.answer) 0) _ _
    (pick-holds kept (eqb (unguarded_write a x s.ctl o.world.mem).number 0) _ _ refl refl) refl
  where
    kept : Happened → Type 0
    kept h = h.machine.kinds ≡ o.world.kinds

-- no operation changes whose a block is
pub ownership-kept : (o : Op) (s : Machine) (i : ℕ) → is_owned (apply o s).machine.kinds i ≡ is_owned s.kinds i
unfolding apply_write apply_kind apply_frame apply_step guest_write kind_change
ownership-kept (write a x) s i =
    ap (λ (K : List ℕ). is_owned K i) (carried-kinds a x (guest_write a x (world_of s)) s)
    ∙ admitted-owned (world_of s) (λ t. judge a x t) i (λ t. ap (λ (K : List ℕ). is_owned K i) (judge-kinds a x t))
ownership-kept (kind b k) s i = admitted-owned (world_of s) (λ t. judge_kind b k t) i (λ t. judge_kind-owned b k t i)
ownership-kept (frame n) s i = refl
ownership-kept (step e) s i = refl
