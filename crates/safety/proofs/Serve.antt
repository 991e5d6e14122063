-- The clause of an engine, and what is said of its queue, for either side. Assumes nothing.
--     serves-live              the head of a queue that an engine serves is live: the release takes nothing of it
--     serves-new, room-new, todo-new   words 1 to 3 and recorded lengths that agree keep it
--     serves_more              more descriptors still to be fetched behind a queue that is not empty
use Prim.Native.Nat.{ℕ, ◌+◌}
use mathlib.Core.Path.{◌≡◌}
use mathlib.Core.List.{List, [], ◌++◌}
use mathlib.Core.Logic.{◌⊎◌, inl, inr, ◌≢◌}
use Rattle.layout.specs.declared.Side.{Side}
use Rattle.layout.specs.declared.Side.TheVariants.{Transmit, Receive}
use Rattle.descriptor.specs.declared.Place.TheVariants.{Start}
use Rattle.queue.proofs.Queue.{start, All}
use Rattle.queue.proofs.LinkLaws.{all_map}
use Rattle.queue.proofs.KeptLaws.{Live}
use Rattle.queue.proofs.StoreLaws.{Same3}
use Rattle.queue.proofs.FreshLaws.{fresh-live}
use Rattle.queue.proofs.RoomyLaws.{room-now-same, room-now-lengths}
use Rattle.phases.specs.declared.Sending.{Sending}
use Rattle.phases.specs.declared.Sending.TheVariants as S
use Rattle.phases.specs.declared.Receiving.{Receiving}
use Rattle.phases.specs.declared.Receiving.TheVariants as R
use Rattle.controller.specs.declared.Controller.{Controller}
use Rattle.controller.specs.Controller.{tx_of, rx_of}
use Rattle.safety.proofs.Inv.{Sendable, Fillable, Ready, TxInv, RxInv, Phase, sending, taking, phase_by, Serves, Todo, RoomIn}
use Rattle.safety.proofs.Frame.{SameLength, sendable-same, fillable-new, tx-same, rx-new}
use Rattle.safety.proofs.Grow.{tx-more, rx-more}

-- ---- the head of a queue that is served

ready-live : (F : List ℕ → Type 0) (w : ℕ → ℕ) (L : List ℕ) (h n : ℕ) → (F L → Live w L) → Ready F L h n → Live w L
ready-live F w L h n f r = at r.state
  where
    at : ((n ≡ 1) × (start L ≡ h) × F L) ⊎ ((n ≡ 2) × (L ≡ [])) → Live w L
    at (inl x) = f x.2
    at (inr x) = rw x.1 tt

tx-live : (K : List ℕ) (w : ℕ → ℕ) (L : List ℕ) (h n : ℕ) (ph : Sending) → TxInv K w L h n ph → Live w L
tx-live K w L h n S.Idle t = rw t tt
tx-live K w L h n S.New t = ready-live (Sendable K w Start) w L h n (λ s. fresh-live w Transmit L s.fresh) t
tx-live K w L h n (S.Within p) t = t.spot.live
tx-live K w L h n (S.Moving r) t = t.fetched.spot.live
tx-live K w L h n (S.Ended e) t = t.spot.live
tx-live K w L h n (S.Marking c) t = t.spot.live
tx-live K w L h n (S.Owning c) t = t.spot.live
tx-live K w L h n (S.Done l) t = fresh-live w Transmit L t.todo.fresh

rx-live : (lens : List ℕ) (w : ℕ → ℕ) (L : List ℕ) (h n : ℕ) (ph : Receiving) → RxInv lens w L h n ph → Live w L
rx-live lens w L h n R.Idle t = rw t tt
rx-live lens w L h n R.Wait t = ready-live (Fillable lens w) w L h n (λ s. fresh-live w Receive L s.fresh) t
rx-live lens w L h n (R.Fetch f) t = t.spot.live
rx-live lens w L h n (R.Moving s) t = t.taken.spot.live
rx-live lens w L h n (R.Ended e) t = t.taken.spot.live
rx-live lens w L h n (R.Last s) t = t.taken.spot.live
rx-live lens w L h n (R.First s) t = t.owned.spot.live
rx-live lens w L h n (R.Done l) t = fresh-live w Receive L t.todo.fresh

pub serves-live : (K lens : List ℕ) (w : ℕ → ℕ) (L : List ℕ) (h n : ℕ) (ph : Phase) → Serves K lens w L h n ph → Live w L
serves-live K lens w L h n (sending ph) t = tx-live K w L h n ph t
serves-live K lens w L h n (taking ph) t = rx-live lens w L h n ph t

-- ---- words and recorded lengths that agree

module _ (K lens new : List ℕ) (w v : ℕ → ℕ) (L : List ℕ) (a : All (Same3 w v) L) (b : All (SameLength lens new) L) where
  pub serves-new : (h n : ℕ) (ph : Phase) → Serves K lens w L h n ph → Serves K new v L h n ph
  serves-new h n (sending ph) t = tx-same w v L a K h n ph t
  serves-new h n (taking ph) t = rx-new w v L a lens new b h n ph t

  pub room-new : (side : Side) → RoomIn side K lens w L → RoomIn side K new v L
  room-new Transmit r = tt
  room-new Receive r =
      room-now-same K new w v L (all_map (Same3 w v) (λ d. v (d + 1) ≡ w (d + 1)) (λ d s. s.0) L a) (room-now-lengths K lens new w L b r)

  pub todo-new : (side : Side) → Todo side K lens w L → Todo side K new v L
  todo-new Transmit t = sendable-same K w v Start L a t
  todo-new Receive t = fillable-new lens new w v L b a t

-- ---- more behind it

pub serves_more : (side : Side) (c : Controller) (ch : ℕ) (K lens : List ℕ) (w : ℕ → ℕ) (L es : List ℕ) (h n : ℕ) → L ≢ []
    → Todo side K lens w es
    → Serves K lens w L h n (phase_by side c ch) → Serves K lens w (L ++ es) h n (phase_by side c ch)
serves_more Transmit c ch K lens w L es h n some e t = tx-more K w L es some e h n (tx_of c ch) t
serves_more Receive c ch K lens w L es h n some e t = rx-more lens w L es some e h n (rx_of c ch) t
