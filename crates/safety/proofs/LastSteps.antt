-- The last steps of a packet or a frame, said once for both sides, of any queue. Assumes nothing.
--     todo-same, todo-live, todo-none   what stands still to be used: under the same words, its head, and where it is nothing
--     pointer-good, pointer_word        a pointer to a descriptor
--     left-linked, spot-first           what the release would leave of a queue is linked; a packet's first pointer is good
--     mark-last                         step 4: the last descriptor is marked
--     Closes f x, mark-first            step 5: a mark f in the first descriptor that clears OWNER, and leaves EOP, EOQ and TD
--     through-idle, through-ready       step 6: nothing is left, or there is more
use Prim.Native.Nat.{ℕ, ◌+◌, ◌≤◌, ◌<◌, ◌^◌}
use mathlib.Core.Path.{◌≡◌, refl, ap, ◌∙◌, sym}
use mathlib.Core.Bool.{true, false}
use mathlib.Core.List.{List, [], ◌∷◌, ◌++◌}
use mathlib.Core.Logic.{inl, ◌≢◌}
use Rattle.layout.specs.Layout.{good_ptr, word_of, addr, queues}
use Rattle.layout.specs.declared.Side.{Side}
use Rattle.layout.specs.declared.Side.TheVariants.{Transmit, Receive}
use Rattle.layout.proofs.PointerLaws.{good_ptr-addr, word_of-addr}
use Rattle.words.specs.Word.{word}
use Rattle.descriptor.specs.Fields.{eop, eoq, owner, td}
use Rattle.marks.specs.Marks.{marked}
use Rattle.queue.proofs.Queue.{All, Linked}
use Rattle.queue.proofs.LinkLaws.{start-zero}
use Rattle.queue.proofs.KeptLaws.{Live, kept-linked, kept-live}
use Rattle.queue.proofs.StoreLaws.{Same, sames-three, Only, marked-only}
use Rattle.queue.proofs.FreshLaws.{fresh-live}
use Rattle.queue.proofs.NumberLaws.{queue_at}
use Rattle.phases.specs.declared.Burst.TheVariants.{Quiet}
use Rattle.machine.specs.Machine.{Machine}
use Rattle.safety.proofs.Inv.{Fit, Ready, Spot, Latch, Owned, Through, Phase, idle, Serves, Todo, Post, post_of, common_of, words_of}
use Rattle.safety.proofs.Inv.{mode_of, left_of, TearingFits, Inv}
use Rattle.safety.proofs.Frame.{lengths-same}
use Rattle.safety.proofs.Serve.{todo-new}
use Rattle.safety.proofs.Ends.{Top, good_start, spot-top, spot-is-top, spot-marked, owned-done}
use Rattle.safety.proofs.Marks.{word_fits, marked-fits, marked-reads}
use Rattle.safety.proofs.Touch.{Sided, Fine, went, touch-fine}

-- ---- what stands still to be used

module _ (K lens : List ℕ) where
  pub todo-same : (side : Side) (w v : ℕ → ℕ) (ds : List ℕ) → All (Same w v) ds → Todo side K lens w ds → Todo side K lens v ds
  todo-same side w v ds a t = todo-new K lens lens w v ds (sames-three w v ds a) (lengths-same lens ds) side t

  pub todo-live : (side : Side) (w : ℕ → ℕ) (ds : List ℕ) → Todo side K lens w ds → Live w ds
  todo-live Transmit w ds t = fresh-live w Transmit ds t.fresh
  todo-live Receive w ds t = fresh-live w Receive ds t.fresh

  pub todo-none : (side : Side) (w : ℕ → ℕ) → Todo side K lens w []
  todo-none Transmit w = record { fresh = refl; room = tt }
  todo-none Receive w = record { fresh = refl; long = tt }

-- ---- a pointer to a descriptor

module _ {p d : ℕ} (e : p ≡ addr d) where
  pub pointer-good : d ≤ 2044 → good_ptr p ≡ true
  pointer-good b = ap good_ptr e ∙ good_ptr-addr d b

  pub pointer_word : word_of p ≡ d
  pointer_word = ap word_of e ∙ word_of-addr d

pub left-linked : (s : Machine) (i : Inv s) (q : ℕ) → Linked (words_of s) (left_of s i.qs q)
left-linked s i q = kept-linked (words_of s) (mode_of s) (queue_at i.qs q) (i.held.linked q)

pub spot-first : (w : ℕ → ℕ) (L : List ℕ) {p h n : ℕ} → Spot w L p h n → Linked w L → good_ptr p ≡ true
spot-first w L z k = let f = spot-top w L z (spot-is-top w L z) k in pointer-good f.0 f.1

-- ---- steps 4 and 5: a mark, and on to the phase ph, with registers as they were

-- f marks word 3, x: OWNER is given back, EOP, EOQ and TD stay
pub record Closes (f : ℕ → ℕ) (x : ℕ) : Type 0 where
  pub small : f x < 2 ^ 32
  pub end : eop (f x) ≡ eop x
  pub last : eoq (f x) ≡ eoq x
  pub whole : td (f x) ≡ td x
  pub given : owner (f x) ≡ false

module _ (s : Machine) (i : Inv s) (q : ℕ) (l : q < queues) (side : Side) (ph : Phase) (o : Sided q ph)
    (t : TearingFits (common_of s) (post_of s q) (idle ph)) where
  abbrev here : Post
  here = post_of s q

  -- what is left of the queue
  abbrev L : List ℕ
  L = left_of s i.qs q

  abbrev todo : (ℕ → ℕ) → List ℕ → Type 0
  todo w = Todo side s.kinds s.lens w

  -- a phase that the words w, and what they leave of the queue, allow
  abbrev Allows : ((ℕ → ℕ) → List ℕ → Type 0) → (ℕ → ℕ) → Type 0
  Allows P w = (ds : List ℕ) → P w ds → Serves s.kinds s.lens w ds here.hdp here.stage ph

  pub mark-last : (first next : ℕ) (z : Spot (words_of s) L first here.hdp here.stage) → todo (words_of s) z.rs
      → (m : List ℕ) → Only z.d (words_of s) (word m) → Fit m
      → owner (word m (z.d + 3)) ≡ owner (words_of s (z.d + 3)) → td (word m (z.d + 3)) ≡ td (words_of s (z.d + 3))
      → eop (word m (z.d + 3)) ≡ true
      → Latch (word m) z.d z.rs next
      → Allows (λ w ds. Owned (todo w) w ds first here.hdp here.stage next) (word m)
      → (a b : ℕ) → Fine s (went q ph here.hdp here.cp a b Quiet m s.ctl)
  mark-last first next z f m only fit own torn end latch serves a b =
      touch-fine s i q l ph o here.hdp here.cp a b m z.cs z.d z.rs only fit z.split t
      (λ k. let y = spot-marked (words_of s) (word m) L first here.hdp here.stage z k.before own torn in
      rw (kept-live (word m) (z.cs ++ z.d ∷ z.rs) y.live)
      (serves (z.cs ++ z.d ∷ z.rs)
      (record {
        spot = y;
        todo = todo-same s.kinds s.lens side (words_of s) (word m) z.rs k.behind f;
        last = end;
        latch = latch;
      })))

  pub mark-first : (first next : ℕ) → Owned (todo (words_of s)) (words_of s) L first here.hdp here.stage next
      → (f : ℕ → ℕ) → ((x : ℕ) → x < 2 ^ 32 → Closes f x)
      → Allows (λ w ds. Through (todo w) ds here.hdp here.stage next) (word (marked f (word_of first) s.mem))
      → (a b : ℕ) → Fine s (went q ph here.hdp here.cp a b Quiet (marked f (word_of first) s.mem) s.ctl)
  mark-first first next own f closes serves a b = at (word_of first) (pointer_word top.0) serves
    where
      w : ℕ → ℕ
      w = words_of s

      m : List ℕ
      m = s.mem

      head : Top L
      head = spot-is-top w L own.spot

      d : ℕ
      d = head.f

      top : (first ≡ addr d) × (d ≤ 2044) × (owner (w (d + 3)) ≡ true) × (td (w (d + 3)) ≡ false)
      top = spot-top w L own.spot head (left-linked s i q)

      mark : Closes f (w (d + 3))
      mark = closes (w (d + 3)) (word_fits m (d + 3) i.held.fit)

      there : word (marked f d m) (d + 3) ≡ f (w (d + 3))
      there = marked-reads f d m mark.small i.held.fit top.1

      at : (e : ℕ) → e ≡ d → Allows (λ w ds. Through (todo w) ds here.hdp here.stage next) (word (marked f e m))
          → Fine s (went q ph here.hdp here.cp a b Quiet (marked f e m) s.ctl)
      at e x serves =
          rw x
          (touch-fine s i q l ph o here.hdp here.cp a b (marked f d m) [] d head.fs (marked-only f d m)
          (marked-fits f d m mark.small i.held.fit) head.is t
          (λ k. let v = word (marked f d m) in
          let r = owned-done (todo w) (todo v) w v L first here.hdp here.stage next own d head.fs head.is k.behind
          (ap eop there ∙ mark.end, ap eoq there ∙ mark.last) (ap td there ∙ mark.whole ∙ top.3) (ap owner there ∙ mark.given)
          (todo-same s.kinds s.lens side w v) (todo-live s.kinds s.lens side v) (todo-none s.kinds s.lens side v) in
          (rw x at serves) _ (record
          { good = pointer-good own.spot.here own.spot.small; stage = own.spot.stage; next = r.0; todo = r.1 })))

-- ---- step 6

module _ (F : List ℕ → Type 0) (L : List ℕ) {h n next : ℕ} (r : Through F L h n next) where
  pub through-idle : next ≡ 0 → L ≡ []
  through-idle e = start-zero L (r.next ∙ e)

  pub through-ready : (w : ℕ → ℕ) → Linked w L → next ≢ 0 → Ready F L next n
  through-ready w k e =
      record { good = rw r.next at (good_start w L k (λ z. e (sym r.next ∙ z))); state = inl (r.stage, r.next, r.todo) }
