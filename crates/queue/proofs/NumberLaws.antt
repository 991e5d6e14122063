-- One queue of many by its number: its side and channel, the others, and what a mark in it leaves of each. Assumes nothing.
--     each                      what holds at q, and at every other number, holds at each
--     get_or-same                 of a list that is the same everywhere
--     side-even, side-odd       queue 2·c transmits, queue 2·c + 1 receives
--     queue-of                  a queue is the one of its side on its channel
--     queue_at, without          the queue of a number; all the others
--     sole-at, part-all, part_of   its words and those of the others are in use; it is among all, and any other is among the others
--     linked-each               links by number are links of all
--     Marked, marked-there      a mark in queue q: every word of every other queue is left as it was
use Prim.Native.Nat.{ℕ, zero, suc, ◌+◌, ◌*◌, ◌%◌}
use mathlib.Core.Path.{◌≡◌, refl, ap}
use mathlib.Core.Bool.{Bool, true, false}
use mathlib.Core.List.{List, [], ◌∷◌, ◌++◌}
use mathlib.Core.Logic.{◌⊎◌, inl, inr, ◌≢◌}
use native.Mathlib.Omega.{arith}
use lib.Dec.{eqb}
use lib.ListN.{get_or, replicate}
use borrow.Author.Tests.{eq-eqb, ne_eqb, eqb-true, eqb-false}
use Rattle.layout.specs.Choice.{pick}
use Rattle.layout.specs.Layout.{side_of, channel_of, queue_of}
use Rattle.layout.specs.declared.Side.TheVariants.{Transmit, Receive}
use Rattle.book.specs.declared.Mode.{Mode}
use Rattle.queue.proofs.Queue.{All, Linked, LinkedAll, Sole, count, flat, kept}
use Rattle.queue.proofs.LinkLaws.{all_left, all_right}
use Rattle.queue.proofs.SoleLaws.{count-append, sole-perm, sole-apart}
use Rattle.queue.proofs.KeptLaws.{kept-agree}
use Rattle.queue.proofs.StoreLaws.{Same, same_flags, Only, Change, change}
use Rattle.queue.proofs.RecordLaws.{none_or}

-- ---- numbers

pub each : (P : ℕ → Type 0) (q : ℕ) → P q → ((j : ℕ) → j ≢ q → P j) → (j : ℕ) → P j
each P q a b j = by (none_or j q)
  where
    by : (j ≡ q) ⊎ (j ≢ q) → P j
    by (inl e) = rw e a
    by (inr n) = b j n

pub get_or-same : {A : Type 0} (n k : ℕ) (x : A) → get_or (replicate n x) k x ≡ x
get_or-same zero k x = refl
get_or-same (suc n) zero x = refl
get_or-same (suc n) (suc k) x = get_or-same n k x

pub side-even : (c : ℕ) → side_of (2 * c) ≡ Transmit
unfolding side_of
side-even c = rw (eq-eqb (2 * c % 2) 0 (omega arith)) refl

pub side-odd : (c : ℕ) → side_of (2 * c + 1) ≡ Receive
unfolding side_of
side-odd c = rw (ne_eqb ((2 * c + 1) % 2) 0 (λ e. omega arith)) refl

pub queue-of : (q : ℕ) → queue_of (side_of q) (channel_of q) ≡ q
unfolding side_of
queue-of q = at (eqb (q % 2) 0) refl
  where
    at : (b : Bool) → eqb (q % 2) 0 ≡ b → queue_of (pick b Transmit Receive) (channel_of q) ≡ q
    at true e = let h = eqb-true (q % 2) 0 e in omega arith
    at false e = let h = eqb-false (q % 2) 0 e in omega arith

-- ---- queues

abbrev pub queue_at : List (List ℕ) → ℕ → List ℕ
queue_at qs q = get_or {A = List ℕ} qs q []

abbrev pub without : ℕ → List (List ℕ) → List (List ℕ)
without q [] = []
without zero (x ∷ qs) = qs
without (suc q) (x ∷ qs) = x ∷ without q qs

pub count_at : (q : ℕ) (qs : List (List ℕ)) (k : ℕ) → count (flat qs) k ≡ count (queue_at qs q ++ flat (without q qs)) k
count_at q [] k = refl
count_at zero (x ∷ qs) k = refl
count_at (suc q) (x ∷ qs) k =
    let i = count_at q qs k in
    let a = count-append x (flat qs) k in
    let b = count-append (queue_at qs q) (flat (without q qs)) k in
    let c = count-append (queue_at qs q) (x ++ flat (without q qs)) k in
    let d = count-append x (flat (without q qs)) k in
    omega arith

pub sole-at : {u : List ℕ} (q : ℕ) (qs : List (List ℕ)) → Sole u (flat qs) → Sole u (queue_at qs q ++ flat (without q qs))
sole-at q qs s = sole-perm (count_at q qs) s

pub part-all : (P : ℕ → Type 0) (q : ℕ) (qs : List (List ℕ)) → All P (flat qs) → All P (queue_at qs q)
part-all P q [] a = tt
part-all P zero (x ∷ qs) a = all_left P x (flat qs) a
part-all P (suc q) (x ∷ qs) a = part-all P q qs (all_right P x (flat qs) a)

-- any other queue is among the others
pub part_of : (P : ℕ → Type 0) (q j : ℕ) (qs : List (List ℕ)) → j ≢ q → All P (flat (without q qs)) → All P (queue_at qs j)
part_of P q j [] n a = tt
part_of P zero zero (x ∷ qs) n a = absurd (n refl)
part_of P zero (suc j) (x ∷ qs) n a = part-all P j qs a
part_of P (suc q) zero (x ∷ qs) n a = all_left P x (flat (without q qs)) a
part_of P (suc q) (suc j) (x ∷ qs) n a = part_of P q j qs (λ e. n (ap suc e)) (all_right P x (flat (without q qs)) a)

-- links by number are links of all
pub linked-each : (w : ℕ → ℕ) (qs : List (List ℕ)) → ((j : ℕ) → Linked w (queue_at qs j)) → LinkedAll w qs
linked-each w [] f = tt
linked-each w (x ∷ qs) f = (f 0, linked-each w qs (λ j. f (suc j)))

-- a mark at d, in what the release leaves of queue q: every word of every other queue is as it was, and so is what is left of it
pub record Marked (w v : ℕ → ℕ) (n : Mode) (qs : List (List ℕ)) (q : ℕ) (cs : List ℕ) (d : ℕ) (rs : List ℕ) : Type 0 where
  pub here : Change w v n (queue_at qs q) cs d rs (flat (without q qs))
  pub there : (j : ℕ) → j ≢ q → All (Same w v) (queue_at qs j)
  pub left : (j : ℕ) → j ≢ q → kept v n (queue_at qs j) ≡ kept w n (queue_at qs j)

pub marked-there : (w v : ℕ → ℕ) (n : Mode) (qs : List (List ℕ)) (q : ℕ) (cs : List ℕ) (d : ℕ) (rs : List ℕ) {u : List ℕ} → Sole u (flat qs)
    → Only d w v → kept w n (queue_at qs q) ≡ cs ++ d ∷ rs → Marked w v n qs q cs d rs
marked-there w v n qs q cs d rs s o e =
    let c = change w v n (queue_at qs q) cs d rs (flat (without q qs)) o e (sole-apart (sole-at q qs s)) in
    record {
      here = c;
      there = λ j m. part_of (Same w v) q j qs m c.others;
      left = λ j m. kept-agree w v n (queue_at qs j) (same_flags w v (queue_at qs j) (part_of (Same w v) q j qs m c.others));
    }
