-- One queue of many takes the place of another, by its number. Assumes nothing.
--     queue-set-same, queue-set-other   the queue that was set, and any other
--     queue-kept               what the release leaves of a queue is a queue of what it leaves of all
--     part-receiving           what holds of the receive queues' descriptors holds of those of each of them
--     start-number, heads-starts   the heads by number, and all of them
--     sole-set, recorded-set   words in use and recorded lengths, where descriptors came behind the queue of a number
use Prim.Native.Nat.{ℕ, zero, suc, ◌+◌, ◌*◌, ◌<◌}
use mathlib.Core.Path.{◌≡◌, refl, ap, ◌∙◌, sym, subst}
use mathlib.Core.List.{List, [], ◌∷◌, ◌++◌}
use mathlib.Core.Logic.{◌≢◌}
use native.Mathlib.Omega.{arith}
use lib.ListN.{length, get_or, set, take, drop}
use lib.Seq.{length-take-le, split_at, set_split, get_or-set_same, get_or-set_other, ext_get_or}
use Rattle.layout.specs.Layout.{side_of, channel_of, queue_of}
use Rattle.layout.specs.declared.Side.{Side}
use Rattle.layout.specs.declared.Side.TheVariants.{Receive}
use Rattle.book.specs.declared.Mode.{Mode}
use Rattle.queue.proofs.Queue.{start, All, Sole, Recorded, flat, starts, receiving, kept, kept_all}
use Rattle.queue.proofs.LinkLaws.{all_left, all_right}
use Rattle.queue.proofs.RecordLaws.{gain}
use Rattle.queue.proofs.GrowLaws.{sole-grow, recorded-grow}
use Rattle.queue.proofs.NumberLaws.{queue-of, queue_at}

pub queue-set-same : (qs : List (List ℕ)) (q : ℕ) (x : List ℕ) → q < length qs → queue_at (set qs q x) q ≡ x
queue-set-same qs q x h = get_or-set_same qs q x [] h

pub queue-set-other : (qs : List (List ℕ)) (q : ℕ) (x : List ℕ) (j : ℕ) → j ≢ q → queue_at (set qs q x) j ≡ queue_at qs j
queue-set-other qs q x j n = get_or-set_other qs q j x [] n

pub queue-kept : (w : ℕ → ℕ) (n : Mode) (qs : List (List ℕ)) (q : ℕ) → queue_at (kept_all w n qs) q ≡ kept w n (queue_at qs q)
queue-kept w n [] q = refl
queue-kept w n (x ∷ qs) zero = refl
queue-kept w n (x ∷ qs) (suc q) = queue-kept w n qs q

pub length-kept : (w : ℕ → ℕ) (n : Mode) (qs : List (List ℕ)) → length (kept_all w n qs) ≡ length qs
length-kept w n [] = refl
length-kept w n (q ∷ qs) = ap suc (length-kept w n qs)

-- a queue that receives is among those that do
odd_part : (P : ℕ → Type 0) (c : ℕ) (qs : List (List ℕ)) → All P (receiving qs) → All P (queue_at qs (2 * c + 1))
odd_part P zero [] a = tt
odd_part P zero (t ∷ []) a = tt
odd_part P zero (t ∷ r ∷ qs) a = all_left P r (receiving qs) a
odd_part P (suc c) [] a = tt
odd_part P (suc c) (t ∷ []) a = let e : 2 * suc c + 1 ≡ suc (suc (2 * c + 1)) = omega arith in rw e tt
odd_part P (suc c) (t ∷ r ∷ qs) a =
    let e : 2 * suc c + 1 ≡ suc (suc (2 * c + 1)) = omega arith in
    rw e (odd_part P c qs (all_right P r (receiving qs) a))

pub part-receiving : (P : ℕ → Type 0) (q : ℕ) (qs : List (List ℕ)) → side_of q ≡ Receive → All P (receiving qs) → All P (queue_at qs q)
part-receiving P q qs e a =
    let h : 2 * channel_of q + 1 ≡ q = ap (λ (x : Side). queue_of x (channel_of q)) (sym e) ∙ queue-of q in
    rw h at (odd_part P (channel_of q) qs a)

-- ---- heads

pub length-starts : (qs : List (List ℕ)) → length (starts qs) ≡ length qs
length-starts [] = refl
length-starts (q ∷ qs) = ap suc (length-starts qs)

pub start-number : (qs : List (List ℕ)) (q : ℕ) → get_or (starts qs) q 0 ≡ start (queue_at qs q)
start-number [] q = refl
start-number (x ∷ qs) zero = refl
start-number (x ∷ qs) (suc q) = start-number qs q

pub heads-starts : (hs : List ℕ) (qs : List (List ℕ)) → length hs ≡ length qs
    → ((q : ℕ) → q < length qs → get_or hs q 0 ≡ start (queue_at qs q))
    → hs ≡ starts qs
heads-starts hs qs l f =
    ext_get_or 0 hs (starts qs) (l ∙ sym (length-starts qs)) (λ q h. f q (omega arith) ∙ sym (start-number qs q))

-- ---- descriptors behind the queue of a number

module _ (qs : List (List ℕ)) (q : ℕ) (es : List ℕ) (there : q < length qs) where
  -- the queues before it, it, and those behind it
  parts : qs ≡ take q qs ++ queue_at qs q ∷ drop (suc q) qs
  parts = split_at qs q [] there

  longer : set qs q (queue_at qs q ++ es) ≡ take q qs ++ (queue_at qs q ++ es) ∷ drop (suc q) qs
  longer = set_split qs q (queue_at qs q ++ es) there

  before : length (take q qs) ≡ q
  before = length-take-le q qs (omega arith)

  pub sole-set : {u : List ℕ} → Sole u (es ++ flat qs) → Sole u (flat (set qs q (queue_at qs q ++ es)))
  sole-set {u} s =
      rw longer (sole-grow (take q qs) (queue_at qs q) es (drop (suc q) qs) (subst (λ (l : List (List ℕ)). Sole u (es ++ flat l)) parts s))

  pub recorded-set : {l : List ℕ} → Recorded l (gain (side_of q) es (receiving qs))
      → Recorded l (receiving (set qs q (queue_at qs q ++ es)))
  recorded-set {l} r =
      let b : Recorded l (gain (side_of (length (take q qs))) es (receiving qs)) = rw before r in
      rw longer
      (recorded-grow (take q qs) (queue_at qs q) es (drop (suc q) qs)
      (subst (λ (x : List (List ℕ)). Recorded l (gain (side_of (length (take q qs))) es (receiving x))) parts b))
