-- One queue of several grows: a start on an empty one, an append behind its last. Assumes nothing.
-- The queues are xs ++ q ∷ ys, so the number of the one that grows is the length of xs; es is what it grows by.
--     starts-set, starts-grow   the heads: the new queue's is set; an append leaves all
--     linked-at, linked-put    one queue's links, taken out and put back
--     sole-grow, recorded-grow words in use and recorded lengths of the queues, from those of the hand-over
--     store-free               a store to a word that is not in use leaves every queue
--     Appended, appended       the store of an append: the queue goes on, and all that is left as it was; once for every queue
use Prim.Native.Nat.{ℕ, suc, ◌+◌, ◌%◌, ◌≤◌, ◌<◌, ◌^◌}
use mathlib.Core.Path.{◌≡◌, refl, ap}
use mathlib.Core.Bool.{false}
use mathlib.Core.List.{List, [], ◌∷◌, ◌++◌}
use mathlib.Core.Logic.{◌≢◌}
use native.Mathlib.Omega.{arith}
use lib.ListN.{length, set}
use Rattle.layout.specs.declared.Side.{Side}
use Rattle.layout.specs.declared.Side.TheVariants.{Transmit, Receive}
use Rattle.words.specs.Word.{word, put}
use Rattle.words.specs.WordSet.{has}
use Rattle.words.proofs.WordLaws.{word-put-same, word-put-other}
use Rattle.layout.specs.Layout.{side_of}
use Rattle.queue.proofs.Queue.{start, All, Linked, LinkedAll, Off, Apart, Outside, Sole, Recorded, flat, starts, receiving}
use Rattle.queue.proofs.LinkLaws.{all_left, all_right, all_join, all_map, start-append, linked-right, linked-same, linked-join}
use Rattle.queue.proofs.SoleLaws.{count-append, flat_append, sole-perm, sole-outside, apart-perm, off-outside}
use Rattle.queue.proofs.StoreLaws.{Same, Same3, sames-three, same-nexts, stores-outside}
use Rattle.queue.proofs.RecordLaws.{gain, recorded-perm}

-- ---- heads

pub starts-set : (xs : List (List ℕ)) (q r : List ℕ) (ys : List (List ℕ))
    → starts (xs ++ r ∷ ys) ≡ set (starts (xs ++ q ∷ ys)) (length xs) (start r)
starts-set [] q r ys = refl
starts-set (x ∷ xs) q r ys = ap (λ (l : List ℕ). start x ∷ l) (starts-set xs q r ys)

pub starts-grow : (xs : List (List ℕ)) (q es : List ℕ) (ys : List (List ℕ)) → start q ≢ 0
    → starts (xs ++ (q ++ es) ∷ ys) ≡ starts (xs ++ q ∷ ys)
starts-grow [] q es ys n = ap (λ (p : ℕ). p ∷ starts ys) (start-append q es n)
starts-grow (x ∷ xs) q es ys n = ap (λ (l : List ℕ). start x ∷ l) (starts-grow xs q es ys n)

-- ---- links

pub linked-at : (w : ℕ → ℕ) (xs : List (List ℕ)) (q : List ℕ) (ys : List (List ℕ)) → LinkedAll w (xs ++ q ∷ ys)
    → LinkedAll w xs × Linked w q × LinkedAll w ys
linked-at w [] q ys l = (tt, l.0, l.1)
linked-at w (x ∷ xs) q ys l = let r = linked-at w xs q ys l.1 in ((l.0, r.0), r.1, r.2)

pub linked-put : (w : ℕ → ℕ) (xs : List (List ℕ)) (q : List ℕ) (ys : List (List ℕ)) → LinkedAll w xs → Linked w q → LinkedAll w ys
    → LinkedAll w (xs ++ q ∷ ys)
linked-put w [] q ys a b c = (b, c)
linked-put w (x ∷ xs) q ys a b c = (a.0, linked-put w xs q ys a.1 b c)

-- ---- words in use and recorded lengths

pub sole-grow : {u : List ℕ} (xs : List (List ℕ)) (q es : List ℕ) (ys : List (List ℕ)) → Sole u (es ++ flat (xs ++ q ∷ ys))
    → Sole u (flat (xs ++ (q ++ es) ∷ ys))
sole-grow xs q es ys s = sole-perm (λ k. simp (flat_append, count-append) (omega arith)) s

side-two : (n : ℕ) → side_of (suc (suc n)) ≡ side_of n
unfolding side_of
side-two n = let h : suc (suc n) % 2 ≡ n % 2 = omega arith in rw h refl

side-zero : side_of 0 ≡ Transmit
unfolding side_of
side-zero = refl

side-one : side_of 1 ≡ Receive
unfolding side_of
side-one = refl

-- what is received, before and after
grow-to : (P : ℕ → Type 0) (xs : List (List ℕ)) (q es : List ℕ) (ys : List (List ℕ))
    → All P (gain (side_of (length xs)) es (receiving (xs ++ q ∷ ys))) → All P (receiving (xs ++ (q ++ es) ∷ ys))
grow-to P [] q es [] a = tt
grow-to P [] q es (y ∷ ys) a = rw side-zero at a
grow-to P (x ∷ []) q es ys a =
    let b : All P (es ++ (q ++ receiving ys)) = rw side-one at a in
    let c = all_right P es (q ++ receiving ys) b in
    all_join P (q ++ es) (receiving ys) (all_join P q es (all_left P q (receiving ys) c) (all_left P es (q ++ receiving ys) b))
    (all_right P q (receiving ys) c)
grow-to P (x ∷ z ∷ xs) q es ys a = at (side_of (length xs)) (rw (side-two (length xs)) at a) (grow-to P xs q es ys)
  where
    at : (side : Side) → All P (gain side es (z ++ receiving (xs ++ q ∷ ys)))
        → (All P (gain side es (receiving (xs ++ q ∷ ys))) → All P (receiving (xs ++ (q ++ es) ∷ ys)))
        → All P (z ++ receiving (xs ++ (q ++ es) ∷ ys))
    at Transmit b f = all_join P z _ (all_left P z _ b) (f (all_right P z _ b))
    at Receive b f =
        let c = all_right P es (z ++ receiving (xs ++ q ∷ ys)) b in
        all_join P z _ (all_left P z _ c) (f (all_join P es _ (all_left P es _ b) (all_right P z _ c)))

grow-from : (P : ℕ → Type 0) (xs : List (List ℕ)) (q es : List ℕ) (ys : List (List ℕ))
    → All P (receiving (xs ++ (q ++ es) ∷ ys)) → All P (gain (side_of (length xs)) es (receiving (xs ++ q ∷ ys)))
grow-from P [] q es [] a = rw side-zero tt
grow-from P [] q es (y ∷ ys) a = rw side-zero a
grow-from P (x ∷ []) q es ys a =
    let b = all_left P (q ++ es) (receiving ys) a in
    rw side-one
    (all_join P es (q ++ receiving ys) (all_right P q es b)
    (all_join P q (receiving ys) (all_left P q es b) (all_right P (q ++ es) (receiving ys) a)))
grow-from P (x ∷ z ∷ xs) q es ys a =
    rw (side-two (length xs)) (at (side_of (length xs)) (grow-from P xs q es ys (all_right P z _ a)))
  where
    at : (side : Side) → All P (gain side es (receiving (xs ++ q ∷ ys))) → All P (gain side es (z ++ receiving (xs ++ q ∷ ys)))
    at Transmit b = all_join P z _ (all_left P z _ a) b
    at Receive b = all_join P es _ (all_left P es _ b) (all_join P z _ (all_left P z _ a) (all_right P es _ b))

pub recorded-grow : {l : List ℕ} (xs : List (List ℕ)) (q es : List ℕ) (ys : List (List ℕ))
    → Recorded l (gain (side_of (length xs)) es (receiving (xs ++ q ∷ ys))) → Recorded l (receiving (xs ++ (q ++ es) ∷ ys))
recorded-grow xs q es ys r =
    recorded-perm {xs = gain (side_of (length xs)) es (receiving (xs ++ q ∷ ys))} {ys = receiving (xs ++ (q ++ es) ∷ ys)}
    (λ P. grow-to P xs q es ys) (λ P. grow-from P xs q es ys) r

-- ---- stores

pub store-free : {u : List ℕ} (m : List ℕ) (k x : ℕ) (ds : List ℕ) → Sole u ds → has u k ≡ false → All (Same (word m) (word (put m k x))) ds
store-free m k x ds s h = stores-outside m k x ds (sole-outside k s h)

pub start-lt : (w : ℕ → ℕ) (ds : List ℕ) → Linked w ds → start ds < 2 ^ 32
start-lt w [] l = omega arith
start-lt w (d ∷ ds) l = let h = l.0 in omega arith

-- the queue ends in k, es is what it grows by, os are the descriptors of all other queues
pub record Appended (w v : ℕ → ℕ) (cs : List ℕ) (k : ℕ) (es os : List ℕ) : Type 0 where
  pub linked : Linked v (cs ++ k ∷ es)
  pub front : All (Same w v) cs
  pub last : Same3 w v k
  pub old : All (Same3 w v) (cs ++ k ∷ [])
  pub others : All (Same w v) os
  pub new : All (Same w v) es

pub appended : (m : List ℕ) (cs : List ℕ) (k : ℕ) (es os : List ℕ) → length m ≡ 8192 → Linked (word m) (cs ++ k ∷ []) → Linked (word m) es
    → Apart (es ++ ((cs ++ k ∷ []) ++ os)) → Appended (word m) (word (put m k (start es))) cs k es os
appended m cs k es os h l n a =
    let w = word m in
    let v = word (put m k (start es)) in
    let rest = es ++ (cs ++ os) in
    let p : Apart (k ∷ rest) = apart-perm (es ++ ((cs ++ k ∷ []) ++ os)) (k ∷ rest) (λ j. simp count-append (omega arith)) a in
    let fr : All (Same w v) rest =
    stores-outside m k (start es) rest (all_map (Off k) (Outside k) (off-outside k k (omega arith) (omega arith)) rest p.0) in
    let se = all_left (Same w v) es (cs ++ os) fr in
    let f1 = all_right (Same w v) es (cs ++ os) fr in
    let sc = all_left (Same w v) cs os f1 in
    let b : k ≤ 2044 = (linked-right w cs (k ∷ []) l).0 in
    let at : v k ≡ start es = word-put-same m k (start es) h (omega arith) (start-lt w es n) in
    let sk : Same3 w v k = (
      word-put-other m k (start es) (k + 1) (omega arith),
      word-put-other m k (start es) (k + 2) (omega arith),
      word-put-other m k (start es) (k + 3) (omega arith),
    ) in
    record {
      linked = linked-join w v cs k es l (same-nexts w v cs sc) at (linked-same w v es (same-nexts w v es se) n);
      front = sc;
      last = sk;
      old = all_join (Same3 w v) cs (k ∷ []) (sames-three w v cs sc) (sk, tt);
      others = all_right (Same w v) cs os f1;
      new = se;
    }
