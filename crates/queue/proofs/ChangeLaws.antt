-- What each change that a guard call makes leaves of the queues of a book, for any number of queues. Assumes nothing.
--     Booked w hs u            words w, heads hs and the uses u have queues
--     released-booked          the release leaves queues, as many as before
--     store-booked             a store to a word that is not in use leaves them
--     At, booked-at            the queue of number q, with those before it and behind it
--     start-booked             an empty queue takes a chain that was judged 0
--     append-booked            a queue takes such a chain behind its last descriptor
use Prim.Native.Nat.{ℕ, zero, suc, ◌<◌}
use mathlib.Core.Path.{◌≡◌, refl, ap, ◌∙◌, sym}
use mathlib.Core.Bool.{true, false}
use mathlib.Core.List.{List, [], ◌∷◌, ◌++◌, append-nil, append_assoc}
use mathlib.Core.Logic.{◌≢◌}
use native.Mathlib.Omega.{arith}
use lib.ListN.{length, get_or, set}
use Rattle.words.specs.Word.{word, put}
use Rattle.words.specs.WordSet.{has}
use Rattle.layout.specs.Layout.{side_of}
use Rattle.chain.specs.Chain.{place_of, chain_of}
use Rattle.book.specs.declared.Mode.{Mode}
use Rattle.book.specs.HandOver.{Uses, taken_from}
use Rattle.book.specs.Release.{released_all}
use Rattle.guard.specs.Judges.{is_last}
use Rattle.queue.proofs.Queue.{start, LinkedAll, Sole, Recorded, flat, starts, receiving, kept_all}
use Rattle.queue.proofs.LinkLaws.{all_left, all_right, start-zero}
use Rattle.queue.proofs.SoleLaws.{count-append, flat_append, sole-perm, sole-apart, sole-pull}
use Rattle.queue.proofs.KeptLaws.{kept-linked-all}
use Rattle.queue.proofs.StoreLaws.{Same, linked-all-same}
use Rattle.queue.proofs.ReleasedLaws.{released-queues, released-sole, released-recorded}
use Rattle.queue.proofs.FreshLaws.{side-place}
use Rattle.queue.proofs.JudgedLaws.{Judged, Taken, judged-list, judged-taken}
use Rattle.queue.proofs.SoundLaws.{Queues}
use Rattle.queue.proofs.LastLaws.{last-yes}
use Rattle.queue.proofs.SetLaws.{length-kept, length-starts}
use Rattle.queue.proofs.GrowLaws.{starts-set, starts-grow, linked-at, linked-put, sole-grow, recorded-grow, store-free, Appended}
use Rattle.queue.proofs.GrowLaws.{appended}

abbrev pub Booked : (ℕ → ℕ) → List ℕ → Uses → Type 0
Booked w hs u = Queues w hs u.0 u.1

-- ---- the release

pub released-booked : (w : ℕ → ℕ) (n : Mode) (hs : List ℕ) (u : Uses) → Booked w hs u
    → Booked w (released_all w n hs u).0 (released_all w n hs u).1 × (length (released_all w n hs u).0 ≡ length hs)
released-booked w n hs u b =
    let qs = b.qs in
    rw (b.heads, released-queues w n qs [] u b.linked (rw (append-nil (flat qs)) b.sole)) (
      record {
        qs = kept_all w n qs;
        heads = refl;
        linked = kept-linked-all w n qs b.linked;
        sole = released-sole w n qs u b.sole;
        recorded = released-recorded w n qs u b.sole b.recorded;
      },
      length-starts (kept_all w n qs) ∙ length-kept w n qs ∙ sym (length-starts qs),
    )

-- ---- a store

pub store-booked : (m : List ℕ) (k x : ℕ) (hs : List ℕ) (u : Uses) → has u.0 k ≡ false → Booked (word m) hs u
    → Booked (word (put m k x)) hs u
store-booked m k x hs u f b = record {
  qs = b.qs;
  heads = b.heads;
  linked = linked-all-same (word m) (word (put m k x)) b.qs (store-free m k x (flat b.qs) b.sole f) b.linked;
  sole = b.sole;
  recorded = b.recorded;
}

-- ---- the queue of a number

-- its descriptors are here; xs and ys are the queues before it and behind it
record At (w : ℕ → ℕ) (hs : List ℕ) (u : Uses) (q : ℕ) : Type 0 where
  xs : List (List ℕ)
  here : List ℕ
  ys : List (List ℕ)
  place : q ≡ length xs
  heads : hs ≡ starts (xs ++ here ∷ ys)
  linked : LinkedAll w (xs ++ here ∷ ys)
  sole : Sole u.0 (flat (xs ++ here ∷ ys))
  recorded : Recorded u.1 (receiving (xs ++ here ∷ ys))

record Split (qs : List (List ℕ)) (q : ℕ) : Type 0 where
  xs : List (List ℕ)
  here : List ℕ
  ys : List (List ℕ)
  is : qs ≡ xs ++ here ∷ ys
  place : q ≡ length xs

split_at : (qs : List (List ℕ)) (q : ℕ) → q < length (starts qs) → Split qs q
split_at [] q h = absurd (omega arith)
split_at (x ∷ qs) zero h = record { xs = []; here = x; ys = qs; is = refl; place = refl }
split_at (x ∷ qs) (suc q) h =
    let r = split_at qs q (omega arith) in
    record { xs = x ∷ r.xs; here = r.here; ys = r.ys; is = ap (λ (l : List (List ℕ)). x ∷ l) r.is; place = ap suc r.place }

booked-at : (w : ℕ → ℕ) (hs : List ℕ) (u : Uses) (q : ℕ) → q < length hs → Booked w hs u → At w hs u q
booked-at w hs u q h b =
    let a = split_at b.qs q (rw b.heads at h) in
    record {
      xs = a.xs;
      here = a.here;
      ys = a.ys;
      place = a.place;
      heads = b.heads ∙ ap starts a.is;
      linked = rw a.is at b.linked;
      sole = rw a.is at b.sole;
      recorded = rw a.is at b.recorded;
    }

starts-at : (xs : List (List ℕ)) (here : List ℕ) (ys : List (List ℕ)) → get_or (starts (xs ++ here ∷ ys)) (length xs) 0 ≡ start here
starts-at [] here ys = refl
starts-at (x ∷ xs) here ys = starts-at xs here ys

head_at : (w : ℕ → ℕ) (hs : List ℕ) (u : Uses) (q : ℕ) (a : At w hs u q) → get_or hs q 0 ≡ start a.here
head_at w hs u q a = rw (a.heads, a.place) (starts-at a.xs a.here a.ys)

-- ---- a chain that was judged 0, for the side of that queue

-- the queues are xs ++ q ∷ ys, so the number of the one that takes the chain from p is the length of xs
module _ (kinds : List ℕ) (m : List ℕ) (xs : List (List ℕ)) (u : Uses) (p : ℕ) (out : List ℕ)
    (j : Judged kinds (word m) (place_of (side_of (length xs))) u.0 p out) where
  abbrev w : ℕ → ℕ
  w = word m

  abbrev taken : Uses
  taken = taken_from w (side_of (length xs)) u p

  taken_here : (q : List ℕ) (ys : List (List ℕ)) → Sole u.0 (flat (xs ++ q ∷ ys)) → Recorded u.1 (receiving (xs ++ q ∷ ys))
      → Taken w (side_of (length xs)) u taken (xs ++ q ∷ ys) j.ds
  taken_here q ys s r =
      rw (side-place (side_of (length xs))) at (judged-taken kinds w (place_of (side_of (length xs))) u p out (xs ++ q ∷ ys) j s r)

  start-here : (ys : List (List ℕ)) → LinkedAll w (xs ++ [] ∷ ys) → Sole u.0 (flat (xs ++ [] ∷ ys))
      → Recorded u.1 (receiving (xs ++ [] ∷ ys))
      → Booked w (set (starts (xs ++ [] ∷ ys)) (length xs) p) taken
  start-here ys l s r =
      let t = taken_here [] ys s r in
      let parts = linked-at w xs [] ys l in
      record {
        qs = xs ++ j.ds ∷ ys;
        heads = ap (λ (h : ℕ). set (starts (xs ++ [] ∷ ys)) (length xs) h) j.begins ∙ sym (starts-set xs [] j.ds ys);
        linked = linked-put w xs j.ds ys parts.0 j.linked parts.2;
        sole = sole-grow xs [] j.ds ys t.sole;
        recorded = recorded-grow xs [] j.ds ys t.recorded;
      }

  append-here : (cs : List ℕ) (k : ℕ) (ys : List (List ℕ)) → length m ≡ 8192 → LinkedAll w (xs ++ (cs ++ k ∷ []) ∷ ys)
      → Sole u.0 (flat (xs ++ (cs ++ k ∷ []) ∷ ys)) → Recorded u.1 (receiving (xs ++ (cs ++ k ∷ []) ∷ ys))
      → Booked (word (put m k p)) (starts (xs ++ (cs ++ k ∷ []) ∷ ys)) taken
  append-here cs k ys size l s r =
      let q = cs ++ k ∷ [] in
      let es = j.ds in
      let os = flat xs ++ flat ys in
      let v = word (put m k p) in
      let t = taken_here q ys s r in
      let parts = linked-at w xs q ys l in
      let all : Sole taken.0 (es ++ (q ++ os)) = sole-perm (λ i. simp (flat_append, count-append) (omega arith)) t.sole in
      let a : Appended w v cs k es os = rw j.begins (appended m cs k es os size parts.1 j.linked (sole-apart all)) in
      record {
        qs = xs ++ (q ++ es) ∷ ys;
        heads = sym (starts-grow xs q es ys (start-some cs k));
        linked =
            linked-put v xs (q ++ es) ys
            (linked-all-same w v xs (all_left (Same w v) (flat xs) (flat ys) a.others) parts.0)
            (rw (append_assoc cs (k ∷ []) es) a.linked)
            (linked-all-same w v ys (all_right (Same w v) (flat xs) (flat ys) a.others) parts.2);
        sole = sole-grow xs q es ys t.sole;
        recorded = recorded-grow xs q es ys t.recorded;
      }
    where
      start-some : (cs : List ℕ) (k : ℕ) → start (cs ++ k ∷ []) ≢ 0
      start-some [] k e = omega (arith, e)
      start-some (c ∷ cs) k e = omega (arith, e)

-- q is the queue's number, p where the chain begins
module _ (kinds m hs : List ℕ) (u : Uses) (q p : ℕ) (there : q < length hs) (b : Booked (word m) hs u)
    (z : (chain_of kinds (word m) (place_of (side_of q)) u.0 p).0 ≡ 0) where
  pub start-booked : get_or hs q 0 ≡ 0 → Booked (word m) (set hs q p) (taken_from (word m) (side_of q) u p)
  start-booked e = at (booked-at (word m) hs u q there b)
    where
      at : At (word m) hs u q → Booked (word m) (set hs q p) (taken_from (word m) (side_of q) u p)
      at a =
          let none : a.here ≡ [] = start-zero a.here (sym (head_at (word m) hs u q a) ∙ e) in
          rw (a.heads, none, a.place)
          (start-here kinds m a.xs u p _ (judged-list kinds (word m) (place_of (side_of (length a.xs))) u.0 p (rw a.place at z))
          a.ys (rw none at a.linked) (rw none at a.sole) (rw none at a.recorded))

  pub append-booked : (k : ℕ) → length m ≡ 8192 → is_last (word m) (get_or hs q 0) k ≡ true
      → Booked (word (put m k p)) hs (taken_from (word m) (side_of q) u p)
  append-booked k size e = at (booked-at (word m) hs u q there b)
    where
      by : (a : At (word m) hs u q) → (cs : List ℕ) × (a.here ≡ cs ++ k ∷ [])
          → Booked (word (put m k p)) hs (taken_from (word m) (side_of q) u p)
      by a l =
          rw (a.heads, l.1, a.place)
          (append-here kinds m a.xs u p _ (judged-list kinds (word m) (place_of (side_of (length a.xs))) u.0 p (rw a.place at z))
          l.0 k a.ys size (rw l.1 at a.linked) (rw l.1 at a.sole) (rw l.1 at a.recorded))

      at : At (word m) hs u q → Booked (word (put m k p)) hs (taken_from (word m) (side_of q) u p)
      at a =
          by a
          (last-yes (word m) a.here (flat (a.xs ++ a.ys)) k (linked-at (word m) a.xs a.here a.ys a.linked).1
          (sole-pull a.xs a.here a.ys a.sole) (rw (head_at (word m) hs u q a) at e))
