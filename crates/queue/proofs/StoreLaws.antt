-- A word of descriptor memory is changed: which descriptors keep their words. Assumes nothing.
--     Same, Same3              the four words of a descriptor agree; words 1 to 3 agree
--     Only d w v               w and v agree but for words 2 and 3 of d
--     store-outside, stores-outside   a store outside a descriptor leaves its words
--     frame                    a store in a descriptor leaves the words of all others
--     put-only3                a store to word 3
--     marked-only, last-marked-only   the controller's marks are such stores
--     Change, change           words 2 and 3 of one descriptor change: what stays, once for every queue
use Prim.Native.Nat.{ℕ, ◌+◌, ◌≤◌, ◌<◌}
use mathlib.Core.Path.{◌≡◌, ap, ◌∙◌}
use mathlib.Core.List.{List, [], ◌∷◌, ◌++◌, append_assoc}
use mathlib.Core.Logic.{inl, inr, ◌≢◌}
use native.Mathlib.Omega.{arith}
use Rattle.words.specs.Word.{word, put}
use Rattle.words.proofs.WordLaws.{word-put-other}
use Rattle.marks.specs.Marks.{marked, last_marked}
use Rattle.book.specs.declared.Mode.{Mode}
use Rattle.book.specs.declared.Mode.TheVariants.{Head}
use Rattle.queue.proofs.Queue.{All, Linked, LinkedAll, Off, Apart, Outside, kept, gone, flat}
use Rattle.queue.proofs.LinkLaws.{all_left, all_right, all_join, all_map, linked-same}
use Rattle.queue.proofs.SoleLaws.{off-outside, apart-shift}
use Rattle.queue.proofs.KeptLaws.{Flags, gone-kept, kept-kept}

abbrev pub Same : (ℕ → ℕ) → (ℕ → ℕ) → ℕ → Type 0
Same w v d = (v d ≡ w d) × (v (d + 1) ≡ w (d + 1)) × (v (d + 2) ≡ w (d + 2)) × (v (d + 3) ≡ w (d + 3))

-- all that freshness and the release look at
abbrev pub Same3 : (ℕ → ℕ) → (ℕ → ℕ) → ℕ → Type 0
Same3 w v d = (v (d + 1) ≡ w (d + 1)) × (v (d + 2) ≡ w (d + 2)) × (v (d + 3) ≡ w (d + 3))

pub same-same3 : (w v : ℕ → ℕ) (d : ℕ) → Same w v d → Same3 w v d
same-same3 w v d s = (s.1, s.2, s.3)

pub sames-three : (w v : ℕ → ℕ) (ds : List ℕ) → All (Same w v) ds → All (Same3 w v) ds
sames-three w v ds a = all_map (Same w v) (Same3 w v) (same-same3 w v) ds a

pub same-nexts : (w v : ℕ → ℕ) (ds : List ℕ) → All (Same w v) ds → All (λ y. v y ≡ w y) ds
same-nexts w v ds a = all_map (Same w v) (λ y. v y ≡ w y) (λ x s. s.0) ds a

pub same_flags : (w v : ℕ → ℕ) (ds : List ℕ) → All (Same w v) ds → All (Flags w v) ds
same_flags w v ds a = all_map (Same w v) (Flags w v) (λ x s. s.3) ds a

pub linked-all-same : (w v : ℕ → ℕ) (qs : List (List ℕ)) → All (Same w v) (flat qs) → LinkedAll w qs → LinkedAll v qs
linked-all-same w v [] a l = tt
linked-all-same w v (q ∷ qs) a l = (
  linked-same w v q (same-nexts w v q (all_left (Same w v) q (flat qs) a)) l.0,
  linked-all-same w v qs (all_right (Same w v) q (flat qs) a) l.1,
)

-- ---- a store of any word

pub store-outside : (m : List ℕ) (k x d : ℕ) → Outside k d → Same (word m) (word (put m k x)) d
store-outside m k x d (inl h) = (
  word-put-other m k x d (omega arith),
  word-put-other m k x (d + 1) (omega arith),
  word-put-other m k x (d + 2) (omega arith),
  word-put-other m k x (d + 3) (omega arith),
)
store-outside m k x d (inr h) = (
  word-put-other m k x d (omega arith),
  word-put-other m k x (d + 1) (omega arith),
  word-put-other m k x (d + 2) (omega arith),
  word-put-other m k x (d + 3) (omega arith),
)

pub stores-outside : (m : List ℕ) (k x : ℕ) (ds : List ℕ) → All (Outside k) ds → All (Same (word m) (word (put m k x))) ds
stores-outside m k x ds a = all_map (Outside k) (Same (word m) (word (put m k x))) (store-outside m k x) ds a

pub frame : (m : List ℕ) (xs : List ℕ) (d : ℕ) (ys : List ℕ) (k x : ℕ) → Apart (xs ++ d ∷ ys) → d ≤ k → k < d + 4
    → All (Same (word m) (word (put m k x))) (xs ++ ys)
frame m xs d ys k x a h g =
    stores-outside m k x (xs ++ ys) (all_map (Off d) (Outside k) (off-outside d k h g) (xs ++ ys) (apart-shift d xs ys a).0)

-- ---- words 2 and 3 of one descriptor

abbrev pub Only : ℕ → (ℕ → ℕ) → (ℕ → ℕ) → Type 0
Only d w v = (k : ℕ) → k ≢ d + 2 → k ≢ d + 3 → v k ≡ w k

pub put-only3 : (m : List ℕ) (d x : ℕ) → Only d (word m) (word (put m (d + 3) x))
put-only3 m d x k a b = word-put-other m (d + 3) x k b

pub marked-only : (f : ℕ → ℕ) (d : ℕ) (m : List ℕ) → Only d (word m) (word (marked f d m))
unfolding marked
marked-only f d m = put-only3 m d (f (word m (d + 3)))

pub last-marked-only : (here latched d : ℕ) (m : List ℕ) → Only d (word m) (word (last_marked here latched d m))
unfolding last_marked marked
last-marked-only here latched d m k a b =
    word-put-other (put m (d + 2) _) (d + 3) _ k b ∙ word-put-other m (d + 2) _ k a

pub only-off : (d : ℕ) (w v : ℕ → ℕ) → Only d w v → (e : ℕ) → Off d e → Same w v e
only-off d w v o e (inl h) = (
  o e (omega arith) (omega arith),
  o (e + 1) (omega arith) (omega arith),
  o (e + 2) (omega arith) (omega arith),
  o (e + 3) (omega arith) (omega arith),
)
only-off d w v o e (inr h) = (
  o e (omega arith) (omega arith),
  o (e + 1) (omega arith) (omega arith),
  o (e + 2) (omega arith) (omega arith),
  o (e + 3) (omega arith) (omega arith),
)

-- q is the queue, cs, d and rs what the release leaves of it, os the descriptors of all other queues
pub record Change (w v : ℕ → ℕ) (n : Mode) (q cs : List ℕ) (d : ℕ) (rs os : List ℕ) : Type 0 where
  pub before : All (Same w v) cs
  pub behind : All (Same w v) rs
  pub others : All (Same w v) os
  pub same1 : v (d + 1) ≡ w (d + 1)
  pub linked : Linked w q → Linked v q
  pub left : kept v n q ≡ kept v Head (cs ++ d ∷ rs)

pub change : (w v : ℕ → ℕ) (n : Mode) (q cs : List ℕ) (d : ℕ) (rs os : List ℕ) → Only d w v → kept w n q ≡ cs ++ d ∷ rs → Apart (q ++ os)
    → Change w v n q cs d rs os
change w v n q cs d rs os o e a =
    let g = gone w n q in
    let whole : g ++ (cs ++ d ∷ rs) ≡ q = rw (← e) (gone-kept w n q) in
    let a0 : Apart ((g ++ (cs ++ d ∷ rs)) ++ os) = rw whole a in
    let a1 : Apart ((g ++ cs) ++ d ∷ (rs ++ os)) = rw (regroup g cs (d ∷ rs) os) at a0 in
    let fr : All (Same w v) ((g ++ cs) ++ (rs ++ os)) =
    all_map (Off d) (Same w v) (only-off d w v o) ((g ++ cs) ++ (rs ++ os)) (apart-shift d (g ++ cs) (rs ++ os) a1).0 in
    let front = all_left (Same w v) (g ++ cs) (rs ++ os) fr in
    let back = all_right (Same w v) (g ++ cs) (rs ++ os) fr in
    let sg = all_left (Same w v) g cs front in
    let sc = all_right (Same w v) g cs front in
    let sr = all_left (Same w v) rs os back in
    let dn : v d ≡ w d = o d (omega arith) (omega arith) in
    let nt : All (λ y. v y ≡ w y) (g ++ (cs ++ d ∷ rs)) =
    all_join _ g (cs ++ d ∷ rs) (same-nexts w v g sg) (all_join _ cs (d ∷ rs) (same-nexts w v cs sc) (dn, same-nexts w v rs sr)) in
    record {
      before = sc;
      behind = sr;
      others = all_right (Same w v) rs os back;
      same1 = o (d + 1) (omega arith) (omega arith);
      linked = λ l. linked-same w v q (rw whole at nt) l;
      left = kept-kept w v n q (same_flags w v g sg) ∙ ap (λ (y : List ℕ). kept v Head y) e;
    }
  where
    regroup : (g cs r q : List ℕ) → (g ++ (cs ++ r)) ++ q ≡ (g ++ cs) ++ (r ++ q)
    regroup g cs r q = simp append_assoc
