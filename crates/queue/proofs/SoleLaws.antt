-- Whose words are whose: by counting, and by pairs. Assumes nothing.
--     within_in, within-out, within-true, within-false   word k is one of the four of d
--     count-append              how many have word k, in parts
--     once-apart, apart-once    none twice is: each pair apart
--     apart-perm                so the order does not matter
--     sole-apart, sole-perm, sole-unique   so for the words in use; the order does not matter; they are determined
--     count-outside, sole-outside   a word that is not in use is outside every descriptor
--     sole-has, sole-small      a descriptor's words are in use
--     sole-add, sole-drop, sole-free   one more descriptor over free words; one less; and what is free
--     sole-empty                the empty set is that of no descriptor
--     flat_append, sole-pull   one queue among several, to the front
--     apart-shift, apart-back, apart-left, apart-right  apart, in parts
use Prim.Native.Nat.{ℕ, zero, suc, ◌+◌, ◌≤◌, ◌<◌}
use mathlib.Core.Path.{◌≡◌, refl, ap, ◌∙◌, sym}
use mathlib.Core.Bool.{Bool, true, false}
use mathlib.Core.List.{List, [], ◌∷◌, ◌++◌, append_assoc}
use mathlib.Core.Logic.{inl, inr, ◌≢◌}
use native.Mathlib.Omega.{arith}
use lib.ListN.{length, get_or}
use lib.Seq.{ext_get_or}
use lib.Dec.{leb, ltb}
use borrow.Author.Tests.{le-leb, lt-ltb, leb-true, leb-false, ltb-true, ltb-false}
use Rattle.layout.specs.Choice.{pick}
use Rattle.layout.proofs.ChoiceLaws.{clash, both_left, both_right}
use Rattle.words.specs.WordSet.{empty_set, has, free_at, add_four, drop_four}
use Rattle.words.proofs.SetLaws.{length-add_four, length-drop_four, length-empty_set, get_or-empty_set, get_or-add_four-in}
use Rattle.words.proofs.SetLaws.{get_or-add_four-out}
use Rattle.words.proofs.SetLaws.{get_or-drop_four-in, get_or-drop_four-out, has-false, has-yes, free_at-is, free_at-none, free_at-yes}
use Rattle.queue.proofs.Queue.{All, Off, Apart, Outside, within, count, Sole, flat}
use Rattle.queue.proofs.LinkLaws.{all_left, all_right, all_join, all-mid}

-- ---- the four words of a descriptor

pub within_in : (d k : ℕ) → d ≤ k → k < d + 4 → within d k ≡ true
unfolding within
within_in d k h g = simp (le-leb d k h, lt-ltb k (d + 4) g)

pub within-true : (d k : ℕ) → within d k ≡ true → (d ≤ k) × (k < d + 4)
unfolding within
within-true d k e = (leb-true d k (both_left (leb d k) _ e), ltb-true k (d + 4) (both_right (leb d k) _ e))

pub within-out : (d k : ℕ) → Outside k d → within d k ≡ false
within-out d k o = at (within d k) refl o
  where
    at : (b : Bool) → within d k ≡ b → Outside k d → b ≡ false
    at true e (inl h) = let i = within-true d k e in absurd (omega arith)
    at true e (inr h) = let i = within-true d k e in absurd (omega arith)
    at false e o = refl

pub within-false : (d k : ℕ) → within d k ≡ false → Outside k d
within-false d k e = at (leb d k) (ltb k (d + 4)) refl refl
  where
    at : (a b : Bool) → leb d k ≡ a → ltb k (d + 4) ≡ b → Outside k d
    at true true p q = clash (within_in d k (leb-true d k p) (ltb-true k (d + 4) q)) e
    at true false p q = inr (ltb-false k (d + 4) q)
    at false b p q = inl (leb-false d k p)

-- ---- counting

pub count-append : (xs ys : List ℕ) (k : ℕ) → count (xs ++ ys) k ≡ count xs k + count ys k
count-append [] ys k = omega arith
count-append (x ∷ xs) ys k = rw (count-append xs ys k) (omega arith)

pub count-in : (d k : ℕ) (ds : List ℕ) → d ≤ k → k < d + 4 → count (d ∷ ds) k ≡ 1 + count ds k
count-in d k ds h g = rw (within_in d k h g) refl

pub count-out : (d k : ℕ) (ds : List ℕ) → Outside k d → count (d ∷ ds) k ≡ count ds k
count-out d k ds o = rw (within-out d k o) (omega arith)

pub count-outside : (k : ℕ) (ds : List ℕ) → count ds k ≡ 0 → All (Outside k) ds
count-outside k [] e = tt
count-outside k (d ∷ ds) e = at (within d k) refl e (count-outside k ds)
  where
    at : (b : Bool) → within d k ≡ b → pick b 1 0 + count ds k ≡ 0 → (count ds k ≡ 0 → All (Outside k) ds)
        → Outside k d × All (Outside k) ds
    at true q z ih = absurd (omega arith)
    at false q z ih = (within-false d k q, ih (omega arith))

pub outside-count : (k : ℕ) (ds : List ℕ) → All (Outside k) ds → count ds k ≡ 0
outside-count k [] a = refl
outside-count k (d ∷ ds) a = count-out d k ds a.0 ∙ outside-count k ds a.1

-- ---- pairs

pub off-sym : (d e : ℕ) → Off d e → Off e d
off-sym d e (inl h) = inr h
off-sym d e (inr h) = inl h

pub off-outside : (d k : ℕ) → d ≤ k → k < d + 4 → (e : ℕ) → Off d e → Outside k e
off-outside d k h g e (inl f) = inl (omega arith)
off-outside d k h g e (inr f) = inr (omega arith)

pub off-ne : (d e : ℕ) → Off d e → e ≢ d
off-ne d e (inl h) z = omega arith
off-ne d e (inr h) z = omega arith

pub apart-left : (cs es : List ℕ) → Apart (cs ++ es) → Apart cs
apart-left [] es a = tt
apart-left (c ∷ cs) es a = (all_left _ cs es a.0, apart-left cs es a.1)

pub apart-right : (cs es : List ℕ) → Apart (cs ++ es) → Apart es
apart-right [] es a = a
apart-right (c ∷ cs) es a = apart-right cs es a.1

pub apart-shift : (d : ℕ) (ds cs : List ℕ) → Apart (ds ++ d ∷ cs) → Apart (d ∷ ds ++ cs)
apart-shift d [] cs a = a
apart-shift d (e ∷ ds) cs a =
    let r = apart-shift d ds cs a.1 in
    let q = all-mid (Off e) d ds cs a.0 in
    ((off-sym e d q.0, r.0), (q.1, r.1))

pub apart-back : (d : ℕ) (ds cs : List ℕ) → Apart (d ∷ ds ++ cs) → Apart (ds ++ d ∷ cs)
apart-back d [] cs a = a
apart-back d (e ∷ ds) cs a = (
  all_join (Off e) ds (d ∷ cs) (all_left (Off e) ds cs a.1.0) (off-sym d e a.0.0, all_right (Off e) ds cs a.1.0),
  apart-back d ds cs (a.0.1, a.1.1),
)

-- what has none of d's words is off d
off_at : (d e : ℕ) → ((k : ℕ) → d ≤ k → k < d + 4 → Outside k e) → Off d e
off_at d e h = at (h d (omega arith) (omega arith)) (h (d + 3) (omega arith) (omega arith))
  where
    at : Outside d e → Outside (d + 3) e → Off d e
    at (inr p) q = inr p
    at (inl p) (inl q) = inl (omega arith)
    at (inl p) (inr q) = mid (h e)
      where
        mid : (d ≤ e → e < d + 4 → Outside e e) → Off d e
        mid f = none (f (omega arith) (omega arith))
          where
            none : Outside e e → Off d e
            none (inl x) = absurd (omega arith)
            none (inr x) = absurd (omega arith)

free_off : (d : ℕ) (ds : List ℕ) → ((k : ℕ) → d ≤ k → k < d + 4 → All (Outside k) ds) → All (Off d) ds
free_off d [] h = tt
free_off d (e ∷ ds) h = (off_at d e (λ k a b. (h k a b).0), free_off d ds (λ k a b. (h k a b).1))

pub once-apart : (ds : List ℕ) → ((k : ℕ) → count ds k ≤ 1) → Apart ds
once-apart [] c = tt
once-apart (d ∷ ds) c = (
  free_off d ds (λ k h g. count-outside k ds (let z = c k in let y = count-in d k ds h g in omega arith)),
  once-apart ds (λ k. let z : pick (within d k) 1 0 + count ds k ≤ 1 = c k in omega arith),
)

pub apart-once : (ds : List ℕ) → Apart ds → (k : ℕ) → count ds k ≤ 1
apart-once [] a k = omega arith
apart-once (d ∷ ds) a k = at (within d k) refl (apart-once ds a.1 k)
  where
    clear : within d k ≡ true → (es : List ℕ) → All (Off d) es → All (Outside k) es
    clear e [] b = tt
    clear e (x ∷ es) b = (off-outside d k (within-true d k e).0 (within-true d k e).1 x b.0, clear e es b.1)

    at : (b : Bool) → within d k ≡ b → count ds k ≤ 1 → pick b 1 0 + count ds k ≤ 1
    at true e f = let z = outside-count k ds (clear e ds a.0) in omega arith
    at false e f = omega arith

pub apart-perm : (ds es : List ℕ) → ((k : ℕ) → count ds k ≡ count es k) → Apart ds → Apart es
apart-perm ds es p a = once-apart es (λ k. rw (p k) at (apart-once ds a k))

-- ---- the words in use

pub sole-apart : {u ds : List ℕ} → Sole u ds → Apart ds
sole-apart {u} {ds} s = once-apart ds s.once

pub sole-perm : {u ds es : List ℕ} → ((k : ℕ) → count ds k ≡ count es k) → Sole u ds → Sole u es
sole-perm p s = record { size = s.size; used = λ k. s.used k ∙ p k; once = λ k. rw (p k) at (s.once k) }

pub sole-unique : {u v ds : List ℕ} → Sole u ds → Sole v ds → u ≡ v
sole-unique {u} {v} {ds} s t = ext_get_or 0 u v (s.size ∙ sym t.size) (λ k h. s.used k ∙ sym (t.used k))

pub sole-empty : Sole empty_set []
sole-empty = record { size = length-empty_set; used = get_or-empty_set; once = λ k. omega arith }

pub sole-outside : {u ds : List ℕ} (k : ℕ) → Sole u ds → has u k ≡ false → All (Outside k) ds
sole-outside {u} {ds} k s h = count-outside k ds (sym (s.used k) ∙ has-false u k h)

pub sole-has : {u : List ℕ} (d : ℕ) (ds : List ℕ) (k : ℕ) → Sole u (d ∷ ds) → d ≤ k → k < d + 4 → has u k ≡ true
sole-has {u} d ds k s h g = has-yes u k (λ z. let y = s.used k in let x = count-in d k ds h g in omega arith)

-- an entry that is not 0 lies within the list
entry-within : (u : List ℕ) (k : ℕ) → get_or u k 0 ≢ 0 → k < length u
entry-within [] k n = absurd (n refl)
entry-within (x ∷ u) zero n = omega arith
entry-within (x ∷ u) (suc k) n = omega (arith, entry-within u k n)

pub sole-small : {u : List ℕ} (d : ℕ) (ds : List ℕ) → Sole u (d ∷ ds) → d ≤ 2044
sole-small {u} d ds s =
    let y = s.used (d + 3) in
    let x = count-in d (d + 3) ds (omega arith) (omega arith) in
    let h = entry-within u (d + 3) (λ z. omega arith) in
    let l = s.size in
    omega arith

-- one descriptor out of use
pub sole-drop : {u : List ℕ} (d : ℕ) (ds : List ℕ) → Sole u (d ∷ ds) → Sole (drop_four u d) ds
sole-drop {u} d ds s = record {
  size = length-drop_four u d ∙ s.size;
  used = λ k. at k (within d k) refl;
  once = λ k. let z : pick (within d k) 1 0 + count ds k ≤ 1 = s.once k in omega arith;
}
  where
    at : (k : ℕ) (b : Bool) → within d k ≡ b → get_or (drop_four u d) k 0 ≡ count ds k
    at k true e =
        let i = within-true d k e in
        let z = s.once k in
        let y = count-in d k ds i.0 i.1 in
        get_or-drop_four-in u d k (let l = s.size in let b = sole-small d ds s in omega arith) i.0 i.1 ∙ omega arith
    at k false e =
        let o = within-false d k e in
        get_or-drop_four-out u d k o ∙ s.used k ∙ count-out d k ds o

-- one descriptor over free words, in use
pub sole-add : {u : List ℕ} (d : ℕ) (ds : List ℕ) → free_at u d ≡ true → Sole u ds → Sole (add_four u d) (d ∷ ds)
sole-add {u} d ds f s = record {
  size = length-add_four u d ∙ s.size;
  used = λ k. now k (within d k) refl;
  once = λ k. few k (within d k) refl;
}
  where
    none : (k : ℕ) → d ≤ k → k < d + 4 → count ds k ≡ 0
    none k h g = sym (s.used k) ∙ free_at-none u d k f h g

    now : (k : ℕ) (b : Bool) → within d k ≡ b → get_or (add_four u d) k 0 ≡ count (d ∷ ds) k
    now k true e =
        let i = within-true d k e in
        get_or-add_four-in u d k (free_at-is u d f).0 i.0 i.1
        ∙ sym (count-in d k ds i.0 i.1 ∙ ap (λ (n : ℕ). 1 + n) (none k i.0 i.1))
    now k false e =
        let o = within-false d k e in
        get_or-add_four-out u d k o ∙ s.used k ∙ sym (count-out d k ds o)

    few : (k : ℕ) (b : Bool) → within d k ≡ b → count (d ∷ ds) k ≤ 1
    few k true e =
        let i = within-true d k e in
        let z = none k i.0 i.1 in
        let y = count-in d k ds i.0 i.1 in
        omega arith
    few k false e = let z = s.once k in let y = count-out d k ds (within-false d k e) in omega arith

-- a descriptor beside those in use is over free words
pub sole-free : {u : List ℕ} (d : ℕ) (ds : List ℕ) → d ≤ 2044 → Sole u ds → ((k : ℕ) → count (d ∷ ds) k ≤ 1) → free_at u d ≡ true
sole-free {u} d ds b s c =
    free_at-yes u d (let l = s.size in omega arith) (λ k h g. s.used k ∙ (let z = c k in let y = count-in d k ds h g in omega arith))

-- ---- one queue among several

pub flat_append : (xs ys : List (List ℕ)) → flat (xs ++ ys) ≡ flat xs ++ flat ys
flat_append [] ys = refl
flat_append (x ∷ xs) ys = ap (λ (l : List ℕ). x ++ l) (flat_append xs ys) ∙ sym (append_assoc x (flat xs) (flat ys))

pub sole-pull : {u : List ℕ} (xs : List (List ℕ)) (q : List ℕ) (ys : List (List ℕ)) → Sole u (flat (xs ++ q ∷ ys))
    → Sole u (q ++ flat (xs ++ ys))
sole-pull xs q ys s = sole-perm (λ k. simp (flat_append, count-append) (omega arith)) s
