-- Counting: what as many entries in use tell of two lists, and so of the words in use and the recorded lengths. Assumes nothing.
--     no_more, as_many      what one list has in use the other has too: then no more; and where it is as many, conversely
--     in-use-ones, in-use-all   each entry marked is one more in use; each descriptor over free words is four
--     ones_small, small-ones    no entry is over 1
--     counted-sole          descriptors over words in use, of which there are four for each: the words in use are exactly theirs
--     sole-met, sole-many, sole-used, sole-ones   and conversely
--     counted-recorded, recorded-many   recorded lengths likewise, one for each descriptor
use Prim.Native.Nat.{ℕ, zero, suc, ◌+◌, ◌*◌, ◌≤◌, ◌<◌}
use mathlib.Core.Path.{◌≡◌, refl, ap, ◌∙◌, sym}
use mathlib.Core.Bool.{Bool, true, false}
use mathlib.Core.List.{List, [], ◌∷◌, append-nil}
use mathlib.Core.Logic.{◌⊎◌, inl, inr}
use native.Mathlib.Omega.{arith}
use lib.ListN.{length, get_or, set, replicate}
use lib.Seq.{get_or-set_other}
use lib.Dec.{eqb, leb}
use borrow.Author.Tests.{eqb-true, le-leb, leb-true}
use Rattle.layout.specs.Choice.{both}
use Rattle.layout.specs.Layout.{desc_words}
use Rattle.layout.proofs.ChoiceLaws.{both_left, both_right}
use Rattle.words.specs.WordSet.{empty_set, free_at, used_at, add_four, words_in_use}
use Rattle.words.proofs.SetLaws.{four, length-empty_set, get_or-empty_set}
use Rattle.soundness.specs.Spent.{all_ones}
use Rattle.queue.proofs.Queue.{All, Apart, Outside, within, count, Sole, Recorded, Unmet, add_all}
use Rattle.queue.proofs.LinkLaws.{all_map, all-every}
use Rattle.queue.proofs.SoleLaws.{within-true, within-false, count-in, outside-count, sole-empty, sole-unique}
use Rattle.queue.proofs.RecordLaws.{Fits, sole-add-all}
use Rattle.queue.proofs.SoundLaws.{ones, Free1, ones-size, ones-other, ones_in, free-ones, member-case, sole-unmet}

-- ---- two lists

pub no_more : (s t : List ℕ) → length s ≡ length t → ((k : ℕ) → get_or t k 0 ≡ 0 → get_or s k 0 ≡ 0) → words_in_use s ≤ words_in_use t
unfolding words_in_use
no_more [] [] l h = omega arith
no_more [] (y ∷ t) l h = absurd (omega arith)
no_more (x ∷ s) [] l h = absurd (omega arith)
no_more (zero ∷ s) (zero ∷ t) l h = no_more s t (omega arith) (λ k. h (suc k))
no_more (zero ∷ s) (suc y ∷ t) l h = omega (arith, no_more s t (omega arith) (λ k. h (suc k)))
no_more (suc x ∷ s) (zero ∷ t) l h = absurd (omega (arith, h 0 refl))
no_more (suc x ∷ s) (suc y ∷ t) l h = omega (arith, no_more s t (omega arith) (λ k. h (suc k)))

pub as_many : (s t : List ℕ) → length s ≡ length t → ((k : ℕ) → get_or t k 0 ≡ 0 → get_or s k 0 ≡ 0) → words_in_use s ≡ words_in_use t
    → (k : ℕ) → get_or s k 0 ≡ 0 → get_or t k 0 ≡ 0
unfolding words_in_use
as_many [] [] l h e k z = z
as_many [] (y ∷ t) l h e k z = absurd (omega arith)
as_many (x ∷ s) [] l h e k z = absurd (omega arith)
as_many (zero ∷ s) (zero ∷ t) l h e zero z = refl
as_many (zero ∷ s) (zero ∷ t) l h e (suc k) z = as_many s t (omega arith) (λ j. h (suc j)) e k z
as_many (zero ∷ s) (suc y ∷ t) l h e k z = absurd (omega (arith, no_more s t (omega arith) (λ j. h (suc j))))
as_many (suc x ∷ s) (zero ∷ t) l h e k z = absurd (omega (arith, h 0 refl))
as_many (suc x ∷ s) (suc y ∷ t) l h e zero z = absurd (omega arith)
as_many (suc x ∷ s) (suc y ∷ t) l h e (suc k) z = as_many s t (omega arith) (λ j. h (suc j)) (omega arith) k z

-- ---- entries marked

use-one : (l : List ℕ) (k : ℕ) → get_or l k 1 ≡ 0 → words_in_use (set l k 1) ≡ suc (words_in_use l)
unfolding words_in_use
use-one [] k e = absurd (omega arith)
use-one (zero ∷ l) zero e = refl
use-one (suc x ∷ l) zero e = absurd (omega arith)
use-one (zero ∷ l) (suc k) e = use-one l k e
use-one (suc x ∷ l) (suc k) e = ap suc (use-one l k e)

pub in-use-ones : (f ds : List ℕ) → Free1 f ds → words_in_use (ones f ds) ≡ length ds + words_in_use f
in-use-ones f [] z = omega arith
in-use-ones f (d ∷ ds) z = in-use-ones (set f d 1) ds z.1 ∙ omega (arith, use-one f d z.0)

use-four : (s : List ℕ) (d : ℕ) → free_at s d ≡ true → words_in_use (add_four s d) ≡ 4 + words_in_use s
unfolding free_at add_four
use-four s d e =
    let b = both_right (eqb (get_or s d 1) 0) _ e in
    let c = both_right (eqb (get_or s (d + 1) 1) 0) _ b in
    let z0 = eqb-true (get_or s d 1) 0 (both_left _ _ e) in
    let z1 = eqb-true (get_or s (d + 1) 1) 0 (both_left _ _ b) in
    let z2 = eqb-true (get_or s (d + 2) 1) 0 (both_left _ _ c) in
    let z3 = eqb-true (get_or s (d + 3) 1) 0 (both_right (eqb (get_or s (d + 2) 1) 0) _ c) in
    let y1 = past s d (d + 1) (omega arith) z1 in
    let y2 = past (set s d 1) (d + 1) (d + 2) (omega arith) (past s d (d + 2) (omega arith) z2) in
    let y3 =
    past (set (set s d 1) (d + 1) 1) (d + 2) (d + 3) (omega arith)
    (past (set s d 1) (d + 1) (d + 3) (omega arith) (past s d (d + 3) (omega arith) z3)) in
    in-use-ones s (d ∷ (d + 1) ∷ (d + 2) ∷ (d + 3) ∷ []) (z0, (y1, (y2, (y3, tt))))
  where
    past : (l : List ℕ) (i j : ℕ) → i < j → get_or l j 1 ≡ 0 → get_or (set l i 1) j 1 ≡ 0
    past l i j h z = get_or-set_other l i j 1 1 (omega arith) ∙ z

pub in-use-all : (s ds : List ℕ) → Unmet s ds → words_in_use (add_all s ds) ≡ 4 * length ds + words_in_use s
in-use-all s [] f = omega arith
in-use-all s (d ∷ ds) f = in-use-all (add_four s d) ds f.1 ∙ omega (arith, use-four s d f.0)

use-none : (n : ℕ) → words_in_use (replicate n 0) ≡ 0
unfolding words_in_use
use-none zero = refl
use-none (suc n) = use-none n

in-use-empty : words_in_use empty_set ≡ 0
unfolding empty_set
in-use-empty = use-none 2048

-- ---- entries that are at most 1

pub ones_small : (u : List ℕ) → all_ones u ≡ true → (k : ℕ) → get_or u k 0 ≤ 1
ones_small [] e k = omega arith
ones_small (x ∷ u) e zero = leb-true x 1 (both_left _ _ e)
ones_small (x ∷ u) e (suc k) = ones_small u (both_right (leb x 1) _ e) k

pub small-ones : (u : List ℕ) → ((k : ℕ) → get_or u k 0 ≤ 1) → all_ones u ≡ true
small-ones [] h = refl
small-ones (x ∷ u) h = rw (le-leb x 1 (h 0)) (small-ones u (λ k. h (suc k)))

one-or-none : (a b : ℕ) → a ≤ 1 → b ≤ 1 → (a ≡ 0 → b ≡ 0) → (b ≡ 0 → a ≡ 0) → a ≡ b
one-or-none zero b p q f g = sym (f refl)
one-or-none (suc a) zero p q f g = g refl
one-or-none (suc a) (suc b) p q f g = omega arith

-- ---- words in use

used-in : (u : List ℕ) (d k : ℕ) → used_at u d ≡ true → d ≤ k → k < d + 4 → get_or u k 0 ≡ 1
unfolding used_at
used-in u d k e h g = at (four d k h g)
  where
    b : both (eqb (get_or u (d + 1) 0) 1) (both (eqb (get_or u (d + 2) 0) 1) (eqb (get_or u (d + 3) 0) 1)) ≡ true
    b = both_right (eqb (get_or u d 0) 1) _ e

    c : both (eqb (get_or u (d + 2) 0) 1) (eqb (get_or u (d + 3) 0) 1) ≡ true
    c = both_right (eqb (get_or u (d + 1) 0) 1) _ b

    at : (k ≡ d) ⊎ ((k ≡ d + 1) ⊎ ((k ≡ d + 2) ⊎ (k ≡ d + 3))) → get_or u k 0 ≡ 1
    at (inl q) = rw q (eqb-true _ 1 (both_left _ _ e))
    at (inr (inl q)) = rw q (eqb-true _ 1 (both_left _ _ b))
    at (inr (inr (inl q))) = rw q (eqb-true _ 1 (both_left _ _ c))
    at (inr (inr (inr q))) = rw q (eqb-true _ 1 (both_right (eqb (get_or u (d + 2) 0) 1) _ c))

used-yes : (u : List ℕ) (d : ℕ) → ((k : ℕ) → d ≤ k → k < d + 4 → get_or u k 0 ≡ 1) → used_at u d ≡ true
unfolding used_at
used-yes u d h = simp (
  h d (omega arith) (omega arith),
  h (d + 1) (omega arith) (omega arith),
  h (d + 2) (omega arith) (omega arith),
  h (d + 3) (omega arith) (omega arith),
)

used-outside : (u : List ℕ) (d k : ℕ) → used_at u d ≡ true → get_or u k 0 ≡ 0 → Outside k d
used-outside u d k e z = at (within d k) refl
  where
    at : (b : Bool) → within d k ≡ b → Outside k d
    at true q = let i = within-true d k q in absurd (omega (arith, z, used-in u d k e i.0 i.1))
    at false q = within-false d k q

sole-all : (ds : List ℕ) → Unmet empty_set ds → Sole (add_all empty_set ds) ds
sole-all ds f = rw (append-nil ds) at (sole-add-all empty_set ds [] f sole-empty)

pub counted-sole : (used ds : List ℕ) → length used ≡ desc_words → all_ones used ≡ true → Unmet empty_set ds
    → All (λ d. used_at used d ≡ true) ds → words_in_use used ≡ 4 * length ds → Sole used ds
counted-sole used ds l o f a e = record {
  size = l;
  used = λ k. one-or-none (get_or used k 0) (count ds k) (ones_small used o k) (s.once k) (clear k) (λ z.
      as_many (add_all empty_set ds) used (s.size ∙ sym l) (λ j y. s.used j ∙ clear j y)
      (omega (arith, e, in-use-all empty_set ds f, in-use-empty)) k (s.used k ∙ z));
  once = s.once;
}
  where
    s : Sole (add_all empty_set ds) ds
    s = sole-all ds f

    clear : (k : ℕ) → get_or used k 0 ≡ 0 → count ds k ≡ 0
    clear k z = outside-count k ds (all_map (λ d. used_at used d ≡ true) (Outside k) (λ d y. used-outside used d k y z) ds a)

pub sole-met : (used ds : List ℕ) → All (λ d. d ≤ 2044) ds → Sole used ds → Unmet empty_set ds
sole-met used ds b s = sole-unmet empty_set ds [] b (λ k. rw (append-nil ds) (s.once k)) sole-empty

pub sole-many : (used ds : List ℕ) → All (λ d. d ≤ 2044) ds → Sole used ds → words_in_use used ≡ 4 * length ds
sole-many used ds b s =
    let f = sole-met used ds b s in
    ap words_in_use (sole-unique s (sole-all ds f)) ∙ omega (arith, in-use-all empty_set ds f, in-use-empty)

pub sole-used : (used ds : List ℕ) → Sole used ds → All (λ d. used_at used d ≡ true) ds
sole-used used ds s =
    all_map (λ d. (k : ℕ) → d ≤ k → k < d + 4 → 1 ≤ count ds k) (λ d. used_at used d ≡ true)
    (λ d h. used-yes used d (λ k p q. omega (arith, s.used k, s.once k, h k p q))) ds (met ds)
  where
    met : (es : List ℕ) → All (λ d. (k : ℕ) → d ≤ k → k < d + 4 → 1 ≤ count es k) es
    met [] = tt
    met (e ∷ es) = (
      λ k h g. omega (arith, count-in e k es h g),
      all_map (λ d. (k : ℕ) → d ≤ k → k < d + 4 → 1 ≤ count es k) (λ d. (k : ℕ) → d ≤ k → k < d + 4 → 1 ≤ count (e ∷ es) k)
          (λ d f k h g. omega (arith, f k h g)) es (met es),
    )

pub sole-ones : (used ds : List ℕ) → Sole used ds → all_ones used ≡ true
sole-ones used ds s = small-ones used (λ k. omega (arith, s.used k, s.once k))

-- ---- recorded lengths

module _ (rx lens : List ℕ) (b : All (λ d. d ≤ 2044) rx) (a : Apart rx) where
  firsts-many : words_in_use (ones empty_set rx) ≡ length rx
  firsts-many =
      in-use-ones empty_set rx (free-ones empty_set rx length-empty_set b a (all-every (λ d. get_or empty_set d 0 ≡ 0) get_or-empty_set rx))
      ∙ omega (arith, in-use-empty)

  firsts-none : All (λ d. Fits (get_or lens d 0)) rx → (k : ℕ) → get_or lens k 0 ≡ 0 → get_or (ones empty_set rx) k 0 ≡ 0
  firsts-none t k z =
      member-case (λ d. Fits (get_or lens d 0)) (get_or (ones empty_set rx) k 0 ≡ 0) k rx t
      (λ n. ones-other empty_set rx k n ∙ get_or-empty_set k) (λ f. absurd (omega (arith, z, f.0)))

  pub counted-recorded : length lens ≡ desc_words → All (λ d. Fits (get_or lens d 0)) rx → words_in_use lens ≡ length rx → Recorded lens rx
  counted-recorded l t e = record {
    size = l;
    there = t;
    elsewhere = λ k n.
        as_many (ones empty_set rx) lens (ones-size empty_set rx ∙ length-empty_set ∙ sym l) (firsts-none t) (firsts-many ∙ sym e) k
        (ones-other empty_set rx k n ∙ get_or-empty_set k);
  }

  pub recorded-many : Recorded lens rx → words_in_use lens ≡ length rx
  recorded-many r =
      let l : length (ones empty_set rx) ≡ length lens = ones-size empty_set rx ∙ length-empty_set ∙ sym r.size in
      let x = no_more (ones empty_set rx) lens l (firsts-none r.there) in
      let y = no_more lens (ones empty_set rx) (sym l)
      (λ k z. member-case (λ d. get_or (ones empty_set rx) d 0 ≡ 1) (get_or lens k 0 ≡ 0) k rx
      (ones_in empty_set rx length-empty_set b a) (r.elsewhere k) (λ o. absurd (omega (arith, z, o)))) in
      omega (arith, x, y, firsts-many)
