-- The last descriptor of a queue, as it is computed for an append. Assumes nothing.
--     sole-length              a queue has no more descriptors than there are words in use
--     last-from                the walk along word 0 comes to the last descriptor
--     last-yes                 where word k is word 0 of the last descriptor, the queue ends in k
--     tail-yes                 the queue that is found for an append is one of those asked, and ends there
use Prim.Native.Nat.{ℕ, zero, suc, ◌+◌, ◌≤◌, ◌<◌}
use mathlib.Core.Path.{◌≡◌, refl, ap, ◌∙◌, sym, subst}
use mathlib.Core.Bool.{Bool, true, false}
use mathlib.Core.List.{List, [], ◌∷◌, ◌++◌}
use native.Mathlib.Omega.{arith}
use lib.ListN.{length, get_or, length-append}
use lib.Dec.{eqb}
use borrow.Author.Tests.{eqb-true}
use Rattle.std.specs.Prelude.{Some}
use Rattle.layout.specs.Choice.{pick}
use Rattle.layout.specs.Layout.{good_ptr, addr, desc_words}
use Rattle.layout.proofs.ChoiceLaws.{clash}
use Rattle.layout.proofs.PointerLaws.{good_ptr-addr, word_of-addr, good_ptr-zero}
use Rattle.words.specs.WordSet.{words_in_use, drop_four}
use Rattle.words.proofs.SetLaws.{words_in_use-falls, words_in_use-le, has-true}
use Rattle.guard.specs.Judges.{last_from, last_of, is_last, tail_in}
use Rattle.queue.proofs.Queue.{start, Linked, Sole}
use Rattle.queue.proofs.SoleLaws.{sole-has, sole-drop}

pub sole-length : {u : List ℕ} (ds rs : List ℕ) → Sole u (ds ++ rs) → length ds ≤ words_in_use u
sole-length [] rs s = omega arith
sole-length {u = u} (d ∷ ds) rs s =
    let h = sole-length {u = drop_four u d} ds rs (sole-drop d (ds ++ rs) s) in
    let f = words_in_use-falls u d (has-true u d (sole-has d (ds ++ rs) d s (omega arith) (omega arith))) in
    omega arith

-- where a queue that is not empty begins is good
start-good : (w : ℕ → ℕ) (xs : List ℕ) (d : ℕ) → Linked w (xs ++ d ∷ []) → good_ptr (start (xs ++ d ∷ [])) ≡ true
start-good w [] d l = good_ptr-addr d l.0
start-good w (x ∷ xs) d l = good_ptr-addr x l.0

pub last-from : (w : ℕ → ℕ) (n : ℕ) (xs : List ℕ) (d : ℕ) → Linked w (xs ++ d ∷ []) → length xs ≤ n
    → last_from w n (start (xs ++ d ∷ [])) ≡ addr d
last-from w zero [] d l h = refl
last-from w (suc n) [] d l h = rw (word_of-addr d, l.1, good_ptr-zero) refl
last-from w zero (x ∷ xs) d l h = absurd (omega arith)
last-from w (suc n) (x ∷ xs) d l h =
    rw (word_of-addr x, l.1, start-good w xs d l.2) (last-from w n xs d l.2 (omega arith))

few : {u : List ℕ} (xs : List ℕ) (d : ℕ) (rs : List ℕ) → Sole u ((xs ++ d ∷ []) ++ rs) → length xs ≤ desc_words
few {u} xs d rs s =
    let h = sole-length (xs ++ d ∷ []) rs s in
    let g = words_in_use-le u in
    let l = s.size in
    let a = length-append xs (d ∷ []) in
    omega arith

-- the test, for any number of steps that is enough
abbrev Test : (ℕ → ℕ) → ℕ → ℕ → ℕ → Type 0
Test w n p k = pick (good_ptr p) (eqb (last_from w n p) (addr k)) false ≡ true

test-yes : (w : ℕ → ℕ) (n : ℕ) (xs : List ℕ) (d k : ℕ) → Linked w (xs ++ d ∷ []) → length xs ≤ n → Test w n (start (xs ++ d ∷ [])) k → d ≡ k
test-yes w n xs d k l h e =
    let f : eqb (addr d) (addr k) ≡ true = rw (start-good w xs d l, last-from w n xs d l h) at e in
    let g = eqb-true (addr d) (addr k) f in
    omega arith

-- a list that is not empty has a last
pub record Snoc (q : List ℕ) : Type 0 where
  pub front : List ℕ
  pub last : ℕ
  pub split : q ≡ front ++ last ∷ []

pub snoc : (d : ℕ) (ds : List ℕ) → Snoc (d ∷ ds)
snoc d [] = record { front = []; last = d; split = refl }
snoc d (e ∷ ds) = let r = snoc e ds in record { front = d ∷ r.front; last = r.last; split = ap (λ (l : List ℕ). d ∷ l) r.split }

pub last-yes : {u : List ℕ} (w : ℕ → ℕ) (q rs : List ℕ) (k : ℕ) → Linked w q → Sole u (q ++ rs) → is_last w (start q) k ≡ true
    → (xs : List ℕ) × (q ≡ xs ++ k ∷ [])
unfolding is_last last_of good_ptr
last-yes w [] rs k l s e = clash e refl
last-yes {u} w (d ∷ ds) rs k l s e =
    let r = snoc d ds in
    (r.front, r.split ∙ ap (λ (y : ℕ). r.front ++ y ∷ []) (same (d ∷ ds) r.front r.last r.split l s e))
  where
    same : (q xs : List ℕ) (y : ℕ) → q ≡ xs ++ y ∷ [] → Linked w q → Sole u (q ++ rs) → Test w desc_words (start q) k → y ≡ k
    same q xs y p l s =
        subst (λ (z : List ℕ). Linked w z → Sole u (z ++ rs) → Test w desc_words (start z) k → y ≡ k) (sym p)
        (λ l1 s1 e1. test-yes w desc_words xs y k l1 (few xs y rs s1) e1) l s

-- ---- which queue it is

-- queue q ends in k, of those with the heads hs from number n on
record Found (w : ℕ → ℕ) (k n : ℕ) (hs : List ℕ) (q : ℕ) : Type 0 where
  pub past : ℕ
  pub number : q ≡ n + past
  pub few : past < length hs
  pub last : is_last w (get_or hs past 0) k ≡ true

tail_from : (w : ℕ → ℕ) (k n : ℕ) (hs : List ℕ) (q : ℕ) → tail_in w k n hs ≡ Some q → Found w k n hs q
tail_from w k n [] q e = let z : ◌≡◌ {A = ℕ} 0 1 = cc in absurd (omega arith)
tail_from w k n (h ∷ hs) q e = at (is_last w h k) refl e (tail_from w k (n + 1) hs q)
  where
    at : (b : Bool) → is_last w h k ≡ b → pick b (Some n) (tail_in w k (n + 1) hs) ≡ Some q
        → (tail_in w k (n + 1) hs ≡ Some q → Found w k (n + 1) hs q)
        → Found w k n (h ∷ hs) q
    at true t e f = let z : q ≡ n = cc in record { past = 0; number = omega arith; few = omega arith; last = t }
    at false t e f = let r = f e in
        record { past = suc r.past; number = omega (arith, r.number); few = omega (arith, r.few); last = r.last }

pub tail-yes : (w : ℕ → ℕ) (k : ℕ) (hs : List ℕ) (q : ℕ) → tail_in w k 0 hs ≡ Some q
    → (q < length hs) × (is_last w (get_or hs q 0) k ≡ true)
tail-yes w k hs q e =
    let r = tail_from w k 0 hs q e in
    let z : r.past ≡ q = omega (arith, r.number) in
    (rw z at r.few, rw z at r.last)
