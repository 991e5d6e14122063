-- What the judges' definitions say, case by case, in the form that the functions' proofs cite. Assumes nothing.
--     last_of-is, last_none, last-stop, last-go   the last descriptor of a queue, step by step, by the numbers of words
--     last-test, last-no                         whether it begins at a word
--     tail-here, tail-next, tail_none            the queue whose last descriptor begins at a word, number by number
--     tail-bound                                 it is one of them
--     word-found, word-nowhere, word-none        the word at an address
use Rattle.std.proofs.Common.{◌≡◌, ℕ, zero, suc, ◌+◌, ◌-◌, ◌/◌, ◌%◌, ◌<◌, ◌≤◌, Bool, true, false, eqb, List}
use Rattle.std.proofs.Common.{[], ◌∷◌, length, get_or, take, drop, sym, Option, Some, None}
use Rattle.std.proofs.lemmas.List.{length-take}
use Rattle.std.proofs.Common.{refl, ap, ◌∙◌, arith, eq-eqb, ne_eqb, eqb-true, add-one}
use borrow.Author.Tests.{eqb-false}
use Rattle.layout.specs.Choice.{pick, both}
use Rattle.layout.specs.Layout.{desc_first, good_ptr, word_of, addr, desc_words, in_descriptors}
use Rattle.layout.proofs.ChoiceLaws.{clash, both_left, both_right}
use Rattle.layout.proofs.PointerLaws.{good_ptr-is, good_ptr-zero, word_of-addr, in_descriptors-bounds}
use Rattle.guard.specs.Judges.{last_from, last_of, is_last, tail_in}

-- ---- the last descriptor
pub last_of-is : (w : ℕ → ℕ) (p : ℕ) → last_from w desc_words p ≡ last_of w p
unfolding last_of
last_of-is w p = refl

pub last_none : (w : ℕ → ℕ) (n p : ℕ) → n ≤ 0 → last_from w n p ≡ p
last_none w zero p h = refl
last_none w (suc n) p h = absurd (omega arith)

stop-at : (w : ℕ → ℕ) (n p : ℕ) → 0 < n → good_ptr (w (word_of p)) ≡ false → last_from w n p ≡ p
stop-at w zero p h g = absurd (omega arith)
stop-at w (suc n) p h g = simp g

go_on : (w : ℕ → ℕ) (n k p q : ℕ) → n ≡ suc k → q ≡ w (word_of p) → good_ptr q ≡ true → last_from w k q ≡ last_from w n p
go_on w zero k p q e f g = absurd (omega arith)
go_on w (suc n) k p q e f g =
    let h : n ≡ k = omega arith in
    rw (f, ← h) (sym (pick_yes (good_ptr (w (word_of p))) _ _ (rw (← f) g)))
  where
    pick_yes : (b : Bool) (x y : ℕ) → b ≡ true → pick b x y ≡ x
    pick_yes true x y r = refl
    pick_yes false x y r = let z : ◌≡◌ {A = ℕ} 0 1 = cc in absurd (omega arith)

-- the next of the descriptor at word i is x, which names the word j or no descriptor
module _ (w : ℕ → ℕ) (n i : ℕ) {x : ℕ} (e : x ≡ w i) where
  next-is : x ≡ w (word_of (addr i))
  next-is = e ∙ ap w (sym (word_of-addr i))

  pub last-stop : 0 < n → good_ptr x ≡ false → last_from w n (addr i) ≡ addr i
  last-stop h g = stop-at w n (addr i) h (rw (← next-is) g)

  pub last-go : (k : ℕ) {j : ℕ} → n ≡ suc k → good_ptr x ≡ true → j ≡ word_of x → last_from w k (addr j) ≡ last_from w n (addr i)
  last-go k {j} s g f =
      let a : x ≡ addr j = (good_ptr-is x g).0 ∙ ap addr (sym f) in
      go_on w n k (addr i) (addr j) s (sym a ∙ next-is) (rw (← a) g)

-- a head that names no descriptor, and one that names word i, with the last descriptor's word r
pub last-no : (w : ℕ → ℕ) (head k : ℕ) → good_ptr head ≡ false → false ≡ is_last w head k
unfolding is_last
last-no w head k g = rw g refl

pub last-test : (w : ℕ → ℕ) (head k r : ℕ) {i : ℕ} → good_ptr head ≡ true → i ≡ word_of head → addr r ≡ last_of w (addr i)
    → eqb r k ≡ is_last w head k
unfolding is_last
last-test w head k r {i} g f e =
    let a : head ≡ addr i = (good_ptr-is head g).0 ∙ ap addr (sym f) in
    rw g (same-addr r k ∙ ap (λ (p : ℕ). eqb p (addr k)) (e ∙ ap (λ (p : ℕ). last_of w p) (sym a)))
  where
    same-addr : (x y : ℕ) → eqb x y ≡ eqb (addr x) (addr y)
    same-addr x y = at (eqb x y) refl
      where
        at : (b : Bool) → eqb x y ≡ b → b ≡ eqb (addr x) (addr y)
        at true q = sym (eq-eqb (addr x) (addr y) (ap addr (eqb-true x y q)))
        at false q = sym (ne_eqb (addr x) (addr y) (λ z. eqb-false x y q (omega arith)))

-- ---- which queue
-- 0 names no descriptor: a head past the end of the table ends no queue
last-zero : (w : ℕ → ℕ) (k : ℕ) → is_last w 0 k ≡ false
unfolding is_last
last-zero w k = rw good_ptr-zero refl

-- a head of the first n words of a table
pub get_d_head : (n : ℕ) (t : List ℕ) (q : ℕ) → q < n → get_or (take n t) q 0 ≡ get_or t q 0
get_d_head zero t q h = absurd (omega arith)
get_d_head (suc n) [] q h = refl
get_d_head (suc n) (x ∷ t) zero h = refl
get_d_head (suc n) (x ∷ t) (suc q) h = get_d_head n t q (omega arith)

module _ (w : ℕ → ℕ) (k : ℕ) where
  tail-here-at : (n : ℕ) (hs : List ℕ) (q : ℕ) → is_last w (get_or hs q 0) k ≡ true → tail_in w k n (drop q hs) ≡ Some n
  tail-here-at n [] zero e = clash e (last-zero w k)
  tail-here-at n [] (suc q) e = clash e (last-zero w k)
  tail-here-at n (h ∷ hs) zero e = rw e refl
  tail-here-at n (h ∷ hs) (suc q) e = tail-here-at n hs q e

  tail-next-at : (n : ℕ) (hs : List ℕ) (q : ℕ) → is_last w (get_or hs q 0) k ≡ false
      → tail_in w k n (drop q hs) ≡ tail_in w k (n + 1) (drop (suc q) hs)
  tail-next-at n [] zero e = refl
  tail-next-at n [] (suc q) e = refl
  tail-next-at n (h ∷ hs) zero e = rw e refl
  tail-next-at n (h ∷ hs) (suc q) e = tail-next-at n hs q e

  pub tail-here : (t : List ℕ) (n q : ℕ) {o : Option ℕ} → q < n → is_last w (get_or t q 0) k ≡ true → tail_in w k q (drop q (take n t)) ≡ o
      → Some q ≡ o
  tail-here t n q h e i = sym (tail-here-at q (take n t) q (rw (get_d_head n t q h) e)) ∙ i

  pub tail-next : (t : List ℕ) (n q : ℕ) {o : Option ℕ} → q < n → is_last w (get_or t q 0) k ≡ false → tail_in w k q (drop q (take n t)) ≡ o
      → tail_in w k (q + 1) (drop (q + 1) (take n t)) ≡ o
  tail-next t n q h e i = rw (ap-one (take n t)) (sym (tail-next-at q (take n t) q (rw (get_d_head n t q h) e)) ∙ i)
    where
      ap-one : (hs : List ℕ) → drop (q + 1) hs ≡ drop (suc q) hs
      ap-one hs = rw (add-one q) refl

  tail-none-at : (m n : ℕ) (t : List ℕ) (q : ℕ) → n ≤ q → tail_in w k m (drop q (take n t)) ≡ None
  tail-none-at m zero t zero h = refl
  tail-none-at m zero t (suc q) h = refl
  tail-none-at m (suc n) t zero h = absurd (omega arith)
  tail-none-at m (suc n) [] (suc q) h = refl
  tail-none-at m (suc n) (x ∷ t) (suc q) h = tail-none-at m n t q (omega arith)

  pub tail_none : (t : List ℕ) (n q : ℕ) {o : Option ℕ} → n ≤ q → tail_in w k q (drop q (take n t)) ≡ o → None ≡ o
  tail_none t n q h i = sym (tail-none-at q n t q h) ∙ i

tail-lt : (w : ℕ → ℕ) (k n : ℕ) (hs : List ℕ) (j : ℕ) → tail_in w k n hs ≡ Some j → j < n + length hs
tail-lt w k n [] j e = cc
tail-lt w k n (h ∷ hs) j e = at (is_last w h k) (tail_in w k (n + 1) hs) (λ f. tail-lt w k (n + 1) hs j f) e
  where
    at : (b : Bool) (r : Option ℕ) → (r ≡ Some j → j < n + 1 + length hs) → pick b (Some n) r ≡ Some j → j < n + length (h ∷ hs)
    at true r g f = let i : n ≡ j = cc in omega arith
    at false r g f = let l = g f in omega arith

-- a queue that was found is one of them
pub tail-bound : (w : ℕ → ℕ) (k n : ℕ) (t : List ℕ) (j : ℕ) → tail_in w k 0 (take n t) ≡ Some j → j < n
tail-bound w k n t j e = let l = tail-lt w k 0 (take n t) j e in omega (arith, length-take n t)

-- ---- which word
module _ (a : ℕ) where
  abbrev found : Bool → Option ℕ
  found b = pick b (Some ((a - desc_first) / 4)) None

  found-at : (b : Bool) (k : ℕ) → Some k ≡ found b → (b ≡ true) × (k ≡ (a - desc_first) / 4)
  found-at true k e = (refl, cc)
  found-at false k e = cc

  none_at : (b : Bool) → None ≡ found b → b ≡ false
  none_at true e = cc
  none_at false e = refl

  -- an address at which a word was found lies in descriptor memory, and is a multiple of 4
  pub word-found : (k : ℕ) → Some k ≡ found (both (in_descriptors a) (eqb (a % 4) 0))
      → (in_descriptors a ≡ true) × (a % 4 ≡ 0) × (k ≡ (a - desc_first) / 4) × (k < desc_words)
  word-found k e =
      let f = found-at (both (in_descriptors a) (eqb (a % 4) 0)) k e in
      let i = both_left (in_descriptors a) (eqb (a % 4) 0) f.0 in
      (i, eqb-true (a % 4) 0 (both_right (in_descriptors a) (eqb (a % 4) 0) f.0), f.1, omega (arith, in_descriptors-bounds a i))

  pub word-nowhere : None ≡ found (both (in_descriptors a) (eqb (a % 4) 0)) → both (in_descriptors a) (eqb (a % 4) 0) ≡ false
  word-nowhere e = none_at (both (in_descriptors a) (eqb (a % 4) 0)) e

  pub word-none : a % 4 ≡ 0 → None ≡ found (both (in_descriptors a) (eqb (a % 4) 0)) → in_descriptors a ≡ false
  word-none h e = at (in_descriptors a) (eqb (a % 4) 0) (eq-eqb (a % 4) 0 h) (none_at (both (in_descriptors a) (eqb (a % 4) 0)) e)
    where
      at : (b d : Bool) → d ≡ true → both b d ≡ false → b ≡ false
      at true d f g = cc
      at false d f g = refl
