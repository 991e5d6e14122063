-- What makes a book sound, by the walks that find it out, and that these end. Assumes nothing.
--     good_not_zero                      a good pointer does not end a chain
--     walk_step-falls, first_step-falls    each step leaves fewer free words
--     walk-eq, firsts-eq                 the recursion equations: one step, and then the walk from where it goes
--     walk_end, -bad, -met, -go          the chain walk by cases: at 0, at a pointer that is not good, at a word met before, else
--     firsts-bad                         the same for the first words
--     walk-on, -over, -falls, firsts-on, -over, -falls   one step told: the walk goes on, with fewer free words, or it is over
--     same_list-is, lengths_fit-is         both comparisons are the library's of two lists, with a test at each entry
--     fit_on, fit-next, lengths_fit-zip     the lengths asked one after the other: one pair more, and all of them
--     sound-flags, -walk, -words, -lengths   the four tests of soundness, in their order
use Prim.Native.Nat.{ℕ, zero, suc, ◌<◌}
use mathlib.Core.Path.{◌≡◌, refl, ap, ◌∙◌, sym}
use mathlib.Core.Bool.{Bool, true, false}
use mathlib.Core.List.{List, [], ◌∷◌, ◌++◌}
use native.Mathlib.Omega.{arith}
use lib.ListN.{length, get_or, set}
use lib.Dec.{eqb}
use borrow.Author.Tests.{eq-eqb, ne_eqb, eqb-true}
use Rattle.std.specs.Prelude.{◌&&◌, fold}
use Rattle.std.specs.List.{zip}
use Rattle.std.specs.Cmp.Lexicographic.{pointwise}
use Rattle.std.proofs.lemmas.List.Sums.{fold-append}
use Rattle.layout.specs.Choice.{pick, both}
use Rattle.layout.specs.Run.{Next, go, stop, after}
use Rattle.layout.specs.Layout.{good_ptr, word_of}
use Rattle.layout.proofs.ChoiceLaws.{both_true}
use Rattle.layout.proofs.RunLaws.{run-eq}
use Rattle.layout.proofs.PointerLaws.{good_ptr-bounds}
use Rattle.words.specs.WordSet.{empty_set, free_at, add_four, free_count}
use Rattle.words.proofs.SetLaws.{free_count-falls}
use Rattle.registers.specs.Table.{heads_of, flags_fit}
use Rattle.book.specs.Sound.{WSt, WOut, walk_step, walk_from, walk_all, same_list, first_step, firsts_from, firsts_all, length_fits}
use Rattle.book.specs.Sound.{lengths_fit, sound}
use Rattle.book.specs.World.{sound_book}

-- a good pointer is not 0
pub good_not_zero : (p : ℕ) → good_ptr p ≡ true → eqb p 0 ≡ false
good_not_zero p g = ne_eqb p 0 (λ e. omega (arith, good_ptr-bounds p g))

-- ---- the chain walk

walk-falls-at : (a b c : Bool) (l : List ℕ) (d next : ℕ) (x y z : WOut) (t : WSt) → free_at l d ≡ c
    → pick a (stop x) (pick b (pick c (go (add_four l d, next)) (stop y)) (stop z)) ≡ go t → free_count t.0 < free_count l
walk-falls-at true b c l d next x y z t f e = let n : ◌≡◌ {A = ℕ} 0 1 = cc in absurd (omega arith)
walk-falls-at false false c l d next x y z t f e = let n : ◌≡◌ {A = ℕ} 0 1 = cc in absurd (omega arith)
walk-falls-at false true false l d next x y z t f e = let n : ◌≡◌ {A = ℕ} 0 1 = cc in absurd (omega arith)
walk-falls-at false true true l d next x y z t f e =
    let k : (add_four l d, next) ≡ t = cc in
    rw (← k) (free_count-falls l d f)

pub walk_step-falls : (w : ℕ → ℕ) (s t : WSt) → walk_step w s ≡ go t → free_count t.0 < free_count s.0
unfolding walk_step
walk_step-falls w s t e =
    walk-falls-at
    (eqb s.1 0)
    (good_ptr s.1)
    (free_at s.0 (word_of s.1))
    s.0
    (word_of s.1)
    (w (word_of s.1))
    _
    _
    _
    t
    refl
    e

module _ (w : ℕ → ℕ) (met : List ℕ) (p : ℕ) where
  pub walk-eq : walk_from w met p ≡ after (walk_step w (met, p)) (λ t. walk_from w t.0 t.1)
  unfolding walk_from
  walk-eq = run-eq (walk_step w) _ _ (walk_step-falls w) (met, p)

  pub walk_end : p ≡ 0 → walk_from w met p ≡ (true, met)
  unfolding walk_step
  walk_end e = walk-eq ∙ simp (eq-eqb p 0 e)

  pub walk-bad : (p ≡ 0 → ⊥) → good_ptr p ≡ false → walk_from w met p ≡ (false, met)
  unfolding walk_step
  walk-bad n g = walk-eq ∙ simp (ne_eqb p 0 n, g)

  module _ (g : good_ptr p ≡ true) where
    pub walk-met : free_at met (word_of p) ≡ false → walk_from w met p ≡ (false, met)
    unfolding walk_step
    walk-met h = walk-eq ∙ simp (good_not_zero p g, g, h)

    pub walk-go : free_at met (word_of p) ≡ true → walk_from w met p ≡ walk_from w (add_four met (word_of p)) (w (word_of p))
    unfolding walk_step
    walk-go h = walk-eq ∙ simp (good_not_zero p g, g, h)

  -- one step told: the walk goes on, or it is over
  pub walk-on : {v : List ℕ} {next : ℕ} → go (v, next) ≡ walk_step w (met, p) → walk_from w v next ≡ walk_from w met p
  walk-on e = sym (walk-eq ∙ ap (λ (n : Next WSt WOut). after n (λ s. walk_from w s.0 s.1)) (sym e))

  pub walk-over : {o : WOut} → stop o ≡ walk_step w (met, p) → o ≡ walk_from w met p
  walk-over e = sym (walk-eq ∙ ap (λ (n : Next WSt WOut). after n (λ s. walk_from w s.0 s.1)) (sym e))

  pub walk-falls : {v : List ℕ} {next : ℕ} → go (v, next) ≡ walk_step w (met, p) → free_count v < free_count met
  walk-falls e = walk_step-falls w (met, p) _ (sym e)

-- ---- the first words

-- a free word noted: fewer are free
free_count-set : (l : List ℕ) (k : ℕ) → get_or l k 1 ≡ 0 → free_count (set l k 1) < free_count l
unfolding free_count
free_count-set [] k e = absurd (omega arith)
free_count-set (zero ∷ l) zero e = omega arith
free_count-set (suc x ∷ l) zero e = absurd (omega arith)
free_count-set (zero ∷ l) (suc k) e = omega (arith, free_count-set l k e)
free_count-set (suc x ∷ l) (suc k) e = free_count-set l k e

first-falls-at : (a b : Bool) (l : List ℕ) (d next : ℕ) (y z : List ℕ) (t : WSt) → eqb (get_or l d 1) 0 ≡ b
    → pick a (pick b (go (set l d 1, next)) (stop y)) (stop z) ≡ go t → free_count t.0 < free_count l
first-falls-at true true l d next y z t f e =
    let k : (set l d 1, next) ≡ t = cc in
    rw (← k) (free_count-set l d (eqb-true _ _ f))
first-falls-at true false l d next y z t f e = let n : ◌≡◌ {A = ℕ} 0 1 = cc in absurd (omega arith)
first-falls-at false b l d next y z t f e = let n : ◌≡◌ {A = ℕ} 0 1 = cc in absurd (omega arith)

pub first_step-falls : (w : ℕ → ℕ) (s t : WSt) → first_step w s ≡ go t → free_count t.0 < free_count s.0
unfolding first_step
first_step-falls w s t e =
    first-falls-at
    (good_ptr s.1)
    (eqb (get_or s.0 (word_of s.1) 1) 0)
    s.0
    (word_of s.1)
    (w (word_of s.1))
    _
    _
    t
    refl
    e

module _ (w : ℕ → ℕ) (firsts : List ℕ) (p : ℕ) where
  pub firsts-eq : firsts_from w firsts p ≡ after (first_step w (firsts, p)) (λ t. firsts_from w t.0 t.1)
  unfolding firsts_from
  firsts-eq = run-eq (first_step w) _ _ (first_step-falls w) (firsts, p)

  pub firsts-bad : good_ptr p ≡ false → firsts_from w firsts p ≡ firsts
  unfolding first_step
  firsts-bad g = firsts-eq ∙ simp g

  -- one step told: the noting goes on, or it is over
  pub firsts-on : {v : List ℕ} {next : ℕ} → go (v, next) ≡ first_step w (firsts, p) → firsts_from w v next ≡ firsts_from w firsts p
  firsts-on e = sym (firsts-eq ∙ ap (λ (n : Next WSt (List ℕ)). after n (λ s. firsts_from w s.0 s.1)) (sym e))

  pub firsts-over : {o : List ℕ} → stop o ≡ first_step w (firsts, p) → o ≡ firsts_from w firsts p
  firsts-over e = sym (firsts-eq ∙ ap (λ (n : Next WSt (List ℕ)). after n (λ s. firsts_from w s.0 s.1)) (sym e))

  pub firsts-falls : {v : List ℕ} {next : ℕ} → go (v, next) ≡ first_step w (firsts, p) → free_count v < free_count firsts
  firsts-falls e = first_step-falls w (firsts, p) _ (sym e)

-- ---- two lists entry by entry

and-is : (a b : Bool) → (a && b) ≡ both a b
and-is true b = refl
and-is false b = refl

pub and-both : (a b c : Bool) → both (a && b) c ≡ both a (both b c)
and-both true b c = refl
and-both false b c = refl

pub same_list-is : (a b : List ℕ) → pointwise eqb a b ≡ same_list a b
same_list-is [] [] = refl
same_list-is [] (y ∷ b) = refl
same_list-is (x ∷ a) [] = refl
same_list-is (x ∷ a) (y ∷ b) = and-is (eqb x y) (pointwise eqb a b) ∙ ap (λ (t : Bool). both (eqb x y) t) (same_list-is a b)

pub lengths_fit-is : (a b : List ℕ) → pointwise length_fits a b ≡ lengths_fit a b
lengths_fit-is [] [] = refl
lengths_fit-is [] (y ∷ b) = refl
lengths_fit-is (x ∷ a) [] = refl
lengths_fit-is (x ∷ a) (y ∷ b) =
    and-is (length_fits x y) (pointwise length_fits a b) ∙ ap (λ (t : Bool). both (length_fits x y) t) (lengths_fit-is a b)

-- the lengths asked one after the other
abbrev pub fit_on : Bool → ℕ × ℕ → Bool
fit_on fit e = fit && length_fits e.0 e.1

fits-from : (fit : Bool) (a b : List ℕ) → length a ≡ length b → fold fit_on fit (zip a b) ≡ both fit (lengths_fit a b)
fits-from fit [] [] h = sym (both_true fit)
fits-from fit [] (y ∷ b) h = absurd (omega arith)
fits-from fit (x ∷ a) [] h = absurd (omega arith)
fits-from fit (x ∷ a) (y ∷ b) h =
    let k : length a ≡ length b = omega arith in
    fits-from (fit && length_fits x y) a b k ∙ and-both fit (length_fits x y) (lengths_fit a b)

-- one pair more
pub fit-next : (l : List (ℕ × ℕ)) (e : ℕ × ℕ) {a b : Bool} → a ≡ fold fit_on true l → b ≡ fit_on a e → b ≡ fold fit_on true (l ++ e ∷ [])
fit-next l e h k = k ∙ ap (λ (t : Bool). fit_on t e) h ∙ sym (fold-append fit_on true l (e ∷ []))

pub lengths_fit-zip : (a b : List ℕ) → length a ≡ length b → fold fit_on true (zip a b) ≡ lengths_fit a b
lengths_fit-zip a b h = fits-from true a b h

-- ---- the tests of soundness, in their order

module _ (w : ℕ → ℕ) (t used lens : List ℕ) where
  pub sound-flags : flags_fit t ≡ false → false ≡ sound_book w t used lens
  unfolding sound_book
  sound-flags f = simp f

  module _ {s : List ℕ} {b : Bool} {v : List ℕ} (f : flags_fit t ≡ true) (clear : s ≡ empty_set)
      (walk : (b, v) ≡ walk_all w (heads_of t) s) where
    at-empty : walk_all w (heads_of t) empty_set ≡ (b, v)
    at-empty = sym (walk ∙ ap (λ (l : List ℕ). walk_all w (heads_of t) l) clear)

    pub sound-walk : b ≡ false → false ≡ sound_book w t used lens
    unfolding sound_book sound
    sound-walk x = simp (f, at-empty, x)

    module _ {q : Bool} (x : b ≡ true) (same : q ≡ same_list v used) where
      pub sound-words : q ≡ false → false ≡ sound_book w t used lens
      unfolding sound_book sound
      sound-words z = simp (f, at-empty, x, ← same, z)

      pub sound-lengths : {r : Bool} {g h : List ℕ} → q ≡ true → g ≡ empty_set → h ≡ firsts_all w (heads_of t) g → r ≡ lengths_fit h lens
          → r ≡ sound_book w t used lens
      unfolding sound_book sound
      sound-lengths z c k m =
          m
          ∙ ap (λ (n : List ℕ). lengths_fit n lens) (k ∙ ap (λ (n : List ℕ). firsts_all w (heads_of t) n) c)
          ∙ simp (f, at-empty, x, ← same, z) refl
