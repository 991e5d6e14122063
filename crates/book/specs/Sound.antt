-- When a book is sound. Document 01: "It is sound when both chains from its heads end at 0 over good pointers, no word is met
-- twice, the words met are exactly those in use, and recorded lengths are 1..2,047 for the receive queue's descriptors and 0
-- elsewhere."
--     walk_from w met p      the chain from p: whether it ends at 0 over good pointers and free words; the words met
--     walk_all w heads met   the same for each head in turn
--     firsts_from w firsts p the first words of the descriptors from p, marked in a set of their own
--     lengths_fit            each recorded length is right for whether a receive descriptor begins there
--     sound w heads used lens
-- Laws: proofs/SoundLaws.antt. Assumes nothing: these are definitions.
use Rattle.std.specs.Prelude.{ℕ, Bool, true, false, List, [], ◌∷◌, get_or, set, eqb, leb}
use Rattle.layout.specs.Choice.{pick, both}
use Rattle.layout.specs.Run.{Next, go, stop, run}
use Rattle.layout.specs.Layout.{good_ptr, word_of, length_max}
use Rattle.words.specs.WordSet.{empty_set, free_at, add_four, free_count}

abbrev pub WSt : Type 0
WSt = List ℕ × ℕ

abbrev pub WOut : Type 0
WOut = Bool × List ℕ

unfoldable pub walk_step : (ℕ → ℕ) → WSt → Next WSt WOut
walk_step w s =
    pick (eqb s.1 0) (stop (true, s.0))
    (pick (good_ptr s.1)
    (pick (free_at s.0 (word_of s.1))
    (go (add_four s.0 (word_of s.1), w (word_of s.1)))
    (stop (false, s.0)))
    (stop (false, s.0)))

unfoldable pub walk_from : (ℕ → ℕ) → List ℕ → ℕ → WOut
walk_from w met p = run (walk_step w) (λ s. (true, s.0)) (λ s. free_count s.0) (met, p)

unfoldable pub walk_all : (ℕ → ℕ) → List ℕ → List ℕ → WOut
walk_all w [] met = (true, met)
walk_all w (h ∷ hs) met =
    let c = walk_from w met h in
    let r = walk_all w hs c.1 in
    (both c.0 r.0, r.1)

-- "the words met are exactly those in use"
abbrev pub same_list : List ℕ → List ℕ → Bool
same_list [] [] = true
same_list [] (y ∷ ys) = false
same_list (x ∷ xs) [] = false
same_list (x ∷ xs) (y ∷ ys) = both (eqb x y) (same_list xs ys)

unfoldable pub first_step : (ℕ → ℕ) → WSt → Next WSt (List ℕ)
first_step w s =
    pick (good_ptr s.1)
    (pick (eqb (get_or s.0 (word_of s.1) 1) 0)
    (go (set s.0 (word_of s.1) 1, w (word_of s.1)))
    (stop s.0))
    (stop s.0)

unfoldable pub firsts_from : (ℕ → ℕ) → List ℕ → ℕ → List ℕ
firsts_from w firsts p = run (first_step w) (λ s. s.0) (λ s. free_count s.0) (firsts, p)

-- the receive queues are those of odd number: every second head, from the second on
abbrev pub firsts_all : (ℕ → ℕ) → List ℕ → List ℕ → List ℕ
firsts_all w [] firsts = firsts
firsts_all w (t ∷ []) firsts = firsts
firsts_all w (t ∷ r ∷ hs) firsts = firsts_all w hs (firsts_from w firsts r)

-- "1..2,047 for the receive queue's descriptors and 0 elsewhere"
abbrev pub length_fits : ℕ → ℕ → Bool
length_fits first len = pick (eqb first 0) (eqb len 0) (both (leb 1 len) (leb len length_max))

abbrev pub lengths_fit : List ℕ → List ℕ → Bool
lengths_fit [] [] = true
lengths_fit [] (l ∷ ls) = false
lengths_fit (f ∷ fs) [] = false
lengths_fit (f ∷ fs) (l ∷ ls) = both (length_fits f l) (lengths_fit fs ls)

unfoldable pub sound : (ℕ → ℕ) → List ℕ → List ℕ → List ℕ → Bool
sound w heads used lens =
    let c = walk_all w heads empty_set in
    both c.0 (both (same_list c.1 used) (lengths_fit (firsts_all w heads empty_set) lens))
