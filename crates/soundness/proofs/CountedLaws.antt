-- The test of soundness by counting gives the answer of the test by comparing. Assumes nothing.
--     asked-words, words-asked      what is asked along the words: over words not met before, in use
--     asked-buffers, buffers-asked  and of the receive queues' descriptors: also a length of 1 to 2,047
--     evens, odds                   the queues of even number, and of odd number: their heads, descriptors and links
--     Sides, sides                  queues of both sides, by number again
--     sound-counted, counted-yes    the two tests, each from the other
--     counted-sound                 `counted_sound` is `sound`, for lists of their sizes
use Prim.Native.Nat.{ℕ, ◌+◌, ◌*◌, ◌≤◌}
use mathlib.Core.Path.{◌≡◌, refl, ap, ap₂, ◌∙◌, sym}
use mathlib.Core.Bool.{Bool, true, false}
use mathlib.Core.List.{List, [], ◌∷◌, ◌++◌}
use mathlib.Core.Logic.{◌⊎◌, inl, inr}
use native.Mathlib.Omega.{arith}
use lib.ListN.{length, length-append, get_or}
use lib.Dec.{eqb}
use borrow.Author.Tests.{eqb-true, eq-eqb}
use Rattle.layout.specs.Choice.{pick}
use Rattle.layout.specs.Layout.{desc_words}
use Rattle.layout.proofs.ChoiceLaws.{both_left, both_right}
use Rattle.words.specs.WordSet.{empty_set, free_at, used_at, add_four, words_in_use}
use Rattle.book.specs.Sound.{sound}
use Rattle.soundness.specs.Spent.{SOut, all_ones, ask_words, ask_buffer, lost, transmit_heads, receive_heads, words_to_meet, transmit_left}
use Rattle.soundness.specs.Spent.{receive_left, counted_sound}
use Rattle.queue.proofs.Queue.{start, All, LinkedAll, count, Sole, Recorded, flat, starts, receiving, Unmet, add_all}
use Rattle.queue.proofs.LinkLaws.{all_join}
use Rattle.queue.proofs.SoleLaws.{count-append, sole-apart, sole-perm}
use Rattle.queue.proofs.RecordLaws.{Fits, receiving-all, apart-receiving}
use Rattle.queue.proofs.SoundLaws.{Queues, sound-yes, sound-queues, linked-all-small, fits-at, at-fits}
use Rattle.soundness.proofs.SpentLaws.{Asked, asked-left, asked-right, asked-join, all-lost, Taken, spent-queues, queues-spent}
use Rattle.soundness.proofs.CountLaws.{counted-sole, sole-met, sole-many, sole-used, sole-ones, counted-recorded, recorded-many}

-- ---- what is asked

asked-words : (used s ds : List ℕ) → Asked (ask_words used) s ds → Unmet s ds × All (λ d. used_at used d ≡ true) ds
asked-words used s [] a = (tt, tt)
asked-words used s (d ∷ ds) a =
    let r = asked-words used (add_four s d) ds a.1 in
    ((both_left (free_at s d) _ a.0, r.0), (both_right (free_at s d) _ a.0, r.1))

words-asked : (used s ds : List ℕ) → Unmet s ds → All (λ d. used_at used d ≡ true) ds → Asked (ask_words used) s ds
words-asked used s [] f u = tt
words-asked used s (d ∷ ds) f u = (simp (f.0, u.0), words-asked used (add_four s d) ds f.1 u.1)

asked-buffers : (used lens s ds : List ℕ) → Asked (ask_buffer used lens) s ds
    → Asked (ask_words used) s ds × All (λ d. Fits (get_or lens d 0)) ds
asked-buffers used lens s [] a = (tt, tt)
asked-buffers used lens s (d ∷ ds) a =
    let r = asked-buffers used lens (add_four s d) ds a.1 in
    ((both_left (ask_words used s d) _ a.0, r.0), (fits-at (get_or lens d 0) (both_right (ask_words used s d) _ a.0), r.1))

buffers-asked : (used lens s ds : List ℕ) → Asked (ask_words used) s ds → All (λ d. Fits (get_or lens d 0)) ds
    → Asked (ask_buffer used lens) s ds
buffers-asked used lens s [] a f = tt
buffers-asked used lens s (d ∷ ds) a f =
    (simp a.0 (at-fits (get_or lens d 0) f.0), buffers-asked used lens (add_four s d) ds a.1 f.1)

-- ---- the two sides

abbrev evens : List (List ℕ) → List (List ℕ)
evens [] = []
evens (t ∷ []) = t ∷ []
evens (t ∷ r ∷ qs) = t ∷ evens qs

abbrev odds : List (List ℕ) → List (List ℕ)
odds [] = []
odds (t ∷ []) = []
odds (t ∷ r ∷ qs) = r ∷ odds qs

evens-starts : (qs : List (List ℕ)) → transmit_heads (starts qs) ≡ starts (evens qs)
evens-starts [] = refl
evens-starts (t ∷ []) = refl
evens-starts (t ∷ r ∷ qs) = ap (λ (hs : List ℕ). start t ∷ hs) (evens-starts qs)

odds-starts : (qs : List (List ℕ)) → receive_heads (starts qs) ≡ starts (odds qs)
odds-starts [] = refl
odds-starts (t ∷ []) = refl
odds-starts (t ∷ r ∷ qs) = ap (λ (hs : List ℕ). start r ∷ hs) (odds-starts qs)

odds-flat : (qs : List (List ℕ)) → flat (odds qs) ≡ receiving qs
odds-flat [] = refl
odds-flat (t ∷ []) = refl
odds-flat (t ∷ r ∷ qs) = rw (odds-flat qs) refl

-- one side, then the other: the same words
sides-count : (qs : List (List ℕ)) (k : ℕ) → count (flat (evens qs) ++ flat (odds qs)) k ≡ count (flat qs) k
sides-count [] k = refl
sides-count (t ∷ []) k = simp count-append (omega arith)
sides-count (t ∷ r ∷ qs) k = let h = simp count-append at (sides-count qs k) in simp count-append (omega (arith, h))

evens-linked : (w : ℕ → ℕ) (qs : List (List ℕ)) → LinkedAll w qs → LinkedAll w (evens qs)
evens-linked w [] l = tt
evens-linked w (t ∷ []) l = l
evens-linked w (t ∷ r ∷ qs) l = (l.0, evens-linked w qs l.1.1)

odds-linked : (w : ℕ → ℕ) (qs : List (List ℕ)) → LinkedAll w qs → LinkedAll w (odds qs)
odds-linked w [] l = tt
odds-linked w (t ∷ []) l = tt
odds-linked w (t ∷ r ∷ qs) l = (l.1.0, odds-linked w qs l.1.1)

record Sides (w : ℕ → ℕ) (hs : List ℕ) (ts rs : List (List ℕ)) : Type 0 where
  qs : List (List ℕ)
  heads : hs ≡ starts qs
  linked : LinkedAll w qs
  even : ts ≡ evens qs
  odd : rs ≡ odds qs

sides : (w : ℕ → ℕ) (hs : List ℕ) (ts rs : List (List ℕ)) → transmit_heads hs ≡ starts ts → receive_heads hs ≡ starts rs
    → LinkedAll w ts → LinkedAll w rs → Sides w hs ts rs
sides w [] [] [] e f l m = record { qs = []; heads = refl; linked = tt; even = refl; odd = refl }
sides w [] [] (r ∷ rs) e f l m = absurd (omega (arith, ap length f))
sides w [] (t ∷ ts) rs e f l m = absurd (omega (arith, ap length e))
sides w (h ∷ []) [] rs e f l m = absurd (omega (arith, ap length e))
sides w (h ∷ []) (t ∷ []) [] e f l m = record { qs = t ∷ []; heads = e; linked = l; even = refl; odd = refl }
sides w (h ∷ []) (t ∷ []) (r ∷ rs) e f l m = absurd (omega (arith, ap length f))
sides w (h ∷ []) (t ∷ u ∷ ts) rs e f l m = absurd (omega (arith, ap length e))
sides w (h ∷ g ∷ hs) [] rs e f l m = absurd (omega (arith, ap length e))
sides w (h ∷ g ∷ hs) (t ∷ ts) [] e f l m = absurd (omega (arith, ap length f))
sides w (h ∷ g ∷ hs) (t ∷ ts) (r ∷ rs) e f l m =
    let a : h ≡ start t = cc in
    let b : g ≡ start r = cc in
    let c : transmit_heads hs ≡ starts ts = cc in
    let d : receive_heads hs ≡ starts rs = cc in
    more a b (sides w hs ts rs c d l.1 m.1)
  where
    more : h ≡ start t → g ≡ start r → Sides w hs ts rs → Sides w (h ∷ g ∷ hs) (t ∷ ts) (r ∷ rs)
    more a b x = record {
      qs = t ∷ r ∷ x.qs;
      heads = rw (a, b) (ap (λ (y : List ℕ). start t ∷ start r ∷ y) x.heads);
      linked = (l.0, (m.0, x.linked));
      even = ap (λ (y : List (List ℕ)). t ∷ y) x.even;
      odd = ap (λ (y : List (List ℕ)). r ∷ y) x.odd;
    }

-- ---- the two tests

sound-counted : (w : ℕ → ℕ) (heads used lens : List ℕ) → length used ≡ desc_words → length lens ≡ desc_words
    → counted_sound w heads used lens ≡ true → sound w heads used lens ≡ true
unfolding counted_sound words_to_meet
sound-counted w heads used lens lu ll e =
    let t = transmit_left w heads used empty_set (pick (all_ones used) (words_in_use used) lost) in
    by (all_ones used) refl (eqb-true t.0 (4 * words_in_use lens) (both_left _ _ e))
    (eqb-true (receive_left w heads used lens t.1 t.0).0 0 (both_right (eqb t.0 (4 * words_in_use lens)) _ e))
  where
    made : {t r : SOut} → all_ones used ≡ true → t.0 ≡ 4 * words_in_use lens → r.0 ≡ 0
        → (t.0 ≡ lost) ⊎ Taken w (ask_words used) (transmit_heads heads) empty_set (words_in_use used) t
        → (r.0 ≡ lost) ⊎ Taken w (ask_buffer used lens) (receive_heads heads) t.1 t.0 r → sound w heads used lens ≡ true
    made o y z (inl l) r = absurd (omega (arith, y, l))
    made o y z (inr t) (inl l) = absurd (omega (arith, z, l))
    made o y z (inr t) (inr r) =
        let x = sides w heads t.qs r.qs t.heads r.heads t.linked r.linked in
        let ts = flat t.qs in
        let rs = flat r.qs in
        let b = asked-buffers used lens (add_all empty_set ts) rs (rw t.words at r.asked) in
        let a = asked-words used empty_set (ts ++ rs) (asked-join (ask_words used) empty_set ts rs t.asked b.0) in
        let n : words_in_use used ≡ 4 * length (ts ++ rs) = omega (arith, t.many, r.many, z, length-append ts rs) in
        let p : (k : ℕ) → count (ts ++ rs) k ≡ count (flat x.qs) k =
        λ k. ap₂ (λ (a b : List (List ℕ)). count (flat a ++ flat b) k) x.even x.odd ∙ sides-count x.qs k in
        let s : Sole used (flat x.qs) = sole-perm p (counted-sole used (ts ++ rs) lu o a.0 a.1 n) in
        let f : rs ≡ receiving x.qs = ap flat x.odd ∙ odds-flat x.qs in
        let m : words_in_use lens ≡ length (receiving x.qs) = omega (arith, y, r.many, z, ap length f) in
        let c =
        counted-recorded (receiving x.qs) lens (receiving-all _ x.qs (linked-all-small w x.qs x.linked))
        (apart-receiving x.qs (sole-apart s)) ll (rw f at b.1) m in
        ap (λ (hs : List ℕ). sound w hs used lens) x.heads ∙ sound-yes w x.qs used lens x.linked s c

    by : (o : Bool) → all_ones used ≡ o → let t = transmit_left w heads used empty_set (pick o (words_in_use used) lost) in
        t.0 ≡ 4 * words_in_use lens → (receive_left w heads used lens t.1 t.0).0 ≡ 0 → sound w heads used lens ≡ true
    by false o y z = absurd (omega (arith, y, all-lost w (ask_words used) (transmit_heads heads) empty_set lost refl))
    by true o y z =
        let t = transmit_left w heads used empty_set (words_in_use used) in
        made o y z (spent-queues w (ask_words used) (transmit_heads heads) empty_set (words_in_use used))
        (spent-queues w (ask_buffer used lens) (receive_heads heads) t.1 t.0)

counted-yes : (w : ℕ → ℕ) (qs : List (List ℕ)) (used lens : List ℕ) → LinkedAll w qs → Sole used (flat qs) → Recorded lens (receiving qs)
    → counted_sound w (starts qs) used lens ≡ true
unfolding counted_sound words_to_meet
counted-yes w qs used lens l s r =
    let ts = flat (evens qs) in
    let rs = flat (odds qs) in
    let lt = evens-linked w qs l in
    let lr = odds-linked w qs l in
    let b = all_join (λ d. d ≤ 2044) ts rs (linked-all-small w (evens qs) lt) (linked-all-small w (odds qs) lr) in
    let v : Sole used (ts ++ rs) = sole-perm (λ k. sym (sides-count qs k)) s in
    let a = words-asked used empty_set (ts ++ rs) (sole-met used (ts ++ rs) b v) (sole-used used (ts ++ rs) v) in
    let c = recorded-many (receiving qs) lens (receiving-all _ qs (linked-all-small w qs l)) (apart-receiving qs (sole-apart s)) r in
    let n : 4 * words_in_use lens ≡ 4 * length rs + 0 = omega (arith, c, ap length (odds-flat qs)) in
    let m : words_in_use used ≡ 4 * length ts + 4 * words_in_use lens = omega
    (arith, n, sole-many used (ts ++ rs) b v, length-append ts rs) in
    let x : transmit_left w (starts qs) used empty_set (words_in_use used) ≡ (4 * words_in_use lens, add_all empty_set ts) =
    rw (evens-starts qs, m)
    (queues-spent w (ask_words used) (evens qs) empty_set (4 * words_in_use lens) lt (asked-left (ask_words used) empty_set ts rs a)) in
    let y : receive_left w (starts qs) used lens (add_all empty_set ts) (4 * words_in_use lens) ≡ (0, add_all (add_all empty_set ts) rs) =
    rw (odds-starts qs, n)
    (queues-spent w (ask_buffer used lens) (odds qs) (add_all empty_set ts) 0 lr
    (buffers-asked used lens (add_all empty_set ts) rs (asked-right (ask_words used) empty_set ts rs a) (rw (odds-flat qs) r.there))) in
    simp (sole-ones used (flat qs) s, x, y, eq-eqb (4 * words_in_use lens) (4 * words_in_use lens) refl)

counted-queues : (w : ℕ → ℕ) (heads used lens : List ℕ) → Queues w heads used lens → counted_sound w heads used lens ≡ true
counted-queues w heads used lens q =
    ap (λ (hs : List ℕ). counted_sound w hs used lens) q.heads ∙ counted-yes w q.qs used lens q.linked q.sole q.recorded

-- each from the other: the same
agree : (a b : Bool) → (a ≡ true → b ≡ true) → (b ≡ true → a ≡ true) → a ≡ b
agree true b f g = sym (f refl)
agree false true f g = g refl
agree false false f g = refl

pub counted-sound : (w : ℕ → ℕ) (heads used lens : List ℕ) → length used ≡ desc_words → length lens ≡ desc_words
    → counted_sound w heads used lens ≡ sound w heads used lens
counted-sound w heads used lens lu ll =
    agree (counted_sound w heads used lens) (sound w heads used lens) (sound-counted w heads used lens lu ll)
    (λ e. counted-queues w heads used lens (sound-queues w heads used lens e))
