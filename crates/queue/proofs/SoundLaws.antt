-- The book is sound, as it is computed, exactly where there are queues. Assumes nothing.
--     Walked, walk-list, walk-yes   the chain from a pointer that ends gives its list of descriptors, and conversely
--     sole-unmet               descriptors beside those met are over free words in turn
--     ones f ds, Free1 f ds    a list with a 1 at each of ds; each has a 0 when its turn comes. Laws: ones-size, -other, ones_in, free-ones
--     firsts-list              the first words that are marked are those of the receive queues
--     lengths-recorded, recorded-lengths   the recorded lengths fit them exactly where they are recorded right
--     member-case, fits-at, at-fits   one of a list or none; a length's test, as numbers
--     Queues, sound-queues     a sound book has queues: heads, links, words in use, recorded lengths
--     sound-yes                and a book that has queues is sound
use Prim.Native.Nat.{ℕ, zero, suc, ◌≤◌, ◌<◌}
use mathlib.Core.Path.{◌≡◌, refl, ap, ap₂, ◌∙◌, sym}
use mathlib.Core.Bool.{Bool, true, false}
use mathlib.Core.List.{List, [], ◌∷◌, ◌++◌, append-nil}
use mathlib.Core.Logic.{◌⊎◌, inl, inr, ◌≢◌}
use native.Mathlib.Omega.{arith}
use lib.ListN.{length, get_or, set, length-set}
use lib.Seq.{get_or-set_same, get_or-set_other}
use lib.Dec.{eqb, leb}
use borrow.Author.Tests.{eq-eqb, ne_eqb, eqb-true, le-leb, leb-true}
use Rattle.layout.specs.Choice.{pick, both}
use Rattle.layout.specs.Run.{go, stop, after}
use Rattle.layout.specs.Layout.{good_ptr, word_of, addr, length_max}
use Rattle.layout.proofs.ChoiceLaws.{clash, both_left, both_right}
use Rattle.layout.proofs.PointerLaws.{good_ptr-is, good_ptr-addr, word_of-addr, good_ptr-zero}
use Rattle.words.specs.WordSet.{empty_set, free_at, add_four, free_count}
use Rattle.words.proofs.SetLaws.{free_count-falls, get_or-in, length-empty_set, get_or-empty_set}
use Rattle.book.proofs.SoundLaws.{walk-eq, firsts-eq}
use Rattle.book.specs.Sound.{WSt, WOut, walk_step, walk_from, walk_all, same_list, first_step, firsts_from, firsts_all, length_fits}
use Rattle.book.specs.Sound.{lengths_fit}
use Rattle.book.specs.Sound.{sound}
use Rattle.queue.proofs.Queue.{start, All, Linked, LinkedAll, Off, Apart, count, Sole, Recorded, flat, starts, receiving, Unmet}
use Rattle.queue.proofs.Queue.{add_all}
use Rattle.queue.proofs.LinkLaws.{all_left, all_right, all_join, all_map, all-every, linked-small}
use Rattle.queue.proofs.SoleLaws.{count-append, sole-perm, sole-unique, sole-empty, sole-add, sole-free, sole-apart, off-ne}
use Rattle.queue.proofs.RecordLaws.{Fits, None, none_or, receiving-all, apart-receiving, sole-add-all}

-- ---- the walk

pub walk-yes : (w : ℕ → ℕ) (met ds : List ℕ) → Linked w ds → Unmet met ds → walk_from w met (start ds) ≡ (true, add_all met ds)
unfolding walk_step
walk-yes w met [] l f = walk-eq w met 0
walk-yes w met (d ∷ ds) l f =
    walk-eq w met (addr d)
    ∙ simp (ne_eqb (addr d) 0 (λ z. omega (arith, z)), good_ptr-addr d l.0, word_of-addr d, f.0, l.1)
    (walk-yes w (add_four met d) ds l.2 f.1)

pub record Walked (w : ℕ → ℕ) (met : List ℕ) (p : ℕ) (out : List ℕ) : Type 0 where
  pub ds : List ℕ
  pub begins : p ≡ start ds
  pub linked : Linked w ds
  pub unmet : Unmet met ds
  pub words : out ≡ add_all met ds

found : (n : ℕ) (w : ℕ → ℕ) (met : List ℕ) (p : ℕ) (out : List ℕ) → free_count met < n → walk_from w met p ≡ (true, out)
    → Walked w met p out
unfolding walk_step
found zero w met p out l e = absurd (omega arith)
found (suc n) w met p out l e =
    by (eqb p 0) (good_ptr p) (free_at met d) refl refl refl (sym (walk-eq w met p) ∙ e) (λ x q. found n w x q out)
  where
    d : ℕ
    d = word_of p

    ends : {x : WOut} → x ≡ (true, out) → x.0 ≡ true
    ends e = ap (λ (t : WOut). t.0) e

    by : (z a b : Bool) → eqb p 0 ≡ z → good_ptr p ≡ a → free_at met d ≡ b
        → after {S = WSt} {R = WOut}
        (pick z (stop (true, met)) (pick a (pick b (go (add_four met d, w d)) (stop (false, met))) (stop (false, met))))
        (λ t. walk_from w t.0 t.1) ≡ (true, out)
        → ((x : List ℕ) (q : ℕ) → free_count x < n → walk_from w x q ≡ (true, out) → Walked w x q out) → Walked w met p out
    by true a b z g f h ih =
        record { ds = []; begins = eqb-true _ _ z; linked = tt; unmet = tt; words = sym (ap (λ (t : WOut). t.1) h) }
    by false false b z g f h ih = clash (ends h) refl
    by false true false z g f h ih = clash (ends h) refl
    by false true true z g f h ih =
        let i = good_ptr-is p g in
        let r = ih (add_four met d) (w d) (omega (arith, free_count-falls met d f)) h in
        record { ds = d ∷ r.ds; begins = i.0; linked = (i.1, r.begins, r.linked); unmet = (f, r.unmet); words = r.words }

pub walk-list : (w : ℕ → ℕ) (met : List ℕ) (p : ℕ) → (walk_from w met p).0 ≡ true → Walked w met p (walk_from w met p).1
walk-list w met p e =
    found (suc (free_count met)) w met p (walk_from w met p).1 (omega arith) (ap (λ (b : Bool). (b, (walk_from w met p).1)) e)

-- ---- each head in turn

all_nil : (w : ℕ → ℕ) (met : List ℕ) → walk_all w [] met ≡ (true, met)
unfolding walk_all
all_nil w met = refl

all_cons : (w : ℕ → ℕ) (h : ℕ) (hs met : List ℕ)
    → walk_all w (h ∷ hs) met
    ≡ (both (walk_from w met h).0 (walk_all w hs (walk_from w met h).1).0, (walk_all w hs (walk_from w met h).1).1)
unfolding walk_all
all_cons w h hs met = refl

record Heads (w : ℕ → ℕ) (hs cs out : List ℕ) : Type 0 where
  qs : List (List ℕ)
  heads : hs ≡ starts qs
  linked : LinkedAll w qs
  sole : Sole out (flat qs ++ cs)

-- q, then f, then cs: or f first
count-swap : (q f cs : List ℕ) (k : ℕ) → count ((q ++ f) ++ cs) k ≡ count (f ++ (q ++ cs)) k
count-swap q f cs k = simp count-append (omega arith)

walk-heads : (w : ℕ → ℕ) (hs u cs : List ℕ) → Sole u cs → (walk_all w hs u).0 ≡ true → Heads w hs cs (walk_all w hs u).1
walk-heads w [] u cs s e = rw (all_nil w u) (record { qs = []; heads = refl; linked = tt; sole = s })
walk-heads w (h ∷ hs) u cs s e =
    let c : both (walk_from w u h).0 (walk_all w hs (walk_from w u h).1).0 ≡ true = ap (λ (t : WOut). t.0) (sym (all_cons w h hs u)) ∙ e in
    rest (walk-list w u h (both_left _ _ c)) (λ x xs. walk-heads w hs x xs) (both_right (walk_from w u h).0 _ c)
  where
    rest : Walked w u h (walk_from w u h).1
        → ((x xs : List ℕ) → Sole x xs → (walk_all w hs x).0 ≡ true → Heads w hs xs (walk_all w hs x).1)
        → (walk_all w hs (walk_from w u h).1).0 ≡ true → Heads w (h ∷ hs) cs (walk_all w (h ∷ hs) u).1
    rest g ih r =
        let q = g.ds in
        let s1 : Sole (walk_from w u h).1 (q ++ cs) = rw g.words (sole-add-all u q cs g.unmet s) in
        let t = ih (walk_from w u h).1 (q ++ cs) s1 r in
        rw (all_cons w h hs u)
        (record {
          qs = q ∷ t.qs;
          heads = ap₂ (λ (a : ℕ) (b : List ℕ). a ∷ b) g.begins t.heads;
          linked = (g.linked, t.linked);
          sole = sole-perm (λ k. sym (count-swap q (flat t.qs) cs k)) t.sole;
        })

pub sole-unmet : (u ds cs : List ℕ) → All (λ d. d ≤ 2044) ds → ((k : ℕ) → count (ds ++ cs) k ≤ 1) → Sole u cs → Unmet u ds
sole-unmet u [] cs b c s = tt
sole-unmet u (d ∷ ds) cs b c s = (
  f,
  sole-unmet (add_four u d) ds (d ∷ cs) b.1 (λ k. let z = c k in let y = count-append ds cs k in let x = count-append ds (d ∷ cs) k in
      omega arith) (sole-add d cs f s),
)
  where
    f : free_at u d ≡ true
    f = sole-free d cs b.0 s (λ k. let z = c k in let y = count-append ds cs k in omega arith)

record Back (w : ℕ → ℕ) (cs : List ℕ) (r : WOut) : Type 0 where
  ends : r.0 ≡ true
  sole : Sole r.1 cs

heads-walk : (w : ℕ → ℕ) (qs : List (List ℕ)) (u cs : List ℕ) → Sole u cs → LinkedAll w qs → ((k : ℕ) → count (flat qs ++ cs) k ≤ 1)
    → Back w (flat qs ++ cs) (walk_all w (starts qs) u)
heads-walk w [] u cs s l c = rw (all_nil w u) (record { ends = refl; sole = s })
heads-walk w (q ∷ qs) u cs s l c =
    let f = sole-unmet u q cs (linked-small w q l.0) (λ k. few q (flat qs) cs k (c k)) s in
    let e = walk-yes w u q l.0 f in
    let t = heads-walk w qs (add_all u q) (q ++ cs) (sole-add-all u q cs f s) l.1 (λ k. rw (count-swap q (flat qs) cs k) at (c k)) in
    rw (all_cons w (start q) (starts qs) u, e)
    (record { ends = t.ends; sole = sole-perm (λ k. sym (count-swap q (flat qs) cs k)) t.sole })
  where
    few : (q f cs : List ℕ) (k : ℕ) → count ((q ++ f) ++ cs) k ≤ 1 → count (q ++ cs) k ≤ 1
    few q f cs k h = let g = simp count-append at h in simp count-append (omega arith)

-- ---- the first words of the receive queues

abbrev pub ones : List ℕ → List ℕ → List ℕ
ones f [] = f
ones f (d ∷ ds) = ones (set f d 1) ds

abbrev pub Free1 : List ℕ → List ℕ → Type 0
Free1 f [] = Unit
Free1 f (d ∷ ds) = (get_or f d 1 ≡ 0) × Free1 (set f d 1) ds

ones-append : (f xs ys : List ℕ) → ones f (xs ++ ys) ≡ ones (ones f xs) ys
ones-append f [] ys = refl
ones-append f (x ∷ xs) ys = ones-append (set f x 1) xs ys

pub ones-size : (f ds : List ℕ) → length (ones f ds) ≡ length f
ones-size f [] = refl
ones-size f (d ∷ ds) = ones-size (set f d 1) ds ∙ length-set f d 1

pub ones-other : (f ds : List ℕ) (k : ℕ) → None k ds → get_or (ones f ds) k 0 ≡ get_or f k 0
ones-other f [] k n = refl
ones-other f (d ∷ ds) k n = ones-other (set f d 1) ds k n.1 ∙ get_or-set_other f d k 1 0 n.0

pub ones_in : (f ds : List ℕ) → length f ≡ 2048 → All (λ d. d ≤ 2044) ds → Apart ds → All (λ d. get_or (ones f ds) d 0 ≡ 1) ds
ones_in f [] l b a = tt
ones_in f (d ∷ ds) l b a = (
  ones-other (set f d 1) ds d (all_map (Off d) (λ e. d ≢ e) (λ e o q. off-ne d e o (sym q)) ds a.0)
      ∙ get_or-set_same f d 1 0 (omega arith),
  ones_in (set f d 1) ds (length-set f d 1 ∙ l) b.1 a.1,
)

pub free-ones : (f ds : List ℕ) → length f ≡ 2048 → All (λ d. d ≤ 2044) ds → Apart ds → All (λ d. get_or f d 0 ≡ 0) ds → Free1 f ds
free-ones f [] l b a z = tt
free-ones f (d ∷ ds) l b a z =
    (get_or-in f d 1 0 (omega arith) ∙ z.0, free-ones (set f d 1) ds (length-set f d 1 ∙ l) b.1 a.1 (keep ds a.0 z.1))
  where
    keep : (es : List ℕ) → All (Off d) es → All (λ e. get_or f e 0 ≡ 0) es → All (λ e. get_or (set f d 1) e 0 ≡ 0) es
    keep [] o h = tt
    keep (e ∷ es) o h = (get_or-set_other f d e 1 0 (off-ne d e o.0) ∙ h.0, keep es o.1 h.1)

firsts-one : (w : ℕ → ℕ) (f ds : List ℕ) → Linked w ds → Free1 f ds → firsts_from w f (start ds) ≡ ones f ds
unfolding first_step
firsts-one w f [] l z = firsts-eq w f 0 ∙ rw good_ptr-zero refl
firsts-one w f (d ∷ ds) l z =
    firsts-eq w f (addr d)
    ∙ simp (good_ptr-addr d l.0, word_of-addr d, eq-eqb (get_or f d 1) 0 z.0, l.1) (firsts-one w (set f d 1) ds l.2 z.1)

firsts-list : (w : ℕ → ℕ) (qs : List (List ℕ)) (f : List ℕ) → LinkedAll w qs → length f ≡ 2048 → Apart (receiving qs)
    → All (λ d. get_or f d 0 ≡ 0) (receiving qs)
    → firsts_all w (starts qs) f ≡ ones f (receiving qs)
firsts-list w [] f l n a z = refl
firsts-list w (t ∷ []) f l n a z = refl
firsts-list w (t ∷ r ∷ qs) f l n a z =
    let p = apart_parts r (receiving qs) a in
    let e = firsts-one w f r l.1.0 (free-ones f r n (linked-small w r l.1.0) p.0 (all_left _ r (receiving qs) z)) in
    rw (e, ones-append f r (receiving qs))
    (firsts-list w qs (ones f r) l.1.1 (ones-size f r ∙ n) p.1 (keep (receiving qs) p.2 (all_right _ r (receiving qs) z)))
  where
    apart_parts : (xs ys : List ℕ) → Apart (xs ++ ys) → Apart xs × Apart ys × All (λ y. None y xs) ys
    apart_parts [] ys a = (tt, a, all-every (λ y. Unit) (λ y. tt) ys)
    apart_parts (x ∷ xs) ys a =
        let h = apart_parts xs ys a.1 in
        ((all_left (Off x) xs ys a.0, h.0), h.1, zip ys (all_right (Off x) xs ys a.0) h.2)
      where
        zip : (es : List ℕ) → All (Off x) es → All (λ y. None y xs) es → All (λ y. None y (x ∷ xs)) es
        zip [] o h = tt
        zip (e ∷ es) o h = ((off-ne x e o.0, h.0), zip es o.1 h.1)

    keep : (es : List ℕ) → All (λ y. None y r) es → All (λ e. get_or f e 0 ≡ 0) es → All (λ e. get_or (ones f r) e 0 ≡ 0) es
    keep [] m h = tt
    keep (e ∷ es) m h = (ones-other f r e m.0 ∙ h.0, keep es m.1 h.1)

-- ---- recorded lengths

lengths-each : (fs ls : List ℕ) → lengths_fit fs ls ≡ true
    → (length fs ≡ length ls) × ((k : ℕ) → length_fits (get_or fs k 0) (get_or ls k 0) ≡ true)
lengths-each [] [] e = (refl, λ k. refl)
lengths-each [] (l ∷ ls) e = clash e refl
lengths-each (f ∷ fs) [] e = clash e refl
lengths-each (f ∷ fs) (l ∷ ls) e =
    let r = lengths-each fs ls (both_right (length_fits f l) _ e) in
    (ap suc r.0, at r.1)
  where
    at : ((k : ℕ) → length_fits (get_or fs k 0) (get_or ls k 0) ≡ true) → (k : ℕ)
        → length_fits (get_or (f ∷ fs) k 0) (get_or (l ∷ ls) k 0) ≡ true
    at h zero = both_left (length_fits f l) _ e
    at h (suc k) = h k

each-lengths : (fs ls : List ℕ) → length fs ≡ length ls → ((k : ℕ) → length_fits (get_or fs k 0) (get_or ls k 0) ≡ true)
    → lengths_fit fs ls ≡ true
each-lengths [] [] e h = refl
each-lengths [] (l ∷ ls) e h = absurd (omega arith)
each-lengths (f ∷ fs) [] e h = absurd (omega arith)
each-lengths (f ∷ fs) (l ∷ ls) e h = rw (h zero) (each-lengths fs ls (omega arith) (λ k. h (suc k)))

-- k is none of a list, or what holds of each holds of k
pub member-case : (P : ℕ → Type 0) (Q : Type 0) (k : ℕ) (ds : List ℕ) → All P ds → (None k ds → Q) → (P k → Q) → Q
member-case P Q k [] a f g = f tt
member-case P Q k (d ∷ ds) a f g = at (none_or k d) (member-case P Q k ds a.1)
  where
    at : (k ≡ d) ⊎ (k ≢ d) → ((None k ds → Q) → (P k → Q) → Q) → Q
    at (inl e) h = g (rw e a.0)
    at (inr n) h = h (λ m. f (n, m)) g

pub fits-at : (x : ℕ) → both (leb 1 x) (leb x length_max) ≡ true → Fits x
fits-at x e = (leb-true 1 x (both_left (leb 1 x) _ e), leb-true x length_max (both_right (leb 1 x) _ e))

pub at-fits : (x : ℕ) → Fits x → both (leb 1 x) (leb x length_max) ≡ true
at-fits x f = simp (le-leb 1 x f.0, le-leb x length_max f.1)

lengths-recorded : (rx lens : List ℕ) → All (λ d. d ≤ 2044) rx → Apart rx → lengths_fit (ones empty_set rx) lens ≡ true → Recorded lens rx
lengths-recorded rx lens b a e =
    let r = lengths-each (ones empty_set rx) lens e in
    record {
      size = sym r.0 ∙ ones-size empty_set rx ∙ length-empty_set;
      there = all_map (λ d. get_or (ones empty_set rx) d 0 ≡ 1) (λ d. Fits (get_or lens d 0))
          (λ d o. fits-at (get_or lens d 0) (rw o at (r.1 d))) rx (ones_in empty_set rx length-empty_set b a);
      elsewhere = λ k n. eqb-true (get_or lens k 0) 0 (rw (ones-other empty_set rx k n ∙ get_or-empty_set k) at (r.1 k));
    }

recorded-lengths : (rx lens : List ℕ) → All (λ d. d ≤ 2044) rx → Apart rx → Recorded lens rx → lengths_fit (ones empty_set rx) lens ≡ true
recorded-lengths rx lens b a r =
    each-lengths (ones empty_set rx) lens (ones-size empty_set rx ∙ length-empty_set ∙ sym r.size)
    (λ k. member-case (λ d. Fits (get_or lens d 0) × (get_or (ones empty_set rx) d 0 ≡ 1))
    (length_fits (get_or (ones empty_set rx) k 0) (get_or lens k 0) ≡ true) k rx
    (zip rx r.there (ones_in empty_set rx length-empty_set b a))
    (λ n. rw (ones-other empty_set rx k n ∙ get_or-empty_set k) (eq-eqb (get_or lens k 0) 0 (r.elsewhere k n)))
    (λ h. rw h.1 (at-fits (get_or lens k 0) h.0)))
  where
    zip : (es : List ℕ) → All (λ d. Fits (get_or lens d 0)) es → All (λ d. get_or (ones empty_set rx) d 0 ≡ 1) es
        → All (λ d. Fits (get_or lens d 0) × (get_or (ones empty_set rx) d 0 ≡ 1)) es
    zip [] x y = tt
    zip (e ∷ es) x y = ((x.0, y.0), zip es x.1 y.1)

-- ---- sound

same-eq : (xs ys : List ℕ) → same_list xs ys ≡ true → xs ≡ ys
same-eq [] [] e = refl
same-eq [] (y ∷ ys) e = clash e refl
same-eq (x ∷ xs) [] e = clash e refl
same-eq (x ∷ xs) (y ∷ ys) e =
    ap₂ (λ (a : ℕ) (l : List ℕ). a ∷ l) (eqb-true x y (both_left (eqb x y) _ e)) (same-eq xs ys (both_right (eqb x y) _ e))

same_refl : (xs : List ℕ) → same_list xs xs ≡ true
same_refl [] = refl
same_refl (x ∷ xs) = rw (eq-eqb x x refl) (same_refl xs)

pub record Queues (w : ℕ → ℕ) (hs used lens : List ℕ) : Type 0 where
  pub qs : List (List ℕ)
  pub heads : hs ≡ starts qs
  pub linked : LinkedAll w qs
  pub sole : Sole used (flat qs)
  pub recorded : Recorded lens (receiving qs)

-- descriptors of linked queues are at most 2044
pub linked-all-small : (w : ℕ → ℕ) (qs : List (List ℕ)) → LinkedAll w qs → All (λ d. d ≤ 2044) (flat qs)
linked-all-small w [] l = tt
linked-all-small w (q ∷ qs) l = all_join _ q (flat qs) (linked-small w q l.0) (linked-all-small w qs l.1)

firsts-ones : (w : ℕ → ℕ) (qs : List (List ℕ)) → LinkedAll w qs → Apart (receiving qs)
    → firsts_all w (starts qs) empty_set ≡ ones empty_set (receiving qs)
firsts-ones w qs l a =
    firsts-list w qs empty_set l length-empty_set a (all-every (λ d. get_or empty_set d 0 ≡ 0) get_or-empty_set (receiving qs))

pub sound-yes : (w : ℕ → ℕ) (qs : List (List ℕ)) (used lens : List ℕ) → LinkedAll w qs → Sole used (flat qs) → Recorded lens (receiving qs)
    → sound w (starts qs) used lens ≡ true
unfolding sound
sound-yes w qs used lens l s r =
    let t = heads-walk w qs empty_set [] sole-empty l (λ k. rw (append-nil (flat qs)) (s.once k)) in
    let e : (walk_all w (starts qs) empty_set).1 ≡ used = sole-unique (rw (append-nil (flat qs)) at t.sole) s in
    let a = apart-receiving qs (sole-apart s) in
    let b = receiving-all _ qs (linked-all-small w qs l) in
    simp (t.ends, e, same_refl used, firsts-ones w qs l a) (recorded-lengths (receiving qs) lens b a r)

pub sound-queues : (w : ℕ → ℕ) (hs used lens : List ℕ) → sound w hs used lens ≡ true → Queues w hs used lens
unfolding sound
sound-queues w hs used lens e =
    let c = both_right (walk_all w hs empty_set).0 _ e in
    let u : (walk_all w hs empty_set).1 ≡ used = same-eq _ _ (both_left (same_list (walk_all w hs empty_set).1 used) _ c) in
    let f : lengths_fit (firsts_all w hs empty_set) lens ≡ true = both_right (same_list (walk_all w hs empty_set).1 used) _ c in
    made (walk-heads w hs empty_set [] sole-empty (both_left (walk_all w hs empty_set).0 _ e)) u f
  where
    made : Heads w hs [] (walk_all w hs empty_set).1 → (walk_all w hs empty_set).1 ≡ used
        → lengths_fit (firsts_all w hs empty_set) lens ≡ true
        → Queues w hs used lens
    made h u f =
        let s : Sole used (flat h.qs) = rw (append-nil (flat h.qs)) at (rw u at h.sole) in
        let a = apart-receiving h.qs (sole-apart s) in
        let b = receiving-all _ h.qs (linked-all-small w h.qs h.linked) in
        let g : lengths_fit (ones empty_set (receiving h.qs)) lens ≡ true =
        rw (firsts-ones w h.qs h.linked a) at (rw h.heads at f) in
        record { qs = h.qs; heads = h.heads; linked = h.linked; sole = s; recorded = lengths-recorded (receiving h.qs) lens b a g }
