-- Recorded lengths, and words in use with them, as descriptors are dropped and taken. Assumes nothing.
--     Fits n                   1 to 2,047
--     None k ds                k is none of the list; none_or: equal or not
--     receiving-all            what holds of all descriptors holds of those of the receive queues
--     apart-receiving, apart-receiving-behind   those are apart where all are
--     apart_none               descriptors that are apart are not the same
--     drop-append              dropping, in parts
--     sole-drop-all            dropped descriptors leave exactly the others in use
--     drop-size, drop-zero, drop-other, drop-entry   the lengths then: those dropped are 0, all others as they were
--     recorded-drop            so the recorded lengths are right for what is left of the receive queues
--     recorded-empty           none is recorded for no descriptor
--     recorded-perm, recorded-shift   the order does not matter
--     take_words, sole-add-all the words in use with descriptors taken over free words
--     take-other, take-there     the lengths then: as recorded there, all others as they were
--     gain side ds rx          the receive descriptors, once ds are taken on a side
--     RecordFits, recorded-take   the recorded lengths are right for them, where what is recorded is 1 to 2,047
use Prim.Native.Nat.{ℕ, zero, suc, ◌+◌, ◌≤◌}
use mathlib.Core.Path.{◌≡◌, refl, ap, ◌∙◌, sym}
use mathlib.Core.Bool.{Bool, true, false}
use mathlib.Core.List.{List, [], ◌∷◌, ◌++◌}
use mathlib.Core.Logic.{◌⊎◌, inl, inr, ◌≢◌}
use native.Mathlib.Omega.{arith}
use lib.ListN.{length, get_or, set, length-set}
use lib.Seq.{get_or-set_same, get_or-set_other}
use lib.Dec.{eqb}
use borrow.Author.Tests.{eqb-true, eqb-false}
use Rattle.layout.specs.Layout.{length_max}
use Rattle.layout.specs.declared.Side.{Side}
use Rattle.layout.specs.declared.Side.TheVariants.{Transmit, Receive}
use Rattle.words.specs.WordSet.{empty_set, add_four, drop_four}
use Rattle.words.proofs.SetLaws.{length-empty_set, get_or-empty_set}
use Rattle.descriptor.specs.Fields.{length_of}
use Rattle.book.specs.HandOver.{Uses, recorded_length, take_one, drop_one}
use Rattle.queue.proofs.Queue.{All, Off, Apart, Sole, Recorded, flat, receiving, Unmet, add_all, drop_all, take_all}
use Rattle.queue.proofs.LinkLaws.{all_left, all_right, all_join, all_map, all-mid}
use Rattle.queue.proofs.SoleLaws.{count-append, sole-perm, sole-drop, sole-add, off-ne, apart-right, apart-back}

abbrev pub Fits : ℕ → Type 0
Fits n = (1 ≤ n) × (n ≤ length_max)

-- k is none of the list
abbrev pub None : ℕ → List ℕ → Type 0
None k ds = All (λ d. k ≢ d) ds

pub none_or : (k d : ℕ) → (k ≡ d) ⊎ (k ≢ d)
none_or k d = by (eqb k d) refl
  where
    by : (b : Bool) → eqb k d ≡ b → (k ≡ d) ⊎ (k ≢ d)
    by true e = inl (eqb-true _ _ e)
    by false e = inr (eqb-false _ _ e)

-- those of the receive queues are among all
pub receiving-all : (P : ℕ → Type 0) (qs : List (List ℕ)) → All P (flat qs) → All P (receiving qs)
receiving-all P [] a = tt
receiving-all P (t ∷ []) a = tt
receiving-all P (t ∷ r ∷ qs) a =
    let b = all_right P t (r ++ flat qs) a in
    all_join P r (receiving qs) (all_left P r (flat qs) b) (receiving-all P qs (all_right P r (flat qs) b))

-- apart from all descriptors, apart from those of the receive queues
-- part of a list that is behind others
apart-cut : (ds es fs : List ℕ) → ((P : ℕ → Type 0) → All P es → All P fs) → (Apart es → Apart fs) → Apart (ds ++ es) → Apart (ds ++ fs)
apart-cut [] es fs f g a = g a
apart-cut (d ∷ ds) es fs f g a =
    (all_join (Off d) ds fs (all_left (Off d) ds es a.0) (f (Off d) (all_right (Off d) ds es a.0)), apart-cut ds es fs f g a.1)

pub apart-receiving : (qs : List (List ℕ)) → Apart (flat qs) → Apart (receiving qs)
apart-receiving [] a = tt
apart-receiving (t ∷ []) a = tt
apart-receiving (t ∷ r ∷ qs) a =
    apart-cut r (flat qs) (receiving qs) (λ P. receiving-all P qs) (apart-receiving qs) (apart-right t (r ++ flat qs) a)

pub apart-receiving-behind : (ds : List ℕ) (qs : List (List ℕ)) → Apart (ds ++ flat qs) → Apart (ds ++ receiving qs)
apart-receiving-behind ds qs a = apart-cut ds (flat qs) (receiving qs) (λ P. receiving-all P qs) (apart-receiving qs) a

-- what is apart is not the same
pub apart_none : (cs es : List ℕ) → Apart (cs ++ es) → All (λ d. None d cs) es
apart_none [] es a = every es
  where
    every : (es : List ℕ) → All (λ d. Unit) es
    every [] = tt
    every (e ∷ es) = (tt, every es)
apart_none (c ∷ cs) es a = both_of es (all_right (Off c) cs es a.0) (apart_none cs es a.1)
  where
    both_of : (es : List ℕ) → All (Off c) es → All (λ d. None d cs) es → All (λ d. None d (c ∷ cs)) es
    both_of [] x y = tt
    both_of (e ∷ es) x y = ((off-ne c e x.0, y.0), both_of es x.1 y.1)

-- a zero stored is read as 0 there, wherever it stands, and changes no zero
set-zero : (l : List ℕ) (i : ℕ) → get_or (set l i 0) i 0 ≡ 0
set-zero [] i = refl
set-zero (x ∷ l) zero = refl
set-zero (x ∷ l) (suc i) = set-zero l i

zero-stays : (l : List ℕ) (i k : ℕ) → get_or l k 0 ≡ 0 → get_or (set l i 0) k 0 ≡ 0
zero-stays [] i k h = refl
zero-stays (x ∷ l) zero zero h = refl
zero-stays (x ∷ l) zero (suc k) h = h
zero-stays (x ∷ l) (suc i) zero h = h
zero-stays (x ∷ l) (suc i) (suc k) h = zero-stays l i k h

-- ---- descriptors dropped

pub drop-append : (u : Uses) (cs es : List ℕ) → drop_all u (cs ++ es) ≡ drop_all (drop_all u cs) es
drop-append u [] es = refl
drop-append u (c ∷ cs) es = drop-append (drop_one u c) cs es

drop-one : (u : Uses) (d : ℕ) → drop_one u d ≡ (drop_four u.0 d, set u.1 d 0)
unfolding drop_one
drop-one u d = refl

pub sole-drop-all : (u : Uses) (cs es : List ℕ) → Sole u.0 (cs ++ es) → Sole (drop_all u cs).0 es
sole-drop-all u [] es s = s
sole-drop-all u (c ∷ cs) es s =
    sole-drop-all (drop_one u c) cs es (rw (drop-one u c) (sole-drop c (cs ++ es) s))

pub drop-size : (u : Uses) (cs : List ℕ) → length (drop_all u cs).1 ≡ length u.1
drop-size u [] = refl
drop-size u (c ∷ cs) = drop-size (drop_one u c) cs ∙ rw (drop-one u c) (length-set u.1 c 0)

pub drop-zero : (u : Uses) (cs : List ℕ) (k : ℕ) → get_or u.1 k 0 ≡ 0 → get_or (drop_all u cs).1 k 0 ≡ 0
drop-zero u [] k h = h
drop-zero u (c ∷ cs) k h = drop-zero (drop_one u c) cs k (rw (drop-one u c) (zero-stays u.1 c k h))

pub drop-other : (u : Uses) (cs : List ℕ) (k : ℕ) → None k cs → get_or (drop_all u cs).1 k 0 ≡ get_or u.1 k 0
drop-other u [] k n = refl
drop-other u (c ∷ cs) k n =
    drop-other (drop_one u c) cs k n.1 ∙ rw (drop-one u c) (get_or-set_other u.1 c k 0 0 n.0)

-- each entry is 0 there, or it is none of those dropped
pub drop-entry : (u : Uses) (cs : List ℕ) (k : ℕ) → (get_or (drop_all u cs).1 k 0 ≡ 0) ⊎ None k cs
drop-entry u [] k = inr tt
drop-entry u (c ∷ cs) k = at (none_or k c) (drop-entry (drop_one u c) cs k)
  where
    at : (k ≡ c) ⊎ (k ≢ c) → (get_or (drop_all (drop_one u c) cs).1 k 0 ≡ 0) ⊎ None k cs
        → (get_or (drop_all (drop_one u c) cs).1 k 0 ≡ 0) ⊎ None k (c ∷ cs)
    at (inl e) r = inl (drop-zero (drop_one u c) cs k (rw (drop-one u c, e) (set-zero u.1 c)))
    at (inr n) (inl h) = inl h
    at (inr n) (inr h) = inr (n, h)

-- rx, of which ys is left: nothing of ys is dropped, and what is none of those dropped and none of ys is none of rx
pub recorded-drop : (u : Uses) (cs rx ys : List ℕ) → All (λ d. None d cs) ys → All (λ d. Fits (get_or u.1 d 0)) ys
    → ((k : ℕ) → None k cs → None k ys → None k rx) → Recorded u.1 rx → Recorded (drop_all u cs).1 ys
recorded-drop u cs rx ys a t f r = record {
  size = drop-size u cs ∙ r.size;
  there = keep ys a t;
  elsewhere = λ k n. at k n (drop-entry u cs k);
}
  where
    keep : (es : List ℕ) → All (λ d. None d cs) es → All (λ d. Fits (get_or u.1 d 0)) es → All (λ d. Fits (get_or (drop_all u cs).1 d 0)) es
    keep [] b h = tt
    keep (e ∷ es) b h = (rw (drop-other u cs e b.0) h.0, keep es b.1 h.1)

    at : (k : ℕ) → None k ys → (get_or (drop_all u cs).1 k 0 ≡ 0) ⊎ None k cs → get_or (drop_all u cs).1 k 0 ≡ 0
    at k n (inl h) = h
    at k n (inr h) = drop-zero u cs k (r.elsewhere k (f k h n))

pub recorded-empty : Recorded empty_set []
recorded-empty = record { size = length-empty_set; there = tt; elsewhere = λ k n. get_or-empty_set k }

-- ---- descriptors taken

take-one : (side : Side) (x2 : ℕ) (u : Uses) (d : ℕ) → take_one side x2 u d ≡ (add_four u.0 d, set u.1 d (recorded_length side x2))
unfolding take_one
take-one side x2 u d = refl

pub take_words : (w : ℕ → ℕ) (side : Side) (u : Uses) (ds : List ℕ) → (take_all w side u ds).0 ≡ add_all u.0 ds
take_words w side u [] = refl
take_words w side u (d ∷ ds) =
    take_words w side (take_one side (w (d + 2)) u d) ds ∙ ap (λ (t : Uses). add_all t.0 ds) (take-one side (w (d + 2)) u d)

pub sole-add-all : (u ds cs : List ℕ) → Unmet u ds → Sole u cs → Sole (add_all u ds) (ds ++ cs)
sole-add-all u [] cs f s = s
sole-add-all u (d ∷ ds) cs f s =
    sole-perm (λ k. simp count-append (omega arith)) (sole-add-all (add_four u d) ds (d ∷ cs) f.1 (sole-add d cs f.0 s))

pub take-other : (w : ℕ → ℕ) (side : Side) (u : Uses) (ds : List ℕ) (k : ℕ) → None k ds
    → get_or (take_all w side u ds).1 k 0 ≡ get_or u.1 k 0
take-other w side u [] k n = refl
take-other w side u (d ∷ ds) k n =
    take-other w side (take_one side (w (d + 2)) u d) ds k n.1
    ∙ rw (take-one side (w (d + 2)) u d) (get_or-set_other u.1 d k _ 0 n.0)

pub take-there : (w : ℕ → ℕ) (side : Side) (u : Uses) (ds : List ℕ) → length u.1 ≡ 2048 → All (λ d. d ≤ 2044) ds → Apart ds
    → All (λ d. get_or (take_all w side u ds).1 d 0 ≡ recorded_length side (w (d + 2))) ds
take-there w side u [] l b a = tt
take-there w side u (d ∷ ds) l b a = (
  take-other w side (take_one side (w (d + 2)) u d) ds d (all_map (Off d) (λ e. d ≢ e) (λ e o q. off-ne d e o (sym q)) ds a.0)
      ∙ rw (take-one side (w (d + 2)) u d) (get_or-set_same u.1 d (recorded_length side (w (d + 2))) 0 (omega arith)),
  take-there w side (take_one side (w (d + 2)) u d) ds (rw (take-one side (w (d + 2)) u d) (length-set u.1 d _ ∙ l)) b.1 a.1,
)

-- ---- the order of the receive descriptors does not matter

all_back : (P : ℕ → Type 0) (d : ℕ) (xs ys : List ℕ) → P d × All P (xs ++ ys) → All P (xs ++ d ∷ ys)
all_back P d [] ys a = a
all_back P d (x ∷ xs) ys a = (a.1.0, all_back P d xs ys (a.0, a.1.1))

pub recorded-perm : {l xs ys : List ℕ} → ((P : ℕ → Type 0) → All P xs → All P ys) → ((P : ℕ → Type 0) → All P ys → All P xs)
    → Recorded l xs → Recorded l ys
recorded-perm {l} f g r =
    record { size = r.size; there = f (λ d. Fits (get_or l d 0)) r.there; elsewhere = λ k n. r.elsewhere k (g (λ d. k ≢ d) n) }

pub recorded-shift : {l : List ℕ} (d : ℕ) (xs ys : List ℕ) → Recorded l (xs ++ d ∷ ys) → Recorded l (d ∷ xs ++ ys)
recorded-shift d xs ys r =
    recorded-perm {xs = xs ++ d ∷ ys} {ys = d ∷ xs ++ ys} (λ P a. all-mid P d xs ys a) (λ P a. all_back P d xs ys a) r

-- ---- the recorded lengths, once descriptors are taken

abbrev pub gain : Side → List ℕ → List ℕ → List ℕ
gain Transmit ds rx = rx
gain Receive ds rx = ds ++ rx

-- what is recorded is a length where it counts
abbrev pub RecordFits : Side → ℕ → Type 0
RecordFits Transmit x2 = Unit
RecordFits Receive x2 = Fits (length_of Receive x2)

-- a length stored where no receive descriptor of rx begins
keeps : (l : List ℕ) (d x : ℕ) (rx : List ℕ) → All (λ e. e ≢ d) rx → All (λ e. Fits (get_or l e 0)) rx
    → All (λ e. Fits (get_or (set l d x) e 0)) rx
keeps l d x [] n t = tt
keeps l d x (e ∷ rx) n t = (rw (get_or-set_other l d e x 0 n.0) t.0, keeps l d x rx n.1 t.1)

record-tx : {l : List ℕ} (d : ℕ) (rx : List ℕ) → All (λ e. e ≢ d) rx → Recorded l rx → Recorded (set l d 0) rx
record-tx {l} d rx n r = record {
  size = length-set l d 0 ∙ r.size;
  there = keeps l d 0 rx n r.there;
  elsewhere = λ k m. zero-stays l d k (r.elsewhere k m);
}

record-rx : {l : List ℕ} (d x : ℕ) (rx : List ℕ) → d ≤ 2044 → Fits x → All (λ e. e ≢ d) rx → Recorded l rx → Recorded (set l d x) (d ∷ rx)
record-rx {l} d x rx b f n r = record {
  size = length-set l d x ∙ r.size;
  there = (rw (get_or-set_same l d x 0 (let z = r.size in omega arith)) f, keeps l d x rx n r.there);
  elsewhere = λ k m. get_or-set_other l d k x 0 m.0 ∙ r.elsewhere k m.1;
}

pub recorded-take : (w : ℕ → ℕ) (side : Side) (u : Uses) (ds rx : List ℕ) → All (λ d. d ≤ 2044) ds → Apart (ds ++ rx)
    → All (λ d. RecordFits side (w (d + 2))) ds
    → Recorded u.1 rx → Recorded (take_all w side u ds).1 (gain side ds rx)
recorded-take w Transmit u [] rx b a f r = r
recorded-take w Receive u [] rx b a f r = r
recorded-take w Transmit u (d ∷ ds) rx b a f r =
    recorded-take w Transmit (take_one Transmit (w (d + 2)) u d) ds rx b.1 a.1 f.1
    (rw (take-one Transmit (w (d + 2)) u d) (record-tx d rx (ne-all rx (all_right (Off d) ds rx a.0)) r))
  where
    ne-all : (es : List ℕ) → All (Off d) es → All (λ e. e ≢ d) es
    ne-all es o = all_map (Off d) (λ e. e ≢ d) (off-ne d) es o
recorded-take w Receive u (d ∷ ds) rx b a f r =
    recorded-shift d ds rx
    (recorded-take w Receive (take_one Receive (w (d + 2)) u d) ds (d ∷ rx) b.1 (apart-back d ds rx a) f.1
    (rw (take-one Receive (w (d + 2)) u d)
    (record-rx d (length_of Receive (w (d + 2))) rx b.0 f.0 (ne-all rx (all_right (Off d) ds rx a.0)) r)))
  where
    ne-all : (es : List ℕ) → All (Off d) es → All (λ e. e ≢ d) es
    ne-all es o = all_map (Off d) (λ e. e ≢ d) (off-ne d) es o
