-- The release over pointers is the release over the list. Assumes nothing.
--     released-list            one queue: its head is that of what is kept, and what went is dropped
--     released-queues          all queues
--     gone-kept-count          what goes and what is kept are all descriptors
--     released-again           a second release changes nothing
--     released-sole            the words in use are exactly those of what is kept
--     released-recorded        and so are the recorded lengths
use Prim.Native.Nat.{ℕ, ◌+◌}
use mathlib.Core.Path.{◌≡◌, refl, ap, ◌∙◌, sym}
use mathlib.Core.List.{List, [], ◌∷◌, ◌++◌, append_assoc, append-nil}
use mathlib.Core.Logic.{◌≢◌}
use native.Mathlib.Omega.{arith}
use lib.ListN.{get_or}
use Rattle.std.specs.declared.option.Option.TheVariants as Plans
use Rattle.layout.specs.Run.{after}
use Rattle.layout.specs.Layout.{addr}
use Rattle.layout.proofs.PointerLaws.{good_ptr-addr, word_of-addr, good_ptr-zero}
use Rattle.book.specs.declared.Mode.{Mode}
use Rattle.book.specs.declared.Mode.TheVariants.{Head}
use Rattle.book.specs.HandOver.{Uses, drop_one}
use Rattle.book.specs.Release.{Plan, plan, planned, release_step, released_from, released_all}
use Rattle.book.proofs.ReleaseLaws.{released-eq}
use Rattle.queue.proofs.Queue.{start, All, Linked, LinkedAll, count, Sole, Recorded, flat, starts, receiving, carry, kept, gone}
use Rattle.queue.proofs.Queue.{kept_all, gone_all, drop_all}
use Rattle.queue.proofs.LinkLaws.{all_left, all_right, all_join}
use Rattle.queue.proofs.SoleLaws.{count-append, sole-perm, sole-apart, sole-has}
use Rattle.queue.proofs.KeptLaws.{gone-kept, kept-linked-all, kept-all-again, gone-all-again}
use Rattle.queue.proofs.RecordLaws.{Fits, None, receiving-all, apart_none, drop-append, sole-drop-all, recorded-drop}

-- ---- one queue

pub released-list : (w : ℕ → ℕ) (n : Mode) (ds rs : List ℕ) (u : Uses) → Linked w ds → Sole u.0 (ds ++ rs)
    → released_from w u (start ds) n ≡ (start (kept w n ds), drop_all u (gone w n ds))
unfolding release_step
released-list w n [] rs u l s = released-eq w u 0 n ∙ rw good_ptr-zero refl
released-list w n (d ∷ ds) rs u l s =
    released-eq w u (addr d) n
    ∙ simp (good_ptr-addr d l.0, word_of-addr d, sole-has d (ds ++ rs) d s (omega arith) (omega arith), l.1)
    (at (plan n (w (d + 3))) (λ k. released-list w k ds rs (drop_one u d) l.2 (sole-drop-all u (d ∷ []) (ds ++ rs) s)))
  where
    at : (q : Plan)
        → ((k : Mode) → released_from w (drop_one u d) (start ds) k ≡ (start (kept w k ds), drop_all (drop_one u d) (gone w k ds)))
        → after (planned q u (addr d) (start ds)) (λ t. released_from w t.0 t.1 t.2)
        ≡ (start (carry q (d ∷ ds) (λ k. kept w k ds)), drop_all u (carry q [] (λ k. d ∷ gone w k ds)))
    at Plans.None f = refl
    at (Plans.Some k) f = rw (word_of-addr d) (f k)

-- ---- all queues

all_nil : (w : ℕ → ℕ) (n : Mode) (u : Uses) → released_all w n [] u ≡ ([], u)
unfolding released_all
all_nil w n u = refl

all_cons : (w : ℕ → ℕ) (n : Mode) (h : ℕ) (hs : List ℕ) (u : Uses) (p : ℕ) (v : Uses) (ps : List ℕ) (x : Uses)
    → released_from w u h n ≡ (p, v) → released_all w n hs v ≡ (ps, x) → released_all w n (h ∷ hs) u ≡ (p ∷ ps, x)
unfolding released_all
all_cons w n h hs u p v ps x e f = rw e (rw f refl)

-- what goes of all queues, and what is kept, are all
pub gone-kept-count : (w : ℕ → ℕ) (n : Mode) (qs : List (List ℕ)) (k : ℕ)
    → count (flat qs) k ≡ count (gone_all w n qs ++ flat (kept_all w n qs)) k
gone-kept-count w n [] k = refl
gone-kept-count w n (q ∷ qs) k =
    let h = gone-kept-count w n qs k in
    let a = count-append (gone_all w n qs) (flat (kept_all w n qs)) k in
    let b : count q k ≡ count (gone w n q) k + count (kept w n q) k = ap (λ (l : List ℕ). count l k) (sym (gone-kept w n q))
    ∙ count-append (gone w n q) (kept w n q) k in
    simp count-append (omega arith)

pub released-queues : (w : ℕ → ℕ) (n : Mode) (qs : List (List ℕ)) (rs : List ℕ) (u : Uses) → LinkedAll w qs → Sole u.0 (flat qs ++ rs)
    → released_all w n (starts qs) u ≡ (starts (kept_all w n qs), drop_all u (gone_all w n qs))
released-queues w n [] rs u l s = all_nil w n u
released-queues w n (q ∷ qs) rs u l s =
    let kq = kept w n q in
    let gq = gone w n q in
    let s1 : Sole u.0 (q ++ (flat qs ++ rs)) = rw (append_assoc q (flat qs) rs) at s in
    let e = released-list w n q (flat qs ++ rs) u l.0 s1 in
    let s2 : Sole u.0 ((gq ++ kq) ++ (flat qs ++ rs)) = rw (gone-kept w n q) s1 in
    let s3 : Sole (drop_all u gq).0 (kq ++ (flat qs ++ rs)) =
    sole-drop-all u gq (kq ++ (flat qs ++ rs)) (rw (append_assoc gq kq (flat qs ++ rs)) at s2) in
    let s4 : Sole (drop_all u gq).0 (flat qs ++ (rs ++ kq)) = sole-perm (λ k. simp count-append (omega arith)) s3 in
    all_cons w n (start q) (starts qs) u (start kq) (drop_all u gq) (starts (kept_all w n qs)) (drop_all u (gone_all w n (q ∷ qs))) e
    (rw (drop-append u gq (gone_all w n qs)) (released-queues w n qs (rs ++ kq) (drop_all u gq) l.1 s4))

pub released-sole : (w : ℕ → ℕ) (n : Mode) (qs : List (List ℕ)) (u : Uses) → Sole u.0 (flat qs)
    → Sole (drop_all u (gone_all w n qs)).0 (flat (kept_all w n qs))
released-sole w n qs u s = sole-drop-all u (gone_all w n qs) (flat (kept_all w n qs)) (sole-perm (gone-kept-count w n qs) s)

-- released once, a second release changes nothing
pub released-again : (w : ℕ → ℕ) (n : Mode) (qs : List (List ℕ)) (u : Uses) → LinkedAll w qs → Sole u.0 (flat qs)
    → released_all w Head (starts (kept_all w n qs)) (drop_all u (gone_all w n qs))
    ≡ (starts (kept_all w n qs), drop_all u (gone_all w n qs))
released-again w n qs u l s =
    released-queues w Head (kept_all w n qs) [] (drop_all u (gone_all w n qs)) (kept-linked-all w n qs l)
    (rw (append-nil (flat (kept_all w n qs))) (released-sole w n qs u s))
    ∙ rw (kept-all-again w n qs, gone-all-again w n qs) refl

-- ---- recorded lengths

-- what is kept of the receive queues is of them
receiving-kept : (P : ℕ → Type 0) (w : ℕ → ℕ) (n : Mode) (qs : List (List ℕ)) → All P (receiving qs) → All P (receiving (kept_all w n qs))
receiving-kept P w n [] a = tt
receiving-kept P w n (t ∷ []) a = tt
receiving-kept P w n (t ∷ r ∷ qs) a =
    all_join P (kept w n r) (receiving (kept_all w n qs))
    (all_right P (gone w n r) (kept w n r) (rw (gone-kept w n r) (all_left P r (receiving qs) a)))
    (receiving-kept P w n qs (all_right P r (receiving qs) a))

-- and what is not gone and not kept is not of them
receiving-none : (P : ℕ → Type 0) (w : ℕ → ℕ) (n : Mode) (qs : List (List ℕ)) → All P (gone_all w n qs)
    → All P (receiving (kept_all w n qs))
    → All P (receiving qs)
receiving-none P w n [] a b = tt
receiving-none P w n (t ∷ []) a b = tt
receiving-none P w n (t ∷ r ∷ qs) a b =
    let a1 = all_right P (gone w n t) (gone w n r ++ gone_all w n qs) a in
    let h : All P (gone w n r ++ kept w n r) =
    all_join P (gone w n r) (kept w n r) (all_left P (gone w n r) (gone_all w n qs) a1)
    (all_left P (kept w n r) (receiving (kept_all w n qs)) b) in
    all_join P r (receiving qs) (rw (gone-kept w n r) at h)
    (receiving-none P w n qs (all_right P (gone w n r) (gone_all w n qs) a1) (all_right P (kept w n r) (receiving (kept_all w n qs)) b))

pub released-recorded : (w : ℕ → ℕ) (n : Mode) (qs : List (List ℕ)) (u : Uses) → Sole u.0 (flat qs) → Recorded u.1 (receiving qs)
    → Recorded (drop_all u (gone_all w n qs)).1 (receiving (kept_all w n qs))
released-recorded w n qs u s r =
    let gs = gone_all w n qs in
    let a = sole-apart {ds = gs ++ flat (kept_all w n qs)} (sole-perm (gone-kept-count w n qs) s) in
    recorded-drop u gs (receiving qs) (receiving (kept_all w n qs))
    (receiving-all (λ d. None d gs) (kept_all w n qs) (apart_none gs (flat (kept_all w n qs)) a))
    (receiving-kept (λ d. Fits (get_or u.1 d 0)) w n qs r.there)
    (λ k x y. receiving-none (λ d. k ≢ d) w n qs x y) r
