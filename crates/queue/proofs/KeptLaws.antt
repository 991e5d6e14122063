-- The release over the list of descriptors. Assumes nothing.
--     Flags, NoEop, Live       word 3 agrees; no packet ends here; OWNER set and TD clear at the head
--     gone-kept                what went and what is left are the queue
--     kept-linked, kept-linked-all   what is left is linked
--     kept-agree               the same flags, the same release
--     kept-kept, kept_again    absorption: new words that left the flags of what went; the release again changes nothing
--     gone-again               nothing more goes
--     kept-live                OWNER set and TD clear at the head: nothing goes
--     kept-torn, kept_whole    TD at the head, or the mode that drops all: all goes
--     kept-packet, kept-done   a finished packet goes, and the rest with it where its last has EOQ
use Prim.Native.Nat.{ℕ, suc, ◌+◌}
use mathlib.Core.Path.{◌≡◌, refl, ap, ◌∙◌, sym}
use mathlib.Core.Bool.{Bool, true, false}
use mathlib.Core.List.{List, [], ◌∷◌, ◌++◌}
use native.Mathlib.Omega.{arith}
use lib.ListN.{length, length-append}
use Rattle.std.specs.Prelude.{None, Some}
use Rattle.layout.specs.Choice.{pick}
use Rattle.descriptor.specs.Fields.{eop, owner, eoq, td}
use Rattle.book.specs.declared.Mode.{Mode}
use Rattle.book.specs.declared.Mode.TheVariants.{Head, Packet, All as Whole}
use Rattle.book.specs.Release.{Plan, through, plan}
use Rattle.queue.proofs.Queue.{All, Linked, carry, kept, gone, kept_all, gone_all, LinkedAll}
use Rattle.queue.proofs.LinkLaws.{all-every, linked-right}

-- the two agree on word 3 of d
abbrev pub Flags : (ℕ → ℕ) → (ℕ → ℕ) → ℕ → Type 0
Flags w v d = v (d + 3) ≡ w (d + 3)

-- no packet ends at d
abbrev pub NoEop : (ℕ → ℕ) → ℕ → Type 0
NoEop w d = eop (w (d + 3)) ≡ false

-- OWNER set and TD clear at the head
abbrev pub Live : (ℕ → ℕ) → List ℕ → Type 0
Live w [] = Unit
Live w (d ∷ ds) = (owner (w (d + 3)) ≡ true) × (td (w (d + 3)) ≡ false)

pub gone-kept : (w : ℕ → ℕ) (n : Mode) (ds : List ℕ) → gone w n ds ++ kept w n ds ≡ ds
gone-kept w n [] = refl
gone-kept w n (d ∷ ds) = at (plan n (w (d + 3))) (λ k. gone-kept w k ds)
  where
    at : (p : Plan) → ((k : Mode) → gone w k ds ++ kept w k ds ≡ ds)
        → carry p [] (λ k. d ∷ gone w k ds) ++ carry p (d ∷ ds) (λ k. kept w k ds) ≡ d ∷ ds
    at None h = refl
    at (Some k) h = ap (λ (l : List ℕ). d ∷ l) (h k)

pub kept-linked : (w : ℕ → ℕ) (n : Mode) (ds : List ℕ) → Linked w ds → Linked w (kept w n ds)
kept-linked w n ds l = linked-right w (gone w n ds) (kept w n ds) (rw (gone-kept w n ds) l)

pub kept-linked-all : (w : ℕ → ℕ) (n : Mode) (qs : List (List ℕ)) → LinkedAll w qs → LinkedAll w (kept_all w n qs)
kept-linked-all w n [] l = tt
kept-linked-all w n (q ∷ qs) l = (kept-linked w n q l.0, kept-linked-all w n qs l.1)

pub kept-agree : (w v : ℕ → ℕ) (n : Mode) (ds : List ℕ) → All (Flags w v) ds → kept v n ds ≡ kept w n ds
kept-agree w v n [] a = refl
kept-agree w v n (d ∷ ds) a = rw a.0 (at (plan n (w (d + 3))) (λ k. kept-agree w v k ds a.1))
  where
    at : (p : Plan) → ((k : Mode) → kept v k ds ≡ kept w k ds) → carry p (d ∷ ds) (λ k. kept v k ds) ≡ carry p (d ∷ ds) (λ k. kept w k ds)
    at None h = refl
    at (Some k) h = h k

-- ---- where it stops, and where all goes

pub kept-live : (w : ℕ → ℕ) (ds : List ℕ) → Live w ds → kept w Head ds ≡ ds
unfolding plan
kept-live w [] l = refl
kept-live w (d ∷ ds) l = simp (l.0, l.1)

pub kept_whole : (w : ℕ → ℕ) (ds : List ℕ) → kept w Whole ds ≡ []
unfolding plan
kept_whole w [] = refl
kept_whole w (d ∷ ds) = kept_whole w ds

-- TD at the head
pub kept-torn : (w : ℕ → ℕ) (d : ℕ) (ds : List ℕ) → td (w (d + 3)) ≡ true → kept w Head (d ∷ ds) ≡ []
unfolding plan
kept-torn w d ds t = rw t (kept_whole w ds)

-- ---- absorption

-- only a head is kept
through-goes : (x : ℕ) → through x ≡ None → ⊥
through-goes x e = at (eop x) (eoq x) e
  where
    at : (a b : Bool) → pick {A = Plan} a (pick b (Some Whole) (Some Head)) (Some Packet) ≡ None → ⊥
    at true true e = let z : ◌≡◌ {A = ℕ} 0 1 = cc in omega arith
    at true false e = let z : ◌≡◌ {A = ℕ} 0 1 = cc in omega arith
    at false b e = let z : ◌≡◌ {A = ℕ} 0 1 = cc in omega arith

keep-head : (n : Mode) (x : ℕ) → plan n x ≡ None → n ≡ Head
unfolding plan
keep-head Head x e = refl
keep-head Packet x e = absurd (through-goes x e)
keep-head Whole x e = let z : ◌≡◌ {A = ℕ} 0 1 = cc in absurd (omega arith)

pub kept-kept : (w v : ℕ → ℕ) (n : Mode) (ds : List ℕ) → All (Flags w v) (gone w n ds) → kept v n ds ≡ kept v Head (kept w n ds)
kept-kept w v n [] a = refl
kept-kept w v n (d ∷ ds) a = at n (plan n (w (d + 3))) refl a (λ k. kept-kept w v k ds)
  where
    at : (n : Mode) (p : Plan) → plan n (w (d + 3)) ≡ p → All (Flags w v) (carry p [] (λ k. d ∷ gone w k ds))
        → ((k : Mode) → All (Flags w v) (gone w k ds) → kept v k ds ≡ kept v Head (kept w k ds))
        → carry (plan n (v (d + 3))) (d ∷ ds) (λ k. kept v k ds) ≡ kept v Head (carry p (d ∷ ds) (λ k. kept w k ds))
    at n (Some k) e b h = rw (b.0, e) (h k b.1)
    at n None e b h = rw (keep-head n _ e) refl

pub kept_again : (w : ℕ → ℕ) (n : Mode) (ds : List ℕ) → kept w Head (kept w n ds) ≡ kept w n ds
kept_again w n ds = sym (kept-kept w w n ds (all-every (Flags w w) (λ d. refl) (gone w n ds)))

-- a list with nothing more behind than itself has nothing before
front-none : (g l : List ℕ) → length (g ++ l) ≡ length l → g ≡ []
front-none [] l e = refl
front-none (x ∷ g) l e = let h : suc (length (g ++ l)) ≡ length l = e in absurd (omega (arith, length-append g l))

pub gone-again : (w : ℕ → ℕ) (n : Mode) (ds : List ℕ) → gone w Head (kept w n ds) ≡ []
gone-again w n ds =
    front-none (gone w Head (kept w n ds)) (kept w n ds)
    (ap length (ap (λ (l : List ℕ). gone w Head (kept w n ds) ++ l) (sym (kept_again w n ds)) ∙ gone-kept w Head (kept w n ds)))

pub gone-all-again : (w : ℕ → ℕ) (n : Mode) (qs : List (List ℕ)) → gone_all w Head (kept_all w n qs) ≡ []
gone-all-again w n [] = refl
gone-all-again w n (q ∷ qs) = rw (gone-again w n q, gone-all-again w n qs) refl

pub kept-all-again : (w : ℕ → ℕ) (n : Mode) (qs : List (List ℕ)) → kept_all w Head (kept_all w n qs) ≡ kept_all w n qs
kept-all-again w n [] = refl
kept-all-again w n (q ∷ qs) = rw (kept_again w n q, kept-all-again w n qs) refl

-- ---- a finished packet: no EOP before d, EOP at d

pub kept-packet : (w : ℕ → ℕ) (cs : List ℕ) (d : ℕ) (rs : List ℕ) → All (NoEop w) cs → eop (w (d + 3)) ≡ true
    → kept w Packet (cs ++ d ∷ rs) ≡ pick (eoq (w (d + 3))) [] (kept w Head rs)
unfolding plan
kept-packet w [] d rs a e = rw e (at (eoq (w (d + 3))))
  where
    at : (b : Bool) → carry (pick b (Some Whole) (Some Head)) (d ∷ rs) (λ k. kept w k rs) ≡ pick b [] (kept w Head rs)
    at true = kept_whole w rs
    at false = refl
kept-packet w (c ∷ cs) d rs a e = rw a.0 (kept-packet w cs d rs a.1 e)

-- OWNER cleared in the first
pub kept-done : (w : ℕ → ℕ) (cs : List ℕ) (d : ℕ) (rs : List ℕ) → All (NoEop w) cs → eop (w (d + 3)) ≡ true
    → (f : ℕ) (fs : List ℕ) → cs ++ d ∷ rs ≡ f ∷ fs → td (w (f + 3)) ≡ false → owner (w (f + 3)) ≡ false
    → kept w Head (cs ++ d ∷ rs) ≡ pick (eoq (w (d + 3))) [] (kept w Head rs)
unfolding plan
kept-done w cs d rs a e f fs q t o = rw q (simp (t, o) (rw q at (kept-packet w cs d rs a e)))
