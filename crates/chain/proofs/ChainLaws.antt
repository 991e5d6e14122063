-- What holds along a chain. Assumes nothing.
--     fault_at-step                  a step by the one number that holds 12 to 17
--     fault_at-none, fault_at-16      no fault: a good pointer over free words; 16: a good pointer, and the length is in order
--     fault_at-number                a fault's number is one from 12 to 17
--     judge_step-go, judge_step-stop  where a step goes, and with what it stops
--     judge_step-falls               a descriptor that hands on leaves fewer words that were not met
--     chain-eq                      the recursion equation: one descriptor, and then the chain from where it goes
--     chain-12, chain-13, chain-fault, chain-end, chain-go   its cases
--     desc_fault-16                  where the fault is 16, the length is in order
--     chain-place                   the number of a fault is one from 12 to 17, its place a word, and it is measured where the fault is 16
use Prim.Native.Nat.{ℕ, zero, suc, ◌+◌, ◌≤◌, ◌<◌, ◌^◌}
use mathlib.Core.Path.{◌≡◌, refl, ap, ◌∙◌, sym}
use mathlib.Core.Bool.{Bool, true, false}
use mathlib.Core.Logic.{◌⊎◌, inl, inr, ⊎_elim, ◌≢◌}
use mathlib.Core.List.{List}
use native.Mathlib.Omega.{arith}
use lib.Dec.{eqb, ltb}
use borrow.Author.Tests.{eq-eqb, ne_eqb, eqb-true}
use Rattle.layout.specs.Choice.{pick, or_else}
use Rattle.layout.specs.Run.{Next, go, stop, after, run_for, run}
use Rattle.layout.proofs.RunLaws.{run-eq}
use Rattle.layout.specs.Layout.{address_end, good_ptr, word_of}
use Rattle.layout.specs.declared.Side.{Side}
use Rattle.words.specs.WordSet.{free_at, add_four, free_count}
use Rattle.words.proofs.SetLaws.{free_count-falls}
use Rattle.descriptor.specs.Fields.{sop, eop, owner, eoq, td, length_of, first_byte}
use Rattle.descriptor.specs.Rules.{side_at, end_flags_fault, flags_fault, offset_bad, length_fault}
use Rattle.descriptor.specs.Rules.{end_fault, sum_fault, behind, next_fault}
use Rattle.descriptor.proofs.RuleLaws.{side_at-behind}
use Rattle.descriptor.specs.declared.Place.{Place}
use Rattle.descriptor.specs.declared.Place.TheVariants.{Start, Middle, Buffer}
use Rattle.chain.specs.Chain.{block_fault, desc_fault, JSt, JOut, past_desc, judge_step, chain_of}
use Rattle.chain.specs.Hands.{fault_at, IsNumber, Measured}

-- ---- which numbers a descriptor's rules give

-- none, or one from 12 to top
abbrev Upto : ℕ → ℕ → Type 0
Upto top n = (n ≡ 0) ⊎ ((12 ≤ n) × (n ≤ top))

one : (top n : ℕ) → 12 ≤ n → n ≤ top → Upto top n
one top n h g = inr (h, g)

higher : (top n k : ℕ) → Upto top n → top ≤ k → Upto k n
higher top n k u h = ⊎_elim (λ z. inl z) (λ r. inr (r.0, omega arith)) u

below : (top n : ℕ) → Upto top n → n ≤ top
below top n u = ⊎_elim (λ z. omega arith) (λ r. r.1) u

pick-upto : (b : Bool) (top x y : ℕ) → Upto top x → Upto top y → Upto top (pick b x y)
pick-upto true top x y h g = h
pick-upto false top x y h g = g

flag : Upto 14 14
flag = inr (omega arith, omega arith)

end_flags-upto : (x3 : ℕ) → Upto 14 (end_flags_fault x3)
end_flags-upto x3 = pick-upto (eoq x3) 14 14 _ flag (pick-upto (td x3) 14 14 0 flag (inl refl))

flags_fault-upto : (pl : Place) (x3 : ℕ) → Upto 14 (flags_fault pl x3)
unfolding flags_fault
flags_fault-upto Start x3 =
    pick-upto (sop x3) 14 _ 14 (pick-upto (owner x3) 14 _ 14 (end_flags-upto x3) flag) flag
flags_fault-upto (Middle s n) x3 = pick-upto (sop x3) 14 14 _ flag (end_flags-upto x3)
flags_fault-upto Buffer x3 =
    pick-upto (owner x3) 14 _ 14 (pick-upto (sop x3) 14 14 _ flag (pick-upto (eop x3) 14 14 _ flag (end_flags-upto x3))) flag

length_fault-upto : (side : Side) (x1 x2 x3 : ℕ) → Upto 15 (length_fault side x1 x2 x3)
unfolding length_fault
length_fault-upto side x1 x2 x3 =
    pick-upto (eqb (length_of side x2) 0) 15 15 _ bad
    (pick-upto (offset_bad side x2) 15 15 _ bad
    (pick-upto (ltb address_end (first_byte side x1 x2 x3 + length_of side x2)) 15 15 0 bad (inl refl)))
  where
    bad : Upto 15 15
    bad = inr (omega arith, omega arith)

block_fault-upto : (kinds : List ℕ) (side : Side) (x1 x2 x3 : ℕ) → Upto 17 (block_fault kinds side x1 x2 x3)
unfolding block_fault
block_fault-upto kinds side x1 x2 x3 = pick-upto _ 17 0 16 (inl refl) (inr (omega arith, omega arith))

unfinished : Upto 17 17
unfinished = inr (omega arith, omega arith)

sum_fault-upto : (pl : Place) (x2 x3 : ℕ) → Upto 17 (sum_fault pl x2 x3)
unfolding sum_fault end_fault
sum_fault-upto Start x2 x3 = pick-upto (eop x3) 17 _ 0 (pick-upto _ 17 0 17 (inl refl) unfinished) (inl refl)
sum_fault-upto (Middle s n) x2 x3 = pick-upto (eop x3) 17 _ 0 (pick-upto _ 17 0 17 (inl refl) unfinished) (inl refl)
sum_fault-upto Buffer x2 x3 = inl refl

next_fault-upto : (pl : Place) (x0 : ℕ) → Upto 17 (next_fault pl x0)
unfolding next_fault
next_fault-upto Start x0 = pick-upto (eqb x0 0) 17 0 0 (inl refl) (inl refl)
next_fault-upto (Middle s n) x0 = pick-upto (eqb x0 0) 17 17 0 unfinished (inl refl)
next_fault-upto Buffer x0 = pick-upto (eqb x0 0) 17 0 0 (inl refl) (inl refl)

or_else-upto : (a b : ℕ) → Upto 17 a → Upto 17 b → Upto 17 (or_else a b)
or_else-upto a b h g = pick-upto (eqb a 0) 17 b a g h

desc_fault-upto : (kinds : List ℕ) (w : ℕ → ℕ) (pl : Place) (d : ℕ) → Upto 17 (desc_fault kinds w pl d)
unfolding desc_fault
desc_fault-upto kinds w pl d =
    or_else-upto _ _ (higher 14 _ 17 (flags_fault-upto pl (w (d + 3))) (omega arith))
    (or_else-upto _ _ (higher 15 _ 17 (length_fault-upto (side_at pl) (w (d + 1)) (w (d + 2)) (w (d + 3))) (omega arith))
    (or_else-upto _ _ (block_fault-upto kinds (side_at pl) (w (d + 1)) (w (d + 2)) (w (d + 3)))
    (or_else-upto _ _ (sum_fault-upto pl (w (d + 2)) (w (d + 3))) (next_fault-upto (behind pl (w (d + 2)) (w (d + 3))) (w d)))))

-- a higher number says that the lower rule was kept
past-lower : (n a b : ℕ) → a < n → or_else a b ≡ n → (a ≡ 0) × (b ≡ n)
past-lower n a b h e = at (eqb a 0) refl e
  where
    at : (t : Bool) → eqb a 0 ≡ t → pick t b a ≡ n → (a ≡ 0) × (b ≡ n)
    at true q r = (eqb-true a 0 q, r)
    at false q r = absurd (omega arith)

pub desc_fault-16 : (kinds : List ℕ) (w : ℕ → ℕ) (pl : Place) (d : ℕ) → desc_fault kinds w pl d ≡ 16
    → length_fault (side_at pl) (w (d + 1)) (w (d + 2)) (w (d + 3)) ≡ 0
unfolding desc_fault
desc_fault-16 kinds w pl d e =
    let flags = past-lower 16 (flags_fault pl (w (d + 3))) _ (omega (arith, below 14 _ (flags_fault-upto pl (w (d + 3))))) e in
    let size = length_fault (side_at pl) (w (d + 1)) (w (d + 2)) (w (d + 3)) in
    (past-lower 16 size _ (omega (arith, below 15 _ (length_fault-upto (side_at pl) (w (d + 1)) (w (d + 2)) (w (d + 3))))) flags.1).0

-- ---- one descriptor

module _ (kinds : List ℕ) (w : ℕ → ℕ) (pl : Place) (met : List ℕ) (p : ℕ) where
  -- 12, 13 and the rest are one number
  pub fault_at-step : judge_step kinds w (pl, met, p)
      ≡ pick (eqb (fault_at kinds w pl met p) 0) (past_desc w pl met (word_of p)) (stop (fault_at kinds w pl met p, p, met))
  unfolding judge_step fault_at
  fault_at-step = at (good_ptr p) (free_at met (word_of p)) (desc_fault kinds w pl (word_of p)) (past_desc w pl met (word_of p))
    where
      at : (a b : Bool) (n : ℕ) (x : Next JSt JOut)
          → pick a (pick b (pick (eqb n 0) x (stop (n, p, met))) (stop (13, p, met))) (stop (12, p, met))
          ≡ pick (eqb (pick a (pick b n 13) 12) 0) x (stop (pick a (pick b n 13) 12, p, met))
      at true true n x = refl
      at true false n x = refl
      at false b n x = refl

  pub fault_at-none : fault_at kinds w pl met p ≡ 0 → (good_ptr p ≡ true) × (free_at met (word_of p) ≡ true)
  unfolding fault_at
  fault_at-none e = at (good_ptr p) (free_at met (word_of p)) _ e
    where
      at : (a b : Bool) (n : ℕ) → pick a (pick b n 13) 12 ≡ 0 → (a ≡ true) × (b ≡ true)
      at true true n q = (refl, refl)
      at true false n q = absurd (omega arith)
      at false b n q = absurd (omega arith)

  pub fault_at-16 : fault_at kinds w pl met p ≡ 16 → Measured w (side_at pl) p
  unfolding fault_at
  fault_at-16 e = at (good_ptr p) (free_at met (word_of p)) refl e
    where
      at : (a b : Bool) → good_ptr p ≡ a → pick a (pick b (desc_fault kinds w pl (word_of p)) 13) 12 ≡ 16 → Measured w (side_at pl) p
      at true true g q = (g, desc_fault-16 kinds w pl (word_of p) q)
      at true false g q = absurd (omega arith)
      at false b g q = absurd (omega arith)

  pub fault_at-number : IsNumber (fault_at kinds w pl met p)
  unfolding fault_at
  fault_at-number =
      pick-upto (good_ptr p) 17 _ 12 (pick-upto (free_at met (word_of p)) 17 _ 13 (desc_fault-upto kinds w pl (word_of p))
      (inr (omega arith, omega arith))) (inr (omega arith, omega arith))

  -- the descriptor after this one, with its place and the words met before it
  abbrev onward : JSt
  onward = (behind pl (w (word_of p + 2)) (w (word_of p + 3)), add_four met (word_of p), w (word_of p))

  pub judge_step-go : (t : JSt) → judge_step kinds w (pl, met, p) ≡ go t → (fault_at kinds w pl met p ≡ 0) × (onward ≡ t)
  judge_step-go t e = at (eqb (fault_at kinds w pl met p) 0) (eqb (w (word_of p)) 0) refl (sym fault_at-step ∙ e)
    where
      at : (a b : Bool) → eqb (fault_at kinds w pl met p) 0 ≡ a
          → pick {A = Next JSt JOut} a (pick b (stop (0, 0, add_four met (word_of p))) (go onward))
          (stop (fault_at kinds w pl met p, p, met))
          ≡ go t
          → (fault_at kinds w pl met p ≡ 0) × (onward ≡ t)
      at true true f q = let z : ◌≡◌ {A = ℕ} 0 1 = cc in absurd (omega arith)
      at true false f q = (eqb-true _ _ f, cc)
      at false b f q = let z : ◌≡◌ {A = ℕ} 0 1 = cc in absurd (omega arith)

  pub judge_step-stop : (j : JOut) → judge_step kinds w (pl, met, p) ≡ stop j
      → ((0, 0, add_four met (word_of p)) ≡ j) ⊎ ((fault_at kinds w pl met p, p, met) ≡ j)
  judge_step-stop j e = at (eqb (fault_at kinds w pl met p) 0) (eqb (w (word_of p)) 0) (sym fault_at-step ∙ e)
    where
      at : (a b : Bool)
          → pick {A = Next JSt JOut} a (pick b (stop (0, 0, add_four met (word_of p))) (go onward))
          (stop (fault_at kinds w pl met p, p, met))
          ≡ stop j
          → ((0, 0, add_four met (word_of p)) ≡ j) ⊎ ((fault_at kinds w pl met p, p, met) ≡ j)
      at true true q = inl (cc)
      at true false q = let z : ◌≡◌ {A = ℕ} 0 1 = cc in absurd (omega arith)
      at false b q = inr (cc)

  step_falls : (t : JSt) → judge_step kinds w (pl, met, p) ≡ go t → free_count t.1 < free_count met
  step_falls t e =
      let g = judge_step-go t e in
      rw (← g.1) (free_count-falls met (word_of p) (fault_at-none g.0).1)

pub judge_step-falls : (kinds : List ℕ) (w : ℕ → ℕ) (s t : JSt) → judge_step kinds w s ≡ go t → free_count t.1 < free_count s.1
judge_step-falls kinds w s t e = step_falls kinds w s.0 s.1 s.2 t e

-- ---- the chain, case by case

module _ (kinds : List ℕ) (w : ℕ → ℕ) (pl : Place) (met : List ℕ) (p : ℕ) where
  pub chain-eq : chain_of kinds w pl met p ≡ after (judge_step kinds w (pl, met, p)) (λ t. chain_of kinds w t.0 t.1 t.2)
  unfolding chain_of
  chain-eq = run-eq (judge_step kinds w) _ _ (judge_step-falls kinds w) (pl, met, p)

  -- the equation, once it is known what the step does
  chain-step : (x : Next JSt JOut) → judge_step kinds w (pl, met, p) ≡ x
      → chain_of kinds w pl met p ≡ after x (λ t. chain_of kinds w t.0 t.1 t.2)
  chain-step x e = chain-eq ∙ ap (λ (y : Next JSt JOut). after y (λ t. chain_of kinds w t.0 t.1 t.2)) e

  pub chain-12 : good_ptr p ≡ false → chain_of kinds w pl met p ≡ (12, p, met)
  unfolding judge_step
  chain-12 g = chain-step (stop (12, p, met)) (simp g)

  module _ (g : good_ptr p ≡ true) where
    pub chain-13 : free_at met (word_of p) ≡ false → chain_of kinds w pl met p ≡ (13, p, met)
    unfolding judge_step
    chain-13 f = chain-step (stop (13, p, met)) (simp (g, f))

    module _ (f : free_at met (word_of p) ≡ true) where
      pub chain-fault : desc_fault kinds w pl (word_of p) ≢ 0 → chain_of kinds w pl met p ≡ (desc_fault kinds w pl (word_of p), p, met)
      unfolding judge_step
      chain-fault n = chain-step (stop (desc_fault kinds w pl (word_of p), p, met)) (simp (g, f, ne_eqb _ _ n))

      module _ (n : desc_fault kinds w pl (word_of p) ≡ 0) where
        pub chain-end : w (word_of p) ≡ 0 → chain_of kinds w pl met p ≡ (0, 0, add_four met (word_of p))
        unfolding judge_step
        chain-end z = chain-step (stop (0, 0, add_four met (word_of p))) (simp (g, f, eq-eqb _ _ n, eq-eqb _ _ z))

        pub chain-go : w (word_of p) ≢ 0
            → chain_of kinds w pl met p ≡ chain_of kinds w (behind pl (w (word_of p + 2)) (w (word_of p + 3))) (add_four met (word_of p))
            (w (word_of p))
        unfolding judge_step
        chain-go z = chain-step (go (onward kinds w pl met p)) (simp (g, f, eq-eqb _ _ n, ne_eqb _ _ z))

-- ---- what holds of every answer of a walk, if it holds of each step's

module _ {S R : Type 0} (step : S → Next S R) (out : S → R) (I : S → Type 0) (P : R → Type 0)
    (ends : (s : S) → I s → P (out s)) (stops : (s : S) (r : R) → I s → step s ≡ stop r → P r) (goes : (s t : S) → I s → step s ≡ go t
    → I t) where
  run_for-all : (n : ℕ) (s : S) → I s → P (run_for step out n s)
  run_for-all zero s i = ends s i
  run_for-all (suc n) s i = at (step s) refl (λ t e. run_for-all n t (goes s t i e))
    where
      at : (x : Next S R) → step s ≡ x → ((t : S) → step s ≡ go t → P (run_for step out n t)) → P (after x (λ t. run_for step out n t))
      at (go t) e h = h t e
      at (stop r) e h = stops s r i e

  run-all : (μ : S → ℕ) (s : S) → I s → P (run step out μ s)
  unfolding run
  run-all μ s i = run_for-all (suc (μ s)) s i

-- ---- the place of a fault

module _ (kinds : List ℕ) (w : ℕ → ℕ) (small : (k : ℕ) → w k < 2 ^ 32) (side : Side) where
  abbrev Stands : JSt → Type 0
  Stands s = (side_at s.0 ≡ side) × (s.2 < 2 ^ 32)

  abbrev Told : JOut → Type 0
  Told j = IsNumber j.0 × (j.1 < 2 ^ 32) × (j.0 ≡ 16 → Measured w side j.1)

  stop-told : (s : JSt) (j : JOut) → Stands s → judge_step kinds w s ≡ stop j → Told j
  stop-told s j i e =
      ⊎_elim (λ k. rw (← k) (inl refl, omega arith, λ z. absurd (omega arith)))
      (λ k. rw (← k) (fault_at-number kinds w s.0 s.1 s.2, i.1, λ z. rw (← i.0) (fault_at-16 kinds w s.0 s.1 s.2 z)))
      (judge_step-stop kinds w s.0 s.1 s.2 j e)

  go-stands : (s t : JSt) → Stands s → judge_step kinds w s ≡ go t → Stands t
  go-stands s t i e = rw (← (judge_step-go kinds w s.0 s.1 s.2 t e).1) (side_at-behind s.0 _ _ ∙ i.0, small (word_of s.2))

  pub chain-place : (pl : Place) (met : List ℕ) (p : ℕ) → side_at pl ≡ side → p < 2 ^ 32 → Told (chain_of kinds w pl met p)
  unfolding chain_of
  chain-place pl met p e h =
      run-all (judge_step kinds w) _ Stands Told (λ s i. (inl refl, omega arith, λ z. absurd (omega arith)))
      stop-told go-stands _ (pl, met, p) (e, h)
