-- What the judges of chains come to, in the form that the functions' proofs cite. Assumes nothing.
--     verdict-used                   what is said of a chain, over a copy of the words in use
--     number-single, number-chain    its number, over a copy of the words in use too
--     over-refused, over-taken       a chain: refused, or handed over
--     append-refused, append-taken   an append
use Rattle.std.proofs.Common.{◌≡◌, ◌≢◌, ℕ, List, refl, ap, ◌∙◌, Result, ne_eqb}
use Rattle.layout.specs.declared.Side.{Side}
use Rattle.words.specs.Word.{word, put}
use Rattle.chain.specs.Chain.{place_of, chain_of, Said, verdict_of, verdict_number}
use Rattle.chain.proofs.VerdictLaws.{verdict-number}
use Rattle.book.specs.HandOver.{Uses, taken_from}
use Rattle.guard.specs.Rulings.{handed_over, appended}

pub verdict-used : (side : Side) (kinds : List ℕ) (w : ℕ → ℕ) (u met met2 : List ℕ) (p : ℕ) (c : Result Unit Said) → met ≡ u
    → (c, met2) ≡ verdict_of side kinds w met p
    → c ≡ (verdict_of side kinds w u p).0
verdict-used side kinds w u met met2 p c em ev =
    ap (λ (x : Result Unit Said × List ℕ). x.0) ev ∙ ap (λ (l : List ℕ). (verdict_of side kinds w l p).0) em

module _ (side : Side) (kinds : List ℕ) (w : ℕ → ℕ) (u : List ℕ) (p : ℕ) where
  abbrev number : ℕ
  number = (chain_of kinds w (place_of side) u p).0

  pub number-single : {v : Result Unit Said} {n : ℕ} → v ≡ (verdict_of side kinds w u p).0 → n ≡ verdict_number v → n ≡ number
  number-single e f = f ∙ ap verdict_number e ∙ verdict-number side kinds w u p

  pub number-chain : {v : Result Unit Said} {n : ℕ} {met l : List ℕ} → met ≡ u → (v, l) ≡ verdict_of side kinds w met p
      → n ≡ verdict_number v → n ≡ number
  number-chain {v} {n} {met} {l} s e f = number-single (verdict-used side kinds w u met l p v s e) f

  pub over-refused : (l : List ℕ) (n : ℕ) → n ≡ number → n ≢ 0 → (n, (u, l)) ≡ handed_over side kinds w (u, l) p
  unfolding handed_over
  over-refused l n e h = rw (← e, ne_eqb n 0 h) refl

  pub over-taken : (l : List ℕ) (x : Uses) → 0 ≡ number → x ≡ taken_from w side (u, l) p → (0, x) ≡ handed_over side kinds w (u, l) p
  unfolding handed_over
  over-taken l x e f = rw (← e, f) refl

module _ (side : Side) (kinds : List ℕ) (k : ℕ) (m u : List ℕ) (p : ℕ) where
  pub append-refused : (l : List ℕ) (n : ℕ) → n ≡ number side kinds (word m) u p → n ≢ 0
      → (n, (u, l), m) ≡ appended side kinds k m (u, l) p
  unfolding appended
  append-refused l n e h = rw (← e, ne_eqb n 0 h) refl

  pub append-taken : (l : List ℕ) (x : Uses) (y : List ℕ) → 0 ≡ number side kinds (word m) u p → x ≡ taken_from (word m) side (u, l) p
      → y ≡ put m k p
      → (0, x, y) ≡ appended side kinds k m (u, l) p
  unfolding appended
  append-taken l x y e f g = rw (← e, f, g) refl
