-- What the promises settle: any two outcomes that one promise allows are the same. Assumes nothing.
--     SameArrays      the five arrays of a record, one by one: table, stages, transmit rows, receive rows, the rest
--     lent-unique     a step, an unguarded write: the answer, every array of the record, the burst's words and descriptor memory
--     came-unique     a frame: the answer and every array of the record
use Prim.Native.Nat.{ℕ}
use mathlib.Core.Path.{◌≡◌, ap, ◌∙◌, sym}
use mathlib.Core.List.{List}
use Rattle.rig.specs.Record.{Parts, parts}
use Rattle.rig.specs.Lent.{Lent, lent, Came, came}

pub record SameArrays (s s' g g' : List ℕ) (t t' r r' : List (List ℕ)) (x x' : List ℕ) : Type 0 where
  pub state : s ≡ s'
  pub stages : g ≡ g'
  pub tx : t ≡ t'
  pub rx : r ≡ r'
  pub rest : x ≡ x'

module _ (s s' g g' : List ℕ) (t t' r r' : List (List ℕ)) (x x' : List ℕ) where
  arrays-same : parts s g t r x ≡ parts s' g' t' r' x' → SameArrays s s' g g' t t' r r' x x'
  arrays-same e = record {
    state = ap (λ (p : Parts). p.state) e;
    stages = ap (λ (p : Parts). p.stages) e;
    tx = ap (λ (p : Parts). p.tx) e;
    rx = ap (λ (p : Parts). p.rx) e;
    rest = ap (λ (p : Parts). p.rest) e;
  }

  pub lent-unique : (o : Lent) (n n' : ℕ) (b b' m m' : List ℕ) → lent n (parts s g t r x) b m ≡ o → lent n' (parts s' g' t' r' x') b' m' ≡ o
      → (n ≡ n') × SameArrays s s' g g' t t' r r' x x' × (b ≡ b') × (m ≡ m')
  lent-unique o n n' b b' m m' p q =
      let e = p ∙ sym q in
      let same = arrays-same (ap (λ (y : Lent). y.parts) e) in
      (ap (λ (y : Lent). y.answer) e, same, ap (λ (y : Lent). y.burst) e, ap (λ (y : Lent). y.mem) e)

  pub came-unique : (o : Came) (n n' : ℕ) → came n (parts s g t r x) ≡ o → came n' (parts s' g' t' r' x') ≡ o
      → (n ≡ n') × SameArrays s s' g g' t t' r r' x x'
  came-unique o n n' p q =
      let e = p ∙ sym q in
      (ap (λ (y : Came). y.answer) e, arrays-same (ap (λ (y : Came). y.parts) e))
