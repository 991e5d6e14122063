-- Any two outcomes that the promise of `check_chain` allows are the same. Document 01, "What the promises settle".
--     check_chain-unique    the verdict, and the words met
-- Assumes nothing.
use mathlib.Core.Path.{◌≡◌, ap, sym, ◌∙◌}
use Prim.Native.Nat.{ℕ}
use mathlib.Core.List.{List}
use contract.Lifetimes.{Lfts}
use borrow.Fn.Kinds.{Dens, ended_of}
use denote.Triple.Clauses.{AtExit}
use Rattle.words.specs.WordSet.{view}
use Rattle.std.specs.Prelude.{Result}
use Rattle.chain.specs.declared.Fault.{Fault}
use Rattle.chain.specs.Chain.{Said, told}
use Rattle.chain.proofs.VerdictLaws.{told-same}
use Rattle.chain.proofs.check_chain.Kinds as kinds
use Rattle.chain.proofs.check_chain.Reads as reads

module _ (κs : Lfts 3) (a : Dens κs kinds.ps) (r s : Result Unit Fault) (x y : AtExit (ended_of 3 kinds.ps kinds.r) κs) where
  pub check_chain-unique : reads.Post κs a r x → reads.Post κs a s y
      → ◌≡◌ {A = Result Unit Fault × List ℕ} (r, view x.1.1.1.0.now) (s, view y.1.1.1.0.now)
  check_chain-unique p q =
      let e : ◌≡◌ {A = Result Unit Said × List ℕ} (told r, view x.1.1.1.0.now) (told s, view y.1.1.1.0.now) = p ∙ sym q in
      let same : r ≡ s = told-same r s (ap (λ (z : Result Unit Said × List ℕ). z.0) e) in
      rw same (ap (λ (z : Result Unit Said × List ℕ). (s, z.1)) e)
