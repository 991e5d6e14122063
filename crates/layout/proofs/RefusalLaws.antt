-- An answer is known from its number, and no refusal has the number 0. Assumes nothing.
--     fault-unique      answers of the same number are the same
--     refusal-some      a refusal's number is not 0
use Prim.Native.Nat.{ℕ}
use mathlib.Core.Path.{◌≡◌, refl, ap, sym, ◌∙◌}
use mathlib.Core.Logic.{◌≢◌}
use mathlib.Core.List.{List, [], ◌∷◌}
use lib.ListN.{get_or}
use Rattle.std.proofs.Common.{Result, Ok, Err}
use Rattle.layout.specs.Refusals.{fault, refusal_number}
use Rattle.layout.specs.declared.refusals.Refusal.{Refusal}
use Rattle.layout.specs.declared.refusals.Refusal.TheVariants as R

-- the answers by number: no two have the same
abbrev answers : List (Result Unit Refusal)
answers = Ok tt ∷ Err R.Unfit ∷ Err R.Unsound ∷ Err R.Misaligned ∷ Err R.NotGuarded ∷ Err R.NotOffered ∷ Err R.NotInitialised ∷ Err
    R.ResetPending ∷ Err R.TeardownPending ∷ Err R.BadValue ∷ Err R.Busy ∷ Err R.WordInUse ∷ Err R.BadPointer ∷ Err R.Overlap ∷ Err
    R.Flags ∷ Err R.BadLength ∷ Err R.NotPermitted ∷ Err R.Unfinished ∷ Err R.NoBlock ∷ Err R.BadKind ∷ Err R.NotLinux ∷ Err
    R.InReception ∷ Err R.Undefined ∷ Err R.BadFrame ∷ Err R.Dropped ∷ []

known : (a : Result Unit Refusal) → get_or answers (fault a) (Ok tt) ≡ a
known (Ok x) = refl
known (Err R.Unfit) = refl
known (Err R.Unsound) = refl
known (Err R.Misaligned) = refl
known (Err R.NotGuarded) = refl
known (Err R.NotOffered) = refl
known (Err R.NotInitialised) = refl
known (Err R.ResetPending) = refl
known (Err R.TeardownPending) = refl
known (Err R.BadValue) = refl
known (Err R.Busy) = refl
known (Err R.WordInUse) = refl
known (Err R.BadPointer) = refl
known (Err R.Overlap) = refl
known (Err R.Flags) = refl
known (Err R.BadLength) = refl
known (Err R.NotPermitted) = refl
known (Err R.Unfinished) = refl
known (Err R.NoBlock) = refl
known (Err R.BadKind) = refl
known (Err R.NotLinux) = refl
known (Err R.InReception) = refl
known (Err R.Undefined) = refl
known (Err R.BadFrame) = refl
known (Err R.Dropped) = refl

pub fault-unique : (a b : Result Unit Refusal) → fault a ≡ fault b → a ≡ b
fault-unique a b e = sym (known a) ∙ ap (λ (n : ℕ). get_or answers n (Ok tt)) e ∙ known b

pub refusal-some : (r : Refusal) → refusal_number r ≢ 0
refusal-some r e = cc (fault-unique (Err r) (Ok tt) e)
