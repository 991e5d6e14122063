-- What the answer of the chain check says of the chain, for those who take it apart. Assumes nothing.
--     verdict-number       its number is the chain's
--     bad-place            another than a good one has the chain's place
--     told-number          the number of an answer is that of its refusal
--     told-same            answers of which the same is told are the same
use Prim.Native.Nat.{ℕ}
use mathlib.Core.Path.{◌≡◌, refl, ap, ◌∙◌, sym}
use mathlib.Core.Bool.{Bool, true, false}
use mathlib.Core.Logic.{◌≢◌}
use mathlib.Core.List.{List}
use Rattle.std.specs.Prelude.{Result, Ok, Err}
use native.Mathlib.Omega.{arith}
use lib.Dec.{eqb}
use borrow.Author.Tests.{eqb-true, eqb-false}
use Rattle.layout.specs.Choice.{pick}
use Rattle.layout.specs.declared.Side.{Side}
use Rattle.chain.specs.declared.Fault.{Fault}
use Rattle.layout.specs.Refusals.{refusal_number}
use Rattle.layout.specs.declared.refusals.Refusal.{Refusal}
use Rattle.layout.specs.declared.refusals.Refusal.TheVariants.{Unfit, Unsound, Misaligned, NotGuarded, NotOffered, NotInitialised}
use Rattle.layout.specs.declared.refusals.Refusal.TheVariants.{ResetPending, TeardownPending, BadValue, Busy, WordInUse, BadPointer}
use Rattle.layout.specs.declared.refusals.Refusal.TheVariants.{Overlap, Flags, BadLength, NotPermitted, Unfinished, NoBlock, BadKind}
use Rattle.layout.specs.declared.refusals.Refusal.TheVariants.{NotLinux, InReception, Undefined, BadFrame, Dropped}
use Rattle.chain.specs.Chain.{JOut, chain_of, place_of, Said, verdict_of, verdict_number, told}

-- an answer made of a number and of what is told with it
at-number : (b : Bool) (f : Said) → eqb f.number 0 ≡ b → verdict_number (pick b (Ok tt) (Err f)) ≡ f.number
at-number true f e = sym (eqb-true f.number 0 e)
at-number false f e = refl

at-bad : (b : Bool) (f g : Said) → eqb f.number 0 ≡ b → ◌≡◌ {A = Result Unit Said} (Err g) (pick b (Ok tt) (Err f))
    → (g ≡ f) × (f.number ≢ 0)
at-bad true f g e q = let z : ◌≡◌ {A = ℕ} 0 1 = cc in absurd (omega arith)
at-bad false f g e q = (cc, eqb-false f.number 0 e)

module _ (side : Side) (kinds : List ℕ) (w : ℕ → ℕ) (met : List ℕ) (p : ℕ) where
  abbrev chain : JOut
  chain = chain_of kinds w (place_of side) met p

  pub verdict-number : verdict_number (verdict_of side kinds w met p).0 ≡ chain.0
  unfolding verdict_of
  verdict-number = at-number (eqb chain.0 0) _ refl

  module _ (v : Result Unit Said) (l : List ℕ) (is : (v, l) ≡ verdict_of side kinds w met p) where
    module _ (f : Said) (b : v ≡ Err f) where
      pub bad-place : f.place ≡ chain.1
      unfolding verdict_of
      bad-place =
          ap (λ (g : Said). g.place) (at-bad (eqb chain.0 0) _ f refl (sym b ∙ ap (λ (x : Result Unit Said × List ℕ). x.0) is)).0

pub told-number : (c : Result Unit Fault) (f : Fault) → c ≡ Err f → verdict_number (told c) ≡ refusal_number f.refusal
told-number c f e = ap (λ (x : Result Unit Fault). verdict_number (told x)) e

-- the refusal of a number
abbrev refusal_of : ℕ → Refusal
refusal_of n =
    pick (eqb n 1) Unfit
    (pick (eqb n 2) Unsound
    (pick (eqb n 3) Misaligned
    (pick (eqb n 4) NotGuarded
    (pick (eqb n 5) NotOffered
    (pick (eqb n 6) NotInitialised
    (pick (eqb n 7) ResetPending
    (pick (eqb n 8) TeardownPending
    (pick (eqb n 9) BadValue
    (pick (eqb n 10) Busy
    (pick (eqb n 11) WordInUse
    (pick (eqb n 12) BadPointer
    (pick (eqb n 13) Overlap
    (pick (eqb n 14) Flags
    (pick (eqb n 15) BadLength
    (pick (eqb n 16) NotPermitted
    (pick (eqb n 17) Unfinished
    (pick (eqb n 18) NoBlock
    (pick (eqb n 19) BadKind
    (pick (eqb n 20) NotLinux
    (pick (eqb n 21) InReception
    (pick (eqb n 22) Undefined
    (pick (eqb n 23) BadFrame Dropped))))))))))))))))))))))

refusal_of-number : (r : Refusal) → refusal_of (refusal_number r) ≡ r
refusal_of-number Unfit = refl
refusal_of-number Unsound = refl
refusal_of-number Misaligned = refl
refusal_of-number NotGuarded = refl
refusal_of-number NotOffered = refl
refusal_of-number NotInitialised = refl
refusal_of-number ResetPending = refl
refusal_of-number TeardownPending = refl
refusal_of-number BadValue = refl
refusal_of-number Busy = refl
refusal_of-number WordInUse = refl
refusal_of-number BadPointer = refl
refusal_of-number Overlap = refl
refusal_of-number Flags = refl
refusal_of-number BadLength = refl
refusal_of-number NotPermitted = refl
refusal_of-number Unfinished = refl
refusal_of-number NoBlock = refl
refusal_of-number BadKind = refl
refusal_of-number NotLinux = refl
refusal_of-number InReception = refl
refusal_of-number Undefined = refl
refusal_of-number BadFrame = refl
refusal_of-number Dropped = refl

abbrev from-told : Result Unit Said → Result Unit Fault
from-told (Ok x) = Ok tt
from-told (Err f) = Err (record { refusal = refusal_of f.number; place = f.place; room = f.room })

told-back : (c : Result Unit Fault) → from-told (told c) ≡ c
told-back (Ok x) = refl
told-back (Err f) = ap (λ (r : Refusal). Err (record { refusal = r; place = f.place; room = f.room })) (refusal_of-number f.refusal)

pub told-same : (c d : Result Unit Fault) → told c ≡ told d → c ≡ d
told-same c d e = sym (told-back c) ∙ ap (λ (x : Result Unit Said). from-told x) e ∙ told-back d
