-- What the promises settle: any two outcomes that one promise allows are the same. Assumes nothing.
--     after_same        a result is known from its parts
--     leaves-unique     a guest write, a kind change: result, descriptor memory, kinds, small state, words in use and lengths are the same
--     moves-unique      a step: result and descriptor memory are the same; a frame has no memory, and the same law says it of any
use Prim.Native.Nat.{ℕ}
use mathlib.Core.Path.{◌≡◌, ap, ◌∙◌, sym}
use mathlib.Core.List.{List, []}
use Rattle.guard.specs.declared.Answer.{Answer}
use Rattle.phases.specs.declared.Burst.{Burst}
use Rattle.controller.specs.declared.Controller.{Controller}
use Rattle.machine.specs.declared.After.{After}
use Rattle.machine.specs.Machine.{Machine, Happened}
use Rattle.machine.specs.After.{Leaves, Moves}

after_same : (r s : After) → r.ctl ≡ s.ctl → r.answer ≡ s.answer → r.burst ≡ s.burst → r ≡ s
after_same r s c a b =
    ap {B = After} (λ (x : Controller). record { ctl = x; answer = r.answer; burst = r.burst }) c
    ∙ ap {B = After} (λ (x : Answer). record { ctl = s.ctl; answer = x; burst = r.burst }) a
    ∙ ap {B = After} (λ (x : Burst). record { ctl = s.ctl; answer = s.answer; burst = x }) b

pub record Same (r r' : After) (m m' k k' t t' u u' l l' : List ℕ) : Type 0 where
  pub result : r ≡ r'
  pub mem : m ≡ m'
  pub kinds : k ≡ k'
  pub state : t ≡ t'
  pub used : u ≡ u'
  pub lens : l ≡ l'

pub leaves-unique : {h : Happened} {r r' : After} {m m' k k' t t' u u' l l' : List ℕ} → Leaves h r m k t u l → Leaves h r' m' k' t' u' l'
    → Same r r' m m' k k' t t' u u' l l'
leaves-unique {h} {r} {r'} p q = record {
  result = after_same r r' (p.ctl ∙ sym q.ctl) (p.answer ∙ sym q.answer) (p.burst ∙ sym q.burst);
  mem = p.mem ∙ sym q.mem;
  kinds = p.kinds ∙ sym q.kinds;
  state = p.state ∙ sym q.state;
  used = p.used ∙ sym q.used;
  lens = p.lens ∙ sym q.lens;
}

-- a promise for every small state, kinds, words in use and lengths: the empty ones are enough
pub moves-unique : (f : Machine → Happened) (c : Controller) (m : List ℕ) (r r' : After) (x x' : List ℕ) → Moves f c m r x
    → Moves f c m r' x' → (r ≡ r') × (x ≡ x')
moves-unique f c m r r' x x' p q =
    let s = leaves-unique (p [] [] [] []) (q [] [] [] []) in
    (s.result, s.mem)
