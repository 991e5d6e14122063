-- What the promises settle: any two outcomes that one promise allows are the same. Assumes nothing.
--     crosses-unique     two calls with one outcome: numbers, descriptor memory, kinds, small state, words in use and lengths are the same
-- `gresomund_fresh` names all that it leaves.
use Prim.Native.Nat.{ℕ}
use mathlib.Core.Path.{◌≡◌, ◌∙◌, sym}
use mathlib.Core.List.{List}
use Rattle.guard.specs.Answers.{Outcome}
use Rattle.api.specs.Crossing.{Crosses}

pub record Same (n n' : ℕ) (m m' k k' t t' u u' l l' : List ℕ) : Type 0 where
  pub answer : n ≡ n'
  pub mem : m ≡ m'
  pub kinds : k ≡ k'
  pub state : t ≡ t'
  pub used : u ≡ u'
  pub lens : l ≡ l'

-- the four calls each promise `Crosses` of a definition alone
pub crosses-unique : {o : Outcome} {n n' : ℕ} {m m' k k' t t' u u' l l' : List ℕ} → Crosses o n m k t u l → Crosses o n' m' k' t' u' l'
    → Same n n' m m' k k' t t' u u' l l'
crosses-unique g h = record {
  answer = g.answer ∙ sym h.answer;
  mem = g.mem ∙ sym h.mem;
  kinds = g.kinds ∙ sym h.kinds;
  state = g.state ∙ sym h.state;
  used = g.used ∙ sym h.used;
  lens = g.lens ∙ sym h.lens;
}
