-- What the promises settle: any two outcomes that one promise allows are the same. Assumes nothing.
--     gives-unique     two calls with one outcome: answers, descriptor memory, kinds, small state, words in use and lengths are the same
use Rattle.std.proofs.Common.{◌≡◌, ℕ, List, sym, ◌∙◌}
use Rattle.guard.specs.declared.Answer.{Answer}
use Rattle.guard.specs.Answers.{Outcome, Gives}

pub record Same (a b : Answer) (m m' k k' t t' u u' l l' : List ℕ) : Type 0 where
  pub answer : a ≡ b
  pub mem : m ≡ m'
  pub kinds : k ≡ k'
  pub state : t ≡ t'
  pub used : u ≡ u'
  pub lens : l ≡ l'

-- `guest_write`, `guest_write_sound`, `kind_change` and `kind_change_sound` each promise `Gives` of a definition alone
pub gives-unique : {o : Outcome} {a b : Answer} {m m' k k' t t' u u' l l' : List ℕ} → Gives o a m k t u l → Gives o b m' k' t' u' l'
    → Same a b m m' k k' t t' u u' l l'
gives-unique g h = record {
  answer = g.answer ∙ sym h.answer;
  mem = g.mem ∙ sym h.mem;
  kinds = g.kinds ∙ sym h.kinds;
  state = g.state ∙ sym h.state;
  used = g.used ∙ sym h.used;
  lens = g.lens ∙ sym h.lens;
}
