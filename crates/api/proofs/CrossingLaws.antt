-- What a guard call leaves, seen from C, by what the guard itself promises. Assumes nothing.
--     crosses          a call's promise once its answer is packed in one number
use Prim.Native.Nat.{ℕ}
use mathlib.Core.Path.{◌≡◌, ap, ◌∙◌}
use mathlib.Core.List.{List}
use Rattle.guard.specs.declared.Answer.{Answer}
use Rattle.guard.specs.Answers.{Outcome, Gives}
use Rattle.api.specs.Crossing.{answer_word, Crosses}

pub crosses : {o : Outcome} {a : Answer} {n : ℕ} {m k t u l : List ℕ} → Gives o a m k t u l → n ≡ answer_word a → Crosses o n m k t u l
crosses g e = record {
  answer = e ∙ ap answer_word g.answer;
  mem = g.mem;
  kinds = g.kinds;
  state = g.state;
  used = g.used;
  lens = g.lens;
}
