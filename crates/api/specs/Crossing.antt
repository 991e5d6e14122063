-- A guard call as a caller in C sees it: arrays in, a number and arrays out.
--     answer_word a            an answer in one number: its number, 256 times its effect, 65,536 times its side, 16,777,216 times its
--                             channel
--     Crosses o n m k t u l   a call's number and the arrays it leaves are those of the outcome o: the promise of every call
-- Document 01, "Answers by number". Assumes nothing: these are definitions.
use Rattle.std.specs.Prelude.{ℕ, ◌+◌, ◌*◌, ◌≡◌, List}
use Rattle.guard.specs.declared.Answer.{Answer}
use Rattle.guard.specs.Answers.{Outcome, number_of, effect_of, side_number, channel_number}

-- "The answer to a guest write also says what it did: plain, started or appended, and on which side."
abbrev pub answer_word : Answer → ℕ
answer_word a = number_of a + 256 * effect_of a + 65536 * side_number a + 16777216 * channel_number a

pub record Crosses (o : Outcome) (n : ℕ) (m k t u l : List ℕ) : Type 0 where
  pub answer : n ≡ answer_word o.answer
  pub mem : m ≡ o.world.mem
  pub kinds : k ≡ o.world.kinds
  pub state : t ≡ o.world.state
  pub used : u ≡ o.world.used
  pub lens : l ≡ o.world.lens
