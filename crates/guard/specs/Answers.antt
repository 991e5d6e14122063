-- What an answer means: this paper's number, what an accepted write did, and on which side and channel.
-- Document 01, "Answers by number": "The answer to a guest write also says what it did: plain, started or appended, and on
-- which side."
--     number_of a            0, or the refusal number
--     effect_of a            0 none, 1 plain, 2 started, 3 appended
--     side_number a          0 none, 1 transmit, 2 receive
--     channel_number a       the channel on which it started or appended, else 0
--     Outcome, accept, refuse   an answer and the whole world afterwards
--     answer_of r            a judge's answer, whose refusal has a name
--     world_at               a world from what a guard call is handed
--     Gives o r m k t u l   a call's answer and the tables it leaves are those of the outcome o: the promise of every entry
-- Assumes nothing: these are definitions.
use Rattle.std.specs.Prelude.{◌≡◌, ℕ, List, ◌==◌, Result, Ok, Err}
use Rattle.layout.specs.Choice.{pick}
use Rattle.layout.specs.Refusals.{refusal_number}
use Rattle.layout.specs.declared.Side.{Side}
use Rattle.layout.specs.declared.Side.TheVariants.{Transmit, Receive}
use Rattle.layout.specs.declared.refusals.Refusal.{Refusal}
use Rattle.book.specs.World.{World}
use Rattle.guard.specs.declared.Effect.{Effect}
use Rattle.guard.specs.declared.Effect.TheVariants.{Plain, Started, Appended}
use Rattle.guard.specs.declared.Answer.{Answer}
use Rattle.guard.specs.declared.Answer.TheVariants.{Accepted, Refused}

abbrev pub number_of : Answer → ℕ
number_of (Accepted e) = 0
number_of (Refused n) = n

abbrev pub kind_of : Effect → ℕ
kind_of Plain = 1
kind_of (Started s c) = 2
kind_of (Appended s c) = 3

abbrev pub effect_of : Answer → ℕ
effect_of (Accepted e) = kind_of e
effect_of (Refused n) = 0

abbrev pub number_of_side : Side → ℕ
number_of_side Transmit = 1
number_of_side Receive = 2

abbrev pub side_in : Effect → ℕ
side_in Plain = 0
side_in (Started s c) = number_of_side s
side_in (Appended s c) = number_of_side s

abbrev pub side_number : Answer → ℕ
side_number (Accepted e) = side_in e
side_number (Refused n) = 0

abbrev pub channel_in : Effect → ℕ
channel_in Plain = 0
channel_in (Started s c) = c
channel_in (Appended s c) = c

abbrev pub channel_number : Answer → ℕ
channel_number (Accepted e) = channel_in e
channel_number (Refused n) = 0

pub record Outcome : Type 0 where
  pub answer : Answer
  pub world : World

abbrev pub refuse : ℕ → World → Outcome
refuse n s = record { answer = Refused n; world = s }

abbrev pub accept : Effect → World → Outcome
accept e s = record { answer = Accepted e; world = s }

-- a number as the answer of a write that, without a fault, did e
unfoldable pub answer_to : Effect → ℕ → Answer
answer_to e n = pick (n == 0) (Accepted e) (Refused n)

-- what a judge answers, by the number of its refusal
abbrev pub answer_of : Result Effect Refusal → Answer
answer_of (Ok e) = Accepted e
answer_of (Err r) = Refused (refusal_number r)

abbrev pub world_at : List ℕ → List ℕ → List ℕ → List ℕ → List ℕ → World
world_at m k t u l = record { mem = m; kinds = k; state = t; used = u; lens = l }

pub record Gives (o : Outcome) (r : Answer) (m k t u l : List ℕ) : Type 0 where
  pub answer : r ≡ o.answer
  pub mem : m ≡ o.world.mem
  pub kinds : k ≡ o.world.kinds
  pub state : t ≡ o.world.state
  pub used : u ≡ o.world.used
  pub lens : l ≡ o.world.lens
