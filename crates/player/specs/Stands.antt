-- Where a run stands: what was read and what was handed to the write, held to `replay`. Document 01, "The bench".
--     replay_from o s bs          all that is printed for the bytes bs, from offset o on, on the machine s
--     MayCome ended more         more may still be read: nothing, once the input has ended
--     Enough w ended             the window decides what stands next: it has the bytes of any record, or the input has ended
--     Lines ..                   `replay` of all bytes read, and of any that may come, is what was handed to the write, then what is
--                                gathered, then what is still to be printed
--     Over read wrote e y        once the run is over nothing is: it is what was handed to the write, then what y begins with
--     Stands read wrote r ..     so stands the run r with its tables and buffers; the offset is that of the window in all bytes read
--     Holds r x y                the window lies in the buffer x, and the lines gathered in y
--     StandsOn, HoldsOn, ended_on   the same behind a turn, where the run goes on or is over; whether the input is said to have ended
--     offset_end                  one past the largest offset: the promises are for inputs of fewer bytes
-- Laws: proofs/ReplayLaws.antt, proofs/StandLaws.antt. Assumes nothing: these are definitions.
use Rattle.std.specs.Prelude.{ℕ, suc, ◌+◌, ◌≤◌, ◌≡◌, Bool, true, ◌⊎◌, List, [], ◌++◌, length, take}
use Rattle.std.specs.declared.ops.ControlFlow.{ControlFlow}
use Rattle.std.specs.declared.ops.ControlFlow.TheVariants.{Continue, Break}
use Rattle.controller.specs.declared.Controller.{Controller}
use Rattle.machine.specs.Machine.{Machine}
use Rattle.machine.specs.After.{machine_at}
use Rattle.records.specs.Records.{record_max}
use Rattle.replay.specs.Replay.{replay_for, replay}
use Rattle.window.specs.declared.Window.{Window}
use Rattle.window.specs.Window.{window_of, Inside}
use Rattle.player.specs.declared.Run.{Run}
use Rattle.player.specs.declared.Last.{Last}

abbrev pub replay_from : ℕ → Machine → List ℕ → List ℕ
replay_from o s bs = replay_for (suc (length bs)) o s bs

abbrev pub MayCome : Bool → List ℕ → Type 0
MayCome ended more = ended ≡ true → more ≡ []

abbrev pub Enough : List ℕ → Bool → Type 0
Enough w ended = (record_max ≤ length w) ⊎ (ended ≡ true)

abbrev pub Lines : List ℕ → List ℕ → List ℕ → ℕ → Machine → List ℕ → Bool → Type 0
Lines read wrote gathered o s window ended =
    (more : List ℕ) → MayCome ended more → replay (read ++ more) ≡ wrote ++ (gathered ++ replay_from o s (window ++ more))

abbrev pub Over : List ℕ → List ℕ → Last → List ℕ → Type 0
Over read wrote e y = (more : List ℕ) → MayCome e.ended more → replay (read ++ more) ≡ wrote ++ take e.end y

pub record Stands (read wrote : List ℕ) (r : Run) (m k t u l x y : List ℕ) : Type 0 where
  pub place : r.offset + length (window_of r.window x) ≡ length read
  pub lines : Lines read wrote (take r.at y) r.offset (machine_at r.ctl m k t u l) (window_of r.window x) r.window.ended

abbrev pub StandsOn : List ℕ → List ℕ → ControlFlow Last Run → (m k t u l x y : List ℕ) → Type 0
StandsOn read wrote (Continue r) m k t u l x y = Stands read wrote r m k t u l x y
StandsOn read wrote (Break e) m k t u l x y = Over read wrote e y

pub record Holds (r : Run) (x y : List ℕ) : Type 0 where
  pub inside : Inside r.window x
  pub room : r.at ≤ length y

abbrev pub HoldsOn : ControlFlow Last Run → List ℕ → List ℕ → Type 0
HoldsOn (Continue r) x y = Holds r x y
HoldsOn (Break e) x y = e.end ≤ length y

abbrev pub ended_on : ControlFlow Last Run → Bool
ended_on (Continue r) = r.window.ended
ended_on (Break e) = e.ended

-- 2^64
abbrev pub offset_end : ℕ
offset_end = 0x1_0000_0000_0000_0000

-- a run, from its parts
abbrev pub run_at : Controller → ℕ → Window → ℕ → Run
run_at c at w o = record { ctl = c; at = at; window = w; offset = o }
