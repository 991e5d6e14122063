-- What the parts of a run do. Document 01, "The bench".
--     gathered_max, room_min     the most bytes of lines that are kept before a record, and the room that the lines need in all
--     kept_at at, flushed at y  how many bytes of lines are kept, and those that are handed to the write first
--     size_of d                 how many bytes were decoded
--     kinds_of r, kinds_in d     N of a first record, where there is one
--     Fresh m t u l            the tables of a fresh machine
--     Acted, Turned            what was decoded is played, and one turn whole: where the run stood before, it stands after
--     Reached, Ended, Printed, unread, Replayed   so it is after any number of turns, at the end, and for the whole input
--     Untouched, Broken        the machine as it stood, and as some turns left it: where a read or a write fails
-- Laws: proofs/StandLaws.antt. Assumes nothing: these are definitions.
use Rattle.std.specs.Prelude.{ℕ, ◌+◌, ◌*◌, ◌≤◌, ◌<◌, ◌≡◌, false, List, [], ◌++◌, length, take, replicate, leb, Ok, Err, Option, None, Some}
use Rattle.std.specs.declared.ops.ControlFlow.{ControlFlow}
use Rattle.std.specs.ControlFlow.{ForContinue}
use Rattle.layout.specs.Choice.{pick}
use Rattle.layout.specs.Layout.{desc_bytes}
use Rattle.book.specs.World.{fresh_state, fresh_used, fresh_lens}
use Rattle.controller.specs.declared.Controller.{Controller}
use Rattle.records.specs.declared.Record.{Record}
use Rattle.records.specs.declared.Record.TheVariants.{Ram, Write, Kind, Frame, Steps}
use Rattle.records.specs.Records.{Decoded, record_max, decode}
use Rattle.records.specs.Lines.{line_max}
use Rattle.replay.specs.Replay.{replay}
use Rattle.window.specs.declared.Window.{Window}
use Rattle.window.specs.Window.{window_of, Inside, Refilled}
use Rattle.player.specs.declared.Run.{Run}
use Rattle.player.specs.declared.Last.{Last}
use Rattle.player.specs.Stands.{MayCome, Enough, Over, Stands, StandsOn, HoldsOn, ended_on, offset_end, run_at}

abbrev pub gathered_max : ℕ
gathered_max = 4096

-- those gathered, and those of a record with the most steps
abbrev pub room_min : ℕ
room_min = gathered_max + line_max * 256

abbrev pub kept_at : ℕ → ℕ
kept_at at = pick (leb at gathered_max) at 0

abbrev pub flushed : ℕ → List ℕ → List ℕ
flushed at y = pick (leb at gathered_max) [] (take at y)

abbrev pub size_of : Decoded → ℕ
size_of (Ok None) = 0
size_of (Ok (Some (r, n))) = n
size_of (Err e) = 0

abbrev pub kinds_of : Record → Option ℕ
kinds_of (Ram n) = Some n
kinds_of (Write a v) = None
kinds_of (Kind b k) = None
kinds_of (Frame n) = None
kinds_of (Steps e c) = None

abbrev pub kinds_in : Decoded → Option ℕ
kinds_in (Ok None) = None
kinds_in (Ok (Some (r, size))) = kinds_of r
kinds_in (Err e) = None

-- "A fresh machine has zero descriptor memory and registers, empty queues"
pub record Fresh (m t u l : List ℕ) : Type 0 where
  pub mem : m ≡ replicate desc_bytes 0
  pub state : t ≡ fresh_state
  pub used : u ≡ fresh_used
  pub lens : l ≡ fresh_lens

-- d was decoded from the window w of any buffer that decides it; no byte is read, and none is handed to the write before the run is over
pub record Acted (d : Decoded) (w : Window) (c : Controller) (at o : ℕ) (m k t u l y : List ℕ) (r : ControlFlow Last Run)
    (m' k' t' u' l' y' : List ℕ) : Type 0 where
  pub holds : (x : List ℕ) → Inside w x → HoldsOn r x y'
  pub ended : ended_on r ≡ w.ended
  pub stands : (read wrote x : List ℕ) → length read < offset_end → Inside w x → d ≡ decode false (window_of w x)
      → Enough (window_of w x) w.ended
      → Stands read wrote (run_at c at w o) m k t u l x y
      → StandsOn read wrote r m' k' t' u' l' x y' × ForContinue r (λ q. o < q.offset)

-- what was read is what the window was filled with; what was handed to the write is what was gathered, where it was much
pub record Turned (s : Run) (m k t u l x y : List ℕ) (r : ControlFlow Last Run) (m' k' t' u' l' x' y' : List ℕ) : Type 0 where
  pub window : Window
  pub filled : Refilled record_max s.window x window x'
  pub ended : ended_on r ≡ window.ended
  pub holds : HoldsOn r x' y'
  pub stands : (read wrote : List ℕ) → length (read ++ filled.got) < offset_end → Stands read wrote s m k t u l x y
      → StandsOn (read ++ filled.got) (wrote ++ flushed s.at y) r m' k' t' u' l' x' y' × ForContinue r (λ q. s.offset < q.offset)

-- after some turns that read `got` and handed `put` to the write, with so many turns left
pub record Reached (turns : ℕ) (s : Run) (m k t u l x y : List ℕ) (r : Run) (m' k' t' u' l' x' y' : List ℕ) : Type 0 where
  pub got : List ℕ
  pub put : List ℕ
  pub stands : (read wrote : List ℕ) → length (read ++ got) < offset_end → Stands read wrote s m k t u l x y
      → Stands (read ++ got) (wrote ++ put) r m' k' t' u' l' x' y' × (offset_end ≤ turns + r.offset)

-- after the last turn
pub record Ended (s : Run) (m k t u l x y : List ℕ) (e : Last) (y' : List ℕ) : Type 0 where
  pub got : List ℕ
  pub put : List ℕ
  pub room : e.end ≤ length y'
  pub over : (read wrote : List ℕ) → length (read ++ got) < offset_end → Stands read wrote s m k t u l x y
      → Over (read ++ got) (wrote ++ put) e y'

-- the bytes `first` were read, then `got`; `put` was handed to the write, and last what y begins with: together all that `replay` prints
pub record Printed (first : List ℕ) (r : Last) (y : List ℕ) : Type 0 where
  pub got : List ℕ
  pub put : List ℕ
  pub room : r.end ≤ length y
  pub whole : length (first ++ got) < offset_end → (more : List ℕ) → MayCome r.ended more
      → replay ((first ++ got) ++ more) ≡ put ++ take r.end y

-- nothing has been read yet, and the input has not ended
abbrev pub unread : Window
unread = record { from = 0; len = 0; ended = false }

-- the first read filled the window from nothing, and all was replayed from there
pub record Replayed (x : List ℕ) (r : Last) (y : List ℕ) : Type 0 where
  pub window : Window
  pub buffer : List ℕ
  pub filled : Refilled record_max unread x window buffer
  pub printed : Printed (window_of window buffer) r y

-- where a read or a write of a turn fails, the machine's tables are what they were
pub record Untouched (m k t u l m' k' t' u' l' : List ℕ) : Type 0 where
  pub mem : m' ≡ m
  pub kinds : k' ≡ k
  pub state : t' ≡ t
  pub used : u' ≡ u
  pub lens : l' ≡ l

-- where a read or a write fails behind some turns, the machine stands as they left it; what the buffers hold then is not said
pub record Broken (s : Run) (m k t u l x y m' k' t' u' l' : List ℕ) : Type 0 where
  pub turns : ℕ
  pub run : Run
  pub input : List ℕ
  pub out : List ℕ
  pub reached : Reached turns s m k t u l x y run m' k' t' u' l' input out
