-- What a run takes of its reader and gives to its writer, where these say which bytes they have left and hold.
--     shown r y            what is written at the end of a run: the lines that are gathered and the last one; nothing, where it goes on
--     TurnedOn, ReachedOn, EndedOn, PrintedOn   what was read is what the reader lost, what was handed to the write is what the writer
--                          got, and the input has ended only where the reader has no byte left
-- `left`, `left'` are the bytes that the reader has left, before and after; `held`, `held'` those that the writer holds.
-- Laws: proofs/StreamLaws.antt. Assumes nothing: these are definitions.
use Rattle.std.specs.Prelude.{ℕ, ◌<◌, ◌≡◌, true, List, [], ◌++◌, length, take, Bool, Option}
use Rattle.std.specs.Io.KnownBytes.{Consumes, Appends}
use Rattle.std.specs.declared.ops.ControlFlow.{ControlFlow}
use Rattle.std.specs.declared.ops.ControlFlow.TheVariants.{Continue, Break}
use Rattle.layout.specs.Choice.{pick}
use Rattle.window.specs.Window.{EndsRight}
use Rattle.player.specs.declared.Run.{Run}
use Rattle.player.specs.declared.Last.{Last}
use Rattle.player.specs.Stands.{Stands, ended_on, offset_end}
use Rattle.player.specs.Turns.{flushed, Turned, Reached, Ended, Printed}

abbrev pub shown : ControlFlow Last Run → List ℕ → List ℕ
shown (Continue r) y = []
shown (Break e) y = take e.end y

pub record TurnedOn (left left' held held' : Option (List ℕ)) (s : Run) (m k t u l x y : List ℕ) (r : ControlFlow Last Run)
    (m' k' t' u' l' x' y' : List ℕ) : Type 0 where
  pub turned : Turned s m k t u l x y r m' k' t' u' l' x' y'
  pub read : Consumes left left' turned.filled.got
  pub right : EndsRight s.window.ended left → EndsRight (ended_on r) left'
  pub wrote : Appends held held' (flushed s.at y ++ shown r y')

pub record ReachedOn (left left' held held' : Option (List ℕ)) (turns : ℕ) (s : Run) (m k t u l x y : List ℕ) (r : Run)
    (m' k' t' u' l' x' y' : List ℕ) : Type 0 where
  pub reached : Reached turns s m k t u l x y r m' k' t' u' l' x' y'
  pub read : Consumes left left' reached.got
  pub right : EndsRight s.window.ended left → EndsRight r.window.ended left'
  pub wrote : Appends held held' reached.put

-- `last`: what y' begins with was handed to the write too, which is so where the run is over
pub record EndedOn (left left' held held' : Option (List ℕ)) (s : Run) (m k t u l x y : List ℕ) (e : Last)
    (y' : List ℕ) : Type 0 where
  pub ended : Ended s m k t u l x y e y'
  pub read : Consumes left left' ended.got
  pub right : EndsRight s.window.ended left → EndsRight e.ended left'
  pub last : Bool
  pub wrote : Appends held held' (ended.put ++ pick last (take e.end y') [])
  pub over : (read wrote : List ℕ) → length (read ++ ended.got) < offset_end → Stands read wrote s m k t u l x y → last ≡ true

-- the input is said to have ended before, or not
pub record PrintedOn (left left' held held' : Option (List ℕ)) (ended : Bool) (first : List ℕ) (r : Last) (y : List ℕ) : Type 0 where
  pub printed : Printed first r y
  pub read : Consumes left left' printed.got
  pub right : EndsRight ended left → EndsRight r.ended left'
  pub wrote : length (first ++ printed.got) < offset_end → Appends held held' (printed.put ++ take r.end y)
