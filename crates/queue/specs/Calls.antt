-- Guard calls one after another, over what the guard sees. Document 01, "The book and the release", "Judging".
--     FitSound s           neither 1 nor 2 is answered: s is fit, and its book, over a small state of its size, is sound
--     LeavesSound f        f leaves every such world such a world
--     Call                 a guest write, a kind change, or the registers read anew: they are the controller's, and any values may
--                          stand there at the next call
--     called c s           the world after one
--     called_all cs s       the world after all of them
-- Descriptor memory is here as the calls leave it. What the controller's marks in between leave of a book is in the crate safety.
-- Laws: proofs/CallLaws.antt. Assumes nothing: these are definitions.
use Rattle.std.specs.Prelude.{ℕ, ◌≡◌, true, false, List, [], ◌∷◌, length}
use Rattle.registers.specs.Table.{state_words, loaded}
use Rattle.book.specs.World.{World, set_state, unfit, sound_world}
use Rattle.guard.specs.Guard.{guest_write}
use Rattle.kinds.specs.Kinds.{kind_change}

pub record FitSound (s : World) : Type 0 where
  pub fit : unfit s ≡ false
  pub sound : sound_world s ≡ true
  pub size : length s.state ≡ state_words

abbrev pub LeavesSound : (World → World) → Type 0
LeavesSound f = (s : World) → FitSound s → FitSound (f s)

pub data Call : Type 0 where
  write : ℕ → ℕ → Call
  kind : ℕ → ℕ → Call
  read : List ℕ → Call

abbrev pub called : Call → World → World
called (write a v) s = (guest_write a v s).world
called (kind b k) s = (kind_change b k s).world
called (read c) s = set_state (loaded c s.state) s

abbrev pub called_all : List Call → World → World
called_all [] s = s
called_all (c ∷ cs) s = called_all cs (called c s)
