-- Demand 3, in the customer's own words: "Start fresh, then run guest writes and kind changes through the guard, frames and
-- controller steps, each whole, one after another, in any sequence, nothing else touching the buffers. The controller model never
-- reaches its undefined state. Each read burst lies in blocks owned by Linux, each store burst in blocks that are Linux data at that
-- moment, and the controller changes only descriptor words the book holds as in use." This is the statement that is proved.
--     Legal o, AllLegal os    an operation that can be asked for: addresses and values are 32-bit words, all else any number
--     LiesIn side kinds at n  each of the n bytes from at on is in RAM, in a block of the table that permits the side:
--                             Transmit, a block of Linux (kind not 0); Receive, Linux data (kind 1)
--     InPlace kinds b         a burst: a read in blocks of Linux, a store in Linux data
--     Spares o s              a controller step leaves each descriptor word that is not in use
--     Safe o s                operation o on machine s is safe
--     Safety                  the statement: every legal operation is, after any legal operations from a fresh start
--     Soundness               and beside it: the guard's checks of memory, kinds and book pass then, so that 1 and 2 never occur
-- Proved: proofs/Always.antt. Assumes nothing: these are definitions.
use Rattle.std.specs.Prelude.{ℕ, ◌+◌, ◌≤◌, ◌<◌, ◌^◌, ◌≡◌, ◌≢◌, true, false, List, [], ◌∷◌, length, get_or}
use Rattle.layout.specs.Layout.{ram_first}
use Rattle.layout.specs.declared.Side.{Side}
use Rattle.layout.specs.declared.Side.TheVariants.{Transmit, Receive}
use Rattle.words.specs.Word.{word}
use Rattle.words.specs.WordSet.{has}
use Rattle.blocks.specs.Kinds.{fit_kinds}
use Rattle.blocks.specs.Room.{block_of, permits}
use Rattle.book.specs.World.{unfit, sound_world}
use Rattle.guard.specs.Answers.{number_of}
use Rattle.phases.specs.declared.Burst.{Burst}
use Rattle.phases.specs.declared.Burst.TheVariants.{Quiet, Read, Store}
use Rattle.machine.specs.Machine.{Machine, Op, write, kind, frame, step, apply, run_ops, world_of, fresh_machine}

-- "Guest writes are whole 32-bit words"; block numbers, kinds and frame lengths may be any
abbrev pub Legal : Op → Type 0
Legal (write a v) = (a < 2 ^ 32) × (v < 2 ^ 32)
Legal (kind b k) = Unit
Legal (frame n) = Unit
Legal (step e) = Unit

abbrev pub AllLegal : List Op → Type 0
AllLegal [] = Unit
AllLegal (o ∷ os) = Legal o × AllLegal os

abbrev pub LiesIn : Side → List ℕ → ℕ → ℕ → Type 0
LiesIn side kinds at n =
    (x : ℕ) → at ≤ x → x < at + n
    → (ram_first ≤ x) × (block_of x < length kinds) × (permits side (get_or kinds (block_of x) 0) ≡ true)

-- "Each read burst lies in blocks owned by Linux, each store burst in blocks that are Linux data at that moment"
abbrev pub InPlace : List ℕ → Burst → Type 0
InPlace kinds Quiet = Unit
InPlace kinds (Read at n) = LiesIn Transmit kinds at n
InPlace kinds (Store at n) = LiesIn Receive kinds at n

-- "the controller changes only descriptor words the book holds as in use"
abbrev pub Spares : Op → Machine → Type 0
Spares (write a v) s = Unit
Spares (kind b k) s = Unit
Spares (frame n) s = Unit
Spares (step e) s = (k : ℕ) → has s.used k ≡ false → word (apply (step e) s).machine.mem k ≡ word s.mem k

pub record Safe (o : Op) (s : Machine) : Type 0 where
  pub defined : (apply o s).machine.ctl.undefined ≡ false
  pub answered : number_of (apply o s).answer ≢ 22
  pub in_place : InPlace s.kinds (apply o s).burst
  pub spares : Spares o s

-- any kinds of any number of blocks that a table may have, any operations, and any one more
abbrev pub Safety : Type 0
Safety =
    (kinds : List ℕ) → fit_kinds kinds ≡ true → (os : List Op) → AllLegal os → (o : Op) → Legal o
    → Safe o (run_ops os (fresh_machine kinds))

-- "1 descriptor memory not 8,192 bytes, N out of range, or a kind byte over 4", "2 book unsound": neither is ever so, which lets a
-- caller that keeps its own book skip these checks
abbrev pub Soundness : Type 0
Soundness =
    (kinds : List ℕ) → fit_kinds kinds ≡ true → (os : List Op) → AllLegal os
    → (unfit (world_of (run_ops os (fresh_machine kinds))) ≡ false) × (sound_world (world_of (run_ops os (fresh_machine kinds))) ≡ true)
