-- A bench file replayed: records in, events out, lines printed. Document 01, "The bench".
--     steps_of e c s           c steps of an engine: the bursts made, and the machine afterwards
--     record_of r s            one record on a machine: what happened, and the machine afterwards
--     replay bs               all that is printed for the input bs
-- Assumes nothing: these are definitions.
use Rattle.std.specs.Prelude.{ℕ, zero, suc, ◌+◌, true, false, List, [], ◌∷◌, ◌++◌, length, take, drop, Ok, Err, Some, None}
use Rattle.guard.specs.Answers.{number_of}
use Rattle.phases.specs.declared.Engine.{Engine}
use Rattle.machine.specs.Machine.{Machine, write, kind, frame, step, apply, fresh_machine}
use Rattle.records.specs.declared.Record.{Record}
use Rattle.records.specs.declared.Record.TheVariants.{Ram, Write, Kind, Frame, Steps}
use Rattle.records.specs.declared.Event.{Event}
use Rattle.records.specs.declared.Event.TheVariants.{Wrote, Changed, Framed, Moved}
use Rattle.records.specs.Records.{Decoded, decode}
use Rattle.records.specs.Lines.{lines_of, sent_line, bad_line}

abbrev pub Played : Type 0
Played = List Event × Machine

-- "u8 count from 1": each step's burst, in order
abbrev pub steps_of : Engine → ℕ → Machine → Played
steps_of e zero s = ([], s)
steps_of e (suc c) s =
    let x = apply (step e) s in
    let t = steps_of e c x.machine in
    (Moved x.burst ∷ t.0, t.1)

-- a `Ram` record is the first of its file, and begins a run; within one it changes nothing
unfoldable pub record_of : Record → Machine → Played
record_of (Ram n) s = ([], s)
record_of (Write a v) s = let x = apply (write a v) s in (Wrote a (number_of x.answer) ∷ [], x.machine)
record_of (Kind b k) s = let x = apply (kind b k) s in (Changed b (number_of x.answer) ∷ [], x.machine)
record_of (Frame n) s = let x = apply (frame n) s in (Framed n (number_of x.answer) ∷ [], x.machine)
record_of (Steps e c) s = steps_of e c s

-- what is printed from offset o on, where a record was decoded; rest prints what follows it
abbrev pub replay_at : ℕ → Machine → List ℕ → (ℕ → Machine → List ℕ → List ℕ) → Decoded → List ℕ
replay_at o s bs rest (Ok None) = sent_line s.ctl.sent s.ctl.received
replay_at o s bs rest (Err e) = bad_line o
replay_at o s bs rest (Ok (Some (r, n))) = let p = record_of r s in lines_of p.0 ++ rest (o + n) p.1 (drop n bs)

-- the records from offset o on: at most k of them
abbrev pub replay_for : ℕ → ℕ → Machine → List ℕ → List ℕ
replay_for zero o s bs = []
replay_for (suc k) o s bs = replay_at o s bs (λ p t cs. replay_for k p t cs) (decode false bs)

abbrev pub replay_first : List ℕ → Decoded → List ℕ
replay_first bs (Ok None) = bad_line 0
replay_first bs (Err e) = bad_line 0
replay_first bs (Ok (Some (Ram n, size))) =
    replay_for (suc (length bs)) size (fresh_machine (take n (drop 4 bs))) (drop size bs)
replay_first bs (Ok (Some (Write a v, size))) = bad_line 0
replay_first bs (Ok (Some (Kind b k, size))) = bad_line 0
replay_first bs (Ok (Some (Frame n, size))) = bad_line 0
replay_first bs (Ok (Some (Steps e c, size))) = bad_line 0

unfoldable pub replay : List ℕ → List ℕ
replay bs = replay_first bs (decode true bs)
