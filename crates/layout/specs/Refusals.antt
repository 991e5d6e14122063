-- The refusals by number. Document 01, "Answers by number".
--     refusal_number r   the number of a refusal
--     fault a            the number of an answer that says no more than that: 0 where nothing is refused
-- Assumes nothing: these are definitions.
use Rattle.std.specs.Prelude.{ℕ, Result, Ok, Err}
use Rattle.layout.specs.declared.refusals.Refusal.{Refusal}
use Rattle.layout.specs.declared.refusals.Refusal.TheVariants.{Unfit, Unsound, Misaligned, NotGuarded, NotOffered, NotInitialised}
use Rattle.layout.specs.declared.refusals.Refusal.TheVariants.{ResetPending, TeardownPending, BadValue, Busy, WordInUse, BadPointer}
use Rattle.layout.specs.declared.refusals.Refusal.TheVariants.{Overlap, Flags, BadLength, NotPermitted, Unfinished, NoBlock, BadKind}
use Rattle.layout.specs.declared.refusals.Refusal.TheVariants.{NotLinux, InReception, Undefined, BadFrame, Dropped}

abbrev pub refusal_number : Refusal → ℕ
refusal_number Unfit = 1
refusal_number Unsound = 2
refusal_number Misaligned = 3
refusal_number NotGuarded = 4
refusal_number NotOffered = 5
refusal_number NotInitialised = 6
refusal_number ResetPending = 7
refusal_number TeardownPending = 8
refusal_number BadValue = 9
refusal_number Busy = 10
refusal_number WordInUse = 11
refusal_number BadPointer = 12
refusal_number Overlap = 13
refusal_number Flags = 14
refusal_number BadLength = 15
refusal_number NotPermitted = 16
refusal_number Unfinished = 17
refusal_number NoBlock = 18
refusal_number BadKind = 19
refusal_number NotLinux = 20
refusal_number InReception = 21
refusal_number Undefined = 22
refusal_number BadFrame = 23
refusal_number Dropped = 24

abbrev pub fault : Result Unit Refusal → ℕ
fault (Ok x) = 0
fault (Err r) = refusal_number r
