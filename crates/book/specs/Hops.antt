-- What is left to do after one descriptor, as the walks' own functions tell it: None where the walk stops, or Some next. Each of these
-- reads such an answer as the `Next` of the walk's definition.
--     turned t p u     of the release, at p with u left in use: where it goes on, and in which mode
--     taken h u        of a hand-over, with u in use
--     walked h p met   of the chain walk, at p with the words met: it ended well where p is 0
--     noted h firsts   of the noting of first words
-- Assumes nothing: these are definitions.
use Rattle.std.specs.Prelude.{ℕ, List, eqb, Option, None, Some}
use Rattle.layout.specs.Run.{Next, go, stop}
use Rattle.book.specs.declared.Mode.{Mode}
use Rattle.book.specs.HandOver.{Uses}
use Rattle.book.specs.Release.{RSt, ROut}
use Rattle.book.specs.Sound.{WSt, WOut}

abbrev pub turned : Option (ℕ × Mode) → ℕ → Uses → Next RSt ROut
turned None p u = stop (p, u)
turned (Some at) p u = go (u, at.0, at.1)

abbrev pub taken : Option ℕ → Uses → Next (Uses × ℕ) Uses
taken None u = stop u
taken (Some next) u = go (u, next)

abbrev pub walked : Option ℕ → ℕ → List ℕ → Next WSt WOut
walked None p met = stop (eqb p 0, met)
walked (Some next) p met = go (met, next)

abbrev pub noted : Option ℕ → List ℕ → Next WSt (List ℕ)
noted None firsts = stop firsts
noted (Some next) firsts = go (firsts, next)
