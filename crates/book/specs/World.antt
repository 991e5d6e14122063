-- All that a guard call may read and change, in one record, and the release of a whole world.
-- Document 01, "The guard may read the book, descriptor memory, kinds, both HDPs, both CPs and the reset bit".
--     World                     descriptor memory, kinds, the small state, words in use, recorded lengths
--     set_mem, set_kinds, set_state, set_uses   named changes, one for each part
--     fit_parts m kinds, unfit s 1: "descriptor memory not 8,192 bytes, N out of range, or a kind byte over 4"
--     sound_book, sound_world s   2 where false
--     fresh_state, fresh_used, fresh_lens   the guard's part of a fresh machine: zero registers, no flag, empty queues
--     release s                 "Every guard call not answered 1 or 2 first releases"
-- Assumes nothing: these are definitions.
use Rattle.std.specs.Prelude.{ℕ, Bool, not, List, length, replicate, eqb}
use Rattle.layout.specs.Choice.{both}
use Rattle.layout.specs.Layout.{desc_bytes, desc_words}
use Rattle.words.specs.Word.{word}
use Rattle.words.specs.WordSet.{empty_set}
use Rattle.blocks.specs.Kinds.{fit_kinds}
use Rattle.registers.specs.Table.{state_words, heads_of, flags_fit}
use Rattle.book.specs.Sound.{sound}
use Rattle.book.specs.HandOver.{Uses}
use Rattle.book.specs.Release.{released_book}

pub record World : Type 0 where
  pub mem : List ℕ
  pub kinds : List ℕ
  pub state : List ℕ
  pub used : List ℕ
  pub lens : List ℕ

abbrev pub set_mem : List ℕ → World → World
set_mem m s = record { mem = m; kinds = s.kinds; state = s.state; used = s.used; lens = s.lens }

abbrev pub set_kinds : List ℕ → World → World
set_kinds k s = record { mem = s.mem; kinds = k; state = s.state; used = s.used; lens = s.lens }

abbrev pub set_state : List ℕ → World → World
set_state t s = record { mem = s.mem; kinds = s.kinds; state = t; used = s.used; lens = s.lens }

abbrev pub set_uses : Uses → World → World
set_uses u s = record { mem = s.mem; kinds = s.kinds; state = s.state; used = u.0; lens = u.1 }

unfoldable pub fit_parts : List ℕ → List ℕ → Bool
fit_parts m kinds = both (eqb (length m) desc_bytes) (fit_kinds kinds)

unfoldable pub unfit : World → Bool
unfit s = not (fit_parts s.mem s.kinds)

-- a flag that is neither set nor clear belongs to no book either
unfoldable pub sound_book : (ℕ → ℕ) → List ℕ → List ℕ → List ℕ → Bool
sound_book w t used lens = both (flags_fit t) (sound w (heads_of t) used lens)

unfoldable pub sound_world : World → Bool
sound_world s = sound_book (word s.mem) s.state s.used s.lens

unfoldable pub release : World → World
release s = let r = released_book (word s.mem) s.state (s.used, s.lens) in set_state r.0 (set_uses r.1 s)

-- ---- "A fresh machine has zero .. registers, empty queues, .. and awaits all four zeros"

abbrev pub fresh_state : List ℕ
fresh_state = replicate state_words 0

abbrev pub fresh_used : List ℕ
fresh_used = empty_set

abbrev pub fresh_lens : List ℕ
fresh_lens = replicate desc_words 0
