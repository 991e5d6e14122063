-- A whole guard call, from 1 and 2 down to what is stored. Document 01, "Answers by number", "The book and the release",
-- "Judging".
--     state_fault m k t u l  1 or 2, from what they read, or 0
--     admitted s act        1, 2, then the release, then what the call itself does
--     guest_write a v s      a guest write of v to address a
-- Assumes nothing: these are definitions.
use Rattle.std.specs.Prelude.{ℕ, List}
use Rattle.layout.specs.Choice.{pick}
use Rattle.words.specs.Word.{word}
use Rattle.book.specs.World.{World, fit_parts, sound_book, unfit, sound_world, release}
use Rattle.guard.specs.Answers.{Outcome, refuse}
use Rattle.guard.specs.Judges.{judge}

unfoldable pub state_fault : List ℕ → List ℕ → List ℕ → List ℕ → List ℕ → ℕ
state_fault m kinds t used lens = pick (fit_parts m kinds) (pick (sound_book (word m) t used lens) 0 2) 1

-- "After 1, 2 .. nothing changes"; "Every guard call not answered 1 or 2 first releases"
unfoldable pub admitted : World → (World → Outcome) → Outcome
admitted s act = pick (unfit s) (refuse 1 s) (pick (sound_world s) (act (release s)) (refuse 2 s))

unfoldable pub guest_write : ℕ → ℕ → World → Outcome
guest_write a v s = admitted s (λ t. judge a v t)
