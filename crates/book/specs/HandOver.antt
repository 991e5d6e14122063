-- Taking and dropping one descriptor: the only places where words in use and recorded lengths change; and the hand-over of a
-- whole chain. Document 01, "Once accepted: a start sets .. the book's head, words and lengths. .. An append .. adds words
-- and lengths", "what goes is out of use with recorded length 0".
--     Uses                      words in use, recorded lengths
--     recorded_length side x2    what is recorded for a descriptor: a receive length as handed over, else 0
--     take_one, drop_one          one descriptor in use, out of use
--     taken_from w side u p      every descriptor from p on taken
-- Laws: proofs/HandOverLaws.antt. Assumes nothing: these are definitions.
use Rattle.std.specs.Prelude.{ℕ, ◌+◌, List, set}
use Rattle.layout.specs.Choice.{pick}
use Rattle.layout.specs.Run.{Next, go, stop, run}
use Rattle.layout.specs.Layout.{good_ptr, word_of}
use Rattle.layout.specs.declared.Side.{Side}
use Rattle.layout.specs.declared.Side.TheVariants.{Transmit, Receive}
use Rattle.words.specs.WordSet.{free_at, add_four, drop_four, free_count}
use Rattle.descriptor.specs.Fields.{length_of}

abbrev pub Uses : Type 0
Uses = List ℕ × List ℕ

abbrev pub recorded_length : Side → ℕ → ℕ
recorded_length Transmit x2 = 0
recorded_length Receive x2 = length_of Receive x2

unfoldable pub take_one : Side → ℕ → Uses → ℕ → Uses
take_one side x2 u d = (add_four u.0 d, set u.1 d (recorded_length side x2))

unfoldable pub drop_one : Uses → ℕ → Uses
drop_one u d = (drop_four u.0 d, set u.1 d 0)

unfoldable pub hand_over_step : (ℕ → ℕ) → Side → Uses × ℕ → Next (Uses × ℕ) Uses
hand_over_step w side s =
    pick (good_ptr s.1)
    (pick (free_at s.0.0 (word_of s.1))
    (go (take_one side (w (word_of s.1 + 2)) s.0 (word_of s.1), w (word_of s.1)))
    (stop s.0))
    (stop s.0)

unfoldable pub taken_from : (ℕ → ℕ) → Side → Uses → ℕ → Uses
taken_from w side u p = run (hand_over_step w side) (λ s. s.0) (λ s. free_count s.0.0) (u, p)
