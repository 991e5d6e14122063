-- The chain check: 12 to 17 along a chain. Document 01, "Judging" and "Answers by number": "In a chain the first faulty
-- descriptor decides, then the lowest number".
--     block_fault kinds side x1 x2 x3   16 for a buffer
--     desc_fault kinds w pl d           14, 15, 16, 17 of the descriptor at word d, standing at place pl
--     judge_step kinds w                one descriptor: 12, 13 and the rest, then on to the next
--     chain_of kinds w pl met p         the chain from pointer p: refusal number (0 for none), where it was found, words met
--     place_of side                     where a chain of that side begins
--     verdict_of side kinds w met p     the same as the answer that is given: with 16, the block that bars the buffer
--     verdict_number v                  the refusal number of such an answer
--     told a                            the answer that is given, by its number
-- The place of a fault: for 12 the bad pointer itself, else the descriptor judged.
-- w is descriptor memory as a function of the word number. Laws: proofs/ChainLaws.antt. Assumes nothing: these are definitions.
use Rattle.std.specs.Prelude.{ℕ, ◌+◌, List, Result, Ok, Err, eqb}
use Rattle.layout.specs.Choice.{pick, or_else}
use Rattle.layout.specs.Run.{Next, go, stop, run}
use Rattle.layout.specs.Layout.{good_ptr, word_of}
use Rattle.layout.specs.Refusals.{refusal_number}
use Rattle.layout.specs.declared.Side.{Side}
use Rattle.layout.specs.declared.Side.TheVariants.{Transmit, Receive}
use Rattle.words.specs.WordSet.{free_at, add_four, free_count}
use Rattle.blocks.specs.Room.{room_of, is_free}
use Rattle.blocks.specs.declared.Room.{Room}
use Rattle.blocks.specs.declared.Room.TheVariants.{Free}
use Rattle.descriptor.specs.Fields.{length_of, first_byte}
use Rattle.descriptor.specs.Rules.{side_at, flags_fault, length_fault, sum_fault, behind, next_fault}
use Rattle.descriptor.specs.declared.Place.{Place}
use Rattle.descriptor.specs.declared.Place.TheVariants.{Start, Buffer}
use Rattle.chain.specs.declared.Fault.{Fault}

-- transmit: "16 unless every block touched is Linux's"; receive: "16 unless every block touched is kind 1"
unfoldable pub block_fault : List ℕ → Side → ℕ → ℕ → ℕ → ℕ
block_fault kinds side x1 x2 x3 = pick (is_free (room_of side kinds (first_byte side x1 x2 x3) (length_of side x2))) 0 16

-- "then the lowest number"
unfoldable pub desc_fault : List ℕ → (ℕ → ℕ) → Place → ℕ → ℕ
desc_fault kinds w pl d =
    or_else (flags_fault pl (w (d + 3)))
    (or_else (length_fault (side_at pl) (w (d + 1)) (w (d + 2)) (w (d + 3)))
    (or_else (block_fault kinds (side_at pl) (w (d + 1)) (w (d + 2)) (w (d + 3)))
    (or_else (sum_fault pl (w (d + 2)) (w (d + 3)))
    (next_fault (behind pl (w (d + 2)) (w (d + 3))) (w d)))))

-- place, words met or in use, pointer; and number, place of the fault, words met
abbrev pub JSt : Type 0
JSt = Place × List ℕ × ℕ

abbrev pub JOut : Type 0
JOut = ℕ × ℕ × List ℕ

-- a descriptor without fault is met, and the chain goes on at its next, or ends where that is 0
abbrev pub past_desc : (ℕ → ℕ) → Place → List ℕ → ℕ → Next JSt JOut
past_desc w pl met d =
    pick (eqb (w d) 0)
    (stop (0, 0, add_four met d))
    (go (behind pl (w (d + 2)) (w (d + 3)), add_four met d, w d))

-- "12 bad descriptor pointer", "13 a word of the descriptor is in use or met earlier in this chain"
unfoldable pub judge_step : List ℕ → (ℕ → ℕ) → JSt → Next JSt JOut
judge_step kinds w s =
    pick (good_ptr s.2)
    (pick (free_at s.1 (word_of s.2))
    (pick (eqb (desc_fault kinds w s.0 (word_of s.2)) 0)
    (past_desc w s.0 s.1 (word_of s.2))
    (stop (desc_fault kinds w s.0 (word_of s.2), s.2, s.1)))
    (stop (13, s.2, s.1)))
    (stop (12, s.2, s.1))

-- the words not yet met fall at each descriptor
unfoldable pub chain_of : List ℕ → (ℕ → ℕ) → Place → List ℕ → ℕ → JOut
chain_of kinds w pl met p = run (judge_step kinds w) (λ t. (0, 0, t.1)) (λ t. free_count t.1) (pl, met, p)

abbrev pub place_of : Side → Place
place_of Transmit = Start
place_of Receive = Buffer

-- what the blocks say to the buffer of the descriptor at word d
unfoldable pub buffer_room : List ℕ → (ℕ → ℕ) → Side → ℕ → Room
buffer_room kinds w side d =
    room_of side kinds (first_byte side (w (d + 1)) (w (d + 2)) (w (d + 3))) (length_of side (w (d + 2)))

-- a fault by its number
pub record Said : Type 0 where
  pub number : ℕ
  pub place : ℕ
  pub room : Room

-- the answer: good where no rule is broken, else the number, its place, and with 16 what the blocks say there
abbrev pub said : List ℕ → (ℕ → ℕ) → Side → JOut → Result Unit Said
said kinds w side j =
    pick (eqb j.0 0) (Ok tt)
    (Err (record {
      number = j.0;
      place = j.1;
      room = pick (eqb j.0 16) (buffer_room kinds w side (word_of j.1)) Free;
    }))

unfoldable pub verdict_of : Side → List ℕ → (ℕ → ℕ) → List ℕ → ℕ → Result Unit Said × List ℕ
verdict_of side kinds w met p =
    let j = chain_of kinds w (place_of side) met p in
    (said kinds w side j, j.2)

abbrev pub verdict_number : Result Unit Said → ℕ
verdict_number (Ok x) = 0
verdict_number (Err f) = f.number

-- what is answered, by its number
abbrev pub told : Result Unit Fault → Result Unit Said
told (Ok x) = Ok tt
told (Err f) = Err (record { number = refusal_number f.refusal; place = f.place; room = f.room })
