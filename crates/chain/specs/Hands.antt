-- What the chain's rules hand to each other and answer with: thin values, so that a rule's call of a rule is a jump.
--     unpacked v met    the chain's answer in a number that has the refusal's in the low byte and above it the place, and the words met
--     fault_of kinds pl d   14 to 17 of a descriptor, by its four words
--     fault_at           12, 13 and the rest of the descriptor that a pointer names
--     judged pl p h met   what is handed on at pointer p, as a step of the judge: a refusal, or the descriptor there, met
--     IsNumber n        n is the number of a chain's answer
--     Measured w side p the descriptor that pointer p names has its length in order
--     single w p        pointer p names a descriptor, and a chain ends behind it
-- Assumes nothing: these are definitions.
use Rattle.std.specs.Prelude.{ℕ, ◌+◌, ◌/◌, ◌%◌, ◌≡◌, ◌≤◌, ◌⊎◌, Bool, true, List, Result, Ok, Err, eqb}
use Rattle.layout.specs.Choice.{pick, both, or_else}
use Rattle.layout.specs.Layout.{good_ptr, word_of}
use Rattle.layout.specs.Refusals.{refusal_number}
use Rattle.layout.specs.declared.refusals.Refusal.{Refusal}
use Rattle.layout.specs.Run.{Next, go, stop}
use Rattle.layout.specs.declared.Side.{Side}
use Rattle.words.specs.WordSet.{free_at}
use Rattle.descriptor.specs.Rules.{side_at, flags_fault, length_fault, sum_fault, behind, next_fault}
use Rattle.descriptor.specs.declared.Descriptor.{Descriptor}
use Rattle.descriptor.specs.declared.Place.{Place}
use Rattle.chain.specs.Chain.{JSt, JOut, block_fault, desc_fault}

abbrev pub unpacked : ℕ → List ℕ → JOut
unpacked v met = (v % 256, v / 256, met)

unfoldable pub fault_of : List ℕ → Place → Descriptor → ℕ
fault_of kinds pl d =
    or_else (flags_fault pl d.word3)
    (or_else (length_fault (side_at pl) d.buffer d.word2 d.word3)
    (or_else (block_fault kinds (side_at pl) d.buffer d.word2 d.word3)
    (or_else (sum_fault pl d.word2 d.word3) (next_fault (behind pl d.word2 d.word3) d.next))))

-- 12, 13 and the rest, of the descriptor that pointer p names
unfoldable pub fault_at : List ℕ → (ℕ → ℕ) → Place → List ℕ → ℕ → ℕ
fault_at kinds w pl met p =
    pick (good_ptr p) (pick (free_at met (word_of p)) (desc_fault kinds w pl (word_of p)) 13) 12

unfoldable pub judged : Place → ℕ → Result Descriptor Refusal → List ℕ → Next JSt JOut
judged pl p (Ok d) met = pick (eqb d.next 0) (stop (0, 0, met)) (go (behind pl d.word2 d.word3, met, d.next))
judged pl p (Err r) met = stop (refusal_number r, p, met)

abbrev pub IsNumber : ℕ → Type 0
IsNumber n = (n ≡ 0) ⊎ ((12 ≤ n) × (n ≤ 17))

abbrev pub Measured : (ℕ → ℕ) → Side → ℕ → Type 0
Measured w side p =
    (good_ptr p ≡ true) × (length_fault side (w (word_of p + 1)) (w (word_of p + 2)) (w (word_of p + 3)) ≡ 0)

unfoldable pub single : (ℕ → ℕ) → ℕ → Bool
single w p = both (good_ptr p) (eqb (w (word_of p)) 0)
