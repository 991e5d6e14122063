-- The change of a block's kind, a whole guard call. Document 01, "Judging": "Kind change: 18, 19, 20, then 21 if the new kind is not 1 and
-- a receive buffer in the book, at its handed-over length, touches the block".
--     in_reception w lens b  a receive buffer in the book, at its handed-over length, touches block b
--     kind_number b k ..     18 to 21 for the change of block b to kind k, or 0
--     judge_kind b k s       refused by that number, or made
--     kind_change b k s      the whole call
-- Laws: proofs/KindLaws.antt. Assumes nothing: these are definitions.
use Rattle.std.specs.Prelude.{ℕ, ◌+◌, Bool, true, false, not, List, [], ◌∷◌, length, get_or, set, eqb, leb, ltb}
use Rattle.layout.specs.Choice.{pick, both}
use Rattle.words.specs.Word.{word}
use Rattle.blocks.specs.Room.{touches}
use Rattle.book.specs.World.{World, set_kinds}
use Rattle.guard.specs.declared.Effect.TheVariants.{Plain}
use Rattle.guard.specs.Answers.{Outcome, accept, refuse}
use Rattle.guard.specs.Guard.{admitted}

-- one flag for each word at which a length is recorded, from word k on
abbrev pub received : (ℕ → ℕ) → ℕ → List ℕ → ℕ → Bool
received w k [] b = false
received w k (l ∷ ls) b = pick (touches b (w (k + 1)) l) true (received w (k + 1) ls b)

unfoldable pub in_reception : (ℕ → ℕ) → List ℕ → ℕ → Bool
in_reception w lens b = received w 0 lens b

-- w is descriptor memory, lens the recorded lengths, kinds the kind table
unfoldable pub kind_number : ℕ → ℕ → (ℕ → ℕ) → List ℕ → List ℕ → ℕ
kind_number b k w lens kinds =
    pick (ltb b (length kinds))
    (pick (both (leb 1 k) (leb k 4))
    (pick (eqb (get_or kinds b 0) 0) 20 (pick (both (not (eqb k 1)) (in_reception w lens b)) 21 0))
    19)
    18

unfoldable pub judge_kind : ℕ → ℕ → World → Outcome
judge_kind b k s =
    let n = kind_number b k (word s.mem) s.lens s.kinds in
    pick (eqb n 0) (accept Plain (set_kinds (set s.kinds b k) s)) (refuse n s)

unfoldable pub kind_change : ℕ → ℕ → World → Outcome
kind_change b k s = admitted s (λ t. judge_kind b k t)
