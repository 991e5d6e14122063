-- The change of one block in the parts that the functions have; the law that joins them is `kind-gives` in proofs/KindLaws.antt.
--     kind_outcome      the number, and the kind table afterwards
-- Assumes nothing: these are definitions.
use Rattle.std.specs.Prelude.{ℕ, List, set, eqb}
use Rattle.layout.specs.Choice.{pick}
use Rattle.kinds.specs.Kinds.{kind_number}

unfoldable pub kind_outcome : ℕ → ℕ → (ℕ → ℕ) → List ℕ → List ℕ → ℕ × List ℕ
kind_outcome b k w lens kinds =
    pick (eqb (kind_number b k w lens kinds) 0) (0, set kinds b k) (kind_number b k w lens kinds, kinds)
