-- The bench's example of document 01, byte for byte.
--     example_in, example_out    its input, and "prints exactly"
-- Proved: proofs/Example.antt. Assumes nothing: these are definitions.
use Rattle.std.specs.Prelude.{ℕ, List, [], ◌∷◌}

-- "Input RM 4 with kinds 0,1,2,3; GW 4A100A04, 0; KC 1, 2"
abbrev pub example_in : List ℕ
example_in = 82 ∷ 77 ∷ 4 ∷ 0 ∷ 0 ∷ 1 ∷ 2 ∷ 3 ∷ 71 ∷ 87 ∷ 4 ∷ 10 ∷ 16 ∷ 74 ∷ 0 ∷ 0 ∷ 0 ∷ 0 ∷ 75 ∷ 67 ∷ 1 ∷ 0 ∷ 2 ∷ []

-- "prints exactly": W 4A100A04 5, K 1 0, sent 0 received 0, each on a line of its own
abbrev pub example_out : List ℕ
example_out =
    87 ∷ 32 ∷ 52 ∷ 65 ∷ 49 ∷ 48 ∷ 48 ∷ 65 ∷ 48 ∷ 52 ∷ 32 ∷ 53 ∷ 10
    ∷ 75 ∷ 32 ∷ 49 ∷ 32 ∷ 48 ∷ 10
    ∷ 115 ∷ 101 ∷ 110 ∷ 116 ∷ 32 ∷ 48 ∷ 32 ∷ 114 ∷ 101 ∷ 99 ∷ 101 ∷ 105 ∷ 118 ∷ 101 ∷ 100 ∷ 32 ∷ 48 ∷ 10 ∷ []
