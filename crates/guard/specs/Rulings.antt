-- The judges in the parts that the functions have. Each is a piece of a definition of Judges.antt;
-- the laws that put them together are in proofs/ChainLaws.antt, GivesLaws.antt and AckLaws.antt.
--     handed_over, appended   a chain that is judged and, without fault, taken; and its address stored in word k
--     ruled k t' t           a register judge that found the fault k, or changed the table t to t'
--     free_word a u           a is the address of a descriptor word that is not in use
--     plain_store a w t u     a write there is a store and nothing else: there is nothing to release either
--     cp_address q            where the CP of queue q stands
-- Assumes nothing: these are definitions.
use Rattle.std.specs.Prelude.{ℕ, ◌+◌, ◌-◌, ◌*◌, ◌/◌, ◌%◌, Bool, not, List, ◌==◌}
use Rattle.layout.specs.Choice.{pick, both}
use Rattle.layout.specs.Layout.{desc_first, in_descriptors}
use Rattle.layout.specs.declared.Side.{Side}
use Rattle.words.specs.Word.{word, put}
use Rattle.words.specs.WordSet.{has}
use Rattle.chain.specs.Chain.{place_of, chain_of}
use Rattle.book.specs.HandOver.{Uses, taken_from}
use Rattle.book.specs.Quiet.{quiet}
use Rattle.guard.specs.declared.Effect.TheVariants.{Plain}
use Rattle.guard.specs.declared.Answer.{Answer}
use Rattle.guard.specs.declared.Answer.TheVariants.{Accepted, Refused}

-- number, words in use and lengths
unfoldable pub handed_over : Side → List ℕ → (ℕ → ℕ) → Uses → ℕ → ℕ × Uses
handed_over side kinds w u p =
    let n = (chain_of kinds w (place_of side) u.0 p).0 in
    pick (n == 0) (0, taken_from w side u p) (n, u)

-- the same, and descriptor memory
unfoldable pub appended : Side → List ℕ → ℕ → List ℕ → Uses → ℕ → ℕ × Uses × List ℕ
appended side kinds k m u p =
    let n = (chain_of kinds (word m) (place_of side) u.0 p).0 in
    pick (n == 0) (0, taken_from (word m) side u p, put m k p) (n, u, m)

-- "A descriptor word not in use: stored."
unfoldable pub free_word : ℕ → List ℕ → Bool
free_word a u = both (in_descriptors a) (both (a % 4 == 0) (not (has u ((a - desc_first) / 4))))

abbrev pub plain_store : ℕ → (ℕ → ℕ) → List ℕ → List ℕ → Bool
plain_store a w t u = both (free_word a u) (quiet w t)

-- "TX0_CP A40, RX0_CP A60", by channel
abbrev pub cp_address : ℕ → ℕ
cp_address q = 0x4A10_0A40 + 0x20 * (q % 2) + 4 * (q / 2)

unfoldable pub ruled : ℕ → List ℕ → List ℕ → Answer × List ℕ
ruled k t' t = pick (k == 0) (Accepted Plain, t') (Refused k, t)
