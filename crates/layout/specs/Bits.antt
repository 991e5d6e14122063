-- Single bits of a word.
--     bit k w                    bit k of a word
--     set_bit k w, clear_bit k w   the word with bit k set, and clear
-- Laws: proofs/BitLaws.antt. Assumes nothing: these are definitions.
use Rattle.std.specs.Prelude.{ℕ, ◌+◌, ◌-◌, ◌/◌, ◌%◌, ◌^◌, Bool, ◌==◌}
use Rattle.layout.specs.Choice.{pick}

abbrev pub bit : ℕ → ℕ → Bool
bit k w = w / 2 ^ k % 2 == 1

unfoldable pub set_bit : ℕ → ℕ → ℕ
set_bit k w = pick (bit k w) w (w + 2 ^ k)

unfoldable pub clear_bit : ℕ → ℕ → ℕ
clear_bit k w = pick (bit k w) (w - 2 ^ k) w
