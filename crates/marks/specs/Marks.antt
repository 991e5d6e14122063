-- What the controller writes into a descriptor. Document 01, "The controller's steps".
--     put_length n w              a word with n as its bits 10..0
--     eoq_mark, owner_mark, td_mark transmit steps 4 and 5, and teardown step 1, on word 3
--     last_mark, first_mark        receive steps 4 and 5, on word 3
--     marked f d m               descriptor memory m with word 3 of the descriptor at word d changed by f
--     last_marked                 receive step 4 on both words that it writes
-- "other bits stay in 4 and 5". Laws: proofs/LengthLaws.antt, FlagLaws.antt, MarkLaws.antt. Assumes nothing: these are definitions.
use Rattle.std.specs.Prelude.{ℕ, ◌+◌, ◌-◌, ◌%◌, Bool, List, eqb}
use Rattle.layout.specs.Choice.{pick}
use Rattle.layout.specs.Bits.{set_bit, clear_bit}
use Rattle.words.specs.Word.{word, put}
use Rattle.descriptor.specs.Fields.{short_end}

unfoldable pub put_length : ℕ → ℕ → ℕ
put_length n w = w - w % short_end + n

-- "(4) If latched 0, set EOQ there"
abbrev pub eoq_mark : ℕ → ℕ
eoq_mark x3 = set_bit 28 x3

-- "(5) Clear OWNER in the SOP descriptor"
abbrev pub owner_mark : ℕ → ℕ
owner_mark x3 = clear_bit 29 x3

-- "(1) set TD at HDP"
abbrev pub td_mark : ℕ → ℕ
td_mark x3 = set_bit 27 x3

-- "(4) In the last descriptor set EOP, .. and EOQ if latched 0"
abbrev pub last_mark : ℕ → ℕ → ℕ
last_mark latched x3 = pick (eqb latched 0) (set_bit 28 (set_bit 30 x3)) (set_bit 30 x3)

-- "(5) In the first set SOP, packet length to all bytes stored, bit 22 to the overrun, and clear OWNER"
abbrev pub first_mark : ℕ → Bool → ℕ → ℕ
first_mark stored overrun x3 =
    clear_bit 29 (pick overrun (set_bit 22 (set_bit 31 (put_length stored x3))) (clear_bit 22 (set_bit 31 (put_length stored x3))))

unfoldable pub marked : (ℕ → ℕ) → ℕ → List ℕ → List ℕ
marked f d m = put m (d + 3) (f (word m (d + 3)))

-- "(4) In the last descriptor set EOP, length to the bytes stored there, and EOQ if latched 0."
unfoldable pub last_marked : ℕ → ℕ → ℕ → List ℕ → List ℕ
last_marked here latched d m = marked (last_mark latched) d (put m (d + 2) (put_length here (word m (d + 2))))
