-- The fields of a descriptor's four words. Document 01, "Memory, blocks and descriptors".
--     bits hi lo w                 the bits hi..lo of a word
--     sop, eop, owner, eoq, td     the flags of word 3
--     flag_of f x3                 the flag of word 3 that f names
--     short_end, long_end            one past the largest length of eleven bits, and of sixteen
--     length_of side x2             the length in word 2
--     first_byte side x1 x2 x3      the buffer's first byte
--     packet_length x3              the packet length in word 3
--     desc_at w d                   the descriptor whose first word is word d, where w k is word k
-- Laws: proofs/FlagLaws.antt. Assumes nothing: these are definitions.
use Rattle.std.specs.Prelude.{ℕ, suc, ◌+◌, ◌-◌, ◌/◌, ◌%◌, ◌^◌, Bool}
use Rattle.layout.specs.Choice.{pick}
use Rattle.layout.specs.Bits.{bit}
use Rattle.layout.specs.declared.Side.{Side}
use Rattle.layout.specs.declared.Side.TheVariants.{Transmit, Receive}
use Rattle.descriptor.specs.declared.Flag.{Flag}
use Rattle.descriptor.specs.declared.Flag.TheVariants.{Td, Eoq, Owner, Eop, Sop}
use Rattle.descriptor.specs.declared.Descriptor.{Descriptor}

abbrev pub bits : ℕ → ℕ → ℕ → ℕ
bits hi lo w = w / 2 ^ lo % 2 ^ (suc hi - lo)

-- "Word 3: SOP 31, EOP 30, OWNER 29, EOQ 28, TDOWNCMPLT (TD) 27, .."
unfoldable pub sop : ℕ → Bool
sop x3 = bit 31 x3

unfoldable pub eop : ℕ → Bool
eop x3 = bit 30 x3

unfoldable pub owner : ℕ → Bool
owner x3 = bit 29 x3

unfoldable pub eoq : ℕ → Bool
eoq x3 = bit 28 x3

unfoldable pub td : ℕ → Bool
td x3 = bit 27 x3

abbrev pub flag_of : Flag → ℕ → Bool
flag_of Td x3 = td x3
flag_of Eoq x3 = eoq x3
flag_of Owner x3 = owner x3
flag_of Eop x3 = eop x3
flag_of Sop x3 = sop x3

-- a packet and a receive buffer have a length of eleven bits, a transmit buffer one of sixteen
abbrev pub short_end : ℕ
short_end = 2048

abbrev pub long_end : ℕ
long_end = 65536

-- ".. packet length 10..0"
unfoldable pub packet_length : ℕ → ℕ
packet_length x3 = x3 % short_end

-- "Word 2, transmit: .. length 15..0. Receive: .. length 10..0"
unfoldable pub length_of : Side → ℕ → ℕ
length_of Transmit x2 = x2 % long_end
length_of Receive x2 = x2 % short_end

-- "Word 2, transmit: offset 31..16, .. Receive: offset 26..16"
unfoldable pub offset_of : Side → ℕ → ℕ
offset_of Transmit x2 = x2 / long_end
offset_of Receive x2 = bits 26 16 x2

-- "A buffer's first byte is the buffer pointer, plus the offset for a transmit SOP descriptor only"
unfoldable pub first_byte : Side → ℕ → ℕ → ℕ → ℕ
first_byte Transmit x1 x2 x3 = pick (sop x3) (x1 + offset_of Transmit x2) x1
first_byte Receive x1 x2 x3 = x1

-- "A descriptor is four words." "Word 0: next. Word 1: buffer pointer."
unfoldable pub desc_at : (ℕ → ℕ) → ℕ → Descriptor
desc_at w d = record { next = w d; buffer = w (d + 1); word2 = w (d + 2); word3 = w (d + 3) }
