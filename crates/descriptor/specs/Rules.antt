-- The rules 14, 15 and 17 of one descriptor, which the guard's chain check and the controller's fetch share.
-- Document 01, "Judging". Each gives its refusal number, or 0, from the descriptor's words.
--     Place                     where in a chain a descriptor stands: Start of a packet, Middle of one (with the SOP
--                               descriptor's word 3 and the lengths so far), or a receive Buffer
--     side_at pl                 the side of such a chain
--     flags_fault, length_fault   14 and 15
--     end_fault s n              17 at the end of a packet whose SOP word 3 is s and whose lengths sum to n
--     sum_fault, next_fault       17 at this descriptor: at EOP, and where the chain ends inside a packet
--     behind pl x2 x3           the place of the descriptor after this one
--     own_fault                  14, then 15, then 17 at EOP: all but the blocks and the chain's end
-- Laws: proofs/RuleLaws.antt. Assumes nothing: these are definitions.
use Rattle.std.specs.Prelude.{ℕ, ◌+◌, min, Bool, false, not, eqb, ltb}
use Rattle.layout.specs.Choice.{pick, or_else}
use Rattle.layout.specs.Layout.{address_end, word_max}
use Rattle.layout.specs.declared.Side.{Side}
use Rattle.layout.specs.declared.Side.TheVariants.{Transmit, Receive}
use Rattle.descriptor.specs.declared.Place.{Place}
use Rattle.descriptor.specs.declared.Place.TheVariants.{Start, Middle, Buffer}
use Rattle.descriptor.specs.Fields.{sop, eop, owner, eoq, td, packet_length, length_of, offset_of, first_byte}

abbrev pub side_at : Place → Side
side_at Start = Transmit
side_at (Middle s n) = Transmit
side_at Buffer = Receive

-- "EOQ and TD clear", on every descriptor of either side
abbrev pub end_flags_fault : ℕ → ℕ
end_flags_fault x3 = pick (eoq x3) 14 (pick (td x3) 14 0)

-- "14 unless SOP is set exactly on the chain's first descriptor and after each EOP, OWNER is set with SOP, EOQ and TD clear";
-- receive: "14 unless OWNER set and SOP, EOP, EOQ, TD clear"
unfoldable pub flags_fault : Place → ℕ → ℕ
flags_fault Start x3 = pick (sop x3) (pick (owner x3) (end_flags_fault x3) 14) 14
flags_fault (Middle s n) x3 = pick (sop x3) 14 (end_flags_fault x3)
flags_fault Buffer x3 = pick (owner x3) (pick (sop x3) 14 (pick (eop x3) 14 (end_flags_fault x3))) 14

-- "offset nonzero" is a fault on the receive side alone
abbrev pub offset_bad : Side → ℕ → Bool
offset_bad Transmit x2 = false
offset_bad Receive x2 = not (eqb (offset_of Receive x2) 0)

-- "15 if length is 0", receive: "offset nonzero", "or the last byte passes 2^32 − 1"
unfoldable pub length_fault : Side → ℕ → ℕ → ℕ → ℕ
length_fault side x1 x2 x3 =
    pick (eqb (length_of side x2) 0) 15
    (pick (offset_bad side x2) 15
    (pick (ltb address_end (first_byte side x1 x2 x3 + length_of side x2)) 15 0))

-- the packet's SOP word 3, and its lengths with this descriptor's. A sum stops at 2^32 − 1: far above any packet length
abbrev pub sop_at : Place → ℕ → ℕ
sop_at Start x3 = x3
sop_at (Middle s n) x3 = s
sop_at Buffer x3 = 0

abbrev pub sum_at : Place → ℕ → ℕ
sum_at Start x2 = length_of Transmit x2
sum_at (Middle s n) x2 = min (n + length_of Transmit x2) word_max
sum_at Buffer x2 = 0

-- "17 if .. at EOP the lengths do not sum to the SOP's packet length"
unfoldable pub end_fault : ℕ → ℕ → ℕ
end_fault s n = pick (eqb n (packet_length s)) 0 17

unfoldable pub sum_fault : Place → ℕ → ℕ → ℕ
sum_fault Start x2 x3 = pick (eop x3) (end_fault x3 (sum_at Start x2)) 0
sum_fault (Middle s n) x2 x3 = pick (eop x3) (end_fault s (sum_at (Middle s n) x2)) 0
sum_fault Buffer x2 x3 = 0

unfoldable pub behind : Place → ℕ → ℕ → Place
behind Start x2 x3 = pick (eop x3) Start (Middle x3 (sum_at Start x2))
behind (Middle s n) x2 x3 = pick (eop x3) Start (Middle s (sum_at (Middle s n) x2))
behind Buffer x2 x3 = Buffer

-- a chain may not end inside a packet: "17 if next is 0 without EOP"; pl is the place behind the descriptor
abbrev pub ends_at : Place → ℕ
ends_at Start = 0
ends_at (Middle s n) = 17
ends_at Buffer = 0

unfoldable pub next_fault : Place → ℕ → ℕ
next_fault pl x0 = pick (eqb x0 0) (ends_at pl) 0

unfoldable pub own_fault : Place → ℕ → ℕ → ℕ → ℕ
own_fault pl x1 x2 x3 = or_else (flags_fault pl x3) (or_else (length_fault (side_at pl) x1 x2 x3) (sum_fault pl x2 x3))

-- the controller's fetch: "undefined on 12, 14, 15, 17" (12 is asked of the pointer before)
unfoldable pub fetch_fault : Place → ℕ → ℕ → ℕ → ℕ → ℕ
fetch_fault pl x0 x1 x2 x3 = or_else (own_fault pl x1 x2 x3) (next_fault (behind pl x2 x3) x0)
