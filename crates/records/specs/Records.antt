-- The records of a bench file. Document 01, "The bench": "records, each after a two-byte mark, numbers little-endian".
--     Decoded, bad              what stands next, and that it is no record
--     found r                   what a decoder of one kind of record found, as what stands next
--     u16_at, u32_at bs i       the number at an offset; half_end: how many numbers two bytes hold
--     has_mark a b bs           the two-byte mark
--     needs n bs d            d where n bytes are there, else bad: a record that is cut
--     ram_max, record_max       the most kinds of an `RM` record, and the most bytes of any record
--     engine_max, engine_of e   the highest number of an engine, and the engine of a number
--     decode_ram, decode_write, decode_kind, decode_frame, decode_steps   each kind of record
--     decode first bs         what the bytes bs begin with; first: no record has been read yet
-- Laws: proofs/RecordLaws.antt, proofs/SizeLaws.antt. Assumes nothing: these are definitions.
use Rattle.std.specs.Prelude.{ℕ, ◌+◌, ◌*◌, ◌-◌, ◌/◌, ◌%◌, Bool, List, length, get_or, take, drop, eqb, leb}
use Rattle.std.specs.Prelude.{Result, Ok, Err, Option, None, Some}
use Rattle.layout.specs.Choice.{pick, both}
use Rattle.layout.specs.Layout.{blocks_max, channels}
use Rattle.blocks.specs.Kinds.{all_kinds}
use Rattle.phases.specs.declared.Engine.{Engine}
use Rattle.phases.specs.declared.Engine.TheVariants.{Reset}
use Rattle.phases.specs.Engines.{engine_at}
use Rattle.records.specs.declared.Record.{Record}
use Rattle.records.specs.declared.Record.TheVariants.{Ram, Write, Kind, Frame, Steps}
use Rattle.records.specs.declared.BadRecord.{BadRecord}

-- what stands next in a bench file: nothing, a record with its size in bytes, or something that is no record
abbrev pub Decoded : Type 0
Decoded = Result (Option (Record × ℕ)) BadRecord

-- "an unknown, cut or unfit record"
abbrev pub bad : Decoded
bad = Err (record {})

-- a record that was asked for was found, or none
abbrev pub found : Result (Record × ℕ) BadRecord → Decoded
found (Ok p) = Ok (Some p)
found (Err e) = Err e

abbrev pub u16_at : List ℕ → ℕ → ℕ
u16_at bs i = get_or bs i 0 + get_or bs (i + 1) 0 * 256

-- how many numbers two bytes hold
abbrev pub half_end : ℕ
half_end = 0x1_0000

abbrev pub u32_at : List ℕ → ℕ → ℕ
u32_at bs i = u16_at bs i + u16_at bs (i + 2) * half_end

abbrev pub has_mark : ℕ → ℕ → List ℕ → Bool
has_mark a b bs = both (eqb (get_or bs 0 0) a) (eqb (get_or bs 1 0) b)

abbrev pub needs : ℕ → List ℕ → Decoded → Decoded
needs n bs d = pick (leb n (length bs)) d bad

-- the most kinds of an `RM` record: the record's own limit, "1 ≤ N ≤ 16,384" as a kind table's is for now
abbrev pub ram_max : ℕ
ram_max = blocks_max

-- no record has more bytes: `RM`, N and the kinds
abbrev pub record_max : ℕ
record_max = 4 + ram_max

-- "`RM` u16 N and N kinds (first, once)"
unfoldable pub decode_ram : List ℕ → Decoded
decode_ram bs =
    let n = u16_at bs 2 in
    needs 4 bs
    (pick (both (leb 1 n) (leb n ram_max))
    (needs (4 + n) bs (pick (all_kinds (take n (drop 4 bs))) (Ok (Some (Ram n, 4 + n))) bad))
    bad)

-- "`GW` u32 address, u32 value; `KC` u16 block, u8 kind; `FR` u16 length"
abbrev pub decode_write : List ℕ → Decoded
decode_write bs = needs 10 bs (Ok (Some (Write (u32_at bs 2) (u32_at bs 6), 10)))

abbrev pub decode_kind : List ℕ → Decoded
decode_kind bs = needs 5 bs (Ok (Some (Kind (u16_at bs 2) (get_or bs 4 0), 5)))

abbrev pub decode_frame : List ℕ → Decoded
decode_frame bs = needs 4 bs (Ok (Some (Frame (u16_at bs 2), 4)))

-- "engine (0 reset, 1 transmit, 2 receive, 3, 4 their teardowns)", and so on by fours for further channels
abbrev pub engine_max : ℕ
engine_max = 4 * channels

unfoldable pub engine_of : ℕ → Engine
engine_of e = pick (eqb e 0) Reset (engine_at ((e - 1) % 4 + 1) ((e - 1) / 4))

-- "`ST` u8 engine .., u8 count from 1"
abbrev pub decode_steps : List ℕ → Decoded
decode_steps bs =
    needs 4 bs
    (pick (both (leb (get_or bs 2 0) engine_max) (leb 1 (get_or bs 3 0)))
    (Ok (Some (Steps (engine_of (get_or bs 2 0)) (get_or bs 3 0), 4)))
    bad)

unfoldable pub decode_later : List ℕ → Decoded
decode_later bs =
    pick (has_mark 71 87 bs) (decode_write bs)
    (pick (has_mark 75 67 bs) (decode_kind bs)
    (pick (has_mark 70 82 bs) (decode_frame bs)
    (pick (has_mark 83 84 bs) (decode_steps bs) bad)))

-- "A missing `RM`": nothing at all is one; one byte left over is a cut record
unfoldable pub decode : Bool → List ℕ → Decoded
decode first bs =
    pick first
    (needs 2 bs (pick (has_mark 82 77 bs) (decode_ram bs) bad))
    (pick (eqb (length bs) 0) (Ok None) (needs 2 bs (decode_later bs)))
