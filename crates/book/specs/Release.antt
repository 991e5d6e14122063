-- The release. Document 01, "The book and the release": "Then each queue from its head: TD set at the head, the whole queue goes.
-- Else OWNER clear, the queue goes through its first EOP descriptor (or to the end if none); if that one has EOQ the rest
-- goes too; else repeat. OWNER set stops."
--     Mode             where the walk stands: at a queue's head (Head), in a packet that goes (Packet), in a rest that goes (All)
--     Plan             what becomes of a descriptor: it is kept with all behind it (None), or dropped and the walk goes on in a mode (Some)
--     plan mode x3     the plan for a descriptor, by its word 3
--     released_from w u p mode   one queue: its new head, and words in use and lengths
--     released_all w mode heads u   every queue in turn
--     reset_over, settled, released_flags   the first two rules: reset and teardown that are over
--     with_heads hs t   the table with other heads
--     released_heads, released_book   the queues of a table; all three rules
-- Laws: proofs/ReleaseLaws.antt. Assumes nothing: these are definitions.
use Rattle.std.specs.Prelude.{ℕ, ◌+◌, Bool, not, List, [], ◌∷◌, ◌++◌, drop, eqb, Option, None, Some}
use Rattle.layout.specs.Choice.{pick, both}
use Rattle.layout.specs.Bits.{clear_bit}
use Rattle.layout.specs.Run.{Next, go, stop, run}
use Rattle.layout.specs.Layout.{good_ptr, word_of, queues}
use Rattle.words.specs.WordSet.{has, words_in_use}
use Rattle.descriptor.specs.Fields.{eop, owner, eoq, td}
use Rattle.registers.specs.Table.{tearings_of, set_tearings, heads_of, cps_of, reset_of, bit_of, unmarked}
use Rattle.registers.specs.Rules.{teardown_done}
use Rattle.book.specs.declared.Mode.{Mode}
use Rattle.book.specs.declared.Mode.TheVariants.{Head, Packet, All}
use Rattle.book.specs.HandOver.{Uses, drop_one}

abbrev pub Plan : Type 0
Plan = Option Mode

-- a descriptor of a packet that goes
abbrev pub through : ℕ → Plan
through x3 = pick (eop x3) (pick (eoq x3) (Some All) (Some Head)) (Some Packet)

unfoldable pub plan : Mode → ℕ → Plan
plan All x3 = Some All
plan Packet x3 = through x3
plan Head x3 = pick (td x3) (Some All) (pick (owner x3) None (through x3))

abbrev pub RSt : Type 0
RSt = Uses × ℕ × Mode

-- the head that is left, and what is in use
abbrev pub ROut : Type 0
ROut = ℕ × Uses

abbrev pub planned : Plan → Uses → ℕ → ℕ → Next RSt ROut
planned None u p next = stop (p, u)
planned (Some mode) u p next = go (drop_one u (word_of p), next, mode)

-- "The release goes descriptor by descriptor"; a pointer that names no descriptor in use ends it (0, in a sound book)
unfoldable pub release_step : (ℕ → ℕ) → RSt → Next RSt ROut
release_step w s =
    pick (good_ptr s.1)
    (pick (has s.0.0 (word_of s.1))
    (planned (plan s.2 (w (word_of s.1 + 3))) s.0 s.1 (w (word_of s.1)))
    (stop (s.1, s.0)))
    (stop (s.1, s.0))

-- "and ends because the words in use grow fewer"
unfoldable pub released_from : (ℕ → ℕ) → Uses → ℕ → Mode → ROut
released_from w u p mode = run (release_step w) (λ s. (s.1, s.0)) (λ s. words_in_use s.0.0) (u, p, mode)

unfoldable pub released_all : (ℕ → ℕ) → Mode → List ℕ → Uses → List ℕ × Uses
released_all w mode [] u = ([], u)
released_all w mode (h ∷ hs) u =
    let r = released_from w u h mode in
    let t = released_all w mode hs r.1 in
    (r.0 ∷ t.0, t.1)

-- "Reset pending and the bit reads 0"
abbrev pub reset_over : List ℕ → Bool
reset_over t = both (reset_of t) (not (bit_of t))

-- "Teardown pending and that side's CP reads 0xFFFFFFFC: pending ends"; the CPs are those of the queues from q on
abbrev pub settled : ℕ → ℕ → List ℕ → ℕ
settled mask q [] = mask
settled mask q (c ∷ cs) = settled (pick (eqb c teardown_done) (clear_bit q mask) mask) (q + 1) cs

-- ".. pending ends, all four registers await zero again"
unfoldable pub released_flags : List ℕ → List ℕ
released_flags t =
    let u = set_tearings (settled (tearings_of t) 0 (cps_of t)) t in
    pick (reset_over t) (unmarked u) u

-- ".. both queues go": the walk from each head then drops all
abbrev pub release_mode : List ℕ → Mode
release_mode t = pick (reset_over t) All Head

-- the table with these heads
abbrev pub with_heads : List ℕ → List ℕ → List ℕ
with_heads hs t = hs ++ drop queues t

-- each queue in turn, and the heads that are left put into the table
unfoldable pub released_heads : (ℕ → ℕ) → Mode → List ℕ → Uses → List ℕ × Uses
released_heads w mode t u = let r = released_all w mode (heads_of t) u in (with_heads r.0 t, r.1)

-- "Every guard call not answered 1 or 2 first releases"
unfoldable pub released_book : (ℕ → ℕ) → List ℕ → Uses → List ℕ × Uses
released_book w t u = let r = released_heads w (release_mode t) t u in (released_flags r.0, r.1)
