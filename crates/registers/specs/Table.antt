-- The small state, one table of words: what the book holds beside its words in use and lengths, and the registers.
-- Document 01, "The book and the release": "The book holds both queue heads, .. and flags: four initialisation marks, reset pending,
-- teardown pending for each side"; "The guard may read .. both HDPs, both CPs and the reset bit".
--     state_words                how many words there are; the last two are spare
--     hdp_at, cp_at q, marks_at, tearing_at, reset_at, bit_at   which word is which; the head of queue q is word q
--     head_of, hdp_of, cp_of t q   of a queue: the book's head, and the two registers
--     marks_of t, tearings_of t   masks: HDP of queue q has mark q and CP of queue q has mark queues + q; teardown of q is bit q
--     tearing_of t q             teardown is pending for that queue
--     awaiting t                "any of the four registers not yet zeroed"
--     any_tearing t              teardown is pending for some queue
--     reset_of t, bit_of t        reset is pending; the reset bit, which is bit 0 of its register
--     set_head, set_hdp, ..       named changes, one for each part
--     heads_of t, cps_of t        all heads, and all CPs, by queue number
--     flags_fit t                no mark without a register, no teardown without a queue, reset pending or not
--     is_device k, loaded c t    the words that are the device's registers; t with those of c
-- The guard's state is such a table. So are the controller's registers and flags, where no head is ever set.
-- Laws: proofs/TableLaws.antt. Assumes nothing: these are definitions.
use Rattle.std.specs.Prelude.{ℕ, ◌+◌, ◌*◌, ◌-◌, ◌^◌, Bool, true, not, List, [], ◌∷◌, get_or, set, take, drop, eqb, leb, ltb}
use Rattle.layout.specs.Choice.{pick, both}
use Rattle.layout.specs.Bits.{bit, set_bit, clear_bit}
use Rattle.layout.specs.Layout.{queues, marks}

abbrev pub state_words : ℕ
state_words = 3 * queues + 6

-- ---- which word is which

abbrev pub hdp_at : ℕ → ℕ
hdp_at q = queues + q

abbrev pub cp_at : ℕ → ℕ
cp_at q = 2 * queues + q

abbrev pub marks_at : ℕ
marks_at = 3 * queues

abbrev pub tearing_at : ℕ
tearing_at = 3 * queues + 1

abbrev pub reset_at : ℕ
reset_at = 3 * queues + 2

abbrev pub bit_at : ℕ
bit_at = 3 * queues + 3

-- ---- what it says

abbrev pub head_of : List ℕ → ℕ → ℕ
head_of t q = get_or t q 0

abbrev pub hdp_of : List ℕ → ℕ → ℕ
hdp_of t q = get_or t (hdp_at q) 0

abbrev pub cp_of : List ℕ → ℕ → ℕ
cp_of t q = get_or t (cp_at q) 0

abbrev pub marks_of : List ℕ → ℕ
marks_of t = get_or t marks_at 0

abbrev pub tearings_of : List ℕ → ℕ
tearings_of t = get_or t tearing_at 0

abbrev pub tearing_of : List ℕ → ℕ → Bool
tearing_of t q = bit q (tearings_of t)

-- every register that awaits a zero has its mark
abbrev pub all_marks : ℕ
all_marks = 2 ^ marks - 1

unfoldable pub awaiting : List ℕ → Bool
awaiting t = not (eqb (marks_of t) all_marks)

unfoldable pub any_tearing : List ℕ → Bool
any_tearing t = not (eqb (tearings_of t) 0)

unfoldable pub reset_of : List ℕ → Bool
reset_of t = eqb (get_or t reset_at 0) 1

unfoldable pub bit_of : List ℕ → Bool
bit_of t = bit 0 (get_or t bit_at 0)

-- ---- how it changes

abbrev pub set_head : ℕ → ℕ → List ℕ → List ℕ
set_head q p t = set t q p

abbrev pub set_hdp : ℕ → ℕ → List ℕ → List ℕ
set_hdp q v t = set t (hdp_at q) v

abbrev pub set_cp : ℕ → ℕ → List ℕ → List ℕ
set_cp q v t = set t (cp_at q) v

abbrev pub set_marks : ℕ → List ℕ → List ℕ
set_marks m t = set t marks_at m

abbrev pub set_mark : ℕ → List ℕ → List ℕ
set_mark k t = set_marks (set_bit k (marks_of t)) t

abbrev pub set_tearings : ℕ → List ℕ → List ℕ
set_tearings m t = set t tearing_at m

abbrev pub set_tearing : ℕ → List ℕ → List ℕ
set_tearing q t = set_tearings (set_bit q (tearings_of t)) t

abbrev pub clear_tearing : ℕ → List ℕ → List ℕ
clear_tearing q t = set_tearings (clear_bit q (tearings_of t)) t

abbrev pub set_reset : ℕ → List ℕ → List ℕ
set_reset n t = set t reset_at n

abbrev pub set_reset_bit : ℕ → List ℕ → List ℕ
set_reset_bit n t = set t bit_at n

-- "all four registers await zero again", and the reset is over
abbrev pub unmarked : List ℕ → List ℕ
unmarked t = set_reset 0 (set_marks 0 t)

-- ---- by queue number

abbrev pub heads_of : List ℕ → List ℕ
heads_of t = take queues t

abbrev pub cps_of : List ℕ → List ℕ
cps_of t = take queues (drop (cp_at 0) t)

-- ---- a table that holds flags: no mask has a bit that stands for nothing

unfoldable pub flags_fit : List ℕ → Bool
flags_fit t = both (ltb (marks_of t) (2 ^ marks)) (both (ltb (tearings_of t) (2 ^ queues)) (leb (get_or t reset_at 0) 1))

-- ---- the registers are the device's

-- both HDPs, both CPs and the reset bit
abbrev pub is_device : ℕ → Bool
is_device k = pick (both (leb (hdp_at 0) k) (ltb k marks_at)) true (eqb k bit_at)

abbrev pub loaded_from : ℕ → List ℕ → List ℕ → List ℕ
loaded_from k c [] = []
loaded_from k c (x ∷ t) = pick (is_device k) (get_or c k 0) x ∷ loaded_from (k + 1) c t

unfoldable pub loaded : List ℕ → List ℕ → List ℕ
loaded c t = loaded_from 0 c t
