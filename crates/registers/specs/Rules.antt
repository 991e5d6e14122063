-- The rules 4 to 10 of a register write, over the numbers of one queue: the guard hands over those of its own table, the controller
-- without the guard those of its own. Document 01, "Judging", in its order. Each gives its number, or 0.
--     zeroing_fault v            6 for HDP and CP while initialisation is awaited
--     head_fault, ack_fault       HDP, CP
--     teardown_fault, reset_fault TX_TEARDOWN and RX_TEARDOWN, CPDMA_SOFT_RESET
--     zero_fault                 DMACONTROL and RX_BUFFER_OFFSET
--     tear_queue side v          the queue that the value v names at the teardown register of a side
--     register_fault t n v       the write of v to a register of class n, over a table
--     written t n v             the table after such a write that has no fault
-- Laws: proofs/RegisterLaws.antt. Assumes nothing: these are definitions.
use Rattle.std.specs.Prelude.{ℕ, ◌+◌, ◌*◌, ◌-◌, Bool, List, eqb, leb, ltb}
use Rattle.layout.specs.Choice.{pick, both}
use Rattle.layout.specs.Layout.{channels, queues}
use Rattle.layout.specs.Class.{hdp_class, cp_class, teardown_class, reset_class, passed_class, unoffered_class, unguarded_class}
use Rattle.registers.specs.Table.{hdp_of, cp_of, tearing_of, awaiting, any_tearing, reset_of, set_mark, set_hdp, set_cp, set_tearing}
use Rattle.registers.specs.Table.{set_reset, set_reset_bit}

-- the code that a finished teardown leaves in CP
abbrev pub teardown_done : ℕ
teardown_done = 0xFFFF_FFFC

-- "Awaiting initialisation ..: 0 is accepted, stored and marks it, else 6"
abbrev pub zeroing_fault : ℕ → ℕ
zeroing_fault v = pick (eqb v 0) 0 6

-- "Otherwise 7; 8 for that side; 9 for value 0; 10 if that HDP reads nonzero"
unfoldable pub head_fault : Bool → Bool → Bool → ℕ → ℕ → ℕ
head_fault await reset tearing hdp v =
    pick await (zeroing_fault v)
    (pick reset 7
    (pick tearing 8
    (pick (eqb v 0) 9
    (pick (eqb hdp 0) 0 10))))

-- "CP. Awaiting initialisation: as for HDP. Otherwise accepted"
unfoldable pub ack_fault : Bool → ℕ → ℕ
ack_fault await v = pick await (zeroing_fault v) 0

-- "Teardown: 6, 7, 8 for that side, 9 unless 0, 10 while that CP reads 0xFFFFFFFC": the value is the channel
unfoldable pub teardown_fault : Bool → Bool → Bool → ℕ → ℕ → ℕ
teardown_fault await reset tearing cp v =
    pick await 6
    (pick reset 7
    (pick tearing 8
    (pick (ltb v channels) (pick (eqb cp teardown_done) 10 0) 9)))

-- "Reset: 6, 7, 8 for either side, 9 unless 1"
unfoldable pub reset_fault : Bool → Bool → Bool → ℕ → ℕ
reset_fault await reset tearing v =
    pick await 6
    (pick reset 7
    (pick tearing 8
    (pick (eqb v 1) 0 9)))

-- "DMACONTROL, RX_BUFFER_OFFSET: 9 unless 0"
unfoldable pub zero_fault : ℕ → ℕ
zero_fault v = pick (eqb v 0) 0 9

-- "that side": the queue of the channel that the value names; a value that names none is asked of the side's first
unfoldable pub tear_queue : ℕ → ℕ → ℕ
tear_queue side v = pick (ltb v channels) (2 * v + side) side

-- the class ranges, in the order of their numbers; what is left is not guarded, 4
unfoldable pub by_class : {A : Type 0} → ℕ → (ℕ → A) → (ℕ → A) → (ℕ → A) → A → A → A → A → A → A
by_class n head ack teardown reset zero passed unoffered unguarded =
    pick (ltb n (hdp_class + queues)) (head (n - hdp_class))
    (pick (both (leb cp_class n) (ltb n (cp_class + queues))) (ack (n - cp_class))
    (pick (both (leb teardown_class n) (ltb n reset_class)) (teardown (n - teardown_class))
    (pick (eqb n reset_class) reset
    (pick (both (ltb reset_class n) (ltb n passed_class)) zero
    (pick (both (leb passed_class n) (ltb n unoffered_class)) passed
    (pick (both (leb unoffered_class n) (ltb n unguarded_class)) unoffered unguarded))))))

-- ---- over a table

abbrev pub head_number : List ℕ → ℕ → ℕ → ℕ
head_number t q v = head_fault (awaiting t) (reset_of t) (tearing_of t q) (hdp_of t q) v

abbrev pub teardown_number : List ℕ → ℕ → ℕ → ℕ
teardown_number t q v = teardown_fault (awaiting t) (reset_of t) (tearing_of t q) (cp_of t q) v

abbrev pub reset_number : List ℕ → ℕ → ℕ
reset_number t v = reset_fault (awaiting t) (reset_of t) (any_tearing t) v

unfoldable pub register_fault : List ℕ → ℕ → ℕ → ℕ
register_fault t n v =
    by_class n
    (λ q. head_number t q v)
    (λ q. ack_fault (awaiting t) v)
    (λ side. teardown_number t (tear_queue side v) v)
    (reset_number t v)
    (zero_fault v)
    0
    5
    4

-- "0 is accepted, stored and marks it"; a start "sets HDP"
unfoldable pub head_written : List ℕ → ℕ → ℕ → List ℕ
head_written t q v = pick (awaiting t) (set_mark q (set_hdp q v t)) (set_hdp q v t)

-- "a value equal to the CP sets it to 0, another changes nothing"
unfoldable pub ack_written : List ℕ → ℕ → ℕ → List ℕ
ack_written t q v = pick (awaiting t) (set_mark (queues + q) (set_cp q v t)) (pick (eqb v (cp_of t q)) (set_cp q 0 t) t)

-- "Teardown and reset become pending in book and model, reset also sets its bit"
abbrev pub reset_written : List ℕ → List ℕ
reset_written t = set_reset_bit 1 (set_reset 1 t)

unfoldable pub written : List ℕ → ℕ → ℕ → List ℕ
written t n v =
    by_class n
    (λ q. head_written t q v)
    (λ q. ack_written t q v)
    (λ side. set_tearing (tear_queue side v) t)
    (reset_written t)
    t
    t
    t
    t
