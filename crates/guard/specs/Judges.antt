-- The judges of a guest write, over a fit, sound and released world. Document 01, "Judging".
--     judge_chain side p s         the chain from p, over the words in use
--     judge_head q v s             HDP of queue q
--     judge_register n v s         any other register, by its class
--     last_from w n p, last_of, is_last   the last descriptor of a queue
--     tail_in w k q hs             the queue, of those with the heads hs from number q on, whose last descriptor begins at word k
--     judge_append, judge_last      an append, and which queue it is to
--     judge_word k v s             a word of descriptor memory
--     judge_class n v s            a register of class n
--     judge a v s                 any address, from 3 on
-- Assumes nothing: these are definitions.
use Rattle.std.specs.Prelude.{ℕ, zero, suc, ◌+◌, ◌-◌, ◌/◌, ◌%◌, Bool, false, not, List, [], ◌∷◌, ◌==◌, nat_lt, Option, Some, None}
use Rattle.layout.specs.Choice.{pick, both}
use Rattle.layout.specs.Layout.{desc_first, desc_words, good_ptr, word_of, addr, in_descriptors, queues, side_of, channel_of}
use Rattle.layout.specs.Class.{class_at, hdp_class}
use Rattle.layout.specs.declared.Side.{Side}
use Rattle.words.specs.Word.{word, put}
use Rattle.words.specs.WordSet.{has}
use Rattle.registers.specs.Table.{head_of, awaiting, set_head, set_hdp, heads_of}
use Rattle.registers.specs.Rules.{head_number, register_fault, head_written, written}
use Rattle.chain.specs.Chain.{JOut, place_of, chain_of}
use Rattle.book.specs.HandOver.{taken_from}
use Rattle.book.specs.World.{World, set_mem, set_state, set_uses}
use Rattle.guard.specs.declared.Effect.TheVariants.{Plain, Started, Appended}
use Rattle.guard.specs.Answers.{Outcome, accept, refuse}

-- "then the chain, 12 to 17": 13 is asked of the words in use too
abbrev pub judge_chain : Side → ℕ → World → JOut
judge_chain side p s = chain_of s.kinds (word s.mem) (place_of side) s.used p

-- "a start sets HDP and the book's head, words and lengths"
abbrev pub started : ℕ → ℕ → World → World
started q p s =
    set_state (set_hdp q p (set_head q p s.state))
    (set_uses (taken_from (word s.mem) (side_of q) (s.used, s.lens) p) s)

abbrev pub judge_start : ℕ → ℕ → World → Outcome
judge_start q p s =
    let j = judge_chain (side_of q) p s in
    pick (j.0 == 0) (accept (Started (side_of q) (channel_of q)) (started q p s)) (refuse j.0 s)

-- "HDP. Awaiting initialisation ..: 0 is accepted, stored and marks it, else 6. Otherwise 7; 8 for that side; 9 for value 0;
-- 10 if that HDP reads nonzero or the book's queue there is not empty; then the chain, 12 to 17."
unfoldable pub judge_head : ℕ → ℕ → World → Outcome
judge_head q v s =
    let n = head_number s.state q v in
    let chained = judge_start q v s in
    pick (n == 0)
    (pick (awaiting s.state)
    (accept Plain (set_state (head_written s.state q v) s))
    (pick (head_of s.state q == 0) chained (refuse 10 s)))
    (refuse n s)

-- CP, teardown, reset, the two registers that take 0 only, those that pass, those not offered (5) or not guarded (4)
unfoldable pub judge_register : ℕ → ℕ → World → Outcome
judge_register n v s =
    let k = register_fault s.state n v in
    pick (k == 0) (accept Plain (set_state (written s.state n v) s)) (refuse k s)

-- the last descriptor from p on: the first whose next names no further one
abbrev pub last_from : (ℕ → ℕ) → ℕ → ℕ → ℕ
last_from w zero p = p
last_from w (suc n) p = let r = last_from w n (w (word_of p)) in pick (good_ptr (w (word_of p))) r p

-- a queue has fewer descriptors than there are words
unfoldable pub last_of : (ℕ → ℕ) → ℕ → ℕ
last_of w p = last_from w desc_words p

-- word k is word 0 of the last descriptor of the queue with that head
unfoldable pub is_last : (ℕ → ℕ) → ℕ → ℕ → Bool
is_last w head k = pick (good_ptr head) (last_of w head == addr k) false

abbrev pub tail_in : (ℕ → ℕ) → ℕ → ℕ → List ℕ → Option ℕ
tail_in w k q [] = None
tail_in w k q (h ∷ hs) = let rest = tail_in w k (q + 1) hs in pick (is_last w h k) (Some q) rest

-- "An append stores its word and adds words and lengths", "judged as a chain for that side"
unfoldable pub judge_append : ℕ → ℕ → ℕ → World → Outcome
judge_append q k p s =
    let j = judge_chain (side_of q) p s in
    pick (j.0 == 0)
    (accept (Appended (side_of q) (channel_of q))
    (set_mem (put s.mem k p) (set_uses (taken_from (word s.mem) (side_of q) (s.used, s.lens) p) s)))
    (refuse j.0 s)

-- an append to the queue that the tail is of
abbrev pub at_tail : Option ℕ → (ℕ → Outcome) → Outcome → Outcome
at_tail None f o = o
at_tail (Some q) f o = f q

-- "Word 0 of a queue's last descriptor, now 0, written nonzero: an append, judged as a chain for that side"; else 11
unfoldable pub judge_last : ℕ → ℕ → World → Outcome
judge_last k v s = at_tail (tail_in (word s.mem) k 0 (heads_of s.state)) (λ q. judge_append q k v s) (refuse 11 s)

-- "A descriptor word not in use: stored. .. Any other word in use: 11."
unfoldable pub judge_word : ℕ → ℕ → World → Outcome
judge_word k v s =
    let last = judge_last k v s in
    pick (has s.used k)
    (pick (both (word s.mem k == 0) (not (v == 0))) last (refuse 11 s))
    (accept Plain (set_mem (put s.mem k v) s))

-- a register by its class
unfoldable pub judge_class : ℕ → ℕ → World → Outcome
judge_class n v s =
    let head = judge_head (n - hdp_class) v s in
    let register = judge_register n v s in
    pick (nat_lt n (hdp_class + queues)) head register

-- "3 address not a multiple of 4", then descriptor memory or a register, of which 4 is "address not guarded"
unfoldable pub judge : ℕ → ℕ → World → Outcome
judge a v s =
    let in_memory = judge_word ((a - desc_first) / 4) v s in
    let register = judge_class (class_at a) v s in
    pick (a % 4 == 0)
    (pick (in_descriptors a) in_memory register)
    (refuse 3 s)
